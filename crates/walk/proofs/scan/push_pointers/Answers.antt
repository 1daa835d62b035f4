-- `push_pointers` meets its contract. The loop's invariant, `Pushing`: from here down it ends with the same words.
use Prim.Native.Nat.{◌+◌, ◌-◌}
use mathlib.Core.Path.{◌≡◌, refl, sym, ◌∙◌}
use mathlib.Core.Bool.{true}
use lib.ListN.{get_or}
use Rattle.layout.specs.Limits.{within}
use Rattle.walk.proofs.PendingLaws.{pushing-here, pushing-passed, pushing-room, pushing-inside, pushing-kept, pushing-done}
use native.Mathlib.Omega.{arith}
use Rattle.walk.proofs.scan.push_pointers.Goals as goal

-- the word at hand is a pointer: there is room for it
pub loop-j-init : goal.loop-j-init
loop-j-init c = pushing-here _ _ _ _ _

pub overflow_sub-at : goal.overflow_sub-at
overflow_sub-at c =
    let e : within 1 c.args.n (get_or c.args.slots.now (c.args.from + (c.loop-j.j - 1)) 0) ≡ true = sym c.within.ensures ∙ c.if-within.true in
    omega (arith, pushing-room _ _ _ _ _ _ c.requires _ _ _ c.loop-j.invariant c.loop-j-test.true _ refl e)

pub bounds-work-at : goal.bounds-work-at
bounds-work-at c =
    let e : within 1 c.args.n (get_or c.args.slots.now (c.args.from + (c.loop-j.j - 1)) 0) ≡ true = sym c.within.ensures ∙ c.if-within.true in
    omega (
      arith,
      pushing-room _ _ _ _ _ _ c.requires _ _ _ c.loop-j.invariant c.loop-j-test.true _ refl e,
      pushing-inside _ _ _ _ _ _ c.requires _ _ _ c.loop-j.invariant c.loop-j-test.true _ refl e,
    )

pub loop-j-preserved-then-within : goal.loop-j-preserved-then-within
loop-j-preserved-then-within c =
    pushing-kept _ _ _ _ _ _ c.requires _ _ _ c.loop-j.invariant c.loop-j-test.true _ refl (sym c.within.ensures ∙ c.if-within.true)

pub loop-j-preserved : goal.loop-j-preserved
loop-j-preserved c =
    pushing-passed _ _ _ _ _ _ c.requires _ _ _ c.loop-j.invariant c.loop-j-test.true _ refl (sym c.within.ensures ∙ c.if-within.false)

pub returns : goal.returns
returns c =
    pushing-done _ _ _ _ _ _ c.requires _ _ _ c.loop-j.invariant c.loop-j-test.false
