-- `loads::bodies::words_ok` tests the words of object after object. Assumes nothing.
use Prim.Native.Nat.{ℕ, ◌<◌}
use mathlib.Core.Path.{◌≡◌, sym, ◌∙◌}
use mathlib.Core.Bool.{true}
use mathlib.Core.List.{List}
use lib.ListN.{length}
use Rattle.loads.specs.Bodies.{Fit, shape_ok, entry_end, Checked}
use Rattle.loads.proofs.WordLaws.{checked-start, checked-fit, checked-turn, checked-stop, checked-end, end-some, end-none}
use native.Mathlib.Omega.{arith}
use Rattle.loads.proofs.bodies.words_ok.Goals as goal

-- what is known of the object at the loop's place
fit : {n at : ℕ} {body : List ℕ} (s : Checked n body at) → shape_ok n body ≡ true → at < length body → Fit n body s.last at
fit s ok more = checked-fit _ _ _ s ok more

pub loop-at-init : goal.loop-at-init
loop-at-init c = checked-start _ _

pub head_byte-width-requires : goal.head_byte-width-requires
head_byte-width-requires c = ((fit c.loop-at.invariant c.requires.1 c.loop-at-test.true).head, omega arith)

pub words_end-requires : goal.words_end-requires
words_end-requires c = (c.requires.0, omega (arith, (fit c.loop-at.invariant c.requires.1 c.loop-at-test.true).whole, c.head_byte-width.ensures))

pub returns-in_default : goal.returns-in_default
returns-in_default c = checked-stop _ _ _ c.loop-at.invariant c.requires.1 c.loop-at-test.true _ c.requires.2 (end-none _ _ _ (rw c.head_byte-width.ensures at (sym c.in_default.is ∙ c.words_end.ensures)))

pub loop-at-smaller : goal.loop-at-smaller
loop-at-smaller c = let e = end-some _ _ _ _ c.in-Some.ensures in omega (arith, e.1)

pub loop-at-preserved : goal.loop-at-preserved
loop-at-preserved c =
    let e = end-some _ _ _ _ (rw c.head_byte-width.ensures at c.in-Some.ensures) in
    let z : c.in-Some.end ≡ entry_end c.args.body.now c.loop-at.at = omega (arith, e.1) in
    rw z (checked-turn _ _ _ c.loop-at.invariant c.requires.1 c.loop-at-test.true _ c.requires.2 e.0)

pub returns : goal.returns
returns c = checked-end _ _ _ c.loop-at.invariant c.loop-at-test.false
