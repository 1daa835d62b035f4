-- `saves::write_objects` fills the body of kind 2. Invariant: the objects passed are stored, and `at` is their length. Assumes nothing.
use Prim.Native.Nat.{ℕ, ◌<◌}
use mathlib.Core.Path.{ap, ◌∙◌}
use mathlib.Core.List.{List}
use lib.ListN.{get_or, length-take}
use lib.Seq.{get_or-take}
use lib.Seq.{sets}
use Rattle.saves.specs.Saves.{object_at}
use Rattle.saves.proofs.SaveLaws.{len-none, to_none, len-step, object-room, objects-turn, objects-end}
use native.Mathlib.Omega.{arith}
use Rattle.saves.proofs.write_objects.Goals as goal

pub loop-i-init : goal.loop-i-init
loop-i-init c = let a = c.args in (len-none _ _, to_none a.n a.records.now a.slots.now _)

pub put_object-at-requires : goal.put_object-at-requires
put_object-at-requires c =
    let a = c.args in
    let l = c.loop-i in
    let p : l.i < a.n = omega (arith, length-take {A = ℕ}) in
    rw (get_or-take a.n a.records.now l.i 0 p) (object-room _ _ _ c.requires.0 l.i p l.at l.invariant.0 _ (l.auto.body ∙ c.requires.1))

pub loop-i-preserved : goal.loop-i-preserved
loop-i-preserved c =
    let a = c.args in
    let l = c.loop-i in
    let p : l.i < a.n = omega (arith, length-take {A = ℕ}) in
    let r = get_or a.records.now l.i 0 in
    let e = len-step a.n a.records.now l.i p in
    let put = rw (get_or-take a.n a.records.now l.i 0 p) at c.put_object-at.ensures in (
      omega (arith, put.after),
      put.stored ∙ ap (λ (m : List ℕ). sets m l.at (object_at l.i r a.slots.now)) l.invariant.1
          ∙ objects-turn a.n a.records.now a.slots.now c.requires.0 l.i p l.at l.invariant.0 a.body.now,
    )

pub returns : goal.returns
returns c =
    let l = c.loop-i in
    l.invariant.1 ∙ objects-end _ _ _ c.requires.0 l.i _ (omega (arith, length-take {A = ℕ})) (omega (arith, length-take {A = ℕ})) c.requires.1
