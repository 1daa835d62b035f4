-- `places::sets::fill_places` goes place by place. Assumes nothing.
use Prim.Native.Nat.{ℕ}
use mathlib.Core.List.{List}
use mathlib.Core.Path.{sym, ap, ◌∙◌}
use native.Mathlib.Omega.{arith}
use lib.ListN.{length, set, length-take}
use Rattle.places.specs.Places.{placed}
use Rattle.places.proofs.FillLaws.{left_end, left-put, left_out}
use Rattle.places.proofs.sets.fill_places.Goals as goal
use Rattle.places.proofs.sets.fill_places.Goals.{then-y-place, else-y-place}

pub overflow_cast-y : goal.overflow_cast-y
overflow_cast-y c = omega (arith, c.type_inv.y-items c.loop-k.k)

pub overflow_cast-place : goal.overflow_cast-place
overflow_cast-place c = omega (arith, length-take 64 c.args.sinks.now, ap length c.places-y-items.ensures)

pub loop-k-preserved : goal.loop-k-preserved
loop-k-preserved c =
    let l = c.loop-k in
    let s = c.places-y-items.result.now in
    elim c.if-y-place.branch [
      | then-y-place w ↦ rw w.place-is (left-put s l.k l.place c.loop-k-test.true ∙ l.invariant)
      | else-y-place w ↦ rw w.place-is (left_out s l.k l.place c.loop-k-test.true w.if-y-place.false ∙ l.invariant)
    ]

pub returns : goal.returns
returns c =
    let l = c.loop-k in
    let s = c.places-y-items.result.now in
    ap (λ (p : List ℕ). set p 0 0)
    (sym (left_end s l.k l.place c.loop-k-test.false) ∙ l.invariant ∙ ap (λ (m : List ℕ). placed 0 m c.args.place.now) c.places-y-items.ensures)
