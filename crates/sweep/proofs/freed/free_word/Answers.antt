-- `sweep::freed::free_word` goes from set bit to set bit. Assumes nothing.
use Prim.Native.Nat.{ℕ, ◌+◌}
use mathlib.Core.Path.{ap}
use Rattle.bitmap.proofs.BitLaws.{rest_lt, trailing_lt}
use Rattle.sweep.proofs.FreedLaws.{freeing-start, freeing-turn, freeing-end}
use native.Mathlib.Omega.{arith}
use Rattle.sweep.proofs.freed.free_word.Goals as goal

pub loop-rest-init : goal.loop-rest-init
loop-rest-init c = (freeing-start _ _ _ _, freeing-start _ _ _ _, c.ranges.word.fits)

pub overflow_add-x : goal.overflow_add-x
overflow_add-x c =
    let l = c.loop-rest in
    omega (arith, c.lowest_bit.ensures, trailing_lt 64 l.rest c.loop-rest-test.true l.invariant.2, c.requires)

pub loop-rest-smaller : goal.loop-rest-smaller
loop-rest-smaller c = let l = c.loop-rest in rw c.without_lowest-rest.ensures (rest_lt l.rest c.loop-rest-test.true)

pub loop-rest-preserved : goal.loop-rest-preserved
loop-rest-preserved c =
    let l = c.loop-rest in
    let base = c.args.base in
    let x = ap (λ (k : ℕ). base + k) c.lowest_bit.ensures in
    let v = rest_lt l.rest c.loop-rest-test.true in (
      freeing-turn _ _ _ _ l.records l.rest l.invariant.0 _ _ _ c.loop-rest-test.true l.invariant.2 x c.without_lowest-rest.ensures c.clear_record.ensures c.clear_record.auto.records,
      freeing-turn _ _ _ _ l.slots l.rest l.invariant.1 _ _ _ c.loop-rest-test.true l.invariant.2 x c.without_lowest-rest.ensures c.clear_slots.ensures c.clear_slots.auto.slots,
      omega (arith, c.without_lowest-rest.ensures, v, l.invariant.2),
    )

pub shape_of-records : goal.shape_of-records
shape_of-records c = c.loop-rest.invariant.0.long

pub shape_of-slots : goal.shape_of-slots
shape_of-slots c = c.loop-rest.invariant.1.long

pub returns : goal.returns
returns c = let l = c.loop-rest in record {
  records_after = freeing-end _ _ _ _ _ _ l.invariant.0 c.loop-rest-test.false;
  slots_after = freeing-end _ _ _ _ _ _ l.invariant.1 c.loop-rest-test.false;
}
