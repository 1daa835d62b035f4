-- `scan_sinks` meets its contract. The loop's invariant, `Scanning`: from the places that are left on, the scan of the sinks ends as it does from the start.
use Rattle.bitmap.proofs.BitLaws.{rest_lt}
use Rattle.walk.proofs.SinkLaws.{scanning-here, scanning-place, scanning-object, scanning-on, scanning-done}
use native.Mathlib.Omega.{arith}
use Rattle.walk.proofs.scan.scan_sinks.Goals as goal

pub loop-rest-init : goal.loop-rest-init
loop-rest-init c =
    scanning-here _ _ _ _ _ _ _ c.requires.state c.requires.sink_max_in_bounds.1 c.ranges.set.fits

pub overflow_cast-k : goal.overflow_cast-k
overflow_cast-k c =
    let l = c.loop-rest in
    omega (arith, scanning-place _ _ _ _ _ _ _ _ _ _ l.rest l.invariant c.loop-rest-test.true _ c.lowest_bit-k.ensures)

pub offset_bounds-heap-k : goal.offset_bounds-heap-k
offset_bounds-heap-k c =
    let l = c.loop-rest in
    omega (arith, scanning-place _ _ _ _ _ _ _ _ _ _ l.rest l.invariant c.loop-rest-test.true _ c.lowest_bit-k.ensures)

pub bounds-heap-k : goal.bounds-heap-k
bounds-heap-k c =
    let l = c.loop-rest in
    omega (arith, scanning-place _ _ _ _ _ _ _ _ _ _ l.rest l.invariant c.loop-rest-test.true _ c.lowest_bit-k.ensures, c.requires.sink_max_in_bounds.0)

pub scan_unmarked-at-requires : goal.scan_unmarked-at-requires
scan_unmarked-at-requires c =
    let l = c.loop-rest in
    record {
      state = l.invariant.state;
      obj = scanning-object _ _ _ _ _ _ _ _ _ _ l.rest l.invariant c.loop-rest-test.true _ c.lowest_bit-k.ensures;
    }

pub loop-rest-smaller : goal.loop-rest-smaller
loop-rest-smaller c =
    let l = c.loop-rest in
    rw c.without_lowest-rest.ensures (rest_lt l.rest c.loop-rest-test.true)

pub loop-rest-preserved : goal.loop-rest-preserved
loop-rest-preserved c =
    let l = c.loop-rest in
    scanning-on _ _ _ _ _ _ _ _ _ _ l.rest l.invariant c.loop-rest-test.true _ c.lowest_bit-k.ensures c.requires.state.sized.room.recs-long _ _ _ _
    c.scan_unmarked-at.ensures c.without_lowest-rest.ensures c.scan_unmarked-at.auto.records c.scan_unmarked-at.auto.work

pub returns : goal.returns
returns c = scanning-done _ _ _ _ _ _ _ _ _ _ _ c.loop-rest.invariant c.loop-rest-test.false
