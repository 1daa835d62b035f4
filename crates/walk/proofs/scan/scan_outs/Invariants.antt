-- `scan_outs` meets its contract. The loop's invariant, `Sweeping`: from x on the scan of the out members ends as it does from the start.
use Rattle.walk.proofs.VisitLaws.{Sweeping}
use Rattle.walk.proofs.scan.scan_outs.Given as goal

abbrev pub invariant-loop-x : goal.invariant-loop-x
invariant-loop-x l = Sweeping l.heap.n l.heap.slots.now l.initial.records l.initial.work l.top l.h l.records l.work l.at l.x

abbrev pub decreases-loop-x : goal.decreases-loop-x
decreases-loop-x l = l.x
