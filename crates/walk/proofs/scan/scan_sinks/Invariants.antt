-- `scan_sinks` meets its contract. The loop's invariant, `Scanning`: from the places that are left on, the scan of the sinks ends as it does from the start.
use Rattle.walk.proofs.SinkLaws.{Scanning}
use Rattle.walk.proofs.scan.scan_sinks.Given as goal

abbrev pub invariant-loop-rest : goal.invariant-loop-rest
invariant-loop-rest l = Scanning l.heap.n l.heap.slots.now l.heap.sinks.now l.initial.records l.initial.work l.top l.set l.records l.work l.at l.rest

abbrev pub decreases-loop-rest : goal.decreases-loop-rest
decreases-loop-rest l = l.rest
