-- `drain` meets its contract. The loop's invariant, `Draining`: from here on the walk ends as it does from the start of the loop.
use Rattle.walk.specs.State.{way_of, pending, steps_from}
use Rattle.walk.proofs.EndLaws.{Draining}
use Rattle.walk.proofs.trace.drain.Given as goal

abbrev pub invariant-loop-at : goal.invariant-loop-at
invariant-loop-at l = Draining (way_of l.heap) l.heap.n l.heap.slots.now l.initial.records l.initial.work l.top l.records l.work l.at

abbrev pub decreases-loop-at : goal.decreases-loop-at
decreases-loop-at l = steps_from (way_of l.heap) l.heap.n l.heap.slots.now l.records (pending l.heap.n l.work l.at)
