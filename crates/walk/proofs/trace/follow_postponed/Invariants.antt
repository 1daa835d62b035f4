-- `follow_postponed` meets its contract. The loop's invariant, `Retaking`: the walk ends as it does from the start of the loop, and x is the lowest postponed object.
use mathlib.Core.List.{[]}
use Rattle.walk.specs.State.{way_of, steps_from}
use Rattle.walk.proofs.EndLaws.{Retaking}
use Rattle.walk.proofs.trace.follow_postponed.Given as goal

abbrev pub invariant-loop-x : goal.invariant-loop-x
invariant-loop-x l = Retaking (way_of l.heap) l.heap.n l.heap.slots.now l.initial.records l.initial.work l.records l.work l.x

abbrev pub decreases-loop-x : goal.decreases-loop-x
decreases-loop-x l = steps_from (way_of l.heap) l.heap.n l.heap.slots.now l.records []
