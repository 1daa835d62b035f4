-- `follow_roots` meets its contract. The loop's invariant: the first i roots were followed.
use lib.ListN.{take}
use Rattle.graph.specs.Heap.{pointers}
use Rattle.walk.specs.State.{way_of, Followed}
use Rattle.walk.proofs.trace.follow_roots.Given as goal

abbrev pub invariant-loop-i : goal.invariant-loop-i
invariant-loop-i l =
    Followed (way_of l.heap) l.heap.n l.heap.slots.now l.initial.records (pointers (take l.i l.roots)) l.records l.work
