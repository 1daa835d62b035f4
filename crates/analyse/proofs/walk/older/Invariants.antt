-- `older` meets its contract. Assumes nothing.
use mathlib.Core.Logic.{◌≢◌}
use Rattle.table.specs.Clusters.{cluster_of}
use Rattle.analyse.proofs.OlderLaws.{Handling}
use mathlib.Core.Path.{◌≡◌}
use Rattle.analyse.proofs.walk.older.Given as goal

abbrev pub invariant-loop-x : goal.invariant-loop-x
invariant-loop-x l = Handling l.heap.n l.heap.records.now l.heap.slots.now l.d l.initial.work l.top l.work l.at l.x × (l.x ≢ 0 → cluster_of l.heap.n l.heap.records.now l.x ≡ l.d)

abbrev pub decreases-loop-x : goal.decreases-loop-x
decreases-loop-x l = l.x
