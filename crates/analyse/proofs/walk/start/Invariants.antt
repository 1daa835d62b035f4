-- `start` meets its contract. Assumes nothing.
use mathlib.Core.Path.{◌≡◌}
use lib.ListN.{length}
use Rattle.graph.specs.Analysis.{needed, finish}
use Rattle.rules.specs.View.{heap_in}
use Rattle.analyse.specs.Memory.{mem_of, walk_of}
use Rattle.analyse.specs.Called.{Walking}
use Rattle.analyse.proofs.walk.start.Given as goal

abbrev pub invariant-loop-top : goal.invariant-loop-top
invariant-loop-top l = Walking l.heap.n l.heap.records.now l.heap.slots.now l.heap.sinks.now l.heap.sets.now l.heap.limit l.work l.top × (finish (heap_in l.heap.n l.heap.records.now l.heap.slots.now l.heap.sinks.now) l.heap.limit (walk_of (heap_in l.heap.n l.heap.records.now l.heap.slots.now l.heap.sinks.now) (mem_of l.heap.n l.work l.top)) ≡ finish (heap_in l.heap.n l.heap.records.now l.heap.slots.now l.heap.sinks.now) l.heap.limit (walk_of (heap_in l.heap.n l.heap.records.now l.heap.slots.now l.heap.sinks.now) (mem_of l.heap.n l.initial.work l.initial.top))) × (length l.work ≡ length l.initial.work)

abbrev pub decreases-loop-top : goal.decreases-loop-top
decreases-loop-top l = needed (heap_in l.heap.n l.heap.records.now l.heap.slots.now l.heap.sinks.now) (walk_of (heap_in l.heap.n l.heap.records.now l.heap.slots.now l.heap.sinks.now) (mem_of l.heap.n l.work l.top))
