-- `from_roots` meets its contract. Assumes nothing.
use lib.ListN.{take}
use Rattle.analyse.specs.Starts.{GoesOn}
use Rattle.analyse.proofs.form.from_roots.Given as goal

abbrev pub invariant-loop-j : goal.invariant-loop-j
invariant-loop-j l = GoesOn l.heap.n l.heap.records.now l.heap.slots.now l.heap.sinks.now l.heap.sets.now l.heap.limit (take l.j l.roots) l.initial.work l.work
