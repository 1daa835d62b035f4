-- `sinks::make_exact` is the pass over the records. Assumes nothing.
use mathlib.Core.Path.{◌≡◌}
use lib.ListN.{length}
use Rattle.sinks.proofs.SinkLaws.{Passed}
use Rattle.sinks.proofs.make_exact.Given as goal

abbrev pub invariant-loop-i : goal.invariant-loop-i
invariant-loop-i l = (length l.records ≡ length l.initial.records) × Passed l.n l.slots l.initial.records l.i l.records
