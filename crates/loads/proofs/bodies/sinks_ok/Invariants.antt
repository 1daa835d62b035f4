-- `loads::bodies::sinks_ok` takes number after number out of the set. Assumes nothing.
use Rattle.loads.proofs.SinkLaws.{Taking}
use Rattle.loads.proofs.bodies.sinks_ok.Given as goal

abbrev pub invariant-loop-i : goal.invariant-loop-i
invariant-loop-i l = Taking l.body l.initial.sinks l.sinks l.k l.i
