-- `loads::lay::lay_numbers` puts the sinks among the objects. Assumes nothing.
use Prim.Native.Nat.{◌-◌}
use lib.ListN.{length}
use Rattle.loads.proofs.SinkPlaces.{Numbering}
use Rattle.loads.proofs.lay.lay_numbers.Given as goal

abbrev pub invariant-loop-at : goal.invariant-loop-at
invariant-loop-at l = Numbering l.n l.body l.initial.sinks l.sinks l.to l.at

abbrev pub decreases-loop-at : goal.decreases-loop-at
decreases-loop-at l = length l.body - l.at
