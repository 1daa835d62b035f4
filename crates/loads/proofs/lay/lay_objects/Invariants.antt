-- `loads::lay::lay_objects` lays object after object. Assumes nothing.
use Prim.Native.Nat.{◌-◌}
use lib.ListN.{length}
use Rattle.loads.proofs.LayLaws.{Laying}
use Rattle.loads.proofs.lay.lay_objects.Given as goal

abbrev pub invariant-loop-at : goal.invariant-loop-at
invariant-loop-at l = Laying l.n l.body l.initial.records l.initial.slots l.records l.slots l.at

abbrev pub decreases-loop-at : goal.decreases-loop-at
decreases-loop-at l = length l.body - l.at
