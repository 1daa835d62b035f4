-- `loads::bodies::shape` reads object after object. Assumes nothing.
use Prim.Native.Nat.{◌-◌}
use lib.ListN.{length}
use Rattle.loads.proofs.SetLaws.{Shaping}
use Rattle.loads.proofs.bodies.shape.Given as goal

abbrev pub invariant-loop-at : goal.invariant-loop-at
invariant-loop-at l = Shaping l.n l.body l.words l.sinks l.last l.at

abbrev pub decreases-loop-at : goal.decreases-loop-at
decreases-loop-at l = length l.body - l.at
