-- `loads::chunks::rest_refusal` goes from chunk to chunk. Assumes nothing.
use Prim.Native.Nat.{◌-◌}
use lib.ListN.{length}
use Rattle.loads.proofs.TailLaws.{Going}
use Rattle.loads.proofs.chunks.rest_refusal.Given as goal

abbrev pub invariant-loop-at : goal.invariant-loop-at
invariant-loop-at l = Going l.image l.sinks l.at

abbrev pub decreases-loop-at : goal.decreases-loop-at
decreases-loop-at l = length l.image - l.at
