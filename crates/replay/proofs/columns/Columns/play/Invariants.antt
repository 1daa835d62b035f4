-- Its turns are counted down.
use Rattle.replay.proofs.columns.Columns.play.Given as goal

abbrev pub decreases-loop-turns : goal.decreases-loop-turns
decreases-loop-turns g l = l.turns
