-- Each line leaves less of a cell that is not empty.
use Rattle.std.proofs.Common.{◌+◌, length}
use Rattle.replay.proofs.page.Page.row_lines.Given as goal

abbrev pub decreases-loop-call : goal.decreases-loop-call
decreases-loop-call g l = length l.call + length l.left + length l.right
