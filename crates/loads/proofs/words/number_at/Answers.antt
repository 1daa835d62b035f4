-- `loads::words::number_at` reads two bytes of a part that is lent. Assumes nothing.
use mathlib.Core.Path.{◌∙◌}
use Rattle.loads.proofs.PlaceLaws.{here-part}
use native.Mathlib.Omega.{arith}
use Rattle.loads.proofs.words.number_at.Goals as goal

pub returns : goal.returns
returns c = c.get2.ensures ∙ here-part 2 _ _ (omega arith)
