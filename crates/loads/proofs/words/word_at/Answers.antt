-- `loads::words::word_at` reads four bytes of a part that is lent. Assumes nothing.
use mathlib.Core.Path.{◌∙◌}
use Rattle.loads.proofs.PlaceLaws.{here-part}
use native.Mathlib.Omega.{arith}
use Rattle.loads.proofs.words.word_at.Goals as goal

pub returns : goal.returns
returns c = c.get4.ensures ∙ here-part 4 _ _ (omega arith)
