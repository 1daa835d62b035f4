-- `loads::words::head_byte` reads a byte of a part that is lent. Assumes nothing.
use mathlib.Core.Path.{◌∙◌}
use Rattle.loads.proofs.PlaceLaws.{byte-part}
use Rattle.loads.proofs.words.head_byte.Goals as goal

pub returns : goal.returns
returns c = c.byte_at.ensures ∙ byte-part c.args.k c.args.at c.args.body.now c.requires.1
