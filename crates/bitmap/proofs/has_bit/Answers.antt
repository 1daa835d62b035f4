-- `bitmap::has_bit` reads one bit of one word. Assumes nothing.
use Rattle.std.proofs.Common.{rules}
use Rattle.bitmap.proofs.BitLaws.{has-is}
use Rattle.bitmap.proofs.has_bit.Goals as goal

pub returns : goal.returns
returns c = let a = c.args in has-is a.i a.map.now c.get.result c.is_some_and.result c.get.ensures.lookup (search rules)
