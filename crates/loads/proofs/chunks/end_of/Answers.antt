-- `loads::chunks::end_of` adds the length of the body. Assumes nothing.
use Rattle.loads.proofs.ChunkLaws.{chunk-at}
use Rattle.loads.proofs.chunks.end_of.Goals as goal

pub returns : goal.returns
returns c = chunk-at _ _ _ c.requires.0 c.requires.1 c.get4.ensures
