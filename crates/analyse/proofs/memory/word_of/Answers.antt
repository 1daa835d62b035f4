-- `word_of` meets its contract. Assumes nothing.
use Rattle.analyse.proofs.MemoryLaws.{area-read}
use Rattle.analyse.proofs.memory.word_of.Goals as goal

pub returns : goal.returns
returns c = area-read _ _ _ _ c.requires.0 c.requires.1
