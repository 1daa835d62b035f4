-- `record_at` meets its contract. Assumes nothing.
use mathlib.Core.Path.{sym}
use Rattle.rules.proofs.BufferLaws.{rec_of-get}
use Rattle.analyse.proofs.memory.record_at.Goals as goal

pub returns : goal.returns
returns c = sym (rec_of-get _ _ _ c.requires.0 c.requires.1)
