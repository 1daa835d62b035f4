-- `saves::head_word` is the word whose bytes are number, width and sink. Assumes nothing.
use Rattle.saves.proofs.SaveLaws.{head-sink, head_plain}
use Rattle.saves.proofs.head_word.Goals as goal

pub returns-then-sink : goal.returns-then-sink
returns-then-sink c = head-sink _ _ _ c.requires.0 c.requires.1 c.if-sink.true

pub returns-else-sink : goal.returns-else-sink
returns-else-sink c = head_plain _ _ _ c.requires.0 c.requires.1 c.if-sink.false
