-- `saves::sinks_len` is the length of the chunk of sinks. Assumes nothing.
use Rattle.saves.proofs.SaveLaws.{len-zero, len-some}
use Rattle.saves.proofs.sinks_len.Goals as goal

pub returns-then-k-eq0 : goal.returns-then-k-eq0
returns-then-k-eq0 c = len-zero _ c.if-k-eq0.true

pub returns-else-k-eq0 : goal.returns-else-k-eq0
returns-else-k-eq0 c = len-some _ c.if-k-eq0.false
