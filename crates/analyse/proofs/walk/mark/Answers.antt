-- `mark` meets its contract. Assumes nothing.
use Rattle.analyse.proofs.MarkLaws.{mark-none, mark-put}
use Rattle.analyse.proofs.walk.mark.Goals as goal

pub returns-then-s-eq0 : goal.returns-then-s-eq0
returns-then-s-eq0 c = mark-none _ _ _ _ _ _ c.if-s-eq0.true

pub returns : goal.returns
returns c = let s = c.requires in mark-put _ _ _ _ _ _ c.if-s-eq0.false s.1 s.4 s.5
