-- `choose` meets its contract. Assumes nothing.
use native.Mathlib.Omega.{arith}
use Rattle.analyse.proofs.PushLaws.{goes_none, goes_by_lem}
use Rattle.analyse.proofs.walk.choose.Goals as goal

pub returns-then-c-eq0 : goal.returns-then-c-eq0
returns-then-c-eq0 c = goes_none _ _ _ _ _ _ _ _ c.if-c-eq0.true c.choose.ensures

pub word_of-requires : goal.word_of-requires
word_of-requires c = (omega (arith, c.if-c-eq0.false), c.requires.1, omega (arith, c.requires.0))

pub returns : goal.returns
returns c = goes_by_lem _ _ _ _ _ _ _ _ _ c.word_of.ensures c.choose-2.ensures
