-- `loss_of` meets its contract. Assumes nothing.
use native.Mathlib.Omega.{arith}
use Rattle.analyse.proofs.AnswerLaws.{loss-old, loss-other, loss-new, loss-few}
use Rattle.analyse.proofs.judge.loss_of.Goals as goal

pub returns-then-old-ne0 : goal.returns-then-old-ne0
returns-then-old-ne0 c = (λ recs e. loss-old _ recs _ _ _ e _ c.if-old-ne0.true, omega arith)

pub word_of-requires : goal.word_of-requires
word_of-requires c = let s = c.requires in (s.2, s.3, omega (arith, s.1))

pub returns-then-word_of-h : goal.returns-then-word_of-h
returns-then-word_of-h c = (λ recs e. loss-other _ recs _ _ _ e c.if-old-ne0.false _ _ c.word_of.ensures c.if-word_of-h.true, omega arith)

pub word_of-s-requires : goal.word_of-s-requires
word_of-s-requires c = let s = c.requires in (s.2, s.3, omega (arith, s.1))

pub word_of-requires-2 : goal.word_of-requires-2
word_of-requires-2 c = let s = c.requires in (s.2, s.3, omega (arith, s.1))

pub returns : goal.returns
returns c = (λ recs e. loss-new _ recs _ _ _ e c.if-old-ne0.false _ _ c.word_of.ensures c.if-word_of-h.false _ _ c.word_of-s.ensures c.word_of-2.ensures _ c.loss.ensures, loss-few _ _ _ _ _ c.word_of-s.ensures c.requires.4 _ _ c.loss.ensures)
