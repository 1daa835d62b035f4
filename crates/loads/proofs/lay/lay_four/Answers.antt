-- `loads::lay::lay_four` stores four words that it has read. Assumes nothing.
use native.Mathlib.Omega.{arith}
use lib.ListN.{length-set}
use Rattle.loads.proofs.LayLaws.{laid-four}
use Rattle.loads.proofs.lay.lay_four.Goals as goal

pub bounds-words-to-2 : goal.bounds-words-to-2
bounds-words-to-2 c = simp length-set (omega arith)

pub bounds-words-to-3 : goal.bounds-words-to-3
bounds-words-to-3 c = simp length-set (omega arith)

pub bounds-words-to-4 : goal.bounds-words-to-4
bounds-words-to-4 c = simp length-set (omega arith)

pub returns : goal.returns
returns c = laid-four _ _ _ _ _ _ _ _ c.word_at-a.ensures c.word_at-b.ensures c.word_at-c.ensures c.word_at-d.ensures
