-- `writes::write::word_after` meets its contract. Assumes nothing.
use mathlib.Core.Path.{refl}
use borrow.Author.Tests.{eq-eqb, ne_eqb}
use Rattle.writes.proofs.write.word_after.Goals as goal

pub returns-then-k-slot : goal.returns-then-k-slot
returns-then-k-slot c = rw (eq-eqb _ _ c.if-k-slot.true) refl

pub returns : goal.returns
returns c = rw (ne_eqb _ _ c.if-k-slot.false) refl
