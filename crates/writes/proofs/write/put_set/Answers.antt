-- `writes::write::put_set` sets one word, if there is one. Assumes nothing.
use mathlib.Core.Path.{refl, sym}
use lib.Seq.{set_out}
use borrow.Author.Tests.{eq-eqb, ne_eqb}
use Rattle.writes.proofs.write.put_set.Goals as goal

pub returns-then-h-eq0 : goal.returns-then-h-eq0
returns-then-h-eq0 c = rw (eq-eqb _ _ c.if-h-eq0.true) refl

pub returns-then-at-sets : goal.returns-then-at-sets
returns-then-at-sets c = rw (ne_eqb _ _ c.if-h-eq0.false) refl

pub returns-else-at-sets : goal.returns-else-at-sets
returns-else-at-sets c = rw (ne_eqb _ _ c.if-h-eq0.false) (sym (set_out _ _ _ c.if-at-sets.false))
