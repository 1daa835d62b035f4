-- `wellformed::slot_ok` is the rule of one slot: each sort of word answers for itself. Assumes nothing.
use Rattle.wellformed.proofs.CheckLaws.{slot-unused, allowed, slot-end}
use mathlib.Core.Path.{sym, ap, ◌∙◌}
use Prim.Native.Nat.{ℕ}
use Rattle.records.specs.Record.{in_use}
use Rattle.wellformed.proofs.slot_ok.Goals as goal

pub returns-then-width-k : goal.returns-then-width-k
returns-then-width-k c = slot-unused _ _ _ _ _ c.if-width-k.true

pub returns-in-Nil : goal.returns-in-Nil
unfolding allowed
returns-in-Nil c = slot-end _ _ _ _ _ c.requires c.if-width-k.false _ (sym c.in-Nil.is ∙ c.sort_word.ensures)

pub returns-in-Object : goal.returns-in-Object
unfolding allowed
returns-in-Object c =
    c.in_use.ensures ∙ ap (λ (r : ℕ). in_use r) c.record_of.ensures
    ∙ slot-end _ _ _ _ _ c.requires c.if-width-k.false _ (sym c.in-Object.is ∙ c.sort_word.ensures)

pub returns-in-Immediate : goal.returns-in-Immediate
unfolding allowed
returns-in-Immediate c = slot-end _ _ _ _ _ c.requires c.if-width-k.false _ (sym c.in-Immediate.is ∙ c.sort_word.ensures)

pub returns-in-Illegal : goal.returns-in-Illegal
unfolding allowed
returns-in-Illegal c = slot-end _ _ _ _ _ c.requires c.if-width-k.false _ (sym c.in-Illegal.is ∙ c.sort_word.ensures)
