-- `sweep::freed::clear_slots` meets its contract. Assumes nothing.
use mathlib.Core.Path.{◌∙◌}
use Rattle.sweep.proofs.FreedLaws.{slots-none, slots-in}
use Rattle.sweep.proofs.freed.clear_slots.Goals as goal

pub returns-else-x-ne0 : goal.returns-else-x-ne0
returns-else-x-ne0 c = slots-none _ _ c.if-x-ne0.false

pub returns-then-x-ne0 : goal.returns-then-x-ne0
returns-then-x-ne0 c = c.clear_eight.ensures ∙ slots-in _ _ _ c.slots_len.ensures c.if-x-ne0.true
