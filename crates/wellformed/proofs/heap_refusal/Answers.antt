-- `wellformed::heap_refusal` makes the tests in their order. Assumes nothing.
use mathlib.Core.Path.{sym, ◌∙◌}
use Rattle.wellformed.proofs.CheckLaws.{bad-control, few_words, is-sound, is-damaged}
use Rattle.wellformed.proofs.heap_refusal.Goals as goal

pub returns-then-bad_control : goal.returns-then-bad_control
returns-then-bad_control c = bad-control _ _ _ _ _ _ _ (sym c.bad_control.ensures ∙ c.if-bad_control.true)

pub returns-then-short_heap-rest : goal.returns-then-short_heap-rest
returns-then-short_heap-rest c =
    few_words _ _ _ _ _ _ _ (sym c.bad_control.ensures ∙ c.if-bad_control.false) _ c.short_heap.ensures c.if-short_heap-rest.true

pub returns-then-well_formed : goal.returns-then-well_formed
returns-then-well_formed c =
    is-sound _ _ _ _ _ _ _ (sym c.bad_control.ensures ∙ c.if-bad_control.false) _ c.short_heap.ensures c.if-short_heap-rest.false _ c.well_formed-2.ensures c.if-well_formed.true

pub returns-else-well_formed : goal.returns-else-well_formed
returns-else-well_formed c =
    is-damaged _ _ _ _ _ _ _ (sym c.bad_control.ensures ∙ c.if-bad_control.false) _ c.short_heap.ensures c.if-short_heap-rest.false _ c.well_formed-2.ensures c.if-well_formed.false
