-- `sweep::member_marked` meets its contract. Assumes nothing.
use mathlib.Core.Path.{ap, ◌∙◌}
use Rattle.records.specs.Record.{is_reached}
use Rattle.sweep.proofs.MarkLaws.{member-none, member-reached, member-left}
use Rattle.sweep.proofs.member_marked.Goals as goal
use Rattle.sweep.proofs.member_marked.Goals.{else-c-ne0-via-then-c-ne0+else-is_reached, else-c-ne0-via-else-c-ne0}

pub returns-then-is_reached : goal.returns-then-is_reached
returns-then-is_reached c = c.with_marked.ensures ∙ member-reached _ _ _ _ c.cluster_of-c.ensures c.if-c-ne0.true _ (c.is_reached.ensures ∙ ap is_reached c.record_of.ensures) c.if-is_reached.true

pub returns-else-c-ne0 : goal.returns-else-c-ne0
returns-else-c-ne0 c =
    elim c.else-c-ne0.branch [
      | else-c-ne0-via-then-c-ne0+else-is_reached w ↦ member-left _ _ _ _ c.cluster_of-c.ensures w.if-c-ne0.true _ (w.is_reached.ensures ∙ ap is_reached w.record_of.ensures) w.if-is_reached.false
      | else-c-ne0-via-else-c-ne0 w ↦ member-none _ _ _ _ c.cluster_of-c.ensures w.if-c-ne0.false
    ]
