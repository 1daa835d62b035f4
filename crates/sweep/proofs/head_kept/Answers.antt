-- `sweep::head_kept` meets its contract. Assumes nothing.
use mathlib.Core.Path.{sym, ap, ◌∙◌}
use mathlib.Core.Bool.{false≢true}
use borrow.Author.Tests.{eq-eqb}
use Rattle.records.specs.Record.{is_marked}
use Rattle.sweep.proofs.MarkLaws.{head-none, head-marked, head-freed}
use Rattle.sweep.proofs.head_kept.Goals as goal
use Rattle.sweep.proofs.head_kept.Goals.{then-c-eq0, else-c-eq0}

pub returns-then-is_marked : goal.returns-then-is_marked
returns-then-is_marked c =
    elim c.if-c-eq0.branch [
      | then-c-eq0 w ↦ head-none _ _ _ _ c.cluster_of-c.ensures w.if-c-eq0.true
      | else-c-eq0 w ↦ head-marked _ _ _ _ c.cluster_of-c.ensures w.if-c-eq0.false _ (w.is_marked.ensures ∙ ap is_marked w.record_of.ensures) (sym w.value-is ∙ c.if-is_marked.true)
    ]

pub returns-else-is_marked : goal.returns-else-is_marked
returns-else-is_marked c =
    c.loose.ensures
    ∙ elim c.if-c-eq0.branch [
      | then-c-eq0 w ↦ absurd (false≢true (sym c.if-is_marked.false ∙ w.value-is ∙ eq-eqb _ _ w.if-c-eq0.true))
      | else-c-eq0 w ↦ head-freed _ _ _ _ c.cluster_of-c.ensures w.if-c-eq0.false _ (w.is_marked.ensures ∙ ap is_marked w.record_of.ensures) (sym w.value-is ∙ c.if-is_marked.false)
    ]
