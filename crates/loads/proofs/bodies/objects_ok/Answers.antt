-- `loads::bodies::objects_ok` tests the shape, the number of sinks, then the words. Assumes nothing.
use borrow.Author.Tests.{leb-true, leb-false}
use mathlib.Core.Path.{sym, ◌∙◌}
use mathlib.Core.Bool.{true, false≢true}
use Rattle.loads.proofs.SinkLaws.{bad-shape, many-sinks, few-sinks}
use Rattle.loads.proofs.WordLaws.{objects-are}
use Rattle.loads.proofs.bodies.objects_ok.Goals as goal
use Rattle.loads.proofs.bodies.objects_ok.Goals.{then-shape, else-shape}

pub returns-then-ones-le-SINK_MAX-clause-value : goal.returns-then-ones-le-SINK_MAX-clause-value
returns-then-ones-le-SINK_MAX-clause-value c =
    let s = c.shape.ensures in
    elim c.if-shape.branch [
      | then-shape w ↦
          let t = w.if-shape.true in
          few-sinks _ _ _ (s.sunk t) c.requires.0 _ w.ones.ensures (leb-true _ _ (sym w.value-is ∙ c.if-ones-le-SINK_MAX.true)) _
          (objects-are _ _ true _ (sym t ∙ s.value) c.words_ok.ensures)
      | else-shape w ↦ absurd (false≢true (sym w.if-shape.false ∙ sym w.value-is ∙ c.if-ones-le-SINK_MAX.true))
    ]

pub returns-else-ones-le-SINK_MAX-clause-value : goal.returns-else-ones-le-SINK_MAX-clause-value
returns-else-ones-le-SINK_MAX-clause-value c =
    let s = c.shape.ensures in
    elim c.if-shape.branch [
      | then-shape w ↦
          let no = c.if-ones-le-SINK_MAX.false in
          no ∙ many-sinks _ _ _ (s.sunk w.if-shape.true) c.requires.0 _ w.ones.ensures (leb-false _ _ (sym w.value-is ∙ no))
      | else-shape w ↦ w.value-is ∙ w.if-shape.false ∙ bad-shape _ _ (sym s.value ∙ w.if-shape.false)
    ]
