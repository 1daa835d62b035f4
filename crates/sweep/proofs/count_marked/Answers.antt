-- `sweep::count_marked` counts record by record. Assumes nothing.
use mathlib.Core.Path.{ap, ◌∙◌}
use native.Mathlib.Omega.{arith}
use lib.ListN.{length-take}
use lib.Seq.{get_or-take}
use Rattle.records.specs.Record.{is_marked}
use Rattle.sweep.proofs.MarkLaws.{marked-none, marked_more, marked-all}
use Rattle.sweep.proofs.count_marked.Goals as goal
use Rattle.sweep.proofs.count_marked.Goals.{then-is_marked, else-is_marked}

pub loop-r-init : goal.loop-r-init
loop-r-init c = (omega arith, marked-none _ _)

pub loop-r-preserved : goal.loop-r-preserved
loop-r-preserved c =
    let l = c.loop-r in
    let a = c.args in
    let t = length-take c.min-end.result a.records.now in
    let next = marked_more a.n a.records.now l.r-index (omega arith) in
    let test = c.is_marked.ensures ∙ ap is_marked (get_or-take c.min-end.result a.records.now l.r-index 0 (omega arith)) in
    elim c.if-is_marked.branch [
      | then-is_marked w ↦ (omega arith, rw w.k-is (omega (arith, l.invariant.1, rw (← test, w.if-is_marked.true) at next)))
      | else-is_marked w ↦ (omega arith, rw w.k-is (omega (arith, l.invariant.1, rw (← test, w.if-is_marked.false) at next)))
    ]

pub returns : goal.returns
returns c =
    let l = c.loop-r in
    let t = length-take c.min-end.result c.args.records.now in
    marked-all _ _ _ l.r-index (omega arith) l.invariant.1
