-- `outs` meets its contract. Assumes nothing.
use mathlib.Core.Path.{ap, ◌∙◌}
use Rattle.records.specs.Record.{width}
use Rattle.analyse.proofs.JudgeLaws.{outs-room, outs-start, outs-again, outs-sum, outs-end}
use Rattle.analyse.proofs.AnswerLaws.{flag-bit}
use native.Mathlib.Omega.{arith}
use Rattle.analyse.proofs.judge.outs.Goals as goal

pub record_at-requires : goal.record_at-requires
record_at-requires c = let s = c.requires in (s.1, s.2, s.0.room.recs-long)

pub loop-j-init : goal.loop-j-init
loop-j-init c = let s = c.requires in outs-start _ _ _ _ s.0 _ _ s.1 s.2 _ (c.width_of-w.ensures ∙ ap width c.record_at.ensures)

pub bounds-slots-from : goal.bounds-slots-from
bounds-slots-from c = let s = c.requires in omega (arith, outs-room _ _ _ _ s.0 _ c.args.c s.1 s.2 _ (c.width_of-w.ensures ∙ ap width c.record_at.ensures), c.loop-j.invariant.1, c.loop-j-test.true)

pub leaves_cluster-requires : goal.leaves_cluster-requires
leaves_cluster-requires c = let s = c.requires.0 in (s.room.most, s.room.recs-long, omega (arith, s.work-long))

pub overflow_add-total : goal.overflow_add-total
overflow_add-total c =
    let a = c.width_of-w.ensures ∙ ap width c.record_at.ensures in
    let s = c.requires in
    let e = c.from-total.ensures ∙ flag-bit c.leaves_cluster.result in
    rw e (record { fits = outs-sum _ _ _ _ s.0 _ _ s.1 s.2 _ a _ _ c.leaves_cluster.result c.loop-j.invariant })

pub loop-j-preserved : goal.loop-j-preserved
loop-j-preserved c =
    let a = c.width_of-w.ensures ∙ ap width c.record_at.ensures in
    let s = c.requires in
    let e = c.from-total.ensures ∙ flag-bit c.leaves_cluster.result in
    rw e (outs-again _ _ _ _ s.0 _ _ s.1 s.2 _ a _ _ _ c.loop-j.invariant c.loop-j-test.true c.leaves_cluster.ensures)

pub returns : goal.returns
returns c = let s = c.requires in outs-end _ _ _ _ s.0 _ _ s.1 s.2 _ (c.width_of-w.ensures ∙ ap width c.record_at.ensures) _ _ c.loop-j.invariant c.loop-j-test.false
