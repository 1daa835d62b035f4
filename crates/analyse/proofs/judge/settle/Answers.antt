-- `settle` meets its contract. Assumes nothing.
use Prim.Native.Nat.{◌%◌}
use mathlib.Core.Path.{◌∙◌}
use mathlib.Core.Bool.{not, ◌&&◌}
use lib.Dec.{eqb}
use Rattle.analyse.proofs.SettleLaws.{settle-start, settle-fits, heads-fit, members-fit, settle-turn, settle-end}
use Rattle.analyse.proofs.AnswerLaws.{flag-bit}
use native.Mathlib.Omega.{arith}
use Rattle.analyse.proofs.judge.settle.Goals as goal

pub loop-x-init : goal.loop-x-init
loop-x-init c = settle-start _ _ _ _

pub overflow_add-loss : goal.overflow_add-loss
overflow_add-loss c = record { fits = settle-fits _ _ _ _ _ _ _ _ _ c.loop-x.invariant c.requires.2 _ c.loss_of-loss.ensures.1 }

pub loss_of-loss-requires : goal.loss_of-loss-requires
loss_of-loss-requires c = let s = c.requires in (s.2, s.1, omega arith, omega (arith, c.loop-x-test.true), s.3 _)

pub overflow_add-clusters : goal.overflow_add-clusters
overflow_add-clusters c =
    let e = c.from-clusters.ensures ∙ flag-bit _ in
    rw e (record { fits = heads-fit _ _ _ _ _ _ _ _ _ c.loop-x.invariant c.requires.2 (eqb c.cluster_of-old.result 0 && eqb (c.word_of-w.result % 4096) c.loop-x.x) })

pub overflow_add-members : goal.overflow_add-members
overflow_add-members c =
    let e = c.from-members.ensures ∙ flag-bit _ in
    rw e (record { fits = members-fit _ _ _ _ _ _ _ _ _ c.loop-x.invariant c.requires.2 (eqb c.cluster_of-old.result 0 && not (eqb (c.word_of-w.result % 4096) 0)) })

pub loop-x-preserved : goal.loop-x-preserved
loop-x-preserved c =
    let e = c.from-clusters.ensures ∙ flag-bit _ in
    let f = c.from-members.ensures ∙ flag-bit _ in
    rw (e, f) (settle-turn _ _ _ _ _ _ _ _ _ c.loop-x.invariant (omega arith) (omega (arith, c.loop-x-test.true)) c.requires.0 _ c.word_of-w.ensures _ c.cluster_of-old.ensures _ c.loss_of-loss.ensures _ c.settled_record.ensures)

pub returns : goal.returns
returns c = settle-end _ _ _ _ _ _ _ _ _ c.loop-x.invariant (omega (arith, c.loop-x-test.false))
