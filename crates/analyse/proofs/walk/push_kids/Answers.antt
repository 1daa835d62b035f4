-- `push_kids` meets its contract. Assumes nothing.
use mathlib.Core.Path.{ap, ◌∙◌}
use Rattle.records.specs.Record.{width}
use Rattle.analyse.proofs.PushLaws.{target_fits, slots-there, pushing-start, spot-left, spot-there, pushing-turn, pushing-end}
use native.Mathlib.Omega.{arith}
use Rattle.analyse.proofs.walk.push_kids.Goals as goal

pub record_at-requires : goal.record_at-requires
record_at-requires c = (c.requires.le_x.0, c.requires.le_x.1, c.requires.sized.room.recs-long)

pub loop-j-init : goal.loop-j-init
loop-j-init c = pushing-start _ _ _ _ _ c.requires.sized _ c.requires.le_x.0 c.requires.le_x.1 _ c.requires.le_x.4 _ (c.width_of-w.ensures ∙ ap width c.record_at.ensures)

pub overflow_sub-at : goal.overflow_sub-at
overflow_sub-at c = spot-left _ _ _ _ _ c.requires.sized _ c.requires.le_x.0 c.requires.le_x.1 _ c.requires.le_x.4 _ (c.width_of-w.ensures ∙ ap width c.record_at.ensures) _ _ _ c.loop-j.invariant c.loop-j-test.true

pub bounds-heap-from : goal.bounds-heap-from
bounds-heap-from c =
    let r = slots-there _ c.args.c _ _ _ c.requires.sized _ c.requires.le_x.0 c.requires.le_x.1 _ c.requires.le_x.4 _ (c.width_of-w.ensures ∙ ap width c.record_at.ensures) in
    omega (arith, r, c.loop-j.invariant.most)

pub overflow_add-work : goal.overflow_add-work
overflow_add-work c =
    record { fits = omega (arith, c.requires.sized.room.most, c.requires.le_x.2, target_fits _ _ _ c.target_of.ensures) }

pub bounds-work-at : goal.bounds-work-at
bounds-work-at c = spot-there _ _ _ _ _ c.requires.sized _ c.requires.le_x.0 c.requires.le_x.1 _ c.requires.le_x.4 _ (c.width_of-w.ensures ∙ ap width c.record_at.ensures) _ _ _ c.loop-j.invariant c.loop-j-test.true c.requires.le_x.3

pub loop-j-preserved : goal.loop-j-preserved
loop-j-preserved c = pushing-turn _ _ _ _ _ c.requires.sized _ c.requires.le_x.0 c.requires.le_x.1 _ c.requires.le_x.4 _ (c.width_of-w.ensures ∙ ap width c.record_at.ensures) _ _ _ _ c.requires.le_x.3 c.loop-j.invariant c.loop-j-test.true c.target_of.ensures

pub returns : goal.returns
returns c = pushing-end _ _ _ _ _ c.requires.sized _ c.requires.le_x.0 c.requires.le_x.1 _ c.requires.le_x.4 _ (c.width_of-w.ensures ∙ ap width c.record_at.ensures) _ _ _ c.loop-j.invariant c.loop-j-test.false
