-- `saves::write_sinks` fills the body of kind 0x8001. Invariant: the sinks in the places passed are stored. Assumes nothing.
use mathlib.Core.Path.{ap, ◌∙◌}
use lib.ListN.{length, take, length-take}
use Rattle.saves.proofs.SaveLaws.{sinks-none, sinks-start, sinks-turn, sinks-end, count_most, place-put, place-skip}
use native.Mathlib.Omega.{arith}
use Rattle.saves.proofs.write_sinks.Goals as goal
use Rattle.saves.proofs.write_sinks.Goals.{then-y-ne0, else-y-ne0}

pub loop-y-init : goal.loop-y-init
loop-y-init c = let l = take 64 c.args.sinks.now in let e = ap length (sinks-none l) in (omega (arith, e), sinks-start l c.args.body.now)

pub overflow_add-at : goal.overflow_add-at
overflow_add-at c = let l = c.loop-y in omega (arith, count_most (take 64 c.args.sinks.now) l.y-index, length-take 64 c.args.sinks.now, l.invariant.0)

pub loop-y-preserved : goal.loop-y-preserved
loop-y-preserved c =
    let l = c.loop-y in
    sinks-turn (take 64 c.args.sinks.now) l.y-index l.at c.args.body.now l.body c.loop-y-test.true l.invariant.0 l.invariant.1 _ _
    (elim c.if-y-ne0.branch [
      | then-y-ne0 w ↦ let p = place-put _ l.at l.body _ w.if-y-ne0.true w.put2.ensures in (w.at-is ∙ p.0, w.body-is ∙ p.1)
      | else-y-ne0 w ↦ let p = place-skip _ l.at l.body w.if-y-ne0.false in (w.at-is ∙ p.0, w.body-is ∙ p.1)
    ])

pub returns : goal.returns
returns c = let l = c.loop-y in l.invariant.1 ∙ sinks-end (take 64 c.args.sinks.now) l.y-index c.args.body.now c.loop-y-test.false c.requires.1
