-- `older` meets its contract. Assumes nothing.
use Rattle.analyse.proofs.OlderLaws.{older-start, older-sized, older-room, older-again, older-less, older-end}
use native.Mathlib.Omega.{arith}
use Rattle.analyse.proofs.walk.older.Goals as goal

pub word_of-requires : goal.word_of-requires
word_of-requires c = (c.requires.le_d.0, c.requires.le_d.1, omega (arith, c.requires.sized.work-long))

pub loop-x-init : goal.loop-x-init
loop-x-init c =
    older-start _ _ _ _ _ _ c.requires.le_d.0 c.requires.sized c.requires.chained _ _ c.word_of.ensures c.top_member-x.ensures

pub member-at-requires : goal.member-at-requires
member-at-requires c =
    let g = c.loop-x.invariant in
    let nz = c.loop-x-test.true in
    record {
      sized = older-sized _ _ _ _ _ _ c.requires.le_d.0 c.requires.sized c.requires.chained _ _ _ g nz;
      le_x = (omega (arith, nz), g.0.most, c.requires.le_d.1, omega (arith, g.0.inside, c.requires.le_d.2), older-room _ _ _ _ _ _ c.requires.le_d.0 c.requires.sized c.requires.chained _ _ _ g nz c.requires.le_d.3);
    }

pub word_of-requires-in-loop-x : goal.word_of-requires-in-loop-x
word_of-requires-in-loop-x c =
    let g = c.loop-x.invariant in
    (omega (arith, c.loop-x-test.true), g.0.most, omega (arith, c.requires.sized.work-long, g.0.long, c.member-at.auto.work))

pub loop-x-smaller : goal.loop-x-smaller
loop-x-smaller c =
    older-less _ _ _ _ _ _ c.requires.le_d.0 c.requires.sized c.requires.chained _ _ _ c.loop-x.invariant c.loop-x-test.true _ _ c.member-at.auto.work c.member-at.ensures.0 c.member-at.ensures.1 _ _ c.word_of-in-loop-x.ensures c.next_member-x.ensures

pub loop-x-preserved : goal.loop-x-preserved
loop-x-preserved c =
    older-again _ _ _ _ _ _ c.requires.le_d.0 c.requires.sized c.requires.chained _ _ _ c.loop-x.invariant c.loop-x-test.true _ _ c.member-at.auto.work c.member-at.ensures.0 c.member-at.ensures.1 _ _ c.word_of-in-loop-x.ensures c.next_member-x.ensures

pub returns : goal.returns
returns c =
    older-end _ _ _ _ _ _ c.requires.le_d.0 c.requires.sized c.requires.chained _ _ _ c.loop-x.invariant c.loop-x-test.false
