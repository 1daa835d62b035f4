-- `sweep::freed::free_all` goes from word to word. Assumes nothing.
use mathlib.Core.Path.{refl}
use Rattle.sweep.proofs.FreedLaws.{mapping-start, mapping-turn, mapping-end}
use native.Mathlib.Omega.{arith}
use Rattle.sweep.proofs.freed.free_all.Goals as goal

pub loop-j-init : goal.loop-j-init
loop-j-init c = (mapping-start _ _ _, mapping-start _ _ _)

pub overflow_cast-j : goal.overflow_cast-j
overflow_cast-j c = omega arith

pub loop-j-preserved : goal.loop-j-preserved
loop-j-preserved c =
    let l = c.loop-j in
    let p = c.loop-j-test.true in
    (mapping-turn _ _ _ _ l.j l.invariant.0 _ _ p refl c.free_word.ensures.records_after c.free_word.auto.records, mapping-turn _ _ _ _ l.j l.invariant.1 _ _ p refl c.free_word.ensures.slots_after c.free_word.auto.slots)

pub returns : goal.returns
returns c = let l = c.loop-j in record {
  records_after = mapping-end _ _ _ _ l.j l.invariant.0 c.loop-j-test.false;
  slots_after = mapping-end _ _ _ _ l.j l.invariant.1 c.loop-j-test.false;
}
