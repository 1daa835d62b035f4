-- `bitmap::ones` counts word by word, at most the words of the longest map. Assumes nothing.
use native.Mathlib.Omega.{arith}
use lib.Count.{ones-le}
use Rattle.bitmap.proofs.BitLaws.{count_none, count_le, count-more, count-end}
use Rattle.bitmap.proofs.ones.Goals as goal

pub loop-i-init : goal.loop-i-init
loop-i-init c = count_none c.args.map.now

pub overflow_add-n : goal.overflow_add-n
overflow_add-n c =
    let l = c.loop-i in
    let h = count_le l.i 0 c.args.map.now (λ i. (c.type_inv.map i).fits) in
    omega (arith, h, l.invariant, c.loop-i-test.true, c.min-i-end.ensures, ones-le 64 _ (c.type_inv.map l.i).fits)

pub loop-i-preserved : goal.loop-i-preserved
loop-i-preserved c =
    let l = c.loop-i in
    let m = count-more c.args.map.now l.n l.i l.invariant (omega (arith, c.loop-i-test.true, c.min-i-end.ensures)) (c.type_inv.map l.i).fits in
    grind (arith, m)

pub returns : goal.returns
returns c =
    let l = c.loop-i in
    count-end c.args.map.now l.n l.i l.invariant (omega (arith, l.auto.i-end, c.loop-i-test.false, c.min-i-end.ensures))
