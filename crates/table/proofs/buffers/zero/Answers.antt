-- `table::buffers::zero` sets word after word to 0. Assumes nothing.
use mathlib.Core.Path.{sym, ◌∙◌}
use native.Mathlib.Omega.{arith}
use lib.ListN.{length-take}
use Rattle.table.proofs.PartLaws.{part-begin, part-turn, part-end}
use Rattle.table.proofs.buffers.zero.Goals as goal

pub loop-w-init : goal.loop-w-init
loop-w-init g c = part-begin 0 _ _ _

pub loop-w-preserved : goal.loop-w-preserved
loop-w-preserved g c =
    let l = c.loop-w in
    let n = length-take c.min-end.result c.args.words.now in
    part-turn 0 (λ i w. g.T.Word.ZERO) _ l.w-index _ _ c.ZERO.result (omega arith) (omega arith) c.ZERO.ensures ∙ l.invariant

pub returns : goal.returns
returns g c =
    let l = c.loop-w in
    part-end 0 _ c.args.k _ c.args.words.now c.min-end.ensures l.w-index _ l.auto.w-items c.loop-w-test.false l.invariant
    ∙ sym (g.T.Word.each_zero c.args.k c.args.words.now)
