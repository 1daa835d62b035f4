-- `sweep::clear_marks` is a pass over the records. Assumes nothing.
use mathlib.Core.Path.{◌∙◌}
use native.Mathlib.Omega.{arith}
use lib.ListN.{length-take}
use Rattle.rules.specs.Buffers.{each_record}
use Rattle.table.proofs.PartLaws.{part-begin, part-turn, part-end}
use Rattle.sweep.specs.Sweep.{unflagged_record, unflagged}
use Rattle.sweep.proofs.clear_marks.Goals as goal

pub loop-r-init : goal.loop-r-init
loop-r-init c = part-begin 1 _ _ _

pub loop-r-preserved : goal.loop-r-preserved
loop-r-preserved c =
    let l = c.loop-r in
    let n = length-take c.min-end.result c.args.records.now in
    part-turn 1 (λ x w. unflagged_record w) _ l.r-index _ _ 0 (omega arith) (omega arith) c.unflagged_record.ensures ∙ l.invariant

pub returns : goal.returns
unfolding unflagged each_record
returns c =
    let l = c.loop-r in
    part-end 1 _ c.args.n _ c.args.records.now c.min-end.ensures l.r-index _ l.auto.r-items c.loop-r-test.false l.invariant
