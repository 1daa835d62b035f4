-- `sweep::freed::empty_places` is a pass over the places. Assumes nothing.
use mathlib.Core.Path.{◌∙◌}
use mathlib.Core.Bool.{cond}
use native.Mathlib.Omega.{arith}
use lib.ListN.{length-take}
use Rattle.bitmap.specs.Bits.{holds}
use Rattle.table.proofs.PartLaws.{part-begin, part-turn, part-end}
use Rattle.sweep.specs.Sweep.{emptied}
use Rattle.sweep.proofs.freed.empty_places.Goals as goal

pub loop-y-init : goal.loop-y-init
loop-y-init c = part-begin 0 _ _ _

pub loop-y-preserved : goal.loop-y-preserved
loop-y-preserved c =
    let l = c.loop-y in
    let n = length-take c.min-end.result c.args.sinks.now in
    part-turn 0 (λ k y. cond (holds y c.args.map.now) 0 y) _ l.y-index _ _ 0 (omega arith) (omega arith) c.left_in_place.ensures ∙ l.invariant

pub returns : goal.returns
unfolding emptied
returns c =
    let l = c.loop-y in
    part-end 0 _ 64 _ c.args.sinks.now c.min-end.ensures l.y-index _ l.auto.y-items c.loop-y-test.false l.invariant
