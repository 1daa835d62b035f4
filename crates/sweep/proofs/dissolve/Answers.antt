-- `sweep::dissolve` is a pass over the records that leaves what it reads of them. Assumes nothing.
use native.Mathlib.Omega.{arith}
use Rattle.sweep.proofs.PassingLaws.{in-place-start, in-place-turn, in-place-end}
use Rattle.sweep.proofs.MarkLaws.{head-same, head-mark}
use Rattle.sweep.proofs.dissolve.Goals as goal

pub loop-i-init : goal.loop-i-init
loop-i-init c = in-place-start _ _ _ _

pub loop-i-preserved : goal.loop-i-preserved
loop-i-preserved c =
    let l = c.loop-i in
    in-place-turn _ _ _ _ l.records l.i _ l.invariant (λ r h. head-same _ r _ _ h) (λ r. head-mark _ r _) (omega arith) (omega arith) c.head_kept.ensures

pub returns : goal.returns
returns c = let l = c.loop-i in in-place-end _ _ _ _ l.records l.i l.invariant _ c.min-end.ensures c.loop-i-test.false
