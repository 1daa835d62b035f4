-- `decide` meets its contract. Assumes nothing.
use mathlib.Core.Path.{◌≡◌, refl, ◌∙◌}
use Prim.Native.Nat.{◌-◌}
use Rattle.analyse.proofs.FillLaws.{fill_start, fill-turn}
use Rattle.analyse.proofs.JudgeLaws.{judging-now, left-same}
use native.Mathlib.Omega.{arith}
use Rattle.analyse.proofs.judge.decide.Goals as goal

pub loop-x-init : goal.loop-x-init
loop-x-init c = fill_start _ _ _ _

pub left-requires : goal.left-requires
left-requires c = (judging-now _ _ _ _ _ _ _ c.loop-x.invariant c.requires, omega arith, omega (arith, c.loop-x-test.true))

pub loop-x-preserved : goal.loop-x-preserved
loop-x-preserved c =
    let g = c.loop-x.invariant in
    fill-turn _ _ _ _ _ _ _ _ g (omega arith) (omega (arith, c.loop-x-test.true)) (omega (arith, c.requires.sized.work-long)) refl (c.left.ensures ∙ left-same _ _ _ _ _ _ _ g _ _)

pub returns : goal.returns
returns c =
    let e : c.loop-x.x - 1 ≡ c.args.n = omega (arith, c.loop-x-test.false, c.loop-x.auto.x-end (omega arith)) in
    rw e at c.loop-x.invariant
