-- `tally` meets its contract. Assumes nothing.
use Prim.Native.Nat.{◌-◌, ◌≤◌}
use mathlib.Core.Path.{◌≡◌}
use Rattle.analyse.proofs.JudgeLaws.{judging-cleared, tally-start, tally-end, own-there, count-asks, count-skip, count-there, count_fits, count_turn}
use Rattle.analyse.proofs.PartLaws.{zeros-filled}
use native.Mathlib.Omega.{arith}
use Rattle.analyse.proofs.judge.tally.Goals as goal
use Rattle.analyse.proofs.judge.tally.Goals.{then-c-ne0, else-c-ne0}

pub loop-x-init : goal.loop-x-init
loop-x-init c =
    let z = zeros-filled _ _ _ (omega (arith, c.requires.sized.work-long)) c.zero.ensures in
    record { start = judging-cleared _ _ _ _ _ z c.requires; counted = tally-start _ _ _ _ _ z; most = omega arith }

pub bounds-work-n : goal.bounds-work-n
bounds-work-n c = own-there _ _ _ _ _ _ c.loop-x.invariant (omega arith) (omega (arith, c.loop-x-test.true))

pub outs-requires : goal.outs-requires
outs-requires c = count-asks _ _ _ _ _ _ c.loop-x.invariant (omega arith) (omega (arith, c.loop-x-test.true))

pub overflow_add-work : goal.overflow_add-work
overflow_add-work c =
    record { fits = count_fits _ _ _ _ _ _ c.loop-x.invariant (omega arith) (omega (arith, c.loop-x-test.true)) c.if-c-ne0.true _ c.outs.ensures.1 }

pub bounds-work-c : goal.bounds-work-c
bounds-work-c c = count-there _ _ _ _ _ _ c.loop-x.invariant (omega arith) (omega (arith, c.loop-x-test.true)) c.if-c-ne0.true

pub bounds-work-c-then-c-ne0 : goal.bounds-work-c-then-c-ne0
bounds-work-c-then-c-ne0 c = count-there _ _ _ _ _ _ c.loop-x.invariant (omega arith) (omega (arith, c.loop-x-test.true)) c.if-c-ne0.true

pub loop-x-preserved : goal.loop-x-preserved
loop-x-preserved c =
    let l = c.loop-x in
    let low : 1 ≤ l.x = omega arith in
    let high : l.x ≤ c.args.n = omega (arith, c.loop-x-test.true) in
    elim c.if-c-ne0.branch [
      | then-c-ne0 w ↦ rw w.work-is (count_turn _ _ _ _ _ _ l.invariant low high w.if-c-ne0.true _ w.outs.ensures.0 w.outs.ensures.1)
      | else-c-ne0 w ↦ rw w.work-is (count-skip _ _ _ _ _ _ l.invariant low high w.if-c-ne0.false)
    ]

pub returns : goal.returns
returns c =
    let e : c.loop-x.x - 1 ≡ c.args.n = omega (arith, c.loop-x-test.false, c.loop-x.auto.x-end (omega arith)) in
    tally-end _ _ _ _ _ _ (zeros-filled _ _ _ (omega (arith, c.requires.sized.work-long)) c.zero.ensures) (rw e at c.loop-x.invariant.counted)
