-- `used_count` meets its contract. Assumes nothing.
use mathlib.Core.Path.{ap, ◌∙◌}
use Rattle.records.specs.Record.{in_use}
use Rattle.graph.proofs.NumberLaws.{bit_le}
use Rattle.analyse.proofs.LimitLaws.{used_start, used-most, used_turn, used-end}
use Rattle.analyse.proofs.AnswerLaws.{flag-bit}
use native.Mathlib.Omega.{arith}
use Rattle.analyse.proofs.limit.used_count.Goals as goal

pub loop-x-init : goal.loop-x-init
loop-x-init c = used_start _ _

pub overflow_add-total : goal.overflow_add-total
overflow_add-total c =
    let l = c.loop-x.invariant in
    let e = c.from-total.ensures ∙ flag-bit c.in_use.result in
    record { fits = omega (arith, e, c.requires.1, used-most _ _ _ _ l, l.1, bit_le c.in_use.result) }

pub loop-x-preserved : goal.loop-x-preserved
loop-x-preserved c =
    let e = c.from-total.ensures ∙ flag-bit c.in_use.result in
    rw e
    (used_turn _ _ _ _ _ c.loop-x.invariant (omega arith) (omega (arith, c.loop-x-test.true)) (c.in_use.ensures ∙ ap in_use c.record_at.ensures))

pub returns : goal.returns
returns c = used-end _ _ _ _ c.loop-x.invariant (omega (arith, c.loop-x-test.false, c.loop-x.auto.x-end (omega arith)))
