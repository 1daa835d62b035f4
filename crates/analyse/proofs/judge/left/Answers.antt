-- `left` meets its contract. Assumes nothing.
use Rattle.analyse.proofs.AnswerLaws.{flag-bit}
use native.Mathlib.Omega.{arith}
use mathlib.Core.Path.{refl, ap, ◌∙◌}
use mathlib.Core.Bool.{not}
use lib.Dec.{eqb}
use Rattle.graph.proofs.NumberLaws.{bit_le}
use Rattle.records.specs.Record.{cluster}
use Rattle.analyse.proofs.JudgeLaws.{read_fits, stays_by_lem, left-none, left-gone, left-kept}
use Rattle.analyse.proofs.judge.left.Goals as goal

pub word_of-c-requires : goal.word_of-c-requires
word_of-c-requires c = let s = c.requires in (s.1, s.2, omega (arith, s.0.sized.work-long))

pub returns-then-c-eq0 : goal.returns-then-c-eq0
returns-then-c-eq0 c = left-none _ _ _ _ _ _ _ _ c.word_of-c.ensures refl c.if-c-eq0.true

pub record_at-requires : goal.record_at-requires
record_at-requires c = let s = c.requires in (omega (arith, c.if-c-eq0.false), read_fits _ _ _ _ c.word_of-c.ensures (s.0.fits _), s.0.sized.room.recs-long)

pub word_of-s-requires : goal.word_of-s-requires
word_of-s-requires c = let s = c.requires in (omega (arith, c.if-c-eq0.false), read_fits _ _ _ _ c.word_of-c.ensures (s.0.fits _), omega (arith, s.0.sized.work-long))

pub word_of-requires : goal.word_of-requires
word_of-requires c = let s = c.requires in (omega (arith, c.if-c-eq0.false), read_fits _ _ _ _ c.word_of-c.ensures (s.0.fits _), omega (arith, s.0.sized.work-long))

pub returns-then-old-stays : goal.returns-then-old-stays
returns-then-old-stays c = left-gone _ _ _ _ _ _ _ _ c.word_of-c.ensures refl _ (stays_by_lem _ _ _ _ _ _ (c.cluster_of-old.ensures ∙ ap cluster c.record_at.ensures) _ _ c.word_of-s.ensures c.word_of.ensures _ c.stays.ensures) c.if-old-stays.true

pub outs-requires : goal.outs-requires
outs-requires c = let s = c.requires in (s.0.sized, s.1, s.2)

pub overflow_mul-result : goal.overflow_mul-result
overflow_mul-result c =
    let e = c.from.ensures ∙ flag-bit (not (eqb c.outs.result 0)) in
    record { fits = omega (arith, e, bit_le (not (eqb c.outs.result 0))) }

pub overflow_add-result : goal.overflow_add-result
overflow_add-result c =
    let e = c.from.ensures ∙ flag-bit (not (eqb c.outs.result 0)) in
    omega (arith, e, bit_le (not (eqb c.outs.result 0)))

pub returns : goal.returns
returns c =
    let e = c.from.ensures ∙ flag-bit (not (eqb c.outs.result 0)) in
    rw e (left-kept _ _ _ _ _ _ _ _ c.word_of-c.ensures refl _ (stays_by_lem _ _ _ _ _ _ (c.cluster_of-old.ensures ∙ ap cluster c.record_at.ensures) _ _ c.word_of-s.ensures c.word_of.ensures _ c.stays.ensures) c.if-c-eq0.false c.if-old-stays.false _ c.outs.ensures.0)
