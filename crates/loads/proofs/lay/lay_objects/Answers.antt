-- `loads::lay::lay_objects` lays object after object. Assumes nothing.
use mathlib.Core.Path.{◌≡◌, refl, ap, ◌∙◌}
use mathlib.Core.Bool.{true}
use mathlib.Core.List.{List}
use Prim.Native.Nat.{ℕ, ◌-◌, ◌%◌, ◌<◌}
use lib.ListN.{length}
use Rattle.layout.specs.Limits.{slots_len}
use Rattle.loads.specs.Bodies.{Fit, shape_ok, width_at, entry_end}
use Rattle.loads.proofs.LayLaws.{Laying, laying-start, laying-records, laying-slots, laying-fit, laying-turn, laid-records, laid-slots}
use native.Mathlib.Omega.{arith}
use Rattle.loads.proofs.lay.lay_objects.Goals as goal

-- what is known of the object at the loop's place
fit : {n at : ℕ} {body recs₀ slots₀ recs slots : List ℕ} (s : Laying n body recs₀ slots₀ recs slots at) → shape_ok n body ≡ true → at < length body
    → Fit n body s.last at
fit s ok more = laying-fit _ _ _ _ _ _ _ s ok more

pub loop-at-init : goal.loop-at-init
loop-at-init c = laying-start _ _ _ _

pub number_at-i-requires : goal.number_at-i-requires
number_at-i-requires c = (fit c.loop-at.invariant c.requires.shape c.loop-at-test.true).head

pub overflow_sub-i : goal.overflow_sub-i
overflow_sub-i c = omega (arith, (fit c.loop-at.invariant c.requires.shape c.loop-at-test.true).above, c.number_at-i.ensures)

pub head_byte-width-requires : goal.head_byte-width-requires
head_byte-width-requires c = ((fit c.loop-at.invariant c.requires.shape c.loop-at-test.true).head, omega arith)

pub head_byte-requires : goal.head_byte-requires
head_byte-requires c = ((fit c.loop-at.invariant c.requires.shape c.loop-at-test.true).head, omega arith)

pub bounds-records-i : goal.bounds-records-i
bounds-records-i c =
    let f = fit c.loop-at.invariant c.requires.shape c.loop-at-test.true in
    omega (arith, f.above, f.most, c.number_at-i.ensures, c.requires.records-room, laying-records _ _ _ _ _ _ _ c.loop-at.invariant)

pub lay_words-at-requires : goal.lay_words-at-requires
unfolding slots_len
lay_words-at-requires c =
    let f = fit c.loop-at.invariant c.requires.shape c.loop-at-test.true in
    let i = c.number_at-i.ensures in
    let w = c.head_byte-width.ensures in
    let r = laying-slots _ _ _ _ _ _ _ c.loop-at.invariant in
    (omega (arith, f.whole, w), omega (arith, f.above, f.most, f.wide, i, w, c.slots_len.ensures, c.requires.slots-room, r))

pub loop-at-preserved : goal.loop-at-preserved
unfolding slots_len
loop-at-preserved c =
    let f = fit c.loop-at.invariant c.requires.shape c.loop-at-test.true in
    let w : c.head_byte-width.result % 16 ≡ width_at c.args.body.now c.loop-at.at = omega (arith, c.head_byte-width.ensures, f.wide) in
    let e : c.lay_words-at.result ≡ entry_end c.args.body.now c.loop-at.at = omega (arith, c.lay_words-at.ensures.0, w) in
    rw e
    (laying-turn _ _ _ _ _ _ _ c.loop-at.invariant c.requires.shape c.loop-at-test.true _ _ _ _ _
    (ap (λ (z : ℕ). z - 1) c.number_at-i.ensures)
    (c.with_sink.ensures ∙ rw (c.new_record.ensures, c.head_byte-width.ensures, c.head_byte.ensures) refl)
    refl
    refl
    (c.lay_words-at.ensures.1 ∙ rw (c.slots_len.ensures, w) refl))

pub returns : goal.returns
returns c = record {
  records_after = laid-records _ _ _ _ _ _ _ c.loop-at.invariant c.loop-at-test.false;
  slots_after = laid-slots _ _ _ _ _ _ _ c.loop-at.invariant c.loop-at-test.false;
}
