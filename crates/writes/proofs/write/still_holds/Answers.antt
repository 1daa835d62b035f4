-- `writes::write::still_holds` meets its contract: no word before k, after the store, is the pointer. Assumes nothing.
use mathlib.Core.Path.{sym, ◌∙◌}
use native.Mathlib.Omega.{arith}
use Rattle.writes.proofs.WriteLaws.{place-low, place-there, other-slot, after-at, not_yet, still-there, not_there}
use Rattle.writes.proofs.write.still_holds.Goals as goal

pub loop-k-init : goal.loop-k-init
loop-k-init c = λ q p. absurd (omega arith)

pub word_after-requires : goal.word_after-requires
word_after-requires c =
    let s = other-slot _ _ _ _ _ c.requires c.loop-k.k _ _ c.loop-k-test.true c.width_of-width.ensures c.record_of.ensures in
    (place-low _ _ _ _ _ s _ c.slots_len-at.ensures, place-there _ _ _ _ _ s _ c.slots_len-at.ensures)

pub returns-then-word_after-pointer : goal.returns-then-word_after-pointer
returns-then-word_after-pointer c =
    let s = c.requires in
    let d = c.width_of-width.ensures in
    let r = c.record_of.ensures in
    still-there _ _ _ _ _ s _ _ _ d r _ c.loop-k.k c.loop-k-test.true
    (sym (after-at _ _ _ _ _ s _ _ _ d r c.loop-k.k c.loop-k-test.true _ c.slots_len-at.ensures _ c.word_after.ensures) ∙ c.if-word_after-pointer.true)

pub loop-k-preserved : goal.loop-k-preserved
loop-k-preserved c =
    let s = c.requires in
    let d = c.width_of-width.ensures in
    let r = c.record_of.ensures in
    not_yet _ _ _ _ _ s _ _ _ d r _ c.loop-k.k _
    (after-at _ _ _ _ _ s _ _ _ d r c.loop-k.k c.loop-k-test.true _ c.slots_len-at.ensures _ c.word_after.ensures) c.if-word_after-pointer.false c.loop-k.invariant

pub returns : goal.returns
returns c =
    not_there _ _ _ _ _ c.requires _ _ _ c.width_of-width.ensures c.record_of.ensures _ c.loop-k.k (omega (arith, c.loop-k-test.false)) c.loop-k.invariant
