-- `writes::write::store_word` meets its contract. Assumes nothing.
use native.Mathlib.Omega.{arith}
use Rattle.writes.proofs.WriteLaws.{place-low, place-there, written-set, word-stored}
use Rattle.writes.proofs.write.store_word.Goals as goal

pub overflow_add-slots : goal.overflow_add-slots
overflow_add-slots c = omega (arith, place-low _ _ _ _ _ c.requires _ c.slots_len.ensures)

pub offset_bounds-slots-slots_len : goal.offset_bounds-slots-slots_len
offset_bounds-slots-slots_len c = omega (arith, place-low _ _ _ _ _ c.requires _ c.slots_len.ensures)

pub bounds-slots-slots_len : goal.bounds-slots-slots_len
bounds-slots-slots_len c = place-there _ _ _ _ _ c.requires _ c.slots_len.ensures

pub returns : goal.returns
returns c =
    let a = c.args in
    (written-set _ _ _ _ _ c.requires _ c.with_written.ensures, word-stored _ a.slot a.word a.slots.now _ c.slots_len.ensures)
