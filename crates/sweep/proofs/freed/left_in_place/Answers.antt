-- `sweep::freed::left_in_place` asks for the bit. Assumes nothing.
use Rattle.sweep.proofs.FreedLaws.{place-empty, place-left}
use Rattle.sweep.proofs.freed.left_in_place.Goals as goal

pub returns-then-has_bit : goal.returns-then-has_bit
returns-then-has_bit c = place-empty _ _ _ c.has_bit.ensures c.if-has_bit.true

pub returns-else-has_bit : goal.returns-else-has_bit
returns-else-has_bit c = place-left _ _ _ c.has_bit.ensures c.if-has_bit.false
