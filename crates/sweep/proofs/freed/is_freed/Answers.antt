-- `sweep::freed::is_freed` meets its contract. Assumes nothing.
use Rattle.sweep.proofs.FreedLaws.{freed-used, freed-none}
use Rattle.sweep.proofs.freed.is_freed.Goals as goal

pub returns-then-in_use : goal.returns-then-in_use
returns-then-in_use c = freed-used _ _ _ _ c.record_of-r.ensures _ _ c.in_use.ensures c.is_marked.ensures c.if-in_use.true

pub returns-else-in_use : goal.returns-else-in_use
returns-else-in_use c = freed-none _ _ _ _ c.record_of-r.ensures _ c.in_use.ensures c.if-in_use.false
