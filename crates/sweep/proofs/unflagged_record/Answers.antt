-- `sweep::unflagged_record` clears three bits, one after the other. Assumes nothing.
use Rattle.sweep.proofs.MarkLaws.{unflagged-by}
use Rattle.sweep.proofs.unflagged_record.Goals as goal

pub returns : goal.returns
returns c = unflagged-by _ _ _ _ c.with_marked.ensures c.with_postponed.ensures c.with_reached.ensures
