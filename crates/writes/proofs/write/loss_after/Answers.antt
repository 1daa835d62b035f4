-- `writes::write::loss_after` meets its contract. Assumes nothing.
use native.Mathlib.Omega.{arith}
use Rattle.writes.proofs.WriteLaws.{loss-low, loss-is}
use Rattle.writes.proofs.write.loss_after.Goals as goal

pub overflow_add-result : goal.overflow_add-result
overflow_add-result c = let p = c.requires in omega (arith, loss-low _ _ _ _ _ p.0 p.1 c.members.ensures)

pub returns : goal.returns
returns c =
    loss-is _ _ _ _ _ _ _ c.record_of.ensures c.cluster_of.ensures c.members.ensures
