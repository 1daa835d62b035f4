-- `writes::write::make_set` meets its contract. Assumes nothing.
use Rattle.writes.proofs.WriteLaws.{set-none, set-made}
use Rattle.writes.proofs.write.make_set.Goals as goal

pub returns-then-h-ne0 : goal.returns-then-h-ne0
returns-then-h-ne0 c =
    set-made _ _ _ _ _ _ _ c.record_of.ensures c.cluster_of-h.ensures c.requires _ c.cluster_set.ensures _ c.put_set.ensures

pub returns-else-h-ne0 : goal.returns-else-h-ne0
returns-else-h-ne0 c = set-none _ _ _ _ _ _ _ c.record_of.ensures c.cluster_of-h.ensures c.if-h-ne0.false
