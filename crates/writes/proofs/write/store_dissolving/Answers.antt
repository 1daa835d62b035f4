-- `writes::write::store_dissolving` meets its contract. Assumes nothing.
use Rattle.writes.proofs.WriteLaws.{slot-there, stored-in, gone, set-gone}
use Rattle.writes.proofs.write.store_dissolving.Goals as goal

pub returns : goal.returns
returns c =
    let a = c.requires in
    let r = c.record_of.ensures in
    let e = stored-in _ _ _ _ _ _ _ a _ c.others-room.ensures _ _ r c.cluster_of-h.ensures _ _ _ c.attempt.ensures in
    let s = slot-there _ _ _ _ _ _ _ a in (
      gone _ _ _ _ _ _ s _ _ r c.cluster_of-h.ensures _ _ e.0 c.dissolve.ensures,
      e.1,
      set-gone _ _ _ _ _ _ s _ _ r c.cluster_of-h.ensures _ _ _ c.put_set.ensures,
    )
