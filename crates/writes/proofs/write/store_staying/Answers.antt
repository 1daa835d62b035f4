-- `writes::write::store_staying` meets its contract. Assumes nothing.
use Rattle.writes.proofs.WriteLaws.{stays, set-stays}
use Rattle.writes.proofs.write.store_staying.Goals as goal

pub returns : goal.returns
returns c =
    let e = c.store_word.ensures in
    let s = c.requires in
    let r = stays _ _ _ _ _ _ s _ _ e.0 e.1 _ c.exact_out-out.ensures _ c.with_out.ensures in
    (r, e.1, set-stays _ _ _ _ _ _ s _ _ _ _ _ r e.1 c.make_set.ensures)
