-- `saves::put_image` stores the chunks. Assumes nothing.
use Rattle.saves.proofs.SaveLaws.{image-put}
use Rattle.saves.proofs.put_image.Goals as goal

pub returns : goal.returns
returns c =
    let a = c.args in
    image-put a.c a.len a.k a.heap.now.records.now a.heap.now.slots.now a.heap.now.roots.now a.heap.now.sinks.now c.requires.0 a.image.now _ _ _ _
    c.put_sizes.ensures c.put_objects.ensures c.put_roots.ensures c.put_sinks.ensures
