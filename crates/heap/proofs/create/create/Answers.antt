-- `heap::create::create` clears the five slices, or refuses. Assumes nothing.
use Rattle.heap.proofs.CreateLaws.{created}
use Rattle.heap.proofs.create.create.Goals as goal

pub returns : goal.returns
returns c =
    created _ _ _ _ _ _ _ _ _ c.short_heap-short.ensures c.in_default.ensures _ _ _ _ _ _ _
    c.new_control.ensures c.zero.ensures c.slots_len.ensures c.zero-2.ensures c.zero-3.ensures c.zero-4.ensures c.zero-5.ensures
