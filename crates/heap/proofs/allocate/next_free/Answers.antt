-- `heap::allocate::next_free` searches past the last object given, then from 1 on. Assumes nothing.
use Rattle.heap.proofs.AllocateLaws.{front, rest}
use Rattle.heap.proofs.allocate.next_free.Goals as goal

pub returns-in-None : goal.returns-in-None
returns-in-None c = rest _ _ c.in-None.ensures _ c.first_free-in-None.ensures

pub returns-in_default : goal.returns-in_default
returns-in_default c = front _ _ _ c.first_free.ensures c.in_default.not-None
