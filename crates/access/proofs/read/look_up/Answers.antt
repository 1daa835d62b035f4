-- `access::read::look_up` finds the word, after the tests of the object and of the slot. Assumes nothing.
use Rattle.access.proofs.ReadLaws.{got}
use Rattle.access.proofs.read.look_up.Goals as goal

pub returns : goal.returns
returns c = got _ _ _ _ _ c.in_ok-object_refusal.ensures _ c.width_of-width.ensures c.if-width-slot.false _ c.slots_len.ensures
