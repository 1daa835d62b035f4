-- `heap::allocate::allocate` writes the record and clears the slots of the object chosen. Assumes nothing.
use native.Mathlib.Omega.{arith}
use Rattle.heap.proofs.AllocateLaws.{given-facts, given-slots, accepted}
use Rattle.heap.proofs.allocate.allocate.Goals as goal

pub overflow_sub-records : goal.overflow_sub-records
overflow_sub-records c = (given-facts _ _ _ _ _ c.in-Ok.ensures.tests c.in-Ok.ensures.object).low

pub bounds-records-x : goal.bounds-records-x
bounds-records-x c = omega (arith, given-facts _ _ _ _ _ c.in-Ok.ensures.tests c.in-Ok.ensures.object)

pub overflow_sub-x : goal.overflow_sub-x
overflow_sub-x c = (given-facts _ _ _ _ _ c.in-Ok.ensures.tests c.in-Ok.ensures.object).low

pub clear_object-requires : goal.clear_object-requires
clear_object-requires c = given-slots _ _ _ _ (given-facts _ _ _ _ _ c.in-Ok.ensures.tests c.in-Ok.ensures.object) _ c.slots_len.ensures

pub returns-in-Ok : goal.returns-in-Ok
returns-in-Ok c =
    accepted _ _ _ _ _ c.in-Ok.ensures.tests c.in-Ok.ensures.object _ _ _ _
    c.new_record.ensures c.slots_len.ensures c.clear_object.ensures c.with_last.ensures
