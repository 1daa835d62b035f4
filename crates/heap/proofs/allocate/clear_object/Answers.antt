-- `heap::allocate::clear_object` clears eight slots one after the other. Assumes nothing.
use native.Mathlib.Omega.{arith}
use lib.ListN.{length-set}
use Rattle.table.proofs.ClearedLaws.{cleared-eight}
use Rattle.heap.proofs.allocate.clear_object.Goals as goal

pub bounds-slots-at-2 : goal.bounds-slots-at-2
bounds-slots-at-2 c = simp length-set (omega arith)

pub bounds-slots-at-3 : goal.bounds-slots-at-3
bounds-slots-at-3 c = simp length-set (omega arith)

pub bounds-slots-at-4 : goal.bounds-slots-at-4
bounds-slots-at-4 c = simp length-set (omega arith)

pub bounds-slots-at-5 : goal.bounds-slots-at-5
bounds-slots-at-5 c = simp length-set (omega arith)

pub bounds-slots-at-6 : goal.bounds-slots-at-6
bounds-slots-at-6 c = simp length-set (omega arith)

pub bounds-slots-at-7 : goal.bounds-slots-at-7
bounds-slots-at-7 c = simp length-set (omega arith)

pub bounds-slots-at-8 : goal.bounds-slots-at-8
bounds-slots-at-8 c = simp length-set (omega arith)

pub returns : goal.returns
returns c = cleared-eight _ _ c.requires
