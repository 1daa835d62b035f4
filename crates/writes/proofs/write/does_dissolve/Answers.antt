-- `writes::write::does_dissolve` meets its contract. Assumes nothing.
use native.Mathlib.Omega.{arith}
use Rattle.writes.proofs.WriteLaws.{place-low, place-there, dissolves-none, dissolves-outside, dissolves-inside}
use Rattle.writes.proofs.write.does_dissolve.Goals as goal

pub returns-then-c-eq0 : goal.returns-then-c-eq0
returns-then-c-eq0 c = dissolves-none _ _ _ _ _ c.requires _ _ _ c.record_of.ensures c.cluster_of-c.ensures c.if-c-eq0.true

pub overflow_add-old : goal.overflow_add-old
overflow_add-old c = omega (arith, place-low _ _ _ _ _ c.requires _ c.slots_len.ensures)

pub offset_bounds-slots-slots_len : goal.offset_bounds-slots-slots_len
offset_bounds-slots-slots_len c = omega (arith, place-low _ _ _ _ _ c.requires _ c.slots_len.ensures)

pub bounds-slots-slots_len : goal.bounds-slots-slots_len
bounds-slots-slots_len c = place-there _ _ _ _ _ c.requires _ c.slots_len.ensures

pub returns-then-cluster_of-c : goal.returns-then-cluster_of-c
returns-then-cluster_of-c c =
    dissolves-outside _ _ _ _ _ c.requires _ _ _ c.record_of.ensures c.cluster_of-c.ensures c.if-c-eq0.false _ c.slots_len.ensures _ _ c.record_of-2.ensures c.cluster_of.ensures c.if-cluster_of-c.true

pub still_holds-requires : goal.still_holds-requires
still_holds-requires c = c.requires

pub returns : goal.returns
returns c =
    dissolves-inside _ _ _ _ _ c.requires _ _ _ c.record_of.ensures c.cluster_of-c.ensures c.if-c-eq0.false _ c.slots_len.ensures _ _ c.record_of-2.ensures c.cluster_of.ensures c.if-cluster_of-c.false _ c.still_holds.ensures
