-- `saves::write_image` is the rule of the call, at each of its three ends. Assumes nothing.
use mathlib.Core.Path.{refl}
use native.Mathlib.Omega.{arith}
use Rattle.std.proofs.Common.{rules}
use Rattle.saves.proofs.SaveLaws.{image-most, list-few, refused, savable, too_small, saved}
use Rattle.saves.proofs.write_image.Goals as goal

pub returns-in_err-heap_refusal : goal.returns-in_err-heap_refusal
returns-in_err-heap_refusal c = search (rules, refused)

pub objects_len-objects-requires : goal.objects_len-objects-requires
objects_len-objects-requires c =
    let a = c.args in
    let S = savable a.c a.heap.now.records.now a.heap.now.slots.now a.heap.now.roots.now a.heap.now.sinks.now a.heap.now.sets.now a.image.now c.in_ok-heap_refusal.ensures _ _ refl refl in
    (S.heap.room.most, S.heap.room.recs-long)

pub sinks_count-listed-requires : goal.sinks_count-listed-requires
sinks_count-listed-requires c =
    let a = c.args in
    (savable a.c a.heap.now.records.now a.heap.now.slots.now a.heap.now.roots.now a.heap.now.sinks.now a.heap.now.sets.now a.image.now c.in_ok-heap_refusal.ensures _ _ refl refl).list-long

pub overflow_add-length : goal.overflow_add-length
overflow_add-length c =
    let a = c.args in
    omega (
      arith,
      image-most a.c a.heap.now.records.now a.heap.now.slots.now a.heap.now.roots.now a.heap.now.sinks.now a.heap.now.sets.now a.image.now c.in_ok-heap_refusal.ensures _ _
          c.objects_len-objects.ensures c.sinks_count-listed.ensures,
    )

pub overflow_mul-length : goal.overflow_mul-length
overflow_mul-length c =
    let a = c.args in
    omega (
      arith,
      image-most a.c a.heap.now.records.now a.heap.now.slots.now a.heap.now.roots.now a.heap.now.sinks.now a.heap.now.sets.now a.image.now c.in_ok-heap_refusal.ensures _ _
          c.objects_len-objects.ensures c.sinks_count-listed.ensures,
    )

pub overflow_add-length-2 : goal.overflow_add-length-2
overflow_add-length-2 c =
    let a = c.args in
    omega (
      arith,
      image-most a.c a.heap.now.records.now a.heap.now.slots.now a.heap.now.roots.now a.heap.now.sinks.now a.heap.now.sets.now a.image.now c.in_ok-heap_refusal.ensures _ _
          c.objects_len-objects.ensures c.sinks_count-listed.ensures,
    )

pub sinks_len-requires : goal.sinks_len-requires
sinks_len-requires c =
    let a = c.args in
    list-few _ _ _ _ _ _ _
    (savable a.c a.heap.now.records.now a.heap.now.slots.now a.heap.now.roots.now a.heap.now.sinks.now a.heap.now.sets.now a.image.now c.in_ok-heap_refusal.ensures _ _
    c.objects_len-objects.ensures c.sinks_count-listed.ensures)

pub overflow_add-length-3 : goal.overflow_add-length-3
overflow_add-length-3 c =
    let a = c.args in
    omega (
      arith,
      image-most a.c a.heap.now.records.now a.heap.now.slots.now a.heap.now.roots.now a.heap.now.sinks.now a.heap.now.sets.now a.image.now c.in_ok-heap_refusal.ensures _ _
          c.objects_len-objects.ensures c.sinks_count-listed.ensures,
      c.sinks_len.ensures,
    )

pub returns-then-image-length : goal.returns-then-image-length
returns-then-image-length c = too_small _ _ _ _ _ _ _ c.in_ok-heap_refusal.ensures _ _ c.objects_len-objects.ensures c.sinks_count-listed.ensures (omega (arith, c.if-image-length.true, c.sinks_len.ensures))

pub put_image-requires : goal.put_image-requires
put_image-requires c =
    let a = c.args in (
      savable a.c a.heap.now.records.now a.heap.now.slots.now a.heap.now.roots.now a.heap.now.sinks.now a.heap.now.sets.now a.image.now c.in_ok-heap_refusal.ensures _ _
          c.objects_len-objects.ensures c.sinks_count-listed.ensures,
      omega (arith, c.if-image-length.false, c.sinks_len.ensures),
    )

pub returns : goal.returns
returns c =
    rw c.sinks_len.ensures
    (saved _ _ _ _ _ _ _ c.in_ok-heap_refusal.ensures _ _ c.objects_len-objects.ensures c.sinks_count-listed.ensures (omega (arith, c.if-image-length.false, c.sinks_len.ensures)) _ c.put_image.ensures)
