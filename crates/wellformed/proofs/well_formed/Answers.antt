-- `wellformed::well_formed` is the check of specs/: the lengths, then the objects and the roots, then the list and the sets. Assumes nothing.
use Rattle.std.proofs.Common.{rules}
use Rattle.table.proofs.RoomLaws.{heap-long, room_of_lem}
use Rattle.wellformed.proofs.CheckLaws.{in-size, broken, by-sets}
use Rattle.wellformed.proofs.well_formed.Goals as goal

pub formed_ok-requires : goal.formed_ok-requires
formed_ok-requires c =
    let a = c.args.heap.now in
    let s = in-size c.args.c a.records.now a.slots.now a.roots.now a.sinks.now a.sets.now _ (search rules) c.if-not-short_heap.true in
    record {
      room = room_of_lem _ _ _ _ _ _ _ s.1 s.0;
      r_in_bounds = (heap-long _ _ _ _ _ _ _ s.1).roots-long;
    }

pub returns-then-list_ok : goal.returns-then-list_ok
returns-then-list_ok c =
    let a = c.args.heap.now in
    by-sets c.args.c a.records.now a.slots.now a.roots.now a.sinks.now a.sets.now c.if-c-le-OBJECT_MAX.value c.if-not-short_heap.value _
    (search rules) (search rules) (search rules) c.if-list_ok.true _ c.sets_ok.ensures

pub returns-else-list_ok : goal.returns-else-list_ok
returns-else-list_ok c =
    let a = c.args.heap.now in
    broken c.args.c a.records.now a.slots.now a.roots.now a.sinks.now a.sets.now c.if-c-le-OBJECT_MAX.value c.if-not-short_heap.value _
    (search rules) (search rules) (search rules) c.if-list_ok.false
