-- `heap::allocate::choose` makes the tests of allocate in their order; the check finds its ends by their laws. Assumes nothing.
use lib.ListN.{length}
use mathlib.Core.Path.{sym, ◌∙◌}
use Rattle.layout.proofs.ControlLaws.{control-facts}
use Rattle.table.proofs.NamedLaws.{object-room-fits}
use Rattle.heap.proofs.allocate.choose.Goals as goal

pub next_free-requires : goal.next_free-requires
next_free-requires c =
    let s = control-facts c.args.c (sym c.bad_control.ensures ∙ c.if-bad_control.false) in
    let f = object-room-fits (length c.args.records.now) (length c.args.slots.now) c.args.c.n (rw (sym c.object_room.ensures) c.if-object_room-c.false) in
    (s.last, s.sizes.most, f.0)
