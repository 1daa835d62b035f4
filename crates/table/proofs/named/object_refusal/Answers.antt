-- `table::named::object_refusal` makes the tests of a named object in their order. Assumes nothing.
use borrow.Author.Tests.{not-true, not-false}
use mathlib.Core.Path.{sym, ◌∙◌}
use native.Mathlib.Omega.{arith}
use lib.ListN.{length}
use Rattle.layout.proofs.LimitLaws.{within-true}
use Rattle.table.proofs.NamedLaws as Named
use Rattle.table.proofs.named.object_refusal.Goals as goal

pub returns-then-bad_control : goal.returns-then-bad_control
returns-then-bad_control c = Named.bad-control _ _ _ _ _ (sym c.bad_control.ensures ∙ c.if-bad_control.true)

pub returns-then-room-c : goal.returns-then-room-c
returns-then-room-c c = Named.too_short _ _ _ _ _ (sym c.bad_control.ensures ∙ c.if-bad_control.false) (rw (sym c.room.ensures) c.if-room-c.true)

pub returns-then-not-within : goal.returns-then-not-within
returns-then-not-within c =
    let l = Named.room_fits (length c.args.records.now) (length c.args.slots.now) c.args.others c.args.c.n (rw (sym c.room.ensures) c.if-room-c.false) in
    Named.no-object _ _ _ _ _ (sym c.bad_control.ensures ∙ c.if-bad_control.false) l.0 l.1 l.2 (sym c.within.ensures ∙ not-true _ c.if-not-within.true-raw)

pub overflow_sub-r : goal.overflow_sub-r
overflow_sub-r c = (within-true _ _ _ (sym c.within.ensures ∙ not-false _ c.if-not-within.false-raw)).0

pub bounds-records-object : goal.bounds-records-object
bounds-records-object c =
    let l = Named.room_fits (length c.args.records.now) (length c.args.slots.now) c.args.others c.args.c.n (rw (sym c.room.ensures) c.if-room-c.false) in
    omega (arith, within-true _ _ _ (sym c.within.ensures ∙ not-false _ c.if-not-within.false-raw), l.0)

pub returns-then-legal : goal.returns-then-legal
returns-then-legal c =
    let l = Named.room_fits (length c.args.records.now) (length c.args.slots.now) c.args.others c.args.c.n (rw (sym c.room.ensures) c.if-room-c.false) in
    Named.is-named _ _ _ _ _ (sym c.bad_control.ensures ∙ c.if-bad_control.false) l.0 l.1 l.2 (sym c.within.ensures ∙ not-false _ c.if-not-within.false-raw) (sym c.legal.ensures ∙ c.if-legal.true)

pub returns-then-r-eq0 : goal.returns-then-r-eq0
returns-then-r-eq0 c =
    let l = Named.room_fits (length c.args.records.now) (length c.args.slots.now) c.args.others c.args.c.n (rw (sym c.room.ensures) c.if-room-c.false) in
    Named.is_free_lem _ _ _ _ _ (sym c.bad_control.ensures ∙ c.if-bad_control.false) l.0 l.1 l.2 (sym c.within.ensures ∙ not-false _ c.if-not-within.false-raw) c.if-r-eq0.true

pub returns-else-r-eq0 : goal.returns-else-r-eq0
returns-else-r-eq0 c =
    let l = Named.room_fits (length c.args.records.now) (length c.args.slots.now) c.args.others c.args.c.n (rw (sym c.room.ensures) c.if-room-c.false) in
    Named.is-damaged _ _ _ _ _ (sym c.bad_control.ensures ∙ c.if-bad_control.false) l.0 l.1 l.2 (sym c.within.ensures ∙ not-false _ c.if-not-within.false-raw) c.if-r-eq0.false (sym c.legal.ensures ∙ c.if-legal.false)
