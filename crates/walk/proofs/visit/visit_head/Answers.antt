-- `visit_head` meets its contract.
use mathlib.Core.Path.{sym, ap, ◌∙◌}
use Rattle.records.specs.Record.{is_reached}
use Rattle.walk.specs.Marks.{flags_of}
use Rattle.walk.proofs.VisitLaws.{head_passed, head-reached, state-reached, linked-reached}
use Rattle.walk.proofs.SinkLaws.{sinks-objects, sinks-scanned}
use native.Mathlib.Omega.{arith}
use Rattle.walk.proofs.visit.visit_head.Goals as goal

pub returns-then-is_reached : goal.returns-then-is_reached
unfolding flags_of
returns-then-is_reached c =
    head_passed _ _ _ _ _ c.requires.ready.state _ c.requires.obj c.args.heap.sinks.now (sym (c.is_reached.ensures ∙ ap is_reached c.record_of.ensures) ∙ c.if-is_reached.true)

pub scan_sinks-at-requires : goal.scan_sinks-at-requires
scan_sinks-at-requires c =
    let g = c.requires.ready.listing in
    record {
      state = c.requires.ready.state;
      sink_max_in_bounds = (g.places, sinks-objects _ _ _ _ g _ c.requires.obj);
    }

pub put_bit-requires : goal.put_bit-requires
put_bit-requires c =
    (c.requires.obj.0, omega (arith, c.requires.obj, c.scan_sinks-at.ensures.state.sized.room.recs-long))

pub scan_outs-requires : goal.scan_outs-requires
scan_outs-requires c =
    let put-bit-call = c.put_bit in
    let a = sinks-scanned _ _ _ _ c.requires.ready.listing _ c.requires.obj _ _ _ _ _ c.scan_sinks-at.ensures in record {
      state = rw put-bit-call.ensures (state-reached _ _ _ _ _ c.requires.ready.state _ c.requires.obj c.args.heap.sinks.now _ _ _ a);
      linked = rw put-bit-call.ensures (linked-reached _ _ _ _ _ c.requires.ready.state _ c.requires.obj c.args.heap.sinks.now _ _ _ a c.requires.ready.linked);
      obj = c.requires.obj;
    }

pub returns : goal.returns
unfolding flags_of
returns c =
    let a = sinks-scanned _ _ _ _ c.requires.ready.listing _ c.requires.obj _ _ _ _ _ c.scan_sinks-at.ensures in
    head-reached _ _ _ _ _ c.requires.ready.state _ c.requires.obj c.args.heap.sinks.now _ _ _ a
    (sym (c.is_reached.ensures ∙ ap is_reached c.record_of.ensures) ∙ c.if-is_reached.false) _ _ _
    (rw c.put_bit.ensures at c.scan_outs.ensures)
