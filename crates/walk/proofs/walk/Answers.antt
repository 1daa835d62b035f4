-- `walk::walk` tests, walks and clears the work words. Assumes nothing.
use mathlib.Core.Path.{refl}
use Rattle.std.proofs.lemmas.Result.{err_from_is_err_and}
use Rattle.layout.proofs.RefusalLaws.{numbered}
use Rattle.wellformed.proofs.CheckLaws.{accepted-part}
use Rattle.walk.proofs.AcceptLaws.{trace-able, refused, accepted, fits, walked}
use Rattle.walk.proofs.walk.Goals as goal

pub returns-in_err-heap_refusal : goal.returns-in_err-heap_refusal
returns-in_err-heap_refusal c =
    let h = c.in_err-heap_refusal in
    let w = c.work_len-m in
    let p = err_from_is_err_and c.from_residual.result c.from_residual.ensures.1 in
    rw (p.1, p.2) (refused c.args.by _ _ _ _ _ _ _ _ _ _ w.ensures h.ensures (numbered h.field-0.0))

pub slice_bounds-trace-end : goal.slice_bounds-trace-end
slice_bounds-trace-end c =
    let h = c.in_ok-heap_refusal in
    let w = c.work_len-m in
    fits c.args.by _ _ _ _ _ _ c.args.work.now c.args.rest _ _ w.ensures h.ensures refl

pub trace-requires : goal.trace-requires
trace-requires c =
    let h = c.in_ok-heap_refusal in
    let w = c.work_len-m in
    let a = (accepted c.args.by _ _ _ _ _ _ c.args.work.now c.args.rest _ _ w.ensures h.ensures refl).0 in
    record {
      traceable = trace-able _ _ _ _ _ _ _ (accepted-part _ _ _ _ _ _ _ a _ w.ensures) c.args.by;
      r_in_bounds = a.roots-long;
    }

pub returns : goal.returns
returns c =
    walked c.args.by _ _ _ _ _ _ _ _ _ _ c.work_len-m.ensures c.in_ok-heap_refusal.ensures refl
    _ c.trace.new.work _ c.trace.ensures c.trace.auto.work c.zero.ensures
