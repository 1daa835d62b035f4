-- `take_up` meets its contract.
use mathlib.Core.List.{[]}
use Rattle.walk.specs.State.{way}
use Rattle.walk.proofs.VisitLaws.{take-dropped, take-scanned, state-taken, still-unmarked}
use Rattle.walk.proofs.visit.take_up.Goals as goal

pub returns-then-settled : goal.returns-then-settled
returns-then-settled c =
    let put-bit-call = c.put_bit in
    let is-settled-call = c.is_settled-settled in
    rw put-bit-call.ensures
    (record { moved = λ list sets. take-dropped (way c.args.heap.by list sets) _ _ _ _ _ c.requires.state _ c.requires.obj _ c.put.ensures c.put.auto.work _ is-settled-call.ensures c.if-settled.true })

pub scan-requires : goal.scan-requires
scan-requires c =
    let put-call = c.put in
    let is-settled-call = c.is_settled-settled in
    let u = c.put_bit.ensures in
    let m = put-call in record {
      state = rw u (state-taken (way c.args.heap.by [] []) _ _ _ _ _ c.requires.state _ c.requires.obj _ m.ensures m.auto.work);
      obj = c.requires.obj;
      x_value = rw u (still-unmarked (way c.args.heap.by [] []) _ _ _ _ _ c.requires.state _ c.requires.obj _ m.ensures m.auto.work _ is-settled-call.ensures c.if-settled.false);
    }

pub returns : goal.returns
returns c =
    let is-settled-call = c.is_settled-settled in
    let if1 = c.if-settled in
    let put-bit-call = c.put_bit in
    let scan-call = c.scan in
    record {
      moved = λ list sets.
          take-scanned (way c.args.heap.by list sets) _ _ _ _ _ c.requires.state _ c.requires.obj _ c.put.ensures c.put.auto.work _ is-settled-call.ensures if1.false _ _ _
          (rw put-bit-call.ensures at scan-call.ensures);
    }
