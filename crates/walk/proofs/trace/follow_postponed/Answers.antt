-- `follow_postponed` meets its contract. The loop's invariant, `Retaking`: the walk ends as it does from the start of the loop, and x is the lowest postponed object.
use mathlib.Core.Path.{◌∙◌}
use Rattle.walk.proofs.EndLaws.{retaking-here, retaking-object, retaking-ready, retaking-less, retaking-on, retaking-done}
use native.Mathlib.Omega.{arith}
use Rattle.walk.proofs.trace.follow_postponed.Goals as goal

pub loop-x-init : goal.loop-x-init
loop-x-init c =
    let known = c.slice_known-2-1.given in
    retaking-here _ _ _ _ _ _ c.requires (λ i. (known i).fits) c.lowest-x.ensures

pub take_up-top-requires : goal.take_up-top-requires
take_up-top-requires c =
    let g = c.loop-x.invariant in
    record {
      state = g.ready.state;
      obj = retaking-object _ _ _ _ _ _ _ _ g (omega arith);
    }

pub drain-requires : goal.drain-requires
drain-requires c =
    let a = c.args in
    let take-up-call = c.take_up-top in
    retaking-ready _ _ _ _ _ _ _ _ c.loop-x.invariant (omega arith) _ _ _ (take-up-call.ensures.moved a.heap.sinks.now a.heap.sets.now)

pub loop-x-smaller : goal.loop-x-smaller
loop-x-smaller c =
    let a = c.args in
    let drain-call = c.drain in
    let take-up-call = c.take_up-top in
    retaking-less _ _ _ _ _ _ _ _ c.loop-x.invariant (omega (arith, c.loop-x-test.true)) _ _ _ (take-up-call.ensures.moved a.heap.sinks.now a.heap.sets.now) _ _ drain-call.ensures

pub loop-x-preserved : goal.loop-x-preserved
loop-x-preserved c =
    let a = c.args in
    let known = c.slice_known-in-loop-x-4-1.given in
    retaking-on _ _ _ _ _ _ _ _ c.loop-x.invariant (omega (arith, c.loop-x-test.true)) _ _ _ (c.take_up-top.ensures.moved a.heap.sinks.now a.heap.sets.now) _ _ c.drain.ensures _ (λ i. (known i).fits) c.lowest-x-in-loop-x.ensures
    (c.drain.auto.records ∙ c.take_up-top.auto.records) (c.drain.auto.work ∙ c.take_up-top.auto.work)

pub returns : goal.returns
returns c = retaking-done _ _ _ _ _ _ _ _ c.loop-x.invariant c.loop-x-test.false
