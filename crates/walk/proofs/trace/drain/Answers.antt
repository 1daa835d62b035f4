-- `drain` meets its contract. The loop's invariant, `Draining`: from here on the walk ends as it does from the start of the loop.
use Rattle.walk.proofs.EndLaws.{draining-here, next-object, ready-pop, draining-less, draining-on, drained}
use native.Mathlib.Omega.{arith}
use Rattle.walk.proofs.trace.drain.Goals as goal

pub loop-at-init : goal.loop-at-init
loop-at-init c =
    draining-here _ _ _ _ _ _ c.requires

pub overflow_add-at : goal.overflow_add-at
overflow_add-at c =
    let l = c.loop-at in
    omega (arith, l.invariant.ready.state.sized)

pub visit_pending-at-requires : goal.visit_pending-at-requires
visit_pending-at-requires c =
    let l = c.loop-at in
    let test = c.loop-at-test in
    let r = l.invariant.ready in
    let t = test.true in
    record {
      ready = ready-pop _ _ _ _ _ _ r t;
      obj = next-object _ _ _ _ _ _ r t;
    }

pub loop-at-smaller : goal.loop-at-smaller
loop-at-smaller c =
    let l = c.loop-at in
    let test = c.loop-at-test in
    let visit-call = c.visit_pending-at in
    draining-less _ _ _ _ _ _ _ _ _ l.invariant test.true _ _ _ visit-call.ensures

pub loop-at-preserved : goal.loop-at-preserved
loop-at-preserved c =
    let l = c.loop-at in
    let test = c.loop-at-test in
    draining-on _ _ _ _ _ _ _ _ _ l.invariant test.true _ _ _ c.visit_pending-at.ensures c.visit_pending-at.auto.records c.visit_pending-at.auto.work

pub returns : goal.returns
returns c = drained _ _ _ _ _ _ _ _ _ c.loop-at.invariant c.loop-at-test.false
