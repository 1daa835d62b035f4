-- `follow_roots` meets its contract. The loop's invariant: the first i roots were followed.
use lib.ListN.{take}
use Rattle.graph.specs.Heap.{pointers}
use Rattle.walk.specs.State.{way_of}
use Rattle.walk.proofs.TraceLaws.{roots-begin, root-object, root-followed, root-passed, followed-at}
use native.Mathlib.Omega.{arith}
use Rattle.walk.proofs.trace.follow_roots.Goals as goal
use Rattle.walk.proofs.trace.follow_roots.Goals.{then-w-ne0, else-w-ne0}

pub loop-i-init : goal.loop-i-init
loop-i-init c = roots-begin _ _ _ _ _ c.args.roots.now c.requires.ready

pub follow-requires : goal.follow-requires
follow-requires c =
    let l = c.loop-i in
    let test = c.loop-i-test in
    let a = c.args in
    record {
      ready = l.invariant.ready;
      obj = root-object (way_of a.heap) a.heap.n a.heap.slots.now a.records.now a.roots.now a.r l.i test.true c.requires.r_in_bounds.0 c.requires.r_in_bounds.1 c.if-w-ne0.true;
    }

pub loop-i-preserved : goal.loop-i-preserved
loop-i-preserved c =
    let l = c.loop-i in
    let a = c.args in
    let b = c.requires.r_in_bounds in
    elim c.if-w-ne0.branch [
      | then-w-ne0 w ↦
          rw (w.records-is, w.work-is)
          (root-followed (way_of a.heap) a.heap.n a.heap.slots.now a.records.now a.roots.now a.r l.i c.loop-i-test.true b.0 b.1 w.if-w-ne0.true
          l.records l.work _ _ l.invariant w.follow.ensures)
      | else-w-ne0 w ↦
          rw (w.records-is, w.work-is)
          (root-passed (way_of a.heap) a.heap.n a.heap.slots.now a.records.now a.roots.now a.r l.i c.loop-i-test.true b.0 b.1 w.if-w-ne0.false
          l.records l.work l.invariant)
    ]

pub returns : goal.returns
returns c =
    let l = c.loop-i in
    followed-at _ _ _ _ (λ k. pointers (take k c.args.roots.now)) _ _ _ _ (omega arith) (omega arith) l.invariant
