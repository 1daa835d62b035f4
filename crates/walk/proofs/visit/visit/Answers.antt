-- `visit` meets its contract.
use mathlib.Core.Path.{subst}
use mathlib.Core.Bool.{Bool}
use Rattle.walk.specs.State.{way, way_of, Ready}
use Rattle.walk.proofs.VisitLaws.{visit-free, visit-head, visit-member, walks-clusters}
use Rattle.walk.proofs.visit.visit.Goals as goal

pub returns-then-c-eq0 : goal.returns-then-c-eq0
returns-then-c-eq0 c =
    let cluster-seen-call = c.cluster_seen-c in
    let if1 = c.if-c-eq0 in
    let scan-unmarked-call = c.scan_unmarked in
    visit-free (way_of c.args.heap) _ _ _ _ _ _ _ cluster-seen-call.ensures if1.true _ _ _ scan-unmarked-call.ensures

pub visit_head-requires : goal.visit_head-requires
visit_head-requires c =
    let cluster-seen-call = c.cluster_seen-c in
    let if1 = c.if-c-eq0 in
    let e = walks-clusters (way_of c.args.heap) c.args.heap.n c.args.records.now c.args.heap.slots.now c.args.work.now c.args.top c.args.x _ cluster-seen-call.ensures if1.false in
    record {
      ready = subst (λ (b : Bool). Ready (way b c.args.heap.sinks.now c.args.heap.sets.now) c.args.heap.n c.args.records.now c.args.heap.slots.now c.args.work.now c.args.top) e c.requires.ready;
      obj = c.requires.obj;
    }

pub returns-then-c-x : goal.returns-then-c-x
returns-then-c-x c =
    let cluster-seen-call = c.cluster_seen-c in
    let if1 = c.if-c-eq0 in
    let if2 = c.if-c-x in
    let visit-head-call = c.visit_head in
    visit-head (way_of c.args.heap) _ _ _ _ _ _ _ cluster-seen-call.ensures if1.false if2.true _ _ _ visit-head-call.ensures

pub returns : goal.returns
returns c =
    let cluster-seen-call = c.cluster_seen-c in
    let if1 = c.if-c-eq0 in
    let if2 = c.if-c-x in
    let visit-member-call = c.visit_member in
    visit-member (way_of c.args.heap) _ _ _ _ _ _ _ cluster-seen-call.ensures if1.false if2.false _ _ _ (visit-member-call.ensures.moved _ c.args.heap.sinks.now _ c.requires.ready.state)
