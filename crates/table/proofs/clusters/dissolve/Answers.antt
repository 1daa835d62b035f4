-- `table::clusters::dissolve` is the pass over the records. Assumes nothing.
use Prim.Native.Nat.{ℕ}
use mathlib.Core.Path.{◌≡◌, ◌∙◌}
use native.Mathlib.Omega.{arith}
use lib.ListN.{get_or, length-take}
use Rattle.table.specs.Clusters.{dissolved_record, dissolved}
use Rattle.rules.specs.Buffers.{each_record}
use Rattle.table.proofs.ClusterLaws.{loose-is, same-is}
use Rattle.table.proofs.PartLaws.{part-begin, part-turn, part-end}
use Rattle.table.proofs.clusters.dissolve.Goals as goal
use Rattle.table.proofs.clusters.dissolve.Goals.{then-cluster_of-c, else-cluster_of-c}

pub loop-r-init : goal.loop-r-init
loop-r-init c = part-begin 1 _ _ _

pub loop-r-preserved : goal.loop-r-preserved
loop-r-preserved c =
    let l = c.loop-r in
    let n = length-take c.min-end.result c.args.records.now in
    let k = c.cluster_of.ensures in
    let turn = λ (v : ℕ) (h : v ≡ dissolved_record c.args.c (get_or l.r-items l.r-index 0)). part-turn 1 (λ x w. dissolved_record c.args.c w) c.min-end.result l.r-index l.r-items v 0 (omega arith) (omega arith) h ∙ l.invariant in
    elim c.if-cluster_of-c.branch [
      | then-cluster_of-c w ↦ rw w.r-items-is (turn _ (loose-is _ _ _ k _ w.if-cluster_of-c.true w.loose.ensures))
      | else-cluster_of-c w ↦ rw w.r-items-is (turn _ (same-is _ _ _ k w.if-cluster_of-c.false))
    ]

pub returns : goal.returns
unfolding dissolved each_record
returns c =
    let l = c.loop-r in
    part-end 1 _ c.args.n _ c.args.records.now c.min-end.ensures l.r-index _ l.auto.r-items c.loop-r-test.false l.invariant
