-- `table::clusters::members` counts object by object. Assumes nothing.
use Rattle.table.proofs.ClusterLaws.{members-none, members-found, members-passed, members-all}
use native.Mathlib.Omega.{arith}
use Rattle.table.proofs.clusters.members.Goals as goal
use Rattle.table.proofs.clusters.members.Goals.{then-cluster_of-c, else-cluster_of-c}

pub loop-i-init : goal.loop-i-init
loop-i-init c = (omega arith, members-none _ _ _)

pub loop-i-preserved : goal.loop-i-preserved
loop-i-preserved c =
    let l = c.loop-i in
    let r = c.record_of.ensures in
    elim c.if-cluster_of-c.branch [
      | then-cluster_of-c w ↦ (omega arith, rw w.k-is (members-found _ _ _ l.i _ _ _ r c.cluster_of.ensures l.invariant.1 w.if-cluster_of-c.true))
      | else-cluster_of-c w ↦ (omega arith, rw w.k-is (members-passed _ _ _ l.i _ _ _ r c.cluster_of.ensures l.invariant.1 w.if-cluster_of-c.false))
    ]

pub returns : goal.returns
returns c = let l = c.loop-i in members-all _ _ _ l.i _ (omega arith) l.invariant.1
