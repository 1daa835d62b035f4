-- `writes::write::attempt` meets its contract: one case for each of its ends. Assumes nothing.
use native.Mathlib.Omega.{arith}
use Rattle.writes.proofs.WriteLaws.{ends_refused, slot-there, ends-elsewhere, ends-stored}
use Rattle.writes.proofs.write.attempt.Goals as goal

pub returns-in-Err : goal.returns-in-Err
returns-in-Err c = ends_refused _ _ _ _ _ _ _ _ _ c.in-Err.ensures _ c.from.ensures

pub overflow_sub-object : goal.overflow_sub-object
overflow_sub-object c = (slot-there _ _ _ _ _ _ _ c.in_default.ensures).low

pub bounds-records-object : goal.bounds-records-object
bounds-records-object c =
    let s = slot-there _ _ _ _ _ _ _ c.in_default.ensures in
    omega (arith, s.low, s.high, s.room.recs-long)

pub returns-then-cluster_of-cluster : goal.returns-then-cluster_of-cluster
returns-then-cluster_of-cluster c =
    ends-elsewhere _ _ _ _ _ _ _ c.in_default.ensures _ _ c.cluster_of.ensures c.if-cluster_of-cluster.true

pub store_word-requires : goal.store_word-requires
store_word-requires c = slot-there _ _ _ _ _ _ _ c.in_default.ensures

pub returns : goal.returns
returns c =
    let e = c.store_word.ensures in
    ends-stored _ _ _ _ _ _ _ c.in_default.ensures _ _ c.cluster_of.ensures c.if-cluster_of-cluster.false _ _ e.0 e.1
