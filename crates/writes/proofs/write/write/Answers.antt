-- `writes::write::write` meets its contract: an attempt answers, or the store to a member. Assumes nothing.
use Rattle.writes.proofs.WriteLaws.{answered, passed_on, settled}
use Rattle.writes.proofs.write.write.Goals as goal

pub store_member-requires : goal.store_member-requires
store_member-requires c = passed_on _ _ _ _ _ _ _ _ _ c.others-room.ensures _ _ _ c.attempt-k.ensures c.if-k-eq-ELSEWHERE.true

pub returns-then-k-eq-ELSEWHERE : goal.returns-then-k-eq-ELSEWHERE
returns-then-k-eq-ELSEWHERE c =
    settled _ _ _ _ _ _ _ _ _ c.others-room.ensures _ _ _ c.attempt-k.ensures c.if-k-eq-ELSEWHERE.true
    _ _ _ _ _ c.store_member.ensures _ c.refusal_of-k.ensures

pub returns-else-k-eq-ELSEWHERE : goal.returns-else-k-eq-ELSEWHERE
returns-else-k-eq-ELSEWHERE c = answered _ _ _ _ _ _ _ _ _ c.others-room.ensures _ _ _ c.attempt-k.ensures c.if-k-eq-ELSEWHERE.false
