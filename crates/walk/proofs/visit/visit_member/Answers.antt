-- `visit_member` meets its contract.
use Rattle.walk.proofs.VisitLaws.{member_settled, member-later}
use Rattle.walk.proofs.visit.visit_member.Goals as goal

pub returns-then-is_settled : goal.returns-then-is_settled
returns-then-is_settled c =
    record { moved = λ slots list top t. member_settled _ _ _ _ _ t _ c.requires.1 list _ c.is_settled.ensures c.if-is_settled.true }

pub returns : goal.returns
returns c =
    let put-bit-call = c.put_bit in
    let if1 = c.if-is_settled in
    let is-settled-call = c.is_settled in
    rw put-bit-call.ensures
    (record { moved = λ slots list top t. member-later _ _ _ _ _ t _ c.requires.1 list _ is-settled-call.ensures if1.false _ c.put.ensures c.put.auto.work })
