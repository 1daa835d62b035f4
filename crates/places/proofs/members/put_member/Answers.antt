-- `places::members::put_member` puts word after word of the used ones. Assumes nothing.
use Rattle.places.proofs.PutLaws.{member-none, member-put, words-turn, words-end}
use Rattle.places.proofs.members.put_member.Goals as goal

pub returns-then-cluster_of-c : goal.returns-then-cluster_of-c
returns-then-cluster_of-c c = member-none _ _ _ _ _ _ c.record_of-r.ensures c.cluster_of.ensures _ _ c.if-cluster_of-c.true

pub loop-w-preserved : goal.loop-w-preserved
loop-w-preserved c =
    let l = c.loop-w in
    words-turn _ _ l.w-index c.loop-w-test.true _ _ _ _ c.target_of.ensures c.put_bit.ensures l.invariant

pub returns : goal.returns
returns c =
    let l = c.loop-w in
    member-put _ _ _ _ _ _ c.record_of-r.ensures c.cluster_of.ensures _ _ c.used_words-w-items.ensures _ _ c.if-cluster_of-c.false
    (words-end _ _ l.w-index _ _ c.loop-w-test.false l.invariant)
