-- `places::cluster_set` reads the members, then the places. Assumes nothing.
use Rattle.places.proofs.WordLaws.{set-large, set-empty, set_is}
use Rattle.places.proofs.cluster_set.Goals as goal
use Rattle.places.proofs.cluster_set.Goals.{then-n-gt-OBJECT_MAX-via-then-n-gt-OBJECT_MAX, then-n-gt-OBJECT_MAX-via-else-n-gt-OBJECT_MAX+then-none_listed}

pub returns-then-n-gt-OBJECT_MAX : goal.returns-then-n-gt-OBJECT_MAX
returns-then-n-gt-OBJECT_MAX c =
    let a = c.args in
    elim c.then-n-gt-OBJECT_MAX.branch [
      | then-n-gt-OBJECT_MAX-via-then-n-gt-OBJECT_MAX w ↦ set-large a.n a.records.now a.slots.now a.sinks.now a.c w.if-n-gt-OBJECT_MAX.true
      | then-n-gt-OBJECT_MAX-via-else-n-gt-OBJECT_MAX+then-none_listed w ↦ set-empty a.n a.records.now a.slots.now a.sinks.now a.c w.if-n-gt-OBJECT_MAX.false (w.none_listed.ensures w.if-none_listed.true)
    ]

pub returns : goal.returns
returns c = let a = c.args in set_is a.n a.records.now a.slots.now a.sinks.now a.c c.if-n-gt-OBJECT_MAX.false _ c.put_members.ensures _ c.word_of.ensures
