-- `places::sets_ok` makes the exact sets and compares. Assumes nothing.
use Rattle.places.proofs.ExactLaws.{sets-large, sets-short, exact_none, exact-last}
use Rattle.places.proofs.sets_ok.Goals as goal
use Rattle.places.proofs.sets_ok.Goals.{then-n-gt-OBJECT_MAX-via-then-n-gt-OBJECT_MAX, then-n-gt-OBJECT_MAX-via-else-n-gt-OBJECT_MAX+then-sets-n}

pub returns-then-n-gt-OBJECT_MAX : goal.returns-then-n-gt-OBJECT_MAX
returns-then-n-gt-OBJECT_MAX c =
    elim c.then-n-gt-OBJECT_MAX.branch [
      | then-n-gt-OBJECT_MAX-via-then-n-gt-OBJECT_MAX w ↦ sets-large _ _ w.if-n-gt-OBJECT_MAX.true
      | then-n-gt-OBJECT_MAX-via-else-n-gt-OBJECT_MAX+then-sets-n w ↦ sets-short _ _ _ w.if-sets-n.true
    ]

pub returns-then-none_listed : goal.returns-then-none_listed
returns-then-none_listed c =
    exact_none _ _ _ _ _ _ c.if-n-gt-OBJECT_MAX.false c.if-sets-n.false (c.none_listed.ensures c.if-none_listed.true)
    c.all_zero.ensures

pub returns : goal.returns
returns c =
    let a = c.args in
    exact-last a.n a.records.now a.slots.now a.sinks.now a.sets.now _ _ c.if-n-gt-OBJECT_MAX.false
    c.if-sets-n.false c.fill_sets.ensures c.same_words.ensures
