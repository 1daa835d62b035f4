-- `places::sets::put_object` puts the places of the used words. Assumes nothing.
use mathlib.Core.Path.{sym, ◌∙◌}
use Rattle.layout.proofs.LimitLaws.{within-true}
use Rattle.places.proofs.PutLaws.{object-none, object-put, places-turn, places-end}
use Rattle.places.proofs.sets.put_object.Goals as goal

pub returns-then-not-within : goal.returns-then-not-within
returns-then-not-within c = object-none _ _ _ _ _ _ c.record_of-r.ensures c.cluster_of-c.ensures _ _ _ c.within.ensures c.if-not-within.true

pub put_place-requires : goal.put_place-requires
put_place-requires c = (within-true 1 _ _ (sym c.within.ensures ∙ c.if-not-within.false)).0

pub loop-w-preserved : goal.loop-w-preserved
loop-w-preserved c =
    let l = c.loop-w in
    places-turn _ _ l.w-index c.loop-w-test.true _ _ _ _ _ c.put_place.ensures l.invariant

pub returns : goal.returns
returns c =
    let l = c.loop-w in
    object-put _ _ _ _ _ _ c.record_of-r.ensures c.cluster_of-c.ensures _ _ c.used_words-w-items.ensures _ _ _ c.within.ensures c.if-not-within.false
    (places-end _ _ l.w-index _ _ c.loop-w-test.false _ _ l.invariant)
