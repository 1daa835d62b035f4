-- `places::listed::places_ok` goes from the last place to the first. Assumes nothing.
use mathlib.Core.Path.{refl}
use Rattle.places.proofs.SeenLaws.{seeing-start, seeing-turn, seeing-stop, seeing-end}
use Rattle.places.proofs.listed.places_ok.Goals as goal

pub loop-k-init : goal.loop-k-init
loop-k-init c = seeing-start _ _ _ _ _ c.requires.seen_value refl

pub returns-then-not-place_ok : goal.returns-then-not-place_ok
returns-then-not-place_ok c =
    let l = c.loop-k in
    rw (← c.places-list.ensures) (seeing-stop _ _ _ c.requires.n_le_object_max _ l.k l.invariant c.loop-k-test.true _ _ c.place_ok.ensures c.if-not-place_ok.true)

pub loop-k-preserved : goal.loop-k-preserved
loop-k-preserved c =
    let l = c.loop-k in
    seeing-turn _ _ _ c.requires.n_le_object_max _ l.k l.invariant c.loop-k-test.true _ _ c.place_ok.ensures c.if-not-place_ok.false c.put_bit.ensures

pub returns : goal.returns
returns c = let l = c.loop-k in rw (← c.places-list.ensures) (seeing-end _ _ _ _ l.k l.invariant c.loop-k-test.false)
