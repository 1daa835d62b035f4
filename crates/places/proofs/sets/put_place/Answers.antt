-- `places::sets::put_place` puts one bit or none. Assumes nothing.
use native.Mathlib.Omega.{arith}
use Rattle.rules.specs.View.{target}
use Rattle.places.proofs.PutLaws.{place_none, place-put}
use Rattle.places.proofs.sets.put_place.Goals as goal

pub returns-else-k-ne0 : goal.returns-else-k-ne0
returns-else-k-ne0 c = place_none _ _ _ _ _ c.place_of-k.ensures c.if-k-ne0.false

pub overflow_add-c : goal.overflow_add-c
overflow_add-c c =
    let a = c.args in
    omega (arith, c.place_of-k.ensures, c.type_inv.place (target a.n a.word))

pub returns-then-k-ne0 : goal.returns-then-k-ne0
returns-then-k-ne0 c = place-put _ _ _ _ _ _ c.place_of-k.ensures c.if-k-ne0.true c.put_bit.ensures
