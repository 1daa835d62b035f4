-- `places::members::in_place` asks for the number in the place. Assumes nothing.
use Rattle.std.proofs.Common.{◌≡◌, refl, rules, slice_index_or}
use borrow.Author.Tests.{ne_eqb}
use Rattle.places.specs.Places.{in_place}
use Rattle.places.proofs.members.in_place.Goals as goal

pub returns-then-y-ne0 : goal.returns-then-y-ne0
unfolding in_place
returns-then-y-ne0 c =
    let e : c.unwrap_or-y.result ≡ slice_index_or c.args.sinks.now c.args.k 0 = search rules in
    rw (← e, ne_eqb _ 0 c.if-y-ne0.true) c.has_bit.ensures

pub returns-else-y-ne0 : goal.returns-else-y-ne0
unfolding in_place
returns-else-y-ne0 c =
    let e : c.unwrap_or-y.result ≡ slice_index_or c.args.sinks.now c.args.k 0 = search rules in
    rw (← e, c.if-y-ne0.false) refl
