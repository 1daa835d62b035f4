-- `pakzid_allocate_in_place` leaves in the lent control record what `allocate` answers. Assumes nothing.
use mathlib.Core.Path.{ap}
use Rattle.rules.specs.Allocate.{Outcome, gives_in_place, allocate_in_place}
use Rattle.pakzid.proofs.in_place.pakzid_allocate_in_place.Goals as goal

pub returns : goal.returns
unfolding allocate_in_place
returns c =
    ap
    (λ (o : Outcome). gives_in_place (record { refusal = o.answer.refusal; object = o.answer.object }) o.answer.control o.records o.slots)
    c.allocate-a.ensures
