-- `pakzid_write_in_place` leaves in the lent control record what `write` answers. Assumes nothing.
use mathlib.Core.Path.{ap}
use Rattle.rules.specs.Write.{Outcome, gives_in_place, write_in_place}
use Rattle.pakzid.proofs.in_place.pakzid_write_in_place.Goals as goal

pub returns : goal.returns
unfolding write_in_place
returns c = ap (λ (o : Outcome). gives_in_place o.answer.refusal o.answer.control o.records o.slots o.sets) c.write-a.ensures
