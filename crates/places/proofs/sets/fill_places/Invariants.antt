-- `places::sets::fill_places` goes place by place. Assumes nothing.
use mathlib.Core.Path.{◌≡◌}
use Rattle.places.specs.Places.{placed}
use Rattle.places.proofs.FillLaws.{left}
use Rattle.places.proofs.sets.fill_places.Given as goal

abbrev pub invariant-loop-k : goal.invariant-loop-k
invariant-loop-k l = left l.y-items l.k l.place ≡ placed 0 l.y-items l.initial.place
