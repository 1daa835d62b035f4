-- `places::sets::put_object` puts place after place: what is left to put comes to the same. Assumes nothing.
use mathlib.Core.Path.{◌≡◌}
use Rattle.places.specs.Places.{put_all, place_bits}
use Rattle.places.proofs.PutLaws.{rest}
use Rattle.places.proofs.sets.put_object.Given as goal

abbrev pub invariant-loop-w : goal.invariant-loop-w
invariant-loop-w l = put_all (place_bits l.place l.c (rest l.n l.w-items l.w-index)) l.sets ≡ put_all (place_bits l.place l.c (rest l.n l.w-items 0)) l.initial.sets
