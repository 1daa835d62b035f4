-- `places::sets::put_sets` goes object by object. Assumes nothing.
use mathlib.Core.Path.{◌≡◌}
use Rattle.graph.specs.Numbers.{gather}
use Rattle.places.specs.Places.{put_all, is_member, object_bits}
use Rattle.places.proofs.sets.put_sets.Given as goal

abbrev pub invariant-loop-i : goal.invariant-loop-i
invariant-loop-i l = (l.sets ≡ put_all (gather l.i (is_member l.n l.records) (object_bits l.n l.records l.slots l.place)) l.initial.sets)
