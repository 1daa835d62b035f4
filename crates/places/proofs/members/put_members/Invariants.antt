-- `places::members::put_members` goes object by object. Assumes nothing.
use mathlib.Core.Path.{◌≡◌}
use lib.Dec.{eqb}
use Rattle.graph.specs.Numbers.{gather}
use Rattle.table.specs.Clusters.{cluster_of}
use Rattle.places.specs.Places.{put_all, kids_of}
use Rattle.places.proofs.members.put_members.Given as goal

abbrev pub invariant-loop-i : goal.invariant-loop-i
invariant-loop-i l = (l.seen ≡ put_all (gather l.i (λ x. eqb (cluster_of l.n l.records x) l.c) (kids_of l.n l.records l.slots)) l.initial.seen)
