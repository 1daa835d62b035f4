-- `table::clusters::members` counts object by object. Assumes nothing.
use Prim.Native.Nat.{◌≤◌}
use mathlib.Core.Path.{◌≡◌}
use Rattle.table.proofs.ClusterLaws.{members_to}
use Rattle.table.proofs.clusters.members.Given as goal

abbrev pub invariant-loop-i : goal.invariant-loop-i
invariant-loop-i l = (l.k ≤ l.i) × (l.k ≡ members_to l.n l.c l.records l.i)
