-- `sweep::count_marked` counts record by record. Assumes nothing.
use Prim.Native.Nat.{◌≤◌}
use mathlib.Core.Path.{◌≡◌}
use Rattle.sweep.proofs.MarkLaws.{marked_to}
use Rattle.sweep.proofs.count_marked.Given as goal

abbrev pub invariant-loop-r : goal.invariant-loop-r
invariant-loop-r l = (l.k ≤ l.r-index) × (l.k ≡ marked_to l.n l.fn.records l.r-index)
