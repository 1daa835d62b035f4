-- `compare::hands::keep_freed` goes through the numbers of the map: what is left to do leads to the same words. Assumes nothing.
use Rattle.compare.specs.Hands.{keep_freed}
use lib.ListN.{length}
use Prim.Native.Nat.{◌-◌}
use mathlib.Core.Path.{◌≡◌}
use Rattle.compare.proofs.hands.keep_freed.Given as goal

abbrev pub invariant-loop-i : goal.invariant-loop-i
invariant-loop-i l = (length l.hands ≡ length l.initial.hands) × (keep_freed l.is_left l.map l.i (4096 - l.i) l.hands ≡ keep_freed l.is_left l.map 0 4096 l.initial.hands)
