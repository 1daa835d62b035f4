-- `writes::write::still_holds` meets its contract: no word before k, after the store, is the pointer. Assumes nothing.
use Prim.Native.Nat.{ℕ, ◌<◌}
use mathlib.Core.Logic.{◌≢◌}
use lib.ListN.{get_or, set}
use Rattle.rules.specs.Buffers.{used_words}
use Rattle.writes.proofs.write.still_holds.Given as goal

abbrev pub invariant-loop-k : goal.invariant-loop-k
invariant-loop-k l =
    (q : ℕ) → q < l.k → get_or (set (used_words l.n l.records l.slots l.object) l.slot l.word) q 0 ≢ l.pointer
