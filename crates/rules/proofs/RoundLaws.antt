-- The rounds of the plain heap find what pointers reach.
-- Assumes nothing.
use Prim.Native.Nat.{ℕ, zero, suc, ◌≤◌}
use mathlib.Core.Path.{◌≡◌}
use mathlib.Core.Bool.{true}
use mathlib.Core.List.Memᴰ
use mathlib.Core.List.{Memᴰ}
use mathlib.Core.Logic.{◌↔◌}
use native.Mathlib.Decide.{dec_le}
use native.Mathlib.Omega.{arith}
use lib.ListN.{length, get_or, get_or-eq_default}
use Rattle.graph.specs.Heap.{Reach}
use Rattle.graph.specs.Numbers.{Obj, has}
use Rattle.graph.proofs.RoundLaws.{rounds-reach}
use Rattle.rules.specs.Plain.{Plain, vacant, words_in, cell_at, plain_size, plain_words, kept_numbers}

-- what the plain heap keeps is what pointers reach from its roots
pub plain-reach : (P : Plain) (x : ℕ) → Obj (plain_size P) x → (has x (kept_numbers P) ≡ true) ↔ Reach (plain_words P) P.roots x
unfolding kept_numbers plain_words cell_at words_in
plain-reach P x b = rounds-reach (plain_size P) (plain_words P) P.roots only x b
  where
    only : (y z : ℕ) → Memᴰ z (plain_words P y) → Obj (plain_size P) y
    only zero z m = absurd (Memᴰ.not-nil m)
    only (suc i) z m = (omega arith, go (dec_le (suc i) (plain_size P)))
      where
        none : length P.cells ≤ i → Memᴰ z (words_in (get_or P.cells i vacant)) → ⊥
        none l q = Memᴰ.not-nil (rw (get_or-eq_default P.cells vacant l) at q)

        go : Dec (suc i ≤ plain_size P) → suc i ≤ plain_size P
        go (yes l) = l
        go (no l) = absurd (none (omega (arith, l)) m)
