-- The cells of the plain heap that a heap of buffers is.
-- Assumes nothing.
use Prim.Native.Nat.{ℕ, zero, suc, ◌≤◌}
use mathlib.Core.Path.{◌≡◌, refl, sym, ap, ◌∙◌}
use mathlib.Core.Bool.{Bool, true, false, cond}
use mathlib.Core.List.{List, map}
use native.Mathlib.Decide.{dec_le}
use native.Mathlib.Omega.{arith}
use lib.Dec.{eqb}
use lib.ListN.{length, get_or, take, get_or-eq_default}
use Rattle.records.specs.Record as R
use Rattle.layout.specs.Field.{field, flag}
use Rattle.records.specs.Record.{width}
use Rattle.rules.specs.Buffers.{rec_of, numbers, used_words}
use Rattle.rules.specs.Plain.{vacant, object, is_free, is_sink, words_in, cell_at}
use Rattle.rules.specs.PlainOf.{cell_of, cells_of}
use Rattle.rules.proofs.ListLaws.{rec_of-above, length-numbers, get-numbers}

module _ (n : ℕ) (recs slots : List ℕ) where
  pub cells-size : length (cells_of n recs slots) ≡ n
  unfolding cells_of
  cells-size = length-numbers (cell_of n recs slots) 1 n

  above : (x : ℕ) → rec_of n recs x ≡ 0 → cell_of n recs slots x ≡ vacant
  unfolding cell_of R.free
  above x e = rw e refl

  pub cell-at : (x : ℕ) → cell_at (cells_of n recs slots) x ≡ cell_of n recs slots x
  unfolding cell_at rec_of cells_of
  cell-at zero = sym (above 0 refl)
  cell-at (suc i) = go (dec_le (suc i) n)
    where
      go : Dec (suc i ≤ n) → get_or (map (cell_of n recs slots) (numbers 1 n)) i vacant ≡ cell_of n recs slots (suc i)
      go (yes l) = get-numbers (cell_of n recs slots) 1 n i vacant l ∙ ap (cell_of n recs slots) (omega arith)
      go (no l) =
          get_or-eq_default (map (cell_of n recs slots) (numbers 1 n)) vacant (let e = length-numbers (cell_of n recs slots) 1 n in omega (arith, l))
          ∙ sym (above (suc i) (rec_of-above n recs (suc i) (omega (arith, l))))

  pub cell_free : (x : ℕ) → is_free (cell_of n recs slots x) ≡ R.free (rec_of n recs x)
  unfolding cell_of
  cell_free x = go (R.free (rec_of n recs x))
    where
      go : (b : Bool) → is_free (cond b vacant (object (used_words n recs slots x) (R.is_sink (rec_of n recs x)))) ≡ b
      go true = unfold is_free in refl
      go false = unfold is_free in refl

  pub cell-sink : (x : ℕ) → is_sink (cell_of n recs slots x) ≡ R.is_sink (rec_of n recs x)
  unfolding cell_of is_sink R.free flag field
  cell-sink x = go (rec_of n recs x)
    where
      go : (r : ℕ) → is_sink (cond (eqb r 0) vacant (object (used_words n recs slots x) (R.is_sink r))) ≡ R.is_sink r
      go zero = refl
      go (suc r) = rw (lib.Dec.eqb-suc-zero r) refl

  pub cell-words : (x : ℕ) → words_in (cell_of n recs slots x) ≡ used_words n recs slots x
  unfolding cell_of words_in R.free used_words field
  cell-words x = go (rec_of n recs x)
    where
      go : (r : ℕ) → words_in
          (cond (eqb r 0) vacant (object (take (width r) (Rattle.rules.specs.Buffers.eight slots x)) (R.is_sink (rec_of n recs x))))
          ≡ take (width r) (Rattle.rules.specs.Buffers.eight slots x)
      go zero = refl
      go (suc r) = rw (lib.Dec.eqb-suc-zero r) refl

  -- what the plain heap reads of its cells
  pub at-free : (x : ℕ) → is_free (cell_at (cells_of n recs slots) x) ≡ R.free (rec_of n recs x)
  at-free x = ap is_free (cell-at x) ∙ cell_free x

  pub at-sink : (x : ℕ) → is_sink (cell_at (cells_of n recs slots) x) ≡ R.is_sink (rec_of n recs x)
  at-sink x = ap is_sink (cell-at x) ∙ cell-sink x

  pub at_words : (x : ℕ) → words_in (cell_at (cells_of n recs slots) x) ≡ used_words n recs slots x
  at_words x = ap words_in (cell-at x) ∙ cell-words x
