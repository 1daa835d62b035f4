-- Laws of runs, words and equal bytes, a byte at a time. Assumes nothing.
use Prim.Native.Nat.{ℕ, ◌+◌, ◌-◌, ◌≤◌, ◌<◌}
use mathlib.Core.Path.{◌≡◌, refl, sym}
use mathlib.Core.Bool.{Bool, true, false}
use mathlib.Core.List.{List, [], ◌∷◌}
use native.Mathlib.Decide.{dec_le}
use native.Mathlib.Numerals.{add-one}
use native.Mathlib.Omega.{arith}
use lib.ListN.{length, get_or, drop, drop_of_length-le, length-drop}
use lib.Seq.{drop-cons}
use Rattle.lines.specs.declared.words.Span.{Span}
use Rattle.lines.specs.declared.words.Kind.{Kind}
use Rattle.lines.specs.declared.words.Kind.TheVariants.{Blank, Word}
use Rattle.lines.specs.Word.{has, run, run_end, word_at, text}

pub next-at : (s : List ℕ) (i : ℕ) → i < length s → drop i s ≡ get_or s i 0 ∷ drop (i + 1) s
next-at s i h = rw (add-one, drop-cons s i 0 h)

-- ---- runs

run-at-most : (p : ℕ → Bool) (s : List ℕ) → run p s ≤ length s
unfolding run
run-at-most p [] = omega arith
run-at-most p (b ∷ s) = go (p b) refl (run-at-most p s)
  where
    go : (t : Bool) → p b ≡ t → run p s ≤ length s → run p (b ∷ s) ≤ length (b ∷ s)
    go true e h = rw (e, run) (omega arith)
    go false e h = rw (e, run) (omega arith)

module _ (k : Kind) (s : List ℕ) (i : ℕ) where
  pub run_step : i < length s → has k (get_or s i 0) ≡ true → run_end k s i ≡ run_end k s (i + 1)
  unfolding run run_end
  run_step h e = rw (next-at s i h, e, run) (omega arith)

  pub run-stop : i < length s → has k (get_or s i 0) ≡ false → run_end k s i ≡ i
  unfolding run run_end
  run-stop h e = rw (next-at s i h, e, run) (omega arith)

  pub run_out : length s ≤ i → run_end k s i ≡ i
  unfolding run run_end
  run_out h = rw (drop_of_length-le s h, run) (omega arith)

  run-from : i ≤ run_end k s i
  unfolding run_end
  run-from = omega arith

  run-within : (i ≡ run_end k s i → ⊥) → run_end k s i ≤ length s
  unfolding run_end
  run-within d = go (dec_le i (length s))
    where
      go : Dec (i ≤ length s) → run_end k s i ≤ length s
      go (yes h) = omega (arith, run-at-most (has k) (drop i s), length-drop i s)
      go (no h) = absurd (d (sym (run_out (omega arith))))

-- ---- words

module _ (s : List ℕ) (from : ℕ) (w : Span) (e : w ≡ word_at s from) where
  pub word_inside : (w.start ≡ w.end → ⊥) → (w.start ≤ w.end) × (w.end ≤ length s)
  unfolding word_at
  word_inside d =
      (rw e (run-from Word s (run_end Blank s from)), rw e (run-within Word s (run_end Blank s from) (λ q. d (rw e q))))

pub text_none : (s : List ℕ) (w : Span) → w.start ≡ w.end → text s w ≡ []
text_none s w e = let z : w.end - w.start ≡ 0 = omega arith in rw z

pub ruleset runs = (run_step, run-stop, run_out)
