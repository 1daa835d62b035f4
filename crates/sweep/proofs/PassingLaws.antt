-- A loop that rewrites the records in place, one after the other, as far as they are there. Assumes nothing.
use Prim.Native.Nat.{ℕ, zero, suc, ◌+◌, ◌-◌, ◌≤◌, ◌<◌, min}
use mathlib.Core.Path.{◌≡◌, refl, sym, ap, ◌∙◌}
use mathlib.Core.Bool.{Bool}
use mathlib.Core.List.{List}
use native.Mathlib.Numerals.{add-one}
use native.Mathlib.Decide.{ℕ_discrete, dec_le}
use native.Mathlib.Omega.{arith}
use lib.ListN.{length, get_or, take, set, length-set, length-take}
use lib.Seq.{take-set-lt, get_or-take, get_or-set_same, get_or-set_other}
use Rattle.rules.specs.Buffers.{rec_of, each_from, each_record}
use Rattle.rules.proofs.PassLaws.{pass_from, pass-begin, pass-turn, pass-end, pass-past}

-- a pass over l₀ that is to end as `goal` stands before place i: the word at place j is number base + j, and `to` is the first place that stays
pub record Passing (base : ℕ) (f : ℕ → ℕ → ℕ) (to : ℕ) (goal l₀ l : List ℕ) (i : ℕ) : Type 0 where
  pub same : pass_from base i (to - i) f l ≡ goal
  pub long : length l ≡ length l₀

module _ (base : ℕ) (f : ℕ → ℕ → ℕ) (to : ℕ) (goal l₀ : List ℕ) where
  pub passing-start : each_from base to f l₀ ≡ goal → Passing base f to goal l₀ l₀ 0
  passing-start e = record { same = let z : to - 0 ≡ to = omega arith in rw z (pass-begin base to f l₀ ∙ e); long = refl }

  module _ (l : List ℕ) (i : ℕ) (h : Passing base f to goal l₀ l i) where
    pub passing-turn : (v : ℕ) → i < to → i < length l → v ≡ f (base + i) (get_or l i 0) → Passing base f to goal l₀ (set l i v) (i + 1)
    passing-turn v p q e =
        let z : to - i ≡ suc (to - suc i) = omega arith in
        record {
          same = rw (add-one i, e) (pass-turn base i (to - suc i) f l 0 q ∙ ap (λ (k : ℕ). pass_from base i k f l) (sym z) ∙ h.same);
          long = length-set l i v ∙ h.long;
        }

    pub passing-end : to ≤ i → l ≡ goal
    passing-end p = let z : to - i ≡ 0 = omega arith in sym (pass-end base i f l) ∙ ap (λ (k : ℕ). pass_from base i k f l) (sym z) ∙ h.same

    pub passing-past : length l ≤ i → l ≡ goal
    passing-past p = sym (pass-past base i (to - i) f l p) ∙ h.same

-- the records
pub records-start : (n : ℕ) (f : ℕ → ℕ → ℕ) (recs : List ℕ) → each_from 1 n f recs ≡ each_record n f recs
unfolding each_record
records-start n f recs = refl

-- a bit that the rewriting leaves alone in every record
abbrev pub Keeps : (ℕ → Bool) → ℕ → List ℕ → List ℕ → Type 0
Keeps key n recs₀ recs = (x : ℕ) → key (rec_of n recs x) ≡ key (rec_of n recs₀ x)

pub keeps-turn : (key : ℕ → Bool) (n : ℕ) (recs₀ recs : List ℕ) (i v : ℕ) → i < n → i < length recs → key v ≡ key (get_or recs i 0)
    → Keeps key n recs₀ recs → Keeps key n recs₀ (set recs i v)
unfolding rec_of
keeps-turn key n recs₀ recs i v p q e h zero = refl
keeps-turn key n recs₀ recs i v p q e h (suc x) =
    ap (λ (r : List ℕ). key (get_or r x 0)) (take-set-lt n recs i v p) ∙ go (ℕ_discrete x i) ∙ h (suc x)
  where
    go : Dec (x ≡ i) → key (get_or (set (take n recs) i v) x 0) ≡ key (get_or (take n recs) x 0)
    go (yes j) = rw j (ap key (get_or-set_same (take n recs) i v 0 (let a = length-take n recs in omega arith)) ∙ e ∙ ap key (sym (get_or-take n recs i 0 p)))
    go (no j) = ap key (get_or-set_other (take n recs) i x v 0 j)

-- a pass that reads that bit of other records while it rewrites them
pub record InPlace (key : ℕ → Bool) (f : List ℕ → ℕ → ℕ) (n : ℕ) (recs₀ recs : List ℕ) (i : ℕ) : Type 0 where
  pub pass : Passing 1 (λ x r. f recs₀ r) n (each_record n (λ x r. f recs₀ r) recs₀) recs₀ recs i
  pub keeps : Keeps key n recs₀ recs

module _ (key : ℕ → Bool) (f : List ℕ → ℕ → ℕ) (n : ℕ) (recs₀ : List ℕ) where
  pub in-place-start : InPlace key f n recs₀ recs₀ 0
  in-place-start = record { pass = passing-start _ _ _ _ _ (records-start n _ _); keeps = λ x. refl }

  module _ (recs : List ℕ) (i v : ℕ) (h : InPlace key f n recs₀ recs i) (alike : (r : ℕ) → Keeps key n recs₀ recs → f recs r ≡ f recs₀ r)
      (leaves : (r : ℕ) → key (f recs r) ≡ key r) (p : i < n) (q : i < length recs) (e : v ≡ f recs (get_or recs i 0)) where
    pub in-place-turn : InPlace key f n recs₀ (set recs i v) (i + 1)
    in-place-turn =
        record {
          pass = passing-turn _ _ _ _ _ recs i h.pass v p q (e ∙ alike (get_or recs i 0) h.keeps);
          keeps = keeps-turn key n recs₀ recs i v p q (ap key e ∙ leaves (get_or recs i 0)) h.keeps;
        }

  pub in-place-end : (recs : List ℕ) (i : ℕ) → InPlace key f n recs₀ recs i → (e : ℕ) → e ≡ min n (length recs₀) → e ≤ i
      → recs ≡ each_record n (λ x r. f recs₀ r) recs₀
  in-place-end recs i h e d p = go (dec_le n i)
    where
      go : Dec (n ≤ i) → recs ≡ each_record n (λ x r. f recs₀ r) recs₀
      go (yes l) = passing-end _ _ _ _ _ recs i h.pass l
      go (no l) = passing-past _ _ _ _ _ recs i h.pass (omega (arith, h.pass.long, l))
