-- The count of the objects in use.
-- Assumes nothing.
use Prim.Native.Nat.{ℕ, ◌+◌, ◌-◌, ◌≤◌}
use mathlib.Core.Path.{◌≡◌, refl, sym, ap, ap₂, ◌∙◌}
use mathlib.Core.Bool.{Bool}
use mathlib.Core.List.{List}
use native.Mathlib.Omega.{arith}
use Rattle.records.specs.Record.{in_use}
use Rattle.graph.specs.Numbers.{bit, sum, count}
use Rattle.graph.proofs.NumberLaws.{count-le}
use Rattle.rules.specs.Buffers.{rec_of}
use Rattle.rules.specs.Analyse.{used_count}
use Rattle.analyse.proofs.AnswerLaws.{sum_more}

-- the objects in use among 1 to k are counted
abbrev pub Used : ℕ → List ℕ → ℕ → ℕ → Type 0
Used n recs k total = (total ≡ count k (λ x. in_use (rec_of n recs x))) × (k ≤ n)

module _ (n : ℕ) (recs : List ℕ) where
  pub used_start : Used n recs 0 0
  unfolding count sum
  used_start = (refl, omega arith)

  pub used-most : (k total : ℕ) → Used n recs k total → total ≤ k
  used-most k total g = rw g.0 (count-le k (λ x. in_use (rec_of n recs x)))

  pub used_turn : (x total : ℕ) (b : Bool) → Used n recs (x - 1) total → 1 ≤ x → x ≤ n → b ≡ in_use (rec_of n recs x) → Used n recs (x + 1 - 1) (total + bit b)
  unfolding count
  used_turn x total b g low h e =
      let last : x - 1 + 1 ≡ x = omega arith in
      let next : x + 1 - 1 ≡ x - 1 + 1 = omega arith in
      let w : b ≡ in_use (rec_of n recs (x - 1 + 1)) = rw last e in
      (rw next (ap₂ (λ (i y : ℕ). i + y) g.0 (ap bit w) ∙ sym (sum_more (x - 1) (λ i. bit (in_use (rec_of n recs i))))), omega arith)

  pub used-end : (k total : ℕ) → Used n recs k total → n ≤ k → total ≡ used_count n recs
  unfolding used_count
  used-end k total g h = let e : k ≡ n = omega (arith, g.1) in rw e at g.0
