-- Each choice, each way that the code takes.
-- Assumes nothing.
use Prim.Native.Nat.{ℕ, ◌-◌, ◌*◌, ◌%◌, ◌^◌, ◌≤◌, ◌<◌}
use mathlib.Core.Path.{◌≡◌, sym, ap}
use mathlib.Core.Bool.{false}
use native.Mathlib.Nat.{mul-le-mul}
use native.Mathlib.Omega.{arith}
use lib.Dec.{leb}
use Rattle.layout.proofs.FieldLaws.{flag-stays, flag-put-other}
use Rattle.records.specs.Record.{is_sink, with_cluster, with_out, with_written}
use Rattle.rules.specs.View.{encoded_record}
use Rattle.choices.specs.Choices.{settled}

-- ---- a new cluster of s members with p out pointers

-- words of 64 bits hold the products of any two numbers of 32
pub product-fits : (a b : ℕ) → a < 2 ^ 32 → b < 2 ^ 32 → a * b < 2 ^ 64
product-fits a b p q =
    let h : a * b ≤ (2 ^ 32 - 1) * (2 ^ 32 - 1) = mul-le-mul {n₁ = a} {m₁ = b} {n₂ = 2 ^ 32 - 1} {m₂ = 2 ^ 32 - 1} (omega arith) (omega arith) in
    omega (arith, h)

-- ---- the record of an object when the analysis is over

pub settled_is : (w r : ℕ) → with_cluster (w % 4096) (with_out (leb 4096 w) (with_written false r)) ≡ settled w r
unfolding settled encoded_record
settled_is w r =
    ap (λ (v : ℕ). with_cluster (w % 4096) (with_out (leb 4096 w) v))
    (sym (flag-stays 2 (is_sink r) (with_written false r) (flag-put-other 1 false r 2 (λ e. absurd (ne-two e)))))
  where
    ne-two : ◌≡◌ {A = ℕ} 1 2 → ⊥
    ne-two e = omega arith
