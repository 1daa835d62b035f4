-- A pass that writes one word for each object.
-- Assumes nothing.
use Prim.Native.Nat.{ℕ, ◌+◌, ◌-◌, ◌≤◌, ◌<◌}
use mathlib.Core.Path.{◌≡◌, refl, ap, ◌∙◌}
use mathlib.Core.List.{List}
use mathlib.Core.Logic.{◌⊎◌, inl, inr}
use native.Mathlib.Decide.{ℕ_discrete}
use native.Mathlib.Omega.{arith}
use lib.ListN.{length, set, length-set}
use Rattle.graph.specs.Numbers.{upd}
use Rattle.graph.proofs.NumberLaws.{upd_same, upd_other}
use Rattle.rules.specs.Buffers.{rec_of}
use Rattle.rules.proofs.ListLaws.{rec_of-above}
use Rattle.analyse.specs.Memory.{area}
use Rattle.analyse.specs.Filling.{Filling}
use Rattle.analyse.proofs.MemoryLaws.{area-put, area-below, area-above}

module _ (n base : ℕ) (f : ℕ → ℕ) (work₀ : List ℕ) where
  pub fill_start : Filling n base f work₀ work₀ 0
  fill_start = record { filled = λ x p q. absurd (omega arith); others = λ b h. refl; long = refl }

  -- the word of x is written after those of 1 to x - 1
  pub fill-turn : (work : List ℕ) (x v : ℕ) (work' : List ℕ) → Filling n base f work₀ work (x - 1) → 1 ≤ x → x ≤ n → base + n < length work₀
      → work' ≡ set work (base + x) v → v ≡ f x → Filling n base f work₀ work' (x + 1 - 1)
  fill-turn work x v work' g low h l e i = record {
    filled = λ y p q. ap (λ (w : List ℕ). area n base w y) e ∙ area-put n base work x v low h (omega (arith, g.long)) y ∙ go y p q (ℕ_discrete y x);
    others = λ b a. ap (area n b) e ∙ apart b a ∙ g.others b a;
    long = ap length e ∙ length-set work (base + x) v ∙ g.long;
  }
    where
      go : (y : ℕ) → 1 ≤ y → y ≤ x + 1 - 1 → Dec (y ≡ x) → upd (area n base work) x v y ≡ f y
      go y p q (yes j) = rw (j, upd_same (area n base work) x v) i
      go y p q (no j) = upd_other (area n base work) x y v j ∙ g.filled y p (omega (arith, j))

      apart : (b : ℕ) → (b + n ≤ base) ⊎ (base + n ≤ b) → area n b (set work (base + x) v) ≡ area n b work
      apart b (inl a) = area-above n b work (base + x) v (omega arith)
      apart b (inr a) = area-below n b work (base + x) v (omega arith)

pub area-zero : (n base : ℕ) (work : List ℕ) → area n base work 0 ≡ 0
unfolding area rec_of
area-zero n base work = refl

pub area-over : (n base : ℕ) (work : List ℕ) (x : ℕ) → n < x → area n base work x ≡ 0
unfolding area
area-over n base work x h = rec_of-above n _ x h
