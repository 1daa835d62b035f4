-- One word for each object x, word base + x, is written by a pass.
use Rattle.std.specs.Prelude.{ℕ, ◌+◌, ◌≤◌, ◌≡◌, List, ◌⊎◌, length}
use Rattle.analyse.specs.Memory.{area}

-- Those of 1 to k hold f of their objects; the areas apart from this one are as they were.
pub record Filling (n base : ℕ) (f : ℕ → ℕ) (work₀ work : List ℕ) (k : ℕ) : Type 0 where
  pub filled : (x : ℕ) → 1 ≤ x → x ≤ k → area n base work x ≡ f x
  pub others : (b : ℕ) → (b + n ≤ base) ⊎ (base + n ≤ b) → area n b work ≡ area n b work₀
  pub long : length work ≡ length work₀
