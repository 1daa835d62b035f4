-- What `lowest` finds: it passes the test, nothing below it does, and where it finds nothing, nothing passes.
-- Assumes nothing.
use mathlib.Core.Path.{◌≡◌, refl, sym, subst}
use mathlib.Core.Logic.{◌⊎◌, inl, inr}
use mathlib.Core.Bool.{Bool, true, false, true≢false}
use Prim.Native.Nat.{ℕ, zero, suc, ◌≤◌}
use native.Mathlib.Nat.{le-suc_iff}
use native.Mathlib.Omega.{arith}
use Rattle.graph.specs.Numbers.{Obj, lowest_of, lowest}

-- what `lowest` finds passes the test
lowest_of-passes : (t : ℕ → Bool) (n j : ℕ) (b : Bool) → t (suc n) ≡ b → ((m : ℕ) → j ≡ suc m → Obj n j × (t j ≡ true)) → (m : ℕ)
    → lowest_of j b (suc n) ≡ suc m
    → Obj (suc n) (lowest_of j b (suc n)) × (t (lowest_of j b (suc n)) ≡ true)
unfolding lowest_of
lowest_of-passes t n zero true e h m q = ((omega arith, omega arith), e)
lowest_of-passes t n zero false e h m q = absurd (omega arith)
lowest_of-passes t n (suc j) b e h m q = let u = h j refl in ((omega arith, omega arith), u.1)

pub lowest-passes : (t : ℕ → Bool) (n m : ℕ) → lowest t n ≡ suc m → Obj n (lowest t n) × (t (lowest t n) ≡ true)
unfolding lowest
lowest-passes t zero m e = absurd (omega arith)
lowest-passes t (suc n) m e = lowest_of-passes t n (lowest t n) (t (suc n)) refl (λ j q. lowest-passes t n j q) m e

-- where `lowest` finds nothing, nothing passes
lowest_of-none : (j : ℕ) (b : Bool) (n : ℕ) → lowest_of j b (suc n) ≡ 0 → (j ≡ 0) × (b ≡ false)
unfolding lowest_of
lowest_of-none zero true n e = absurd (omega arith)
lowest_of-none zero false n e = (refl, refl)
lowest_of-none (suc j) b n e = absurd (omega arith)

pub lowest-none : (t : ℕ → Bool) (n : ℕ) → lowest t n ≡ 0 → (x : ℕ) → Obj n x → t x ≡ false
unfolding lowest
lowest-none t zero e x b = absurd (omega arith)
lowest-none t (suc n) e x b =
    let u = lowest_of-none (lowest t n) (t (suc n)) n e in go (λ c. lowest-none t n u.0 x c) u.1 (le-suc_iff.0 b.1)
  where
    go : (Obj n x → t x ≡ false) → t (suc n) ≡ false → (x ≤ n) ⊎ (x ≡ suc n) → t x ≡ false
    go r y (inl l) = r (b.0, l)
    go r y (inr q) = subst (λ z. t z ≡ false) (sym q) y

pub none-lowest : (t : ℕ → Bool) (n : ℕ) → ((x : ℕ) → Obj n x → t x ≡ false) → lowest t n ≡ 0
unfolding lowest lowest_of
none-lowest t zero h = refl
none-lowest t (suc n) h = rw (none-lowest t n (λ x b. h x (omega arith)), h (suc n) (omega arith)) refl

-- what passes is not below the lowest
pos-lowest_of : (j : ℕ) (b : Bool) (n : ℕ) → 1 ≤ j → lowest_of j b n ≡ j
unfolding lowest_of
pos-lowest_of zero b n h = absurd (omega arith)
pos-lowest_of (suc j) b n h = refl

top-lowest_of : (j : ℕ) (b : Bool) (n : ℕ) → b ≡ true → j ≤ n → (1 ≤ lowest_of j b (suc n)) × (lowest_of j b (suc n) ≤ suc n)
unfolding lowest_of
top-lowest_of zero true n e h = (omega arith, omega arith)
top-lowest_of zero false n e h = absurd (true≢false (sym e))
top-lowest_of (suc j) b n e h = (omega arith, omega arith)

lowest-le : (t : ℕ → Bool) (n : ℕ) → lowest t n ≤ n
lowest-le t n = go (lowest t n) refl
  where
    go : (j : ℕ) → lowest t n ≡ j → lowest t n ≤ n
    go zero e = omega arith
    go (suc j) e = (lowest-passes t n j e).0.1

pub lowest-least : (t : ℕ → Bool) (n x : ℕ) → Obj n x → t x ≡ true → (1 ≤ lowest t n) × (lowest t n ≤ x)
unfolding lowest
lowest-least t zero x b e = absurd (omega arith)
lowest-least t (suc n) x b e = go (λ c. lowest-least t n x c e) (le-suc_iff.0 b.1)
  where
    go : (Obj n x → (1 ≤ lowest t n) × (lowest t n ≤ x)) → (x ≤ n) ⊎ (x ≡ suc n)
        → (1 ≤ lowest_of (lowest t n) (t (suc n)) (suc n)) × (lowest_of (lowest t n) (t (suc n)) (suc n) ≤ x)
    go r (inl l) =
        let u = r (b.0, l) in
        let y : lowest_of (lowest t n) (t (suc n)) (suc n) ≡ lowest t n = pos-lowest_of (lowest t n) (t (suc n)) (suc n) u.0 in
        (omega arith, omega arith)
    go r (inr q) =
        let u = top-lowest_of (lowest t n) (t (suc n)) n (subst (λ z. t z ≡ true) q e) (lowest-le t n) in
        (omega arith, omega arith)
