-- Laws of the highest member of a cluster among 1 to k.
-- Assumes nothing.
use Prim.Native.Nat.{ℕ, zero, suc, ◌-◌, ◌≤◌, ◌<◌}
use mathlib.Core.Path.{◌≡◌, refl, ◌∙◌}
use mathlib.Core.Bool.{Bool, true, false, cond, ◌&&◌}
use mathlib.Core.List.{List, append-nil}
use mathlib.Core.Logic.{◌≢◌}
use native.Mathlib.Decide.{ℕ_discrete}
use native.Mathlib.Omega.{arith}
use lib.Dec.{eqb}
use borrow.Author.Tests.{eqb-true, eqb-false, eq-eqb, ne_eqb, le-leb}
use Rattle.layout.specs.Limits.{within}
use Rattle.graph.specs.Numbers.{gather}
use Rattle.links.specs.Links.{top_member, next_member}

pub top-le : (cl : ℕ → ℕ) (d k : ℕ) → top_member cl d k ≤ k
unfolding top_member
top-le cl d zero = omega arith
top-le cl d (suc k) = go (eqb (cl (suc k)) d) (top-le cl d k)
  where
    go : (b : Bool) → top_member cl d k ≤ k → cond b (suc k) (top_member cl d k) ≤ suc k
    go true h = omega arith
    go false h = omega arith

-- it is a member or 0
pub top_in : (cl : ℕ → ℕ) (d k : ℕ) → top_member cl d k ≢ 0 → cl (top_member cl d k) ≡ d
unfolding top_member
top_in cl d zero p = absurd (p refl)
top_in cl d (suc k) p = go (eqb (cl (suc k)) d) refl (top_in cl d k) p
  where
    go : (b : Bool) → eqb (cl (suc k)) d ≡ b → (top_member cl d k ≢ 0 → cl (top_member cl d k) ≡ d)
        → cond b (suc k) (top_member cl d k) ≢ 0 → cl (cond b (suc k) (top_member cl d k)) ≡ d
    go true e h q = eqb-true (cl (suc k)) d e
    go false e h q = h q

-- where x is no member it is that of the lower ones, else x itself
pub top_up : (cl : ℕ → ℕ) (d x : ℕ) → 1 ≤ x → cl x ≢ d → top_member cl d x ≡ top_member cl d (x - 1)
unfolding top_member
top_up cl d zero p e = absurd (omega arith)
top_up cl d (suc x) p e = let i : suc x - 1 ≡ x = omega arith in rw (i, ne_eqb (cl (suc x)) d e) refl

pub top-own : (cl : ℕ → ℕ) (d x : ℕ) → 1 ≤ x → cl x ≡ d → top_member cl d x ≡ x
unfolding top_member
top-own cl d zero p e = absurd (omega arith)
top-own cl d (suc x) p e = rw (eq-eqb (cl (suc x)) d e) refl

-- nothing between it and k is a member
pub top-none : (cl : ℕ → ℕ) (d k x : ℕ) → top_member cl d k < x → x ≤ k → cl x ≢ d
unfolding top_member
top-none cl d zero x p q = absurd (omega arith)
top-none cl d (suc k) x p q = go (eqb (cl (suc k)) d) refl (top-none cl d k x) p (ℕ_discrete x (suc k))
  where
    go : (b : Bool) → eqb (cl (suc k)) d ≡ b → (top_member cl d k < x → x ≤ k → cl x ≢ d) → cond b (suc k) (top_member cl d k) < x
        → Dec (x ≡ suc k) → cl x ≢ d
    go true e h r s = absurd (omega arith)
    go false e h r (yes i) = rw i (eqb-false (cl (suc k)) d e)
    go false e h r (no i) = h r (omega (arith, i))

-- the members' lists, gathered up to k, end with that of the highest member
pub gather-top : (cl : ℕ → ℕ) (d : ℕ) (t : ℕ → Bool) (f : ℕ → List ℕ) (k : ℕ)
    → gather k (λ x. eqb (cl x) d && t x) f ≡ gather (top_member cl d k) (λ x. eqb (cl x) d && t x) f
unfolding gather top_member
gather-top cl d t f zero = refl
gather-top cl d t f (suc k) = go (eqb (cl (suc k)) d) refl (gather-top cl d t f k)
  where
    g : ℕ → List ℕ
    g j = gather j (λ x. eqb (cl x) d && t x) f

    go : (b : Bool) → eqb (cl (suc k)) d ≡ b → g k ≡ g (top_member cl d k) → g (suc k) ≡ g (cond b (suc k) (top_member cl d k))
    go true e h = refl
    go false e h = rw e (append-nil (g k) ∙ h)

-- going down the links: from a member to the next lower one
pub next-is : (n : ℕ) (cl : ℕ → ℕ) (x d : ℕ) → cl x ≡ d → 1 ≤ d → d ≤ n → next_member n cl x ≡ top_member cl d (x - 1)
unfolding next_member within
next-is n cl x d e p q = rw (e, le-leb 1 d p, le-leb d n q) refl
