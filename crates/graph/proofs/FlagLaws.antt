-- Laws of the three flags: what a flag is after one was set or cleared, how often it stands, and what is left where it does not stand.
-- Assumes nothing.
use Prim.Native.Nat.{ℕ, suc, ◌+◌, ◌≤◌}
use mathlib.Core.Path.{◌≡◌, refl, sym, ap, subst, ◌∙◌}
use mathlib.Core.Bool.{Bool, true, false, cond, and-false, true≢false}
use mathlib.Core.Logic.{◌≢◌, ◌⊎◌, inl, inr}
use native.Mathlib.Decide.{ℕ_discrete}
use native.Mathlib.Omega.{arith}
use borrow.Author.Tests.{eq-eqb, ne_eqb}
use Rattle.graph.specs.Numbers.{Obj, bit, sum, count}
use Rattle.graph.specs.Trace.{Flag, marked, postponed, reached, Flag-discrete, Flags, same_flag, set_flag}
use Rattle.graph.proofs.NumberLaws.{sum-differ, sum-ext, count-ext}

-- ---- the flags are told apart

pub marked≢postponed : marked ≢ postponed
unfolding same_flag
marked≢postponed e = true≢false (ap (same_flag marked) e)

pub marked≢reached : marked ≢ reached
unfolding same_flag
marked≢reached e = true≢false (ap (same_flag marked) e)

pub reached≢postponed : reached ≢ postponed
unfolding same_flag
reached≢postponed e = true≢false (ap (same_flag reached) e)

pub reached≢marked : reached ≢ marked
reached≢marked e = marked≢reached (sym e)

pub postponed≢marked : postponed ≢ marked
postponed≢marked e = marked≢postponed (sym e)

pub postponed≢reached : postponed ≢ reached
postponed≢reached e = reached≢postponed (sym e)

same_flag_lem : (f : Flag) → same_flag f f ≡ true
unfolding same_flag
same_flag_lem marked = refl
same_flag_lem postponed = refl
same_flag_lem reached = refl

ne-flag : (f g : Flag) → f ≢ g → same_flag f g ≡ false
unfolding same_flag
ne-flag marked marked h = absurd (h refl)
ne-flag marked postponed h = refl
ne-flag marked reached h = refl
ne-flag postponed marked h = refl
ne-flag postponed postponed h = absurd (h refl)
ne-flag postponed reached h = refl
ne-flag reached marked h = refl
ne-flag reached postponed h = refl
ne-flag reached reached h = absurd (h refl)

-- ---- one flag of one object changes

pub set_flag-same : (s : Flags) (f : Flag) (o : ℕ) (b : Bool) → set_flag s f o b f o ≡ b
unfolding set_flag
set_flag-same s f o b = rw (same_flag_lem f, eq-eqb o o refl) refl

-- at another object
pub set_flag-other : (s : Flags) (f : Flag) (o : ℕ) (b : Bool) (g : Flag) (x : ℕ) → x ≢ o → set_flag s f o b g x ≡ s g x
unfolding set_flag
set_flag-other s f o b g x h = rw (ne_eqb x o h, and-false (same_flag f g)) refl

-- another flag
pub set_flag-apart : (s : Flags) (f : Flag) (o : ℕ) (b : Bool) (g : Flag) (x : ℕ) → f ≢ g → set_flag s f o b g x ≡ s g x
unfolding set_flag
set_flag-apart s f o b g x h = rw (ne-flag f g h) refl

-- the flag f stands at x
abbrev pub Is : Flags → Flag → ℕ → Type 0
Is s f x = s f x ≡ true

-- the flag that changes, or one as it was
pub data Changed (s : Flags) (f : Flag) (o : ℕ) (b : Bool) (g : Flag) (x : ℕ) : Type 0 where
  at : o ≡ x → f ≡ g → set_flag s f o b g x ≡ b → Changed s f o b g x
  off : set_flag s f o b g x ≡ s g x → Changed s f o b g x

pub changed : (s : Flags) (f : Flag) (o : ℕ) (b : Bool) (g : Flag) (x : ℕ) → Changed s f o b g x
changed s f o b g x = go (ℕ_discrete o x) (Flag-discrete f g)
  where
    go : Dec (o ≡ x) → Dec (f ≡ g) → Changed s f o b g x
    go (yes e) (yes q) = at e q (subst (λ z. set_flag s f o b z x ≡ b) q (subst (λ z. set_flag s f o b f z ≡ b) e (set_flag-same s f o b)))
    go (yes e) (no ne) = off (set_flag-apart s f o b g x ne)
    go (no ne) d = off (set_flag-other s f o b g x (λ e. ne (sym e)))

-- where a flag stands after one was set: it is that one, or it stood before
pub set_cases : (s : Flags) (f : Flag) (o : ℕ) (g : Flag) (x : ℕ) → Is (set_flag s f o true) g x → ((o ≡ x) × (f ≡ g)) ⊎ Is s g x
set_cases s f o g x i = go (changed s f o true g x)
  where
    go : Changed s f o true g x → ((o ≡ x) × (f ≡ g)) ⊎ Is s g x
    go (at e q _) = inl (e, q)
    go (off e) = inr (sym e ∙ i)

-- a flag that stands, stands after one was set
pub set_keeps : (s : Flags) (f : Flag) (o : ℕ) (g : Flag) (x : ℕ) → Is s g x → Is (set_flag s f o true) g x
set_keeps s f o g x i = go (changed s f o true g x)
  where
    go : Changed s f o true g x → Is (set_flag s f o true) g x
    go (at _ _ e) = e
    go (off e) = e ∙ i

-- where a flag stands after one was cleared, it stood before
pub clear-cases : (s : Flags) (f : Flag) (o : ℕ) (g : Flag) (x : ℕ) → Is (set_flag s f o false) g x → Is s g x
clear-cases s f o g x i = go (changed s f o false g x)
  where
    go : Changed s f o false g x → Is s g x
    go (at _ _ e) = absurd (true≢false (sym i ∙ e))
    go (off e) = sym e ∙ i

-- ---- sums over the objects at which a flag does not stand

unfoldable pub rest : ℕ → Flags → Flag → (ℕ → ℕ) → ℕ
rest n s f len = sum n (λ x. cond (s f x) 0 (len x))

pub rest-set : (n : ℕ) (s : Flags) (f : Flag) (o : ℕ) (len : ℕ → ℕ) → Obj n o → s f o ≡ false
    → rest n (set_flag s f o true) f len + len o ≡ rest n s f len
unfolding rest
rest-set n s f o len b e =
    let x = sum-differ n o (λ i. cond (set_flag s f o true f i) 0 (len i)) (λ i. cond (s f i) 0 (len i)) b
    (λ i d ne. ap (λ t. cond t 0 (len i)) (set_flag-other s f o true f i ne)) in
    let y : cond (set_flag s f o true f o) 0 (len o) ≡ 0 = ap (λ t. cond t 0 (len o)) (set_flag-same s f o true) in
    let z : cond (s f o) 0 (len o) ≡ len o = ap (λ t. cond t 0 (len o)) e in
    omega arith

pub rest-other : (n : ℕ) (s : Flags) (f : Flag) (o : ℕ) (b : Bool) (g : Flag) (len : ℕ → ℕ) → f ≢ g
    → rest n (set_flag s f o b) g len ≡ rest n s g len
unfolding rest
rest-other n s f o b g len ne = sum-ext n _ _ (λ x p q. ap (λ t. cond t 0 (len x)) (set_flag-apart s f o b g x ne))

-- ---- how often a flag stands

count-differ : (n : ℕ) (s : Flags) (f : Flag) (o : ℕ) (b : Bool) → Obj n o
    → count n (λ x. set_flag s f o b f x) + bit (s f o) ≡ count n (λ x. s f x) + bit b
unfolding count
count-differ n s f o b d =
    let x = sum-differ n o (λ i. bit (set_flag s f o b f i)) (λ i. bit (s f i)) d (λ i c ne. ap bit (set_flag-other s f o b f i ne)) in
    let y : bit (set_flag s f o b f o) ≡ bit b = ap bit (set_flag-same s f o b) in
    omega arith

pub count_set : (n : ℕ) (s : Flags) (f : Flag) (o : ℕ) → Obj n o → s f o ≡ false
    → count n (λ x. set_flag s f o true f x) ≡ suc (count n (λ x. s f x))
count_set n s f o d e = omega (arith, count-differ n s f o true d, ap bit e)

pub count-grow : (n : ℕ) (s : Flags) (f : Flag) (o : ℕ) → Obj n o → count n (λ x. set_flag s f o true f x) ≤ suc (count n (λ x. s f x))
count-grow n s f o d = omega (arith, count-differ n s f o true d)

pub count-clear : (n : ℕ) (s : Flags) (f : Flag) (o : ℕ) → Obj n o → Is s f o
    → suc (count n (λ x. set_flag s f o false f x)) ≡ count n (λ x. s f x)
count-clear n s f o d e = omega (arith, count-differ n s f o false d, ap bit e)

pub count-other : (n : ℕ) (s : Flags) (f : Flag) (o : ℕ) (b : Bool) (g : Flag) → f ≢ g
    → count n (λ x. set_flag s f o b g x) ≡ count n (λ x. s g x)
count-other n s f o b g ne = count-ext n _ _ (λ x d. set_flag-apart s f o b g x ne)
