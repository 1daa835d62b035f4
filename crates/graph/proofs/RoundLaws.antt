-- Rounds find what pointers reach.
-- Assumes nothing.
use Prim.Native.Nat.{ℕ, zero, suc, ◌+◌, ◌≤◌}
use mathlib.Core.Path.{◌≡◌, refl, sym, ap, ◌∙◌}
use mathlib.Core.Bool.{Bool, true, false, ◌||◌, or-true, false≢true}
use mathlib.Core.List.Memᴰ
use mathlib.Core.List.{List, [], ◌∷◌, Memᴰ}
use mathlib.Core.Logic.{◌⊎◌, inl, inr, ◌↔◌}
use native.Mathlib.Decide.{dec_le}
use native.Mathlib.Omega.{arith}
use Rattle.graph.specs.Numbers.{Obj, has, count}
use Rattle.graph.specs.Heap.{Reach, start, along}
use Rattle.graph.specs.Rounds.{any_of, round, rounds}
use Rattle.graph.proofs.NumberLaws.{has_in, in-has, count-all, count-back, gather-of, in-gather}

any-in : (t : ℕ → Bool) (l : List ℕ) → any_of t l ≡ true → (y : ℕ) × Memᴰ y l × (t y ≡ true)
unfolding any_of
any-in t [] e = absurd (false≢true e)
any-in t (y ∷ l) e = go (λ h. any-in t l h) (t y) refl e
  where
    go : (any_of t l ≡ true → (z : ℕ) × Memᴰ z l × (t z ≡ true)) → (b : Bool) → t y ≡ b → (b || any_of t l) ≡ true
        → (z : ℕ) × Memᴰ z (y ∷ l) × (t z ≡ true)
    go r true d h = (y, Memᴰ.head refl, d)
    go r false d h = let a = r h in (a.0, Memᴰ.tail a.1, a.2)

in-any : (t : ℕ → Bool) (l : List ℕ) (y : ℕ) → Memᴰ y l → t y ≡ true → any_of t l ≡ true
unfolding any_of
in-any t [] y m e = absurd (Memᴰ.not-nil m)
in-any t (z ∷ l) y (Memᴰ.head d) e = rw (ap t (sym d) ∙ e) refl
in-any t (z ∷ l) y (Memᴰ.tail m) e = rw (in-any t l y m e) (or-true (t z))

-- ---- the rounds

module _ (n : ℕ) (words : ℕ → List ℕ) where
  -- all that one in the list points at is in it
  abbrev Closed : List ℕ → Type 0
  Closed l = (x y : ℕ) → Obj n x → Memᴰ y l → Memᴰ x (words y) → Memᴰ x l

  grow : (l : List ℕ) (x : ℕ) → Obj n x → Memᴰ x l → Memᴰ x (round n words l)
  unfolding round
  grow l x b m = in-gather n _ x b (rw (in-has x l m) refl)

  reach-one : (l : List ℕ) (x y : ℕ) → Obj n x → Memᴰ y l → Memᴰ x (words y) → Memᴰ x (round n words l)
  unfolding round
  reach-one l x y b m w = in-gather n _ x b (rw (in-any (λ z. has x (words z)) l y m (in-has x (words y) w)) (or-true (has x l)))

  round-of : (l : List ℕ) (x : ℕ) → Memᴰ x (round n words l) → Obj n x × (Memᴰ x l ⊎ ((y : ℕ) × Memᴰ y l × Memᴰ x (words y)))
  unfolding round
  round-of l x m = let t = gather-of n _ x m in (t.0, go (has x l) refl t.1)
    where
      go : (a : Bool) → has x l ≡ a → (a || any_of (λ y. has x (words y)) l) ≡ true → Memᴰ x l ⊎ ((y : ℕ) × Memᴰ y l × Memᴰ x (words y))
      go true e h = inl (has_in x l e)
      go false e h = let a = any-in (λ y. has x (words y)) l h in inr (a.0, a.1, has_in x (words a.0) a.2)

  abbrev size : List ℕ → ℕ
  size l = count n (λ x. has x l)

  -- a round that adds nothing
  still-closed : (l : List ℕ) → size (round n words l) ≤ size l → Closed l
  still-closed l h x y b m w =
      has_in x l (count-back n (λ z. has z l) (λ z. has z (round n words l)) (λ z c e. in-has z _ (grow l z c (has_in z l e))) h x b (in-has x _ (reach-one l x y b m w)))

  closed-round : (l : List ℕ) → Closed l → Closed (round n words l)
  closed-round l h x y b m w = go (round-of l y m)
    where
      go : Obj n y × (Memᴰ y l ⊎ ((z : ℕ) × Memᴰ z l × Memᴰ y (words z))) → Memᴰ x (round n words l)
      go (c, inl d) = reach-one l x y b d w
      go (c, inr (z, d, e)) = reach-one l x y b (h y z c d e) w

  closed-rounds : (k : ℕ) (l : List ℕ) → Closed l → Closed (rounds n words k l)
  unfolding rounds
  closed-rounds zero l h = h
  closed-rounds (suc k) l h = closed-rounds k (round n words l) (closed-round l h)

  progress : (k : ℕ) (l : List ℕ) → Closed (rounds n words k l) ⊎ (k + size l ≤ size (rounds n words k l))
  unfolding rounds
  progress zero l = inr (omega arith)
  progress (suc k) l = go (progress k (round n words l)) (dec_le (size (round n words l)) (size l))
    where
      go : Closed (rounds n words k (round n words l)) ⊎ (k + size (round n words l) ≤ size (rounds n words k (round n words l)))
          → Dec (size (round n words l) ≤ size l)
          → Closed (rounds n words k (round n words l)) ⊎ (suc k + size l ≤ size (rounds n words k (round n words l)))
      go (inl c) d = inl c
      go (inr p) (yes q) = inl (closed-rounds k (round n words l) (closed-round l (still-closed l q)))
      go (inr p) (no q) = inr (omega (arith, p, q))

  -- n rounds are closed
  closed-end : (l : List ℕ) → Closed (rounds n words n l)
  closed-end l = go (progress n l)
    where
      go : Closed (rounds n words n l) ⊎ (n + size l ≤ size (rounds n words n l)) → Closed (rounds n words n l)
      go (inl c) = c
      go (inr p) = λ x y b m w.
          has_in x _ (count-back n (λ z. has z (rounds n words n l)) (λ z. true) (λ z c e. refl) (let f = count-all n in omega (arith, f)) x b refl)

  kept-rounds : (k : ℕ) (l : List ℕ) (x : ℕ) → Obj n x → Memᴰ x l → Memᴰ x (rounds n words k l)
  unfolding rounds
  kept-rounds zero l x b m = m
  kept-rounds (suc k) l x b m = kept-rounds k (round n words l) x b (grow l x b m)

  -- what the rounds find, a path leads to
  rounds-sound : (P : ℕ → Type 0) → ((x y : ℕ) → P y → Memᴰ x (words y) → P x) → (k : ℕ) (l : List ℕ) → ((x : ℕ) → Memᴰ x l → P x)
      → (x : ℕ) → Memᴰ x (rounds n words k l) → P x
  unfolding rounds
  rounds-sound P s zero l h x m = h x m
  rounds-sound P s (suc k) l h x m = rounds-sound P s k (round n words l) (λ y d. at y (round-of l y d).1) x m
    where
      at : (y : ℕ) → Memᴰ y l ⊎ ((z : ℕ) × Memᴰ z l × Memᴰ y (words z)) → P y
      at y (inl d) = h y d
      at y (inr (z, d, e)) = s y z (h z d) e

  module _ (starts : List ℕ) (only : (y z : ℕ) → Memᴰ z (words y) → Obj n y) where
    complete : {x : ℕ} → Reach words starts x → Obj n x → Memᴰ x (rounds n words n starts)
    complete (start {x = p} m) b = kept-rounds n starts p b m
    complete (along {x = p} {y = q} r m) b = closed-end starts q p b (complete r (only p q m)) m

    pub rounds-reach : (x : ℕ) → Obj n x → (has x (rounds n words n starts) ≡ true) ↔ Reach words starts x
    rounds-reach x b = (
      λ e. rounds-sound (Reach words starts) (λ y z r m. along r m) n starts (λ y m. start m) x (has_in x _ e),
      λ r. in-has x _ (complete r b),
    )
