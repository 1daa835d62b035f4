-- The search of allocate: what is found, and a list searched in two parts. Assumes nothing.
use Prim.Native.Nat.{ℕ, zero, suc, ◌+◌, ◌-◌, ◌≤◌, ◌<◌}
use mathlib.Core.Path.{◌≡◌, refl, sym, ap, ◌∙◌}
use mathlib.Core.Bool.{Bool, true, false, cond, ◌&&◌, true≢false}
use mathlib.Core.List.Memᴰ
use mathlib.Core.List.{List, [], ◌∷◌, ◌++◌, Memᴰ}
use mathlib.Core.Logic.{◌≢◌, ◌⊎◌, inl, inr}
use native.Mathlib.Decide.{ℕ_discrete, dec_lt}
use native.Mathlib.Nat.{suc-ne-zero}
use native.Mathlib.Omega.{arith}
use lib.Dec.{eqb, ltb}
use borrow.Author.Tests.{lt-ltb, le-ltb, ltb-true}
use Rattle.graph.specs.Numbers.{Obj, lowest}
use Rattle.graph.proofs.LowestLaws.{lowest-passes, lowest-none, lowest-least, none-lowest}
use Rattle.rules.specs.Buffers.{numbers}
use Rattle.rules.specs.Allocate.{candidates, first_of}
use Rattle.rules.specs.Demands.{place}
use Rattle.rules.proofs.BoolLaws.{is_false, and_split}

pub first_of-found : (t : ℕ → Bool) (l : List ℕ) → first_of t l ≢ 0 → Memᴰ (first_of t l) l × (t (first_of t l) ≡ true)
unfolding first_of
first_of-found t [] h = absurd (h refl)
first_of-found t (x ∷ l) h = go (t x) refl (λ q. first_of-found t l q)
  where
    go : (b : Bool) → t x ≡ b → (first_of t l ≢ 0 → Memᴰ (first_of t l) l × (t (first_of t l) ≡ true))
        → Memᴰ (cond (t x) x (first_of t l)) (x ∷ l) × (t (cond (t x) x (first_of t l)) ≡ true)
    go true e r = rw e (Memᴰ.head refl, e)
    go false e r =
        let q : first_of t l ≢ 0 = λ z. h (rw e z) in
        rw e (Memᴰ.tail (r q).0, (r q).1)

pub numbers_of : (a k x : ℕ) → Memᴰ x (numbers a k) → (a ≤ x) × (x < a + k)
unfolding numbers
numbers_of a zero x m = absurd (Memᴰ.not-nil m)
numbers_of a (suc k) x (Memᴰ.head e) = (omega arith, omega arith)
numbers_of a (suc k) x (Memᴰ.tail m) = let t = numbers_of (suc a) k x m in (omega (arith, t.0), omega (arith, t.1))

-- the numbers past last, then those up to k
parts-of : (last n k x : ℕ) → last ≤ n → k ≤ n → Memᴰ x (numbers (suc last) (n - last) ++ numbers 1 k) → Obj n x
parts-of last n k x p q m = go (Memᴰ.append_cases (numbers (suc last) (n - last)) m)
  where
    go : Memᴰ x (numbers (suc last) (n - last)) ⊎ Memᴰ x (numbers 1 k) → Obj n x
    go (inl m) = let t = numbers_of (suc last) (n - last) x m in (omega (arith, t.0), omega (arith, t.1))
    go (inr m) = let t = numbers_of 1 k x m in (omega (arith, t.0), omega (arith, t.1))

pub candidates-of : (last n x : ℕ) → last ≤ n → Memᴰ x (candidates last n) → (1 ≤ x) × (x ≤ n)
unfolding candidates
candidates-of last n x p m = parts-of last n _ x p (omega arith) m

place-past : (last n x : ℕ) → last < x → place last n x ≡ x - last
unfolding place
place-past last n x p = rw (lt-ltb last x p) refl

place-up-to : (last n x : ℕ) → x ≤ last → place last n x ≡ n - last + x
unfolding place
place-up-to last n x p = rw (le-ltb last x p) refl

module _ (t : ℕ → Bool) where
  -- one number more
  pub first_of-here : (a k : ℕ) → t a ≡ true → first_of t (numbers a (suc k)) ≡ a
  unfolding first_of numbers
  first_of-here a k e = rw e refl

  pub first_of-next : (a k : ℕ) → t a ≡ false → first_of t (numbers a (suc k)) ≡ first_of t (numbers (suc a) k)
  unfolding first_of numbers
  first_of-next a k e = rw e refl

  pub first_of-none : (a : ℕ) → first_of t (numbers a 0) ≡ 0
  unfolding first_of numbers
  first_of-none a = refl

  -- a search that found nothing above 0 goes on in the rest
  pub first_of-rest : (a k : ℕ) (l : List ℕ) → first_of t (numbers (suc a) k) ≡ 0 → first_of t (numbers (suc a) k ++ l) ≡ first_of t l
  unfolding first_of numbers
  first_of-rest a zero l e = refl
  first_of-rest a (suc k) l e = go (t (suc a)) refl (λ q. first_of-rest (suc a) k l q)
    where
      go : (b : Bool) → t (suc a) ≡ b → (first_of t (numbers (suc (suc a)) k) ≡ 0 → first_of t (numbers (suc (suc a)) k ++ l) ≡ first_of t l)
          → first_of t (numbers (suc a) (suc k) ++ l) ≡ first_of t l
      go true q r = absurd (suc-ne-zero a (sym (first_of-here (suc a) k q) ∙ e))
      go false q r = rw q (r (sym (first_of-next (suc a) k q) ∙ e))

  -- and one that found something does not
  pub first_of-front : (m l : List ℕ) → first_of t m ≢ 0 → first_of t (m ++ l) ≡ first_of t m
  unfolding first_of
  first_of-front [] l h = absurd (h refl)
  first_of-front (x ∷ m) l h = go (t x) refl (λ q. first_of-front m l q)
    where
      go : (b : Bool) → t x ≡ b → (first_of t m ≢ 0 → first_of t (m ++ l) ≡ first_of t m) → cond (t x) x (first_of t (m ++ l)) ≡ cond (t x) x (first_of t m)
      go true q r = rw q refl
      go false q r = rw q (r (λ z. h (rw q z)))

  -- what passes among the numbers from a on is not below the one that is found
  pub numbers-first : (a k x : ℕ) → 1 ≤ a → a ≤ x → x < a + k → t x ≡ true → (first_of t (numbers a k) ≢ 0) × (first_of t (numbers a k) ≤ x)
  numbers-first a zero x p l h e = absurd (omega arith)
  numbers-first a (suc k) x p l h e = go (t a) refl (λ q. numbers-first (suc a) k x (omega arith) q (omega arith) e)
    where
      go : (b : Bool) → t a ≡ b → (suc a ≤ x → (first_of t (numbers (suc a) k) ≢ 0) × (first_of t (numbers (suc a) k) ≤ x))
          → (first_of t (numbers a (suc k)) ≢ 0) × (first_of t (numbers a (suc k)) ≤ x)
      go true q r = rw (first_of-here a k q) (λ z. omega arith, l)
      go false q r = rw (first_of-next a k q) (r (past (ℕ_discrete x a)))
        where
          past : Dec (x ≡ a) → suc a ≤ x
          past (yes z) = absurd (true≢false (sym e ∙ ap t z ∙ q))
          past (no z) = omega (arith, z)

  -- the same of the numbers past last and those up to k, by their place
  parts_first : (last n k x : ℕ) → last ≤ n → last ≤ k → Obj n x → t x ≡ true
      → let i = first_of t (numbers (suc last) (n - last) ++ numbers 1 k) in (i ≢ 0) × (place last n i ≤ place last n x)
  parts_first last n k x p q b e = go (ℕ_discrete (first_of t (numbers (suc last) (n - last))) 0) (dec_lt last x)
    where
      front : ℕ
      front = first_of t (numbers (suc last) (n - last))

      go : Dec (front ≡ 0) → Dec (last < x)
          → let i = first_of t (numbers (suc last) (n - last) ++ numbers 1 k) in (i ≢ 0) × (place last n i ≤ place last n x)
      go (yes z) (yes l) = absurd ((numbers-first (suc last) (n - last) x (omega arith) l (omega (arith, b.1)) e).0 z)
      go (yes z) (no l) =
          let f = numbers-first 1 k x (omega arith) b.0 (omega arith) e in
          rw (first_of-rest last (n - last) (numbers 1 k) z) (f.0, rw (place-up-to last n x (omega arith), place-up-to last n (first_of t (numbers 1 k)) (omega (arith, f.1))) (omega (arith, f.1)))
      go (no d) l =
          let m = numbers_of (suc last) (n - last) front (first_of-found t (numbers (suc last) (n - last)) d).0 in
          rw (first_of-front (numbers (suc last) (n - last)) (numbers 1 k) d) (d, rw (place-past last n front m.0) (least l m.0 m.1))
        where
          least : Dec (last < x) → suc last ≤ front → front < suc last + (n - last) → front - last ≤ place last n x
          least (yes l) u v = rw (place-past last n x l) (let f = numbers-first (suc last) (n - last) x (omega arith) l (omega (arith, b.1)) e in omega (arith, f.1))
          least (no l) u v = rw (place-up-to last n x (omega arith)) (omega arith)

  pub candidates-first : (last n x : ℕ) → last ≤ n → Obj n x → t x ≡ true
      → let i = first_of t (candidates last n) in (i ≢ 0) × (place last n i ≤ place last n x)
  unfolding candidates
  candidates-first last n x p b e = parts_first last n _ x p (omega arith) b e

  pub candidates-found : (last n : ℕ) → last ≤ n → let i = first_of t (candidates last n) in i ≢ 0 → Obj n i × (t i ≡ true)
  candidates-found last n p d = let f = first_of-found t (candidates last n) d in (candidates-of last n _ p f.0, f.1)

  -- it is the lowest past last, else the lowest up to last
  module _ (last n : ℕ) (fits : last ≤ n) where
    abbrev past : ℕ → Bool
    past x = ltb last x && t x

    abbrev found : ℕ
    found = first_of t (candidates last n)

    none : found ≡ 0 → (x : ℕ) → Obj n x → t x ≡ false
    none z x b = is_false (t x) (λ q. (candidates-first last n x fits b q).0 z)

    -- none past last passes
    up_to : lowest past n ≡ 0 → Dec (found ≡ 0) → found ≡ lowest t last
    up_to e (yes z) = z ∙ sym (none-lowest t last (λ x b. none z x (b.0, omega (arith, b.1))))
    up_to e (no d) = let o = candidates-found last n fits d in go o.0 o.1 (dec_lt last found)
      where
        go : Obj n found → t found ≡ true → Dec (last < found) → found ≡ lowest t last
        go o q (yes l) = absurd (true≢false (sym (rw (lt-ltb last found l) q) ∙ lowest-none past n e found o))
        go o q (no l) =
            let f = lowest-least t last found (o.0, omega (arith, l)) q in
            let g = lowest-passes t last (lowest t last - 1) (omega (arith, f.0)) in
            let h = (candidates-first last n (lowest t last) fits (g.0.0, omega (arith, g.0.1)) g.1).1 in
            let a = place-up-to last n found (omega (arith, l)) in
            let b = place-up-to last n (lowest t last) g.0.1 in
            omega (arith, f.0, f.1, h, a, b)

    -- one does
    beyond : (m : ℕ) → lowest past n ≡ suc m → found ≡ lowest past n
    beyond m e =
        let g = lowest-passes past n m e in
        let h = and_split (ltb last (lowest past n)) (t (lowest past n)) g.1 in
        let l = ltb-true last (lowest past n) h.0 in
        let f = candidates-first last n (lowest past n) fits g.0 h.1 in
        let o = candidates-found last n fits f.0 in
        go o.0 o.1 l g.0 (rw (place-past last n (lowest past n) l) at f.1) (dec_lt last found)
      where
        go : Obj n found → t found ≡ true → last < lowest past n → Obj n (lowest past n) → place last n found ≤ lowest past n - last
            → Dec (last < found) → found ≡ lowest past n
        go o q k b h (yes l) =
            let f = lowest-least past n found o (rw (lt-ltb last found l) q) in
            let a = place-past last n found l in
            omega (arith, f.1, o.0, o.1, k, h, a)
        go o q k b h (no l) =
            let a = place-up-to last n found (omega (arith, l)) in
            absurd (omega (arith, o.0, o.1, k, b.0, b.1, h, a))

    pub candidates-lowest : found ≡ cond (eqb (lowest past n) 0) (lowest t last) (lowest past n)
    candidates-lowest = go (lowest past n) refl
      where
        go : (i : ℕ) → lowest past n ≡ i → found ≡ cond (eqb i 0) (lowest t last) i
        go zero e = up_to e (ℕ_discrete found 0)
        go (suc m) e = rw (lib.Dec.eqb-suc-zero m) (beyond m e ∙ e)
