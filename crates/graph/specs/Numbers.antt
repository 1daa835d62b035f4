-- Functions of numbers that change at one place, and sums, counts and lists over the numbers 1 to n.
use Rattle.std.specs.Prelude.{ℕ, zero, suc, ◌+◌, ◌≤◌, Bool, true, false, cond, ◌||◌, List, [], ◌∷◌, ◌++◌, eqb}

-- x is one of 1 to n
abbrev pub Obj : ℕ → ℕ → Type 0
Obj n x = (1 ≤ x) × (x ≤ n)

-- f with the value v at i
unfoldable pub upd {ℓ} : {A : Type ℓ} → (ℕ → A) → ℕ → A → ℕ → A
upd f i v x = cond (eqb x i) v (f x)

-- whether the list has the number
unfoldable pub has : ℕ → List ℕ → Bool
has x [] = false
has x (y ∷ l) = eqb x y || has x l

-- 1 for a test that passes
abbrev pub bit : Bool → ℕ
bit true = 1
bit false = 0

-- f 1 + .. + f n
unfoldable pub sum : ℕ → (ℕ → ℕ) → ℕ
sum zero f = 0
sum (suc n) f = sum n f + f (suc n)

-- how many of 1 to n pass the test
unfoldable pub count : ℕ → (ℕ → Bool) → ℕ
count n t = sum n (λ x. bit (t x))

-- the lists of those of 1 to n that pass the test, by number, one after the other
unfoldable pub gather : ℕ → (ℕ → Bool) → (ℕ → List ℕ) → List ℕ
gather zero t f = []
gather (suc n) t f = gather n t f ++ cond (t (suc n)) (f (suc n)) []

-- whether one of 1 to n passes the test
unfoldable pub some : ℕ → (ℕ → Bool) → Bool
some zero t = false
some (suc n) t = some n t || t (suc n)

-- those of a list that pass the test
unfoldable pub only : (ℕ → Bool) → List ℕ → List ℕ
only t [] = []
only t (x ∷ l) = cond (t x) (x ∷ only t l) (only t l)

-- a number that was found before, if it is not 0; else x, if x passes
unfoldable pub lowest_of : ℕ → Bool → ℕ → ℕ
lowest_of zero true x = x
lowest_of zero false x = zero
lowest_of (suc m) b x = suc m

-- the lowest of 1 to n that passes the test, 0 where none does
unfoldable pub lowest : (ℕ → Bool) → ℕ → ℕ
lowest t zero = zero
lowest t (suc n) = lowest_of (lowest t n) (t (suc n)) (suc n)
