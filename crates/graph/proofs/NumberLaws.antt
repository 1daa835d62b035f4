-- Laws of functions that change at one place, of sums, counts and lists over 1 to n, and of members of a list.
-- Assumes nothing.
use Prim.Native.Nat.{ℕ, zero, suc, ◌+◌, ◌*◌, ◌≤◌, ◌<◌}
use mathlib.Core.Path.{◌≡◌, refl, sym, ap, ◌∙◌}
use mathlib.Core.Bool.{Bool, true, false, cond, ◌&&◌, ◌||◌, or-true, false≢true}
use mathlib.Core.List.Memᴰ
use mathlib.Core.List.{List, [], ◌∷◌, ◌++◌, Memᴰ}
use mathlib.Core.Logic.{◌≢◌, ◌⊎◌, inl, inr}
use native.Mathlib.Decide.{ℕ_discrete}
use native.Mathlib.Nat.{le-suc_iff}
use native.Mathlib.Omega.{arith}
use lib.ListN.{length, get_or, set, length-append}
use lib.Dec.{eqb}
use borrow.Author.Tests.{eqb-true, eq-eqb, ne_eqb}
use Rattle.graph.specs.Numbers.{Obj, upd, has, bit, sum, count, gather, some, only}

-- two tests that pass together
pub and_split : (a b : Bool) → (a && b) ≡ true → (a ≡ true) × (b ≡ true)
and_split true b e = (refl, e)
and_split false b e = absurd (false≢true e)

-- ---- a change at one place

pub upd_same {ℓ} : {A : Type ℓ} (f : ℕ → A) (i : ℕ) (v : A) → upd f i v i ≡ v
unfolding upd
upd_same f i v = rw (eq-eqb i i refl) refl

pub upd_other {ℓ} : {A : Type ℓ} (f : ℕ → A) (i x : ℕ) (v : A) → x ≢ i → upd f i v x ≡ f x
unfolding upd
upd_other f i x v h = rw (ne_eqb x i h) refl

-- ---- sums and counts over 1 to n

pub sum_mono : (n : ℕ) (f g : ℕ → ℕ) → ((x : ℕ) → 0 < x → x ≤ n → f x ≤ g x) → sum n f ≤ sum n g
unfolding sum
sum_mono zero f g h = omega arith
sum_mono (suc n) f g h =
    let a = sum_mono n f g (λ x p q. h x p (omega arith)) in
    let b = h (suc n) (omega arith) (omega arith) in
    omega arith

pub sum-ext : (n : ℕ) (f g : ℕ → ℕ) → ((x : ℕ) → 0 < x → x ≤ n → f x ≡ g x) → sum n f ≡ sum n g
unfolding sum
sum-ext zero f g h = refl
sum-ext (suc n) f g h =
    let a = sum-ext n f g (λ x p q. h x p (omega arith)) in
    let b = h (suc n) (omega arith) (omega arith) in
    omega arith

pub sum-add : (n : ℕ) (f g : ℕ → ℕ) → sum n (λ x. f x + g x) ≡ sum n f + sum n g
unfolding sum
sum-add zero f g = refl
sum-add (suc n) f g = let a = sum-add n f g in omega arith

pub sum-zero : (n : ℕ) (f : ℕ → ℕ) → ((x : ℕ) → 0 < x → x ≤ n → f x ≡ 0) → sum n f ≡ 0
unfolding sum
sum-zero zero f h = refl
sum-zero (suc n) f h =
    let a = sum-zero n f (λ x p q. h x p (omega arith)) in
    let b = h (suc n) (omega arith) (omega arith) in
    omega arith

-- no term is above m
pub sum-most : (n m : ℕ) (f : ℕ → ℕ) → ((x : ℕ) → Obj n x → f x ≤ m) → sum n f ≤ m * n
unfolding sum
sum-most zero m f h = omega arith
sum-most (suc n) m f h =
    let a = sum-most n m f (λ x b. h x (omega arith)) in
    let b = h (suc n) (omega arith) in
    omega arith

pub sum-le : (n : ℕ) (f : ℕ → ℕ) → ((x : ℕ) → 0 < x → x ≤ n → f x ≤ 1) → sum n f ≤ n
sum-le n f h = omega (arith, sum-most n 1 f (λ x b. h x (omega arith) b.1))

-- g is f but at o, where it is larger by d
pub sum_bump : (n o d : ℕ) (f g : ℕ → ℕ) → 0 < o → o ≤ n → g o ≡ f o + d → ((x : ℕ) → x ≢ o → g x ≡ f x) → sum n g ≡ sum n f + d
unfolding sum
sum_bump zero o d f g p q e h = absurd (omega arith)
sum_bump (suc n) o d f g p q e h = go (ℕ_discrete (suc n) o) (λ r. sum_bump n o d f g p r e h)
  where
    go : Dec (suc n ≡ o) → (o ≤ n → sum n g ≡ sum n f + d) → sum n g + g (suc n) ≡ sum n f + f (suc n) + d
    go (yes i) rec =
        let a = sum-ext n g f (λ x r s. h x (λ (j : x ≡ o). omega arith)) in
        let b : g (suc n) ≡ f (suc n) + d = rw i e in
        omega arith
    go (no i) rec =
        let a = rec (omega (arith, i)) in
        let b = h (suc n) i in
        omega arith

pub sum-swap : (n m : ℕ) (f : ℕ → ℕ → ℕ) → sum n (λ h. sum m (λ x. f h x)) ≡ sum m (λ x. sum n (λ h. f h x))
unfolding sum
sum-swap zero m f = sym (sum-zero m (λ x. 0) (λ x p q. refl))
sum-swap (suc n) m f =
    let a = sum-swap n m f in
    let b = sum-add m (λ x. sum n (λ h. f h x)) (λ x. f (suc n) x) in
    omega arith

-- a sum whose terms are 0 but at c
pub sum-single : (n c : ℕ) (f : ℕ → ℕ) → ((x : ℕ) → x ≢ c → f x ≡ 0) → sum n f ≤ f c
unfolding sum
sum-single zero c f h = omega arith
sum-single (suc n) c f h = go (ℕ_discrete (suc n) c) (sum-single n c f h)
  where
    go : Dec (suc n ≡ c) → sum n f ≤ f c → sum n f + f (suc n) ≤ f c
    go (yes e) rec =
        let a = sum-zero n f (λ x p q. h x (λ (j : x ≡ c). omega arith)) in
        let b : f (suc n) ≡ f c = ap f e in
        omega arith
    go (no e) rec = let a = h (suc n) e in omega arith

pub sum-at : (n c : ℕ) (f : ℕ → ℕ) → 0 < c → c ≤ n → ((x : ℕ) → x ≢ c → f x ≡ 0) → sum n f ≡ f c
sum-at n c f p q h =
    let a = sum_bump n c (f c) (λ x. 0) f p q (omega arith) h in
    let b = sum-zero n (λ x. 0) (λ x r s. refl) in
    omega arith

pub bit_le : (b : Bool) → bit b ≤ 1
bit_le true = omega arith
bit_le false = omega arith

pub count-le : (n : ℕ) (p : ℕ → Bool) → count n p ≤ n
unfolding count
count-le n p = sum-le n (λ x. bit (p x)) (λ x q r. bit_le (p x))

pub length-gather : (n : ℕ) (p : ℕ → Bool) (f : ℕ → List ℕ) → length (gather n p f) ≡ sum n (λ x. cond (p x) (length (f x)) 0)
unfolding gather sum
length-gather zero p f = refl
length-gather (suc n) p f =
    let a = length-gather n p f in
    let b = length-append (gather n p f) (cond (p (suc n)) (f (suc n)) []) in
    let c = part (p (suc n)) (f (suc n)) in
    omega arith
  where
    part : (b : Bool) (l : List ℕ) → length (cond b l []) ≡ cond b (length l) 0
    part true l = refl
    part false l = refl

pub bit-mono : (p q : Bool) → (p ≡ true → q ≡ true) → bit p ≤ bit q
bit-mono true true h = omega arith
bit-mono true false h = absurd (false≢true (h refl))
bit-mono false true h = omega arith
bit-mono false false h = omega arith

-- ---- membership, as a test and as a type

pub has_in : (x : ℕ) (l : List ℕ) → has x l ≡ true → Memᴰ x l
unfolding has
has_in x [] e = absurd (false≢true e)
has_in x (y ∷ l) e = go (λ h. has_in x l h) (eqb x y) refl e
  where
    go : (has x l ≡ true → Memᴰ x l) → (b : Bool) → eqb x y ≡ b → (b || has x l) ≡ true → Memᴰ x (y ∷ l)
    go r true d h = Memᴰ.head (eqb-true x y d)
    go r false d h = Memᴰ.tail (r h)

pub in-has : (x : ℕ) (l : List ℕ) → Memᴰ x l → has x l ≡ true
unfolding has
in-has x [] m = absurd (Memᴰ.not-nil m)
in-has x (y ∷ l) (Memᴰ.head e) = rw (eq-eqb x y e) refl
in-has x (y ∷ l) (Memᴰ.tail m) = rw (in-has x l m) (or-true (eqb x y))

-- by its place
pub has-at : (x : ℕ) (l : List ℕ) (q : ℕ) → q < length l → get_or l q 0 ≡ x → has x l ≡ true
unfolding has
has-at x [] q h e = absurd (omega arith)
has-at x (y ∷ l) zero h e = rw (eq-eqb x y (sym e)) refl
has-at x (y ∷ l) (suc q) h e = rw (has-at x l q (omega arith) e) (or-true (eqb x y))

pub has-none : (x : ℕ) (l : List ℕ) → ((q : ℕ) → q < length l → get_or l q 0 ≢ x) → has x l ≡ false
unfolding has
has-none x [] h = refl
has-none x (y ∷ l) h = rw (ne_eqb x y (λ e. h 0 (omega arith) (sym e)), has-none x l (λ q p. h (suc q) (omega arith))) refl

-- ---- lists of pointers

-- a member that is not the one at k stays when k is set
pub mem-set : (l : List ℕ) (k t y : ℕ) → Memᴰ y l → get_or l k 0 ≢ y → Memᴰ y (set l k t)
mem-set [] k t y x'' h = elim x'' [ ]
mem-set (x ∷ l) zero t y (Memᴰ.head e) h = absurd (h (sym e))
mem-set (x ∷ l) zero t y (Memᴰ.tail m) h = Memᴰ.tail m
mem-set (x ∷ l) (suc k) t y (Memᴰ.head e) h = Memᴰ.head e
mem-set (x ∷ l) (suc k) t y (Memᴰ.tail m) h = Memᴰ.tail (mem-set l k t y m h)

pub mem-of-set : (l : List ℕ) (k t y : ℕ) → Memᴰ y (set l k t) → (y ≡ t) ⊎ Memᴰ y l
mem-of-set [] k t y m = inr m
mem-of-set (x ∷ l) zero t y (Memᴰ.head e) = inl e
mem-of-set (x ∷ l) zero t y (Memᴰ.tail m) = inr (Memᴰ.tail m)
mem-of-set (x ∷ l) (suc k) t y (Memᴰ.head e) = inr (Memᴰ.head e)
mem-of-set (x ∷ l) (suc k) t y (Memᴰ.tail m) = go (mem-of-set l k t y m)
  where
    go : (y ≡ t) ⊎ Memᴰ y l → (y ≡ t) ⊎ Memᴰ y (x ∷ l)
    go (inl e) = inl e
    go (inr n) = inr (Memᴰ.tail n)

-- ---- functions that agree over 1 to n but at one place

-- f and g agree over 1 to n but at o: the sums differ by what they differ there
pub sum-differ : (n o : ℕ) (f g : ℕ → ℕ) → Obj n o → ((x : ℕ) → Obj n x → x ≢ o → f x ≡ g x) → sum n f + g o ≡ sum n g + f o
unfolding sum
sum-differ zero o f g b h = absurd (omega arith)
sum-differ (suc n) o f g b h = go (λ c. sum-differ n o f g c (λ x d ne. h x (omega arith) ne)) (le-suc_iff.0 b.1)
  where
    go : (Obj n o → sum n f + g o ≡ sum n g + f o) → (o ≤ n) ⊎ (o ≡ suc n) → sum n f + f (suc n) + g o ≡ sum n g + g (suc n) + f o
    go r (inl le) = omega (arith, r (b.0, le), h (suc n) (omega arith) (omega arith))
    go r (inr e) = omega (arith, sum-ext n f g (λ x p q. h x (omega arith) (omega arith)), ap f e, ap g e)

pub count-ext : (n : ℕ) (s t : ℕ → Bool) → ((x : ℕ) → Obj n x → s x ≡ t x) → count n s ≡ count n t
unfolding count
count-ext n s t h = sum-ext n (λ x. bit (s x)) (λ x. bit (t x)) (λ x p q. ap bit (h x (omega arith)))

pub count_none : (n : ℕ) (t : ℕ → Bool) → ((x : ℕ) → Obj n x → t x ≡ false) → count n t ≡ 0
unfolding count
count_none n t h = sum-zero n (λ x. bit (t x)) (λ x p q. ap bit (h x (omega arith)))

pub count-within : (n : ℕ) (s t : ℕ → Bool) → ((x : ℕ) → Obj n x → s x ≡ true → t x ≡ true) → count n s ≤ count n t
unfolding count
count-within n s t h = sum_mono n (λ x. bit (s x)) (λ x. bit (t x)) (λ x p q. bit-mono (s x) (t x) (h x (omega arith)))

pub count-all : (n : ℕ) → count n (λ x. true) ≡ n
unfolding count sum
count-all zero = refl
count-all (suc n) = let a = count-all n in omega arith

-- a larger set that is not larger is the same
pub count-back : (n : ℕ) (p q : ℕ → Bool) → ((x : ℕ) → Obj n x → p x ≡ true → q x ≡ true) → count n q ≤ count n p → (x : ℕ) → Obj n x → q x ≡ true → p x
    ≡ true
count-back n p q h l x b e = go (p x) refl
  where
    -- q without x
    less : count n q ≡ count n (upd q x false) + 1
    less =
        unfold count in
        (sum_bump n x 1 (λ y. bit (upd q x false y)) (λ y. bit (q y)) (omega (arith, b)) b.1 (rw (e, upd_same q x false) refl)
        (λ y d. ap bit (sym (upd_other q x y false d))))

    go : (c : Bool) → p x ≡ c → p x ≡ true
    go true c = c
    go false c =
        let a =
        count-within n p (upd q x false) (λ y d f. upd_other q x y false (λ i. false≢true (sym c ∙ ap p (sym i) ∙ f)) ∙ h y d f)
        in
        absurd (omega (arith, a, l, less))

-- ---- members of a list

pub in_left : (x : ℕ) (s t : List ℕ) → Memᴰ x s → Memᴰ x (s ++ t)
in_left x s t m = Memᴰ.append_left t m

pub in_right : (x : ℕ) (s t : List ℕ) → Memᴰ x t → Memᴰ x (s ++ t)
in_right x s t m = Memᴰ.append_right s m

-- ---- lists that are gathered

-- the members of the lists gathered are those of the lists of the numbers that pass
pub gather-from : (n : ℕ) (t : ℕ → Bool) (f : ℕ → List ℕ) (k : ℕ) → Memᴰ k (gather n t f)
    → (x : ℕ) × Obj n x × (t x ≡ true) × Memᴰ k (f x)
unfolding gather
gather-from zero t f k m = absurd (Memᴰ.not-nil m)
gather-from (suc n) t f k m =
    go (λ a. gather-from n t f k a) (Memᴰ.append_cases (gather n t f) m)
  where
    last : (b : Bool) → t (suc n) ≡ b → Memᴰ k (cond b (f (suc n)) []) → (x : ℕ) × Obj (suc n) x × (t x ≡ true) × Memᴰ k (f x)
    last true e a = (suc n, (omega arith, omega arith), e, a)
    last false e a = absurd (Memᴰ.not-nil a)

    wider : ((x : ℕ) × Obj n x × (t x ≡ true) × Memᴰ k (f x)) → (x : ℕ) × Obj (suc n) x × (t x ≡ true) × Memᴰ k (f x)
    wider (x, b, e, a) = (x, (b.0, omega arith), e, a)

    go : (Memᴰ k (gather n t f) → (x : ℕ) × Obj n x × (t x ≡ true) × Memᴰ k (f x))
        → Memᴰ k (gather n t f) ⊎ Memᴰ k (cond (t (suc n)) (f (suc n)) [])
        → (x : ℕ) × Obj (suc n) x × (t x ≡ true) × Memᴰ k (f x)
    go rec (inl a) = wider (rec a)
    go rec (inr a) = last (t (suc n)) refl a

-- what holds of every member of the lists gathered
pub gather-all : (Q : ℕ → Type 0) (n : ℕ) (p : ℕ → Bool) (f : ℕ → List ℕ)
    → ((x : ℕ) → x ≤ n → (k : ℕ) → Memᴰ k (f x) → Q k) → (k : ℕ) → Memᴰ k (gather n p f) → Q k
gather-all Q n p f h k m = let t = gather-from n p f k m in h t.0 t.1.1 k t.3

pub gather-in : (n : ℕ) (t : ℕ → Bool) (f : ℕ → List ℕ) (x k : ℕ) → Obj n x → t x ≡ true → Memᴰ k (f x) → Memᴰ k (gather n t f)
unfolding gather
gather-in zero t f x k b e m = absurd (omega arith)
gather-in (suc n) t f x k b e m = go (λ c. gather-in n t f x k c e m) (le-suc_iff.0 b.1)
  where
    go : (Obj n x → Memᴰ k (gather n t f)) → (x ≤ n) ⊎ (x ≡ suc n) → Memᴰ k (gather n t f ++ cond (t (suc n)) (f (suc n)) [])
    go r (inl le) = in_left k (gather n t f) _ (r (b.0, le))
    go r (inr q) = in_right k (gather n t f) _ (rw (← q, e) m)

-- of lists of one: the numbers themselves
pub gather-of : (n : ℕ) (t : ℕ → Bool) (x : ℕ) → Memᴰ x (gather n t (λ y. y ∷ [])) → Obj n x × (t x ≡ true)
gather-of n t x m =
    let g = gather-from n t (λ y. y ∷ []) x m in
    let e : x ≡ g.0 = Memᴰ.eq_of_singleton g.3 in
    rw e (g.1, g.2)

pub in-gather : (n : ℕ) (t : ℕ → Bool) (x : ℕ) → Obj n x → t x ≡ true → Memᴰ x (gather n t (λ y. y ∷ []))
in-gather n t x b e = gather-in n t (λ y. y ∷ []) x x b e (Memᴰ.head refl)

-- ---- whether one of 1 to n passes

pub some-from : (n : ℕ) (t : ℕ → Bool) → some n t ≡ true → (x : ℕ) × Obj n x × (t x ≡ true)
unfolding some
some-from zero t e = absurd (false≢true e)
some-from (suc n) t e = go (λ i. some-from n t i) (some n t) refl e
  where
    go : (some n t ≡ true → (x : ℕ) × Obj n x × (t x ≡ true)) → (b : Bool) → some n t ≡ b → (b || t (suc n)) ≡ true
        → (x : ℕ) × Obj (suc n) x × (t x ≡ true)
    go k true f e = let r = k f in (r.0, (r.1.0, omega (arith, r.1.1)), r.2)
    go k false f e = (suc n, (omega arith, omega arith), e)

pub some_in_lem : (n : ℕ) (t : ℕ → Bool) (x : ℕ) → Obj n x → t x ≡ true → some n t ≡ true
unfolding some
some_in_lem zero t x b e = absurd (omega arith)
some_in_lem (suc n) t x b e = go (λ l. some_in_lem n t x (b.0, l) e) (le-suc_iff.0 b.1)
  where
    go : (x ≤ n → some n t ≡ true) → (x ≤ n) ⊎ (x ≡ suc n) → (some n t || t (suc n)) ≡ true
    go r (inl l) = rw (r l) refl
    go r (inr q) = rw (ap t (sym q) ∙ e) (or-true (some n t))

pub some-ext : (n : ℕ) (s t : ℕ → Bool) → ((x : ℕ) → Obj n x → s x ≡ t x) → some n s ≡ some n t
unfolding some
some-ext zero s t h = refl
some-ext (suc n) s t h = rw (some-ext n s t (λ x b. h x (omega arith)), h (suc n) (omega arith)) refl

pub some-none : (n : ℕ) (t : ℕ → Bool) → ((x : ℕ) → Obj n x → t x ≡ false) → some n t ≡ false
unfolding some
some-none zero t h = refl
some-none (suc n) t h = rw (some-none n t (λ x b. h x (omega arith)), h (suc n) (omega arith)) refl

-- ---- those of a list that pass

pub only-from : (t : ℕ → Bool) (l : List ℕ) (y : ℕ) → Memᴰ y (only t l) → Memᴰ y l × (t y ≡ true)
unfolding only
only-from t [] y m = absurd (Memᴰ.not-nil m)
only-from t (x ∷ l) y m = go (λ a. only-from t l y a) (t x) refl m
  where
    go : (Memᴰ y (only t l) → Memᴰ y l × (t y ≡ true)) → (b : Bool) → t x ≡ b → Memᴰ y (cond b (x ∷ only t l) (only t l))
        → Memᴰ y (x ∷ l) × (t y ≡ true)
    go k true e (Memᴰ.head q) = (Memᴰ.head q, ap t q ∙ e)
    go k true e (Memᴰ.tail a) = let r = k a in (Memᴰ.tail r.0, r.1)
    go k false e a = let r = k a in (Memᴰ.tail r.0, r.1)

pub only-in : (t : ℕ → Bool) (l : List ℕ) (y : ℕ) → Memᴰ y l → t y ≡ true → Memᴰ y (only t l)
unfolding only
only-in t [] y x'' e = elim x'' [ ]
only-in t (x ∷ l) y (Memᴰ.head q) e = rw (ap t (sym q) ∙ e) (Memᴰ.head q)
only-in t (x ∷ l) y (Memᴰ.tail m) e = go (t x) (only-in t l y m e)
  where
    go : (b : Bool) → Memᴰ y (only t l) → Memᴰ y (cond b (x ∷ only t l) (only t l))
    go true a = Memᴰ.tail a
    go false a = a

pub only-ext : (s t : ℕ → Bool) (l : List ℕ) → ((y : ℕ) → Memᴰ y l → s y ≡ t y) → only s l ≡ only t l
unfolding only
only-ext s t [] h = refl
only-ext s t (x ∷ l) h = rw (h x (Memᴰ.head refl), only-ext s t l (λ y m. h y (Memᴰ.tail m))) refl

pub length-only : (t : ℕ → Bool) (l : List ℕ) → length (only t l) ≤ length l
unfolding only
length-only t [] = omega arith
length-only t (x ∷ l) = go (t x) (length-only t l)
  where
    go : (b : Bool) → length (only t l) ≤ length l → length (cond b (x ∷ only t l) (only t l)) ≤ length (x ∷ l)
    go true r = omega arith
    go false r = omega arith
