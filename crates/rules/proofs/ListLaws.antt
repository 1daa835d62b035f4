-- Laws of `each_from`, `eight`, `all_of` and lists of numbers.
-- Assumes nothing.
use Prim.Native.Nat.{ℕ, zero, suc, ◌+◌, ◌-◌, ◌*◌, ◌/◌, ◌≤◌, ◌<◌}
use mathlib.Core.Path.{◌≡◌, refl, sym, ap, ap₂, ◌∙◌}
use mathlib.Core.Bool.{Bool, true}
use mathlib.Core.List.{List, [], ◌∷◌, map, Memᴰ}
use mathlib.Core.Logic.{◌≢◌, ◌⊎◌, inl, inr}
use native.Mathlib.Nat.{le-suc_iff}
use native.Mathlib.Decide.{dec_le}
use native.Mathlib.Omega.{arith}
use lib.ListN.{length, get_or, take, drop, set, length-take, length-drop, get_or-eq_default, replicate}
use lib.Seq.{take-set-le, take-set-lt, drop-set-lt, drop-set-add, length-take-le, get_or-take}
use Rattle.layout.specs.Limits.{slots_len}
use Rattle.rules.specs.Buffers.{rec_of, each_from, each_record, each_slot, eight, all_of, all_to, numbers}
use Rattle.rules.proofs.BoolLaws.{and_split}

-- ---- eachFrom

pub length-each : {A : Type 0} (i k : ℕ) (f : ℕ → A → A) (l : List A) → length (each_from i k f l) ≡ length l
unfolding each_from
length-each i zero f l = refl
length-each i (suc k) f [] = refl
length-each i (suc k) f (w ∷ l) = ap suc (length-each (suc i) k f l)

pub get-each : {A : Type 0} (i k : ℕ) (f : ℕ → A → A) (l : List A) (j : ℕ) (d : A) → j < k → j < length l → get_or (each_from i k f l) j d
    ≡ f (i + j) (get_or l j d)
unfolding each_from
get-each i zero f l j d p q = absurd (omega arith)
get-each i (suc k) f [] j d p q = absurd (omega arith)
get-each i (suc k) f (w ∷ l) zero d p q = ap (λ (x : ℕ). f x w) (omega arith)
get-each i (suc k) f (w ∷ l) (suc j) d p q =
    get-each (suc i) k f l j d (omega arith) (omega arith) ∙ ap (λ (x : ℕ). f x (get_or l j d)) (omega arith)

pub each_nil : {A : Type 0} (i k : ℕ) (f : ℕ → A → A) → each_from i k f [] ≡ []
unfolding each_from
each_nil i zero f = refl
each_nil i (suc k) f = refl

pub drop-each : {A : Type 0} (i k : ℕ) (f : ℕ → A → A) (l : List A) (m : ℕ) → drop m (each_from i (m + k) f l) ≡ each_from (i + m) k f (drop m l)
unfolding each_from
drop-each i k f l zero =
    let a : i ≡ i + 0 = omega arith in
    let b : 0 + k ≡ k = omega arith in
    ap₂ (λ (x y : ℕ). each_from x y f l) a b
drop-each {A = A} i k f [] (suc m) =
    let a : suc m + k ≡ suc (m + k) = omega arith in
    ap (λ (y : ℕ). drop (suc m) (each_from i y f [])) a ∙ none (each_from i (suc (m + k)) f []) refl ∙ sym (each_nil (i + suc m) k f)
  where
    none : (l : List A) → l ≡ [] → drop (suc m) l ≡ []
    none l e = rw e refl
drop-each i k f (w ∷ l) (suc m) =
    let a : suc m + k ≡ suc (m + k) = omega arith in
    let b : suc i + m ≡ i + suc m = omega arith in
    ap (λ (y : ℕ). drop (suc m) (each_from i y f (w ∷ l))) a ∙ drop-each (suc i) k f l m ∙ ap (λ (x : ℕ). each_from x k f (drop m l)) b

-- the first m of them, all changed
pub take-each : {A : Type 0} (i k : ℕ) (f : ℕ → A → A) (l : List A) (m : ℕ) → m ≤ k → take m (each_from i k f l) ≡ each_from i m f (take m l)
unfolding each_from
take-each i k f l zero p = refl
take-each i zero f l (suc m) p = absurd (omega arith)
take-each i (suc k) f [] (suc m) p = refl
take-each i (suc k) f (w ∷ l) (suc m) p = ap (λ r. f i w ∷ r) (take-each (suc i) k f l m (omega arith))

pub each_same : {A : Type 0} (i k : ℕ) (f g : ℕ → A → A) (l : List A) → ((j : ℕ) (w : A) → i ≤ j → j < i + k → f j w ≡ g j w) → each_from i k f l
    ≡ each_from i k g l
unfolding each_from
each_same i zero f g l h = refl
each_same i (suc k) f g [] h = refl
each_same i (suc k) f g (w ∷ l) h =
    ap₂ (λ x r. x ∷ r) (h i w (omega arith) (omega arith)) (each_same (suc i) k f g l (λ j v p q. h j v (omega arith) (omega arith)))

pub each-id : {A : Type 0} (i k : ℕ) (l : List A) → each_from i k (λ x w. w) l ≡ l
unfolding each_from
each-id i zero l = refl
each-id i (suc k) [] = refl
each-id i (suc k) (w ∷ l) = ap (λ r. w ∷ r) (each-id (suc i) k l)

pub each_map : {A : Type 0} (i k : ℕ) (f : A → A) (l : List A) → length l ≤ k → each_from i k (λ j w. f w) l ≡ map f l
unfolding each_from
each_map i zero f [] p = refl
each_map i zero f (w ∷ l) p = absurd (omega arith)
each_map i (suc k) f [] p = refl
each_map i (suc k) f (w ∷ l) p = ap (λ r. f w ∷ r) (each_map (suc i) k f l (omega arith))

-- one change after the other
pub each-each : {A : Type 0} (i k : ℕ) (f g : ℕ → A → A) (l : List A) → each_from i k g (each_from i k f l) ≡ each_from i k (λ x w. g x (f x w)) l
unfolding each_from
each-each i zero f g l = refl
each-each i (suc k) f g [] = refl
each-each i (suc k) f g (w ∷ l) = ap (λ r. g i (f i w) ∷ r) (each-each (suc i) k f g l)

-- past the words that change all is as it was
pub drop_past : {A : Type 0} (i k : ℕ) (f : ℕ → A → A) (l : List A) → drop k (each_from i k f l) ≡ drop k l
unfolding each_from
drop_past i zero f l = refl
drop_past i (suc k) f [] = refl
drop_past i (suc k) f (w ∷ l) = drop_past (suc i) k f l

-- where every word becomes 0
pub take-zeros : (j k : ℕ) (l : List ℕ) → k ≤ length l → take k (each_from j k (λ _ w. 0) l) ≡ replicate k 0
unfolding each_from
take-zeros j zero l p = refl
take-zeros j (suc k) [] p = absurd (omega arith)
take-zeros j (suc k) (w ∷ l) p = ap (λ r. 0 ∷ r) (take-zeros (suc j) k l (omega arith))

-- the words that become 0 do not matter
pub zeros-same : (i k : ℕ) (l m : List ℕ) → length l ≡ length m → drop k l ≡ drop k m → each_from i k (λ x w. 0) l ≡ each_from i k (λ x w. 0) m
unfolding each_from
zeros-same i zero l m e d = d
zeros-same i (suc k) [] [] e d = refl
zeros-same i (suc k) [] (y ∷ m) e d = absurd (omega arith)
zeros-same i (suc k) (x ∷ l) [] e d = absurd (omega arith)
zeros-same i (suc k) (x ∷ l) (y ∷ m) e d = ap (λ (r : List ℕ). 0 ∷ r) (zeros-same (suc i) k l m (omega arith) d)

-- two changes that do the same to each element
pub each-alike : {A : Type 0} (i k : ℕ) (f g : ℕ → A → A) (l : List A) (d : A)
    → ((m : ℕ) → m < k → m < length l → f (i + m) (get_or l m d) ≡ g (i + m) (get_or l m d)) → each_from i k f l ≡ each_from i k g l
unfolding each_from
each-alike i zero f g l d h = refl
each-alike i (suc k) f g [] d h = refl
each-alike i (suc k) f g (w ∷ l) d h =
    let z : i + 0 ≡ i = omega arith in
    ap₂ (λ x r. x ∷ r) (ap (λ (y : ℕ). f y w) (sym z) ∙ h 0 (omega arith) (omega arith) ∙ ap (λ (y : ℕ). g y w) z)
    (each-alike (suc i) k f g l d (λ m p q.
    let e : suc i + m ≡ i + suc m = omega arith in
    ap (λ (y : ℕ). f y (get_or l m d)) e ∙ h (suc m) (omega arith) (omega arith) ∙ ap (λ (y : ℕ). g y (get_or l m d)) (sym e)))

-- a change of the one at j alone
pub each_set : {A : Type 0} (i k : ℕ) (f : ℕ → A → A) (l : List A) (j : ℕ) (v d : A) → j < k → f (i + j) (get_or l j d) ≡ v
    → ((m : ℕ) → m < k → m < length l → m ≢ j → f (i + m) (get_or l m d) ≡ get_or l m d) → each_from i k f l ≡ set l j v
unfolding each_from
each_set i zero f l j v d p e h = absurd (omega arith)
each_set i (suc k) f [] zero v d p e h = refl
each_set i (suc k) f [] (suc j) v d p e h = refl
each_set i (suc k) f (w ∷ l) zero v d p e h =
    let z : i + 0 ≡ i = omega arith in
    ap₂ (λ x r. x ∷ r) (ap (λ (y : ℕ). f y w) (sym z) ∙ e)
    (each-alike (suc i) k f (λ x w. w) l d (λ m q r.
    let y : suc i + m ≡ i + suc m = omega arith in
    ap (λ (y : ℕ). f y (get_or l m d)) y ∙ h (suc m) (omega arith) (omega arith) (omega arith)) ∙ each-id (suc i) k l)
each_set i (suc k) f (w ∷ l) (suc j) v d p e h =
    let z : suc i + j ≡ i + suc j = omega arith in
    let o : i + 0 ≡ i = omega arith in
    ap₂ (λ x r. x ∷ r) (ap (λ (y : ℕ). f y w) (sym o) ∙ h 0 (omega arith) (omega arith) (omega arith))
    (each_set (suc i) k f l j v d (omega arith) (ap (λ (y : ℕ). f y (get_or l j d)) z ∙ e) (λ m q r n.
    let y : suc i + m ≡ i + suc m = omega arith in
    ap (λ (y : ℕ). f y (get_or l m d)) y ∙ h (suc m) (omega arith) (omega arith) (omega (arith, n))))

-- ---- records

pub rec_of-above : (n : ℕ) (recs : List ℕ) (x : ℕ) → n < x → rec_of n recs x ≡ 0
unfolding rec_of
rec_of-above n recs zero p = refl
rec_of-above n recs (suc i) p = get_or-eq_default (take n recs) 0 (let a = length-take n recs in omega arith)

-- a record that is not 0 is that of an object
pub rec_of-range : (n : ℕ) (recs : List ℕ) (x : ℕ) → rec_of n recs x ≢ 0 → (1 ≤ x) × (x ≤ n)
unfolding rec_of
rec_of-range n recs zero h = absurd (h refl)
rec_of-range n recs (suc i) h = (omega arith, go (dec_le (suc i) n))
  where
    go : Dec (suc i ≤ n) → suc i ≤ n
    go (yes l) = l
    go (no l) = absurd (h (rec_of-above n recs (suc i) (omega (arith, l))))

pub rec_of-each : (n : ℕ) (f : ℕ → ℕ → ℕ) (recs : List ℕ) (x : ℕ) → 1 ≤ x → x ≤ n → n ≤ length recs → rec_of n (each_record n f recs) x
    ≡ f x (rec_of n recs x)
unfolding rec_of each_record
rec_of-each n f recs zero p q l = absurd (omega arith)
rec_of-each n f recs (suc i) p q l =
    let e = length-take-le n recs l in
    ap (λ (r : List ℕ). get_or r i 0) (take-each 1 n f recs n (omega arith))
    ∙ get-each 1 n f (take n recs) i 0 (omega arith) (omega arith)
    ∙ ap (λ (y : ℕ). f y (get_or (take n recs) i 0)) (omega arith)

-- the record of object m + 1 at its place in the list
pub rec-get : (n : ℕ) (recs : List ℕ) (m : ℕ) → m < n → rec_of n recs (suc m) ≡ get_or recs m 0
unfolding rec_of
rec-get n recs m p = get_or-take n recs m 0 p

pub records-alike : (n : ℕ) (f g : ℕ → ℕ → ℕ) (recs : List ℕ) → ((x : ℕ) → 1 ≤ x → x ≤ n → f x (rec_of n recs x) ≡ g x (rec_of n recs x))
    → each_record n f recs ≡ each_record n g recs
unfolding each_record
records-alike n f g recs h =
    each-alike 1 n f g recs 0 (λ m p q.
    let z : 1 + m ≡ suc m = omega arith in
    rw z (rw (sym (rec-get n recs m p)) (h (suc m) (omega arith) p)))

-- ---- the eight words of an object

pub length-eight : (n : ℕ) (slots : List ℕ) (x : ℕ) → 1 ≤ x → x ≤ n → 8 * n ≤ length slots → length (eight slots x) ≡ 8
unfolding eight
length-eight n slots zero p q l = absurd (omega arith)
length-eight n slots (suc i) p q l =
    length-take-le 8 (drop (8 * i) slots) (let e = length-drop (8 * i) slots in omega arith)

pub eight-most : (slots : List ℕ) (x : ℕ) → length (eight slots x) ≤ 8
unfolding eight
eight-most slots zero = omega arith
eight-most slots (suc i) = let e = length-take 8 (drop (8 * i) slots) in omega arith

pub eight-set : (slots : List ℕ) (i k w : ℕ) → k < 8 → eight (set slots (8 * i + k) w) (suc i) ≡ set (eight slots (suc i)) k w
unfolding eight
eight-set slots i k w p = ap (take 8) (drop-set-add (8 * i) slots k w) ∙ take-set-lt 8 (drop (8 * i) slots) k w p

pub eight-set-other : (slots : List ℕ) (i k w x : ℕ) → k < 8 → x ≢ suc i → eight (set slots (8 * i + k) w) x ≡ eight slots x
unfolding eight
eight-set-other slots i k w zero p e = refl
eight-set-other slots i k w (suc j) p e = go (dec_le (suc i) j)
  where
    go : Dec (suc i ≤ j) → take 8 (drop (8 * j) (set slots (8 * i + k) w)) ≡ take 8 (drop (8 * j) slots)
    go (yes l) = ap (take 8) (drop-set-lt (8 * j) slots (8 * i + k) w (omega arith))
    go (no l) =
        let s : 8 * i + k ≡ 8 * j + (8 * i + k - 8 * j) = omega (arith, e, l) in
        rw (s, drop-set-add (8 * j) slots (8 * i + k - 8 * j) w) (take-set-le 8 (drop (8 * j) slots) (8 * i + k - 8 * j) w (omega (arith, e, l)))

pub eight-each : (n : ℕ) (f : ℕ → ℕ → ℕ) (slots : List ℕ) (x : ℕ) → 1 ≤ x → x ≤ n → eight (each_slot n f slots) x ≡ map (f x) (eight slots x)
unfolding eight each_slot slots_len
eight-each n f slots zero p q = absurd (omega arith)
eight-each n f slots (suc i) p q =
    let s : 8 * n ≡ 8 * i + (8 * n - 8 * i) = omega arith in
    let g : ℕ → ℕ → ℕ = λ j w. f (j / 8 + 1) w in
    ap (λ (k : ℕ). take 8 (drop (8 * i) (each_from 0 k g slots))) s
    ∙ ap (take 8) (drop-each 0 (8 * n - 8 * i) g slots (8 * i))
    ∙ take-each (0 + 8 * i) (8 * n - 8 * i) g (drop (8 * i) slots) 8 (omega arith)
    ∙ each_same (0 + 8 * i) 8 g (λ j w. f (suc i) w) (take 8 (drop (8 * i) slots)) (λ j w a b. ap (λ (y : ℕ). f y w) (omega arith))
    ∙ each_map (0 + 8 * i) 8 (f (suc i)) (take 8 (drop (8 * i) slots)) (let e = length-take 8 (drop (8 * i) slots) in omega arith)

-- ---- mapped lists

pub map-id : (f : ℕ → ℕ) (l : List ℕ) → ((w : ℕ) → f w ≡ w) → map f l ≡ l
map-id f [] h = refl
map-id f (w ∷ l) h = ap₂ (λ x r. x ∷ r) (h w) (map-id f l h)

pub map-set : (f : ℕ → ℕ) (l : List ℕ) (k w : ℕ) → map f (set l k w) ≡ set (map f l) k (f w)
map-set f [] k w = refl
map-set f (x ∷ l) zero w = refl
map-set f (x ∷ l) (suc k) w = ap (λ r. f x ∷ r) (map-set f l k w)

pub map_of : (f : ℕ → ℕ) (l : List ℕ) (y : ℕ) → Memᴰ y (map f l) → (w : ℕ) × Memᴰ w l × (y ≡ f w)
map_of f [] y x' = elim x' [ ]
map_of f (x ∷ l) y (Memᴰ.head e) = (x, Memᴰ.head refl, e)
map_of f (x ∷ l) y (Memᴰ.tail m) = let a = map_of f l y m in (a.0, Memᴰ.tail a.1, a.2)

-- what stands in a place
pub mem-get : (l : List ℕ) (k : ℕ) → k < length l → Memᴰ (get_or l k 0) l
mem-get [] k p = absurd (omega arith)
mem-get (x ∷ l) zero p = Memᴰ.head refl
mem-get (x ∷ l) (suc k) p = Memᴰ.tail (mem-get l k (omega arith))

-- ---- tests on all

pub all_of-at : (t : ℕ → Bool) (l : List ℕ) (w : ℕ) → all_of t l ≡ true → Memᴰ w l → t w ≡ true
unfolding all_of
all_of-at t [] w e x'' = elim x'' [ ]
all_of-at t (x ∷ l) w e (Memᴰ.head p) = rw p (and_split (t x) (all_of t l) e).0
all_of-at t (x ∷ l) w e (Memᴰ.tail m) = all_of-at t l w (and_split (t x) (all_of t l) e).1 m

pub all_of-all : (t : ℕ → Bool) (l : List ℕ) → ((w : ℕ) → Memᴰ w l → t w ≡ true) → all_of t l ≡ true
unfolding all_of
all_of-all t [] h = refl
all_of-all t (x ∷ l) h = rw (h x (Memᴰ.head refl)) (all_of-all t l (λ w m. h w (Memᴰ.tail m)))

pub all_to-all : (n : ℕ) (t : ℕ → Bool) → ((x : ℕ) → 1 ≤ x → x ≤ n → t x ≡ true) → all_to n t ≡ true
unfolding all_to
all_to-all zero t h = refl
all_to-all (suc n) t h = rw (all_to-all n t (λ x p q. h x p (omega arith)), h (suc n) (omega arith) (omega arith)) refl

pub all_to-at : (n : ℕ) (t : ℕ → Bool) → all_to n t ≡ true → (x : ℕ) → 1 ≤ x → x ≤ n → t x ≡ true
unfolding all_to
all_to-at zero t e x p q = absurd (omega arith)
all_to-at (suc n) t e x p q = let a = and_split (all_to n t) (t (suc n)) e in go (λ l. all_to-at n t a.0 x p l) a.1 (le-suc_iff.0 q)
  where
    go : (x ≤ n → t x ≡ true) → t (suc n) ≡ true → (x ≤ n) ⊎ (x ≡ suc n) → t x ≡ true
    go r b (inl l) = r l
    go r b (inr i) = ap t i ∙ b

-- ---- lists by number

pub length-numbers : {A : Type 0} (f : ℕ → A) (a k : ℕ) → length (map f (numbers a k)) ≡ k
unfolding numbers
length-numbers f a zero = refl
length-numbers f a (suc k) = ap suc (length-numbers f (suc a) k)

pub get-numbers : {A : Type 0} (f : ℕ → A) (a k j : ℕ) (d : A) → j < k → get_or (map f (numbers a k)) j d ≡ f (a + j)
unfolding numbers
get-numbers f a zero j d p = absurd (omega arith)
get-numbers f a (suc k) zero d p = ap f (omega arith)
get-numbers f a (suc k) (suc j) d p = get-numbers f (suc a) k j d (omega arith) ∙ ap f (omega arith)

pub same_numbers : {A : Type 0} (f g : ℕ → A) (a k : ℕ) → ((x : ℕ) → a ≤ x → x < a + k → f x ≡ g x) → map f (numbers a k) ≡ map g (numbers a k)
unfolding numbers
same_numbers f g a zero h = refl
same_numbers f g a (suc k) h =
    ap₂ (λ x r. x ∷ r) (h a (omega arith) (omega arith)) (same_numbers f g (suc a) k (λ x p q. h x (omega arith) (omega arith)))

pub set-numbers : {A : Type 0} (f g : ℕ → A) (a k j : ℕ) (v : A) → g (a + j) ≡ v → ((x : ℕ) → a ≤ x → x < a + k → x ≢ a + j → g x ≡ f x)
    → map g (numbers a k) ≡ set (map f (numbers a k)) j v
unfolding numbers
set-numbers f g a zero zero v e h = refl
set-numbers f g a zero (suc j) v e h = refl
set-numbers f g a (suc k) zero v e h =
    let z : a ≡ a + 0 = omega arith in
    ap₂ (λ x r. x ∷ r) (ap g z ∙ e) (same_numbers g f (suc a) k (λ x p q. h x (omega arith) (omega arith) (λ (i : x ≡ a + 0). omega arith)))
set-numbers f g a (suc k) (suc j) v e h =
    let z : suc a + j ≡ a + suc j = omega arith in
    ap₂ (λ x r. x ∷ r) (h a (omega arith) (omega arith) (λ (i : a ≡ a + suc j). omega arith))
    (set-numbers f g (suc a) k j v (ap g z ∙ e) (λ x p q i. h x (omega arith) (omega arith) (λ j'. i (j' ∙ sym z))))

pub each-numbers : {A : Type 0} (f : ℕ → A) (h : ℕ → A → A) (a k : ℕ) → each_from a k h (map f (numbers a k)) ≡ map (λ x. h x (f x)) (numbers a k)
unfolding numbers each_from
each-numbers f h a zero = refl
each-numbers f h a (suc k) = ap (λ r. h a (f a) ∷ r) (each-numbers f h (suc a) k)

pub const-numbers : {A : Type 0} (c : A) (a k : ℕ) → map (λ (x : ℕ). c) (numbers a k) ≡ replicate k c
unfolding numbers
const-numbers c a zero = refl
const-numbers c a (suc k) = ap (λ r. c ∷ r) (const-numbers c (suc a) k)
