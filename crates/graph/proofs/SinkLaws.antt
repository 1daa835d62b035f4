-- The set of a cluster: which sinks are in it, and when it stays the same; and the places of sinks.
-- Assumes nothing.
use Prim.Native.Nat.{ℕ, zero, suc, ◌<◌}
use mathlib.Core.Path.{◌≡◌, refl, sym, ap, ◌∙◌}
use mathlib.Core.Bool.{Bool, true, false, cond, not, ◌&&◌, ◌||◌, false≢true}
use mathlib.Core.List.Memᴰ
use mathlib.Core.List.{List, [], ◌∷◌, Memᴰ}
use mathlib.Core.Logic.{◌≢◌, ◌⊎◌, inl, inr, ◌↔◌}
use native.Mathlib.Decide.{ℕ_discrete}
use native.Mathlib.Omega.{arith}
use lib.Dec.{eqb}
use lib.ListN.{length, get_or, set}
use borrow.Author.Tests.{eqb-true, eqb-false, eq-eqb, ne_eqb, not-true}
use Rattle.graph.specs.Numbers.{Obj, has, some, only}
use Rattle.graph.specs.Heap.{Heap}
use Rattle.graph.specs.Clusters.{pointed, in_set, sinks_at}
use Rattle.graph.specs.Writes.{placed}
use Rattle.graph.specs.Invariant.{Listed}
use Rattle.graph.proofs.NumberLaws.{and_split, has_in, in-has, some-from, some_in_lem, some-ext, some-none, only-from, only-in, only-ext}

-- ---- the set of a cluster

-- a member of cluster c that points at y
abbrev pub Points : Heap → ℕ → ℕ → Type 0
Points H c y = (x : ℕ) × Obj H.n x × (H.cluster x ≡ c) × Memᴰ y (H.kids x)

pub pointed-from : (H : Heap) (c y : ℕ) → pointed H c y ≡ true → Points H c y
unfolding pointed
pointed-from H c y e =
    let t = some-from H.n (λ x. eqb (H.cluster x) c && has y (H.kids x)) e in
    let u = and_split (eqb (H.cluster t.0) c) (has y (H.kids t.0)) t.2 in
    (t.0, t.1, eqb-true (H.cluster t.0) c u.0, has_in y (H.kids t.0) u.1)

pub pointed-in : (H : Heap) (c y : ℕ) → Points H c y → pointed H c y ≡ true
unfolding pointed
pointed-in H c y (x, b, e, m) =
    some_in_lem H.n (λ x. eqb (H.cluster x) c && has y (H.kids x)) x b (rw (eq-eqb (H.cluster x) c e) (in-has y (H.kids x) m))

pub in_set-from : (H : Heap) (c y : ℕ) → in_set H c y ≡ true → (y ≢ 0) × Points H c y
unfolding in_set
in_set-from H c y e =
    let s = and_split (not (eqb y 0)) (pointed H c y) e in
    (eqb-false y 0 (not-true (eqb y 0) s.0), pointed-from H c y s.1)

pub in_set-in : (H : Heap) (c y : ℕ) → y ≢ 0 → Points H c y → in_set H c y ≡ true
unfolding in_set
in_set-in H c y nz p = rw (ne_eqb y 0 nz) (pointed-in H c y p)

-- a sink of the set is listed, and a member points at it
pub sinks-from : (H : Heap) (c y : ℕ) → Memᴰ y (sinks_at H c) → Memᴰ y H.listed × (y ≢ 0) × Points H c y
unfolding sinks_at
sinks-from H c y m =
    let r = only-from (in_set H c) H.listed y m in
    let s = in_set-from H c y r.1 in
    (r.0, s.0, s.1)

pub sinks_in_lem : (H : Heap) (c y x : ℕ) → Memᴰ y H.listed → y ≢ 0 → Obj H.n x → H.cluster x ≡ c → Memᴰ y (H.kids x)
    → Memᴰ y (sinks_at H c)
unfolding sinks_at
sinks_in_lem H c y x l nz b e m = only-in (in_set H c) H.listed y l (in_set-in H c y nz (x, b, e, m))

-- it is an object in no cluster
pub sink-plain : (H : Heap) → Listed H → (c y : ℕ) → Memᴰ y (sinks_at H c) → Obj H.n y × (H.cluster y ≡ 0)
sink-plain H l c y m =
    let t = sinks-from H c y m in
    let r = l y t.0 t.1 in
    ((omega (arith, t.1), r.0), r.1)

-- what is in the set depends on which objects are members, and on their pointers
pub in_set-same : (H H' : Heap) (c y : ℕ) → H.n ≡ H'.n → ((x : ℕ) → Obj H.n x → (H.cluster x ≡ c) ↔ (H'.cluster x ≡ c))
    → ((x : ℕ) → Obj H.n x → H.cluster x ≡ c → H.kids x ≡ H'.kids x) → in_set H c y ≡ in_set H' c y
unfolding in_set pointed
in_set-same H H' c y e f g =
    ap (λ b. not (eqb y 0) && b)
    (some-ext H.n (λ x. eqb (H.cluster x) c && has y (H.kids x)) (λ x. eqb (H'.cluster x) c && has y (H'.kids x))
    (λ x b. each x b (ℕ_discrete (H.cluster x) c))
    ∙ ap (λ m. some m (λ x. eqb (H'.cluster x) c && has y (H'.kids x))) e)
  where
    each : (x : ℕ) → Obj H.n x → Dec (H.cluster x ≡ c)
        → (eqb (H.cluster x) c && has y (H.kids x)) ≡ (eqb (H'.cluster x) c && has y (H'.kids x))
    each x b (yes i) = rw (eq-eqb (H.cluster x) c i, eq-eqb (H'.cluster x) c ((f x b).0 i), g x b i) refl
    each x b (no i) = rw (ne_eqb (H.cluster x) c i, ne_eqb (H'.cluster x) c (λ j. i ((f x b).1 j))) refl

-- so does the set
pub sinks_at-same : (H H' : Heap) (c : ℕ) → H.listed ≡ H'.listed → ((y : ℕ) → Memᴰ y H.listed → in_set H c y ≡ in_set H' c y)
    → sinks_at H c ≡ sinks_at H' c
unfolding sinks_at
sinks_at-same H H' c e h = only-ext (in_set H c) (in_set H' c) H.listed h ∙ ap (only (in_set H' c)) e

-- a number that no object carries has an empty set
pub in_set-none : (H : Heap) (c y : ℕ) → ((x : ℕ) → Obj H.n x → H.cluster x ≢ c) → in_set H c y ≡ false
unfolding in_set pointed
in_set-none H c y h =
    rw (some-none H.n (λ x. eqb (H.cluster x) c && has y (H.kids x)) (λ x b. rw (ne_eqb (H.cluster x) c (h x b)) refl)) (and_none (not (eqb y 0)))
  where
    and_none : (b : Bool) → (b && false) ≡ false
    and_none true = refl
    and_none false = refl

-- ---- the places

-- what is listed after o got a place
pub placed-from : (o : ℕ) (l : List ℕ) (y : ℕ) → Memᴰ y (placed o l) → (y ≡ o) ⊎ Memᴰ y l
unfolding placed
placed-from o [] y m = absurd (Memᴰ.not-nil m)
placed-from o (z ∷ l) y m = go (λ a. placed-from o l y a) (eqb z 0) m
  where
    wider : (y ≡ o) ⊎ Memᴰ y l → (y ≡ o) ⊎ Memᴰ y (z ∷ l)
    wider (inl e) = inl e
    wider (inr a) = inr (Memᴰ.tail a)

    go : (Memᴰ y (placed o l) → (y ≡ o) ⊎ Memᴰ y l) → (b : Bool) → Memᴰ y (cond b (o ∷ l) (z ∷ placed o l))
        → (y ≡ o) ⊎ Memᴰ y (z ∷ l)
    go r true (Memᴰ.head e) = inl e
    go r true (Memᴰ.tail a) = inr (Memᴰ.tail a)
    go r false (Memᴰ.head e) = inr (Memᴰ.head e)
    go r false (Memᴰ.tail a) = wider (r a)

-- what was listed stays
pub placed-keeps : (o : ℕ) (l : List ℕ) (y : ℕ) → Memᴰ y l → y ≢ 0 → Memᴰ y (placed o l)
unfolding placed
placed-keeps o [] y m nz = elim m [ ]
placed-keeps o (z ∷ l) y m nz = go (λ a. placed-keeps o l y a nz) (eqb z 0) refl m
  where
    go : (Memᴰ y l → Memᴰ y (placed o l)) → (b : Bool) → eqb z 0 ≡ b → Memᴰ y (z ∷ l)
        → Memᴰ y (cond b (o ∷ l) (z ∷ placed o l))
    go r true f (Memᴰ.head e) = absurd (nz (e ∙ eqb-true z 0 f))
    go r true f (Memᴰ.tail a) = Memᴰ.tail a
    go r false f (Memᴰ.head e) = Memᴰ.head e
    go r false f (Memᴰ.tail a) = Memᴰ.tail (r a)

-- o is listed, once there is an empty place
pub placed-there : (o : ℕ) (l : List ℕ) → Memᴰ 0 l → Memᴰ o (placed o l)
unfolding placed
placed-there o [] m = elim m [ ]
placed-there o (z ∷ l) m = go (λ a. placed-there o l a) (eqb z 0) refl m
  where
    go : (Memᴰ 0 l → Memᴰ o (placed o l)) → (b : Bool) → eqb z 0 ≡ b → Memᴰ 0 (z ∷ l)
        → Memᴰ o (cond b (o ∷ l) (z ∷ placed o l))
    go r true f a = Memᴰ.head refl
    go r false f (Memᴰ.head e) = absurd (eqb-false z 0 f (sym e))
    go r false f (Memᴰ.tail a) = Memᴰ.tail (r a)

-- the two before as one test
pub has-placed : (o : ℕ) (l : List ℕ) (y : ℕ) → has 0 l ≡ true → y ≢ 0 → has y (placed o l) ≡ (eqb y o || has y l)
unfolding has placed
has-placed o [] y e nz = absurd (false≢true e)
has-placed o (z ∷ l) y e nz = go (λ i. has-placed o l y i nz) (eqb z 0) refl
  where
    swap : (a b c : Bool) → (a || (b || c)) ≡ (b || (a || c))
    swap true true c = refl
    swap true false c = refl
    swap false b c = refl

    go : (has 0 l ≡ true → has y (placed o l) ≡ (eqb y o || has y l)) → (b : Bool) → eqb z 0 ≡ b
        → has y (cond b (o ∷ l) (z ∷ placed o l)) ≡ (eqb y o || (eqb y z || has y l))
    go r true f = rw (ne_eqb y z (λ i. nz (i ∙ eqb-true z 0 f))) refl
    go r false f = rw (r (rw (ne_eqb 0 z (λ i. eqb-false z 0 f (sym i))) at e)) (swap (eqb y z) (eqb y o) (has y l))

-- the place that o gets is the first empty one
pub placed_at : (o : ℕ) (l : List ℕ) (k : ℕ) → k < length l → get_or l k 0 ≡ 0 → ((j : ℕ) → j < k → get_or l j 0 ≢ 0) → placed o l ≡ set l k o
unfolding placed
placed_at o [] k h e f = absurd (omega arith)
placed_at o (z ∷ l) zero h e f = rw (eq-eqb z 0 e) refl
placed_at o (z ∷ l) (suc k) h e f =
    rw (ne_eqb z 0 (f 0 (omega arith)), placed_at o l k (omega arith) e (λ j i. f (suc j) (omega arith))) refl

pub length-placed : (o : ℕ) (l : List ℕ) → length (placed o l) ≡ length l
unfolding placed
length-placed o [] = refl
length-placed o (z ∷ l) = go (eqb z 0) (length-placed o l)
  where
    go : (b : Bool) → length (placed o l) ≡ length l → length (cond b (o ∷ l) (z ∷ placed o l)) ≡ length (z ∷ l)
    go true r = refl
    go false r = ap suc r
