-- Lists that have each number of 1 to n that passes a test once, and no other; 0 is an empty place.
-- Assumes nothing.
use Prim.Native.Nat.{ℕ, zero, suc, ◌+◌, ◌-◌, ◌≤◌, ◌<◌}
use mathlib.Core.Path.{◌≡◌, refl, sym, ap, ap₂, ◌∙◌}
use mathlib.Core.Bool.{Bool, true, false, not, cond, ◌&&◌, ◌||◌, false≢true}
use mathlib.Core.List.Memᴰ
use mathlib.Core.List.{List, [], ◌∷◌, ◌++◌, Memᴰ}
use mathlib.Core.Logic.{◌≢◌, ◌⊎◌, inl, inr}
use native.Mathlib.Decide.{dec_le}
use native.Mathlib.Omega.{arith}
use lib.Dec.{eqb, leb}
use lib.ListN.{length, get_or, take, replicate}
use borrow.Author.Tests.{eqb-true, eqb-false, eq-eqb, ne_eqb, le-leb, lt-leb, not-true}
use Rattle.layout.specs.Word.{is_nil, is_pointer}
use Rattle.layout.proofs.LimitLaws.{within-true, in_within}
use Rattle.graph.specs.Numbers.{Obj, has, bit, count, gather}
use Rattle.graph.specs.Heap.{pointers}
use Rattle.graph.proofs.NumberLaws.{has_in, in-has, sum_bump, sum-ext, count-ext, count_none, length-gather, gather-of, in-gather, in_left}
use Rattle.graph.proofs.ReachLaws.{length-pointers}
use Rattle.graph.proofs.MemberLaws.{word-pointer, pointer_word, pointer-nonzero}
use Rattle.rules.specs.Buffers.{rec_of, all_of, each_from, zeros}
use Rattle.rules.specs.WellFormed.{once, lists}
use Rattle.rules.proofs.BoolLaws.{or_split, or_cases, and_split, is_false}
use Rattle.rules.proofs.ListLaws.{take-each, rec_of-above, all_of-at, all_of-all, all_to-at, all_to-all}

-- ---- what the test says, and back

pub record Lists (n : ℕ) (t : ℕ → Bool) (l : List ℕ) : Type 0 where
  pub from : (y : ℕ) → Memᴰ y l → y ≢ 0 → Obj n y × (t y ≡ true)
  pub all : (x : ℕ) → Obj n x → t x ≡ true → Memᴰ x l
  pub single : once l ≡ true

module _ (n : ℕ) (t : ℕ → Bool) (l : List ℕ) where
  pub lists-facts : lists n t l ≡ true → Lists n t l
  unfolding lists
  lists-facts e =
      let s = and_split _ (once l) e in
      let u = and_split (all_of (λ y. is_nil y || (is_pointer n y && t y)) l) _ s.0 in
      record {
        from = λ y m p. from y p (all_of-at (λ y. is_nil y || (is_pointer n y && t y)) l y u.0 m);
        all = λ x o i. has_in x l (all x i (all_to-at n (λ x. not (t x) || has x l) u.1 x o.0 o.1));
        single = s.1;
      }
    where
      from : (y : ℕ) → y ≢ 0 → (is_nil y || (is_pointer n y && t y)) ≡ true → Obj n y × (t y ≡ true)
      from y p e = unfold is_nil is_pointer in (go (or_cases (eqb y 0) _ e))
        where
          go : (eqb y 0 ≡ true) ⊎ ((is_pointer n y && t y) ≡ true) → Obj n y × (t y ≡ true)
          go (inl z) = absurd (p (eqb-true y 0 z))
          go (inr q) = let r = and_split (is_pointer n y) (t y) q in (unfold is_pointer in within-true 1 n y r.0, r.1)

      all : (x : ℕ) → t x ≡ true → (not (t x) || has x l) ≡ true → has x l ≡ true
      all x i e = rw i at e

  pub facts-lists : Lists n t l → lists n t l ≡ true
  unfolding lists
  facts-lists f =
      rw (all_of-all (λ y. is_nil y || (is_pointer n y && t y)) l from, all_to-all n (λ x. not (t x) || has x l) all) f.single
    where
      from : (y : ℕ) → Memᴰ y l → (is_nil y || (is_pointer n y && t y)) ≡ true
      from y m = unfold is_nil is_pointer in (go (eqb y 0) refl)
        where
          go : (b : Bool) → eqb y 0 ≡ b → (b || (is_pointer n y && t y)) ≡ true
          go true z = refl
          go false z =
              let r = f.from y m (eqb-false y 0 z) in
              let p : is_pointer n y ≡ true = unfold is_pointer in in_within 1 n y r.0.0 r.0.1 in
              rw (p, r.1) refl

      all : (x : ℕ) → 1 ≤ x → x ≤ n → (not (t x) || has x l) ≡ true
      all x p q = go (t x) refl
        where
          go : (b : Bool) → t x ≡ b → (not b || has x l) ≡ true
          go true i = in-has x l (f.all x (p, q) i)
          go false i = refl

-- by the numbers 1 to n alone
pub lists-same : (n : ℕ) (t u : ℕ → Bool) (l : List ℕ) → ((x : ℕ) → Obj n x → t x ≡ u x) → Lists n t l → Lists n u l
lists-same n t u l h f = record {
  from = λ y m p. let r = f.from y m p in (r.0, sym (h y r.0) ∙ r.1);
  all = λ x o i. f.all x o (h x o ∙ i);
  single = f.single;
}

-- ---- lists without repeats

pub not-has : (x : ℕ) (l : List ℕ) → (Memᴰ x l → ⊥) → has x l ≡ false
not-has x l h = is_false (has x l) (λ e. h (has_in x l e))

pub has-not : (x : ℕ) (l : List ℕ) → has x l ≡ false → Memᴰ x l → ⊥
has-not x l e m = false≢true (sym e ∙ in-has x l m)

-- a number that is not there, in front
pub once_more : (y : ℕ) (l : List ℕ) → (y ≢ 0 → Memᴰ y l → ⊥) → once l ≡ true → once (y ∷ l) ≡ true
unfolding once is_nil
once_more y l h e = go (eqb y 0) refl
  where
    go : (b : Bool) → eqb y 0 ≡ b → ((b || not (has y l)) && once l) ≡ true
    go true z = e
    go false z = rw (not-has y l (h (eqb-false y 0 z))) e

pub once-rest : (y : ℕ) (l : List ℕ) → once (y ∷ l) ≡ true → once l ≡ true
unfolding once
once-rest y l e = (and_split (is_nil y || not (has y l)) (once l) e).1

pub once-other : (y : ℕ) (l : List ℕ) → once (y ∷ l) ≡ true → y ≢ 0 → has y l ≡ false
unfolding once is_nil
once-other y l e p =
    let a = (and_split (eqb y 0 || not (has y l)) (once l) e).0 in
    not-true (has y l) (rw (ne_eqb y 0 p) at a)

-- two lists that share no number but 0
pub once-append : (l m : List ℕ) → once l ≡ true → once m ≡ true → ((y : ℕ) → y ≢ 0 → Memᴰ y l → Memᴰ y m → ⊥) → once (l ++ m) ≡ true
once-append [] m e f h = f
once-append (y ∷ l) m e f h =
    once_more y (l ++ m) apart (once-append l m (once-rest y l e) f (λ z p a b. h z p (Memᴰ.tail a) b))
  where
    apart : y ≢ 0 → Memᴰ y (l ++ m) → ⊥
    apart p a = go (Memᴰ.append_cases l a)
      where
        go : Memᴰ y l ⊎ Memᴰ y m → ⊥
        go (inl b) = has-not y l (once-other y l e p) b
        go (inr b) = h y p (Memᴰ.head refl) b

once-pointers : (l : List ℕ) → once l ≡ true → once (pointers l) ≡ true
once-pointers [] e = unfold pointers in e
once-pointers (y ∷ l) e = go (eqb y 0) refl (once-pointers l (once-rest y l e))
  where
    go : (b : Bool) → eqb y 0 ≡ b → once (pointers l) ≡ true → once (pointers (y ∷ l)) ≡ true
    go true z r = unfold pointers in (rw z r)
    go false z r = unfold pointers in
        (rw z (once_more y (pointers l) (λ p m. has-not y l (once-other y l e p) (pointer_word l y m)) r))

-- ---- how long such a list is

-- the numbers of 1 to n in a list without repeats
once-count : (n : ℕ) (l : List ℕ) → once l ≡ true → ((y : ℕ) → Memᴰ y l → y ≢ 0 → Obj n y) → length (pointers l) ≡ count n (λ x. has x l)
once-count n [] e h = unfold pointers has in sym (count_none n (λ x. false) (λ x o. refl))
once-count n (y ∷ l) e h = go (eqb y 0) refl (once-count n l (once-rest y l e) (λ z m. h z (Memᴰ.tail m)))
  where
    go : (b : Bool) → eqb y 0 ≡ b → length (pointers l) ≡ count n (λ x. has x l) → length (pointers (y ∷ l)) ≡ count n (λ x. has x (y ∷ l))
    go true z r =
        unfold pointers in (rw z r)
        ∙ count-ext n (λ x. has x l) (λ x. has x (y ∷ l))
        (λ x o. unfold has in (rw (ne_eqb x y (λ i. omega (arith, o.0, eqb-true y 0 z))) refl))
    go false z r =
        let p = eqb-false y 0 z in
        let o = h y (Memᴰ.head refl) p in
        let one : length (pointers (y ∷ l)) ≡ suc (length (pointers l)) = unfold pointers in (rw z refl) in
        omega (arith, one, more o.0 o.1 (once-other y l e p))
      where
        more : 1 ≤ y → y ≤ n → has y l ≡ false → count n (λ x. has x (y ∷ l)) ≡ count n (λ x. has x l) + 1
        more p q a = unfold count has in
            (sum_bump n y 1 (λ x. bit (has x l)) (λ x. bit (eqb x y || has x l)) p q (rw (eq-eqb y y refl, a) refl) (λ x d. rw (ne_eqb x y d) refl))

module _ (n : ℕ) (t : ℕ → Bool) where
  -- as many places are filled as numbers pass
  pub listed-count : (l : List ℕ) → Lists n t l → length (pointers l) ≡ count n t
  listed-count l f =
      once-count n l f.single (λ y m p. (f.from y m p).0)
      ∙ count-ext n (λ x. has x l) t (λ x o. go x o (t x) refl)
    where
      go : (x : ℕ) → Obj n x → (b : Bool) → t x ≡ b → has x l ≡ t x
      go x o true i = in-has x l (f.all x o i) ∙ sym i
      go x o false i =
          not-has x l (λ m. false≢true (sym i ∙ (f.from x m (λ z. omega (arith, o.0, z))).1)) ∙ sym i

-- ---- the numbers that pass, in order

module _ (n : ℕ) (t : ℕ → Bool) where
  pub gather-length : length (gather n t (λ x. x ∷ [])) ≡ count n t
  unfolding count
  gather-length =
      length-gather n t (λ x. x ∷ []) ∙ sum-ext n (λ x. cond (t x) 1 0) (λ x. bit (t x)) (λ x p q. go (t x))
    where
      go : (b : Bool) → cond b 1 0 ≡ bit b
      go true = refl
      go false = refl

  pub gather-nonzero : has 0 (gather n t (λ x. x ∷ [])) ≡ false
  gather-nonzero = not-has 0 _ (λ m. absurd (omega (arith, (gather-of n t 0 m).0.0)))

gather-once : (n : ℕ) (t : ℕ → Bool) → once (gather n t (λ x. x ∷ [])) ≡ true
unfolding gather
gather-once zero t = unfold once in refl
gather-once (suc n) t =
    once-append (gather n t (λ x. x ∷ [])) (cond (t (suc n)) (suc n ∷ []) []) (gather-once n t) (last (t (suc n))) (λ y p a b. apart y a (t (suc n)) b)
  where
    last : (b : Bool) → once (cond b (suc n ∷ []) []) ≡ true
    last true = once_more (suc n) [] (λ p m. Memᴰ.not-nil m) (unfold once in refl)
    last false = unfold once in refl

    apart : (y : ℕ) → Memᴰ y (gather n t (λ x. x ∷ [])) → (b : Bool) → Memᴰ y (cond b (suc n ∷ []) []) → ⊥
    apart y a true (Memᴰ.head e) = omega (arith, (gather-of n t y a).0.1, e)
    apart y a true (Memᴰ.tail m) = Memᴰ.not-nil m
    apart y a false m = Memᴰ.not-nil m

pub gather-lists : (n : ℕ) (t : ℕ → Bool) → Lists n t (gather n t (λ x. x ∷ []))
gather-lists n t = record { from = λ y m p. gather-of n t y m; all = λ x o i. in-gather n t x o i; single = gather-once n t }

-- ---- without the empty places

pub pointers-lists : (n : ℕ) (t : ℕ → Bool) (l : List ℕ) → Lists n t l → Lists n t (pointers l)
pointers-lists n t l f = record {
  from = λ y m p. f.from y (pointer_word l y m) p;
  all = λ x o i. word-pointer l x (λ z. omega (arith, o.0, z)) (f.all x o i);
  single = once-pointers l f.single;
}

pub pointers-nonzero : (l : List ℕ) → has 0 (pointers l) ≡ false
pointers-nonzero l = not-has 0 (pointers l) (λ m. pointer-nonzero l 0 m refl)

-- a list without empty places
pub pointers-same : (l : List ℕ) → has 0 l ≡ false → pointers l ≡ l
unfolding has pointers
pointers-same [] e = refl
pointers-same (y ∷ l) e =
    let s = or_split (eqb 0 y) (has 0 l) e in
    rw (ne_eqb y 0 (λ i. eqb-false 0 y s.0 (sym i)), pointers-same l s.1) refl

-- no place is empty exactly if there are as many numbers as places
pub full-places : (l : List ℕ) → not (has 0 l) ≡ leb (length l) (length (pointers l))
full-places l = go (has 0 l) refl
  where
    fewer : (m : List ℕ) → has 0 m ≡ true → length (pointers m) < length m
    fewer [] e = unfold has in (absurd (false≢true e))
    fewer (y ∷ m) e = step (eqb y 0) refl (fewer m)
      where
        step : (b : Bool) → eqb y 0 ≡ b → (has 0 m ≡ true → length (pointers m) < length m) → length (pointers (y ∷ m)) < length (y ∷ m)
        step true z r = let a : length (pointers (y ∷ m)) ≡ length (pointers m) = unfold pointers in (rw z refl) in omega (arith, a, length-pointers m)
        step false z r =
            let a : length (pointers (y ∷ m)) ≡ suc (length (pointers m)) = unfold pointers in (rw z refl) in
            let b : has 0 m ≡ true = unfold has in (rw (ne_eqb 0 y (λ i. eqb-false y 0 z (sym i))) at e) in
            omega (arith, a, r b)

    go : (b : Bool) → has 0 l ≡ b → not b ≡ leb (length l) (length (pointers l))
    go true e = sym (lt-leb (length l) (length (pointers l)) (fewer l e))
    go false e = sym (le-leb (length l) (length (pointers l)) (rw (pointers-same l e) (omega arith)))

-- ---- with empty places behind

pub mem-replicate : {A : Type 0} (k : ℕ) (a w : A) → Memᴰ w (replicate k a) → w ≡ a
mem-replicate {A = A} zero a w x' = elim x' [ ]
mem-replicate (suc k) a w (Memᴰ.head e) = e
mem-replicate (suc k) a w (Memᴰ.tail m) = mem-replicate k a w m

pub once-zeros : (k : ℕ) → once (replicate k 0) ≡ true
once-zeros zero = unfold once in refl
once-zeros (suc k) = once_more 0 (replicate k 0) (λ p m. p refl) (once-zeros k)

module _ (l : List ℕ) (k : ℕ) where
  padded-of : (y : ℕ) → y ≢ 0 → Memᴰ y (l ++ replicate k 0) → Memᴰ y l
  padded-of y p m = go (Memᴰ.append_cases l m)
    where
      go : Memᴰ y l ⊎ Memᴰ y (replicate k 0) → Memᴰ y l
      go (inl a) = a
      go (inr a) = absurd (p (mem-replicate k 0 y a))

  pub padded-lists : (n : ℕ) (t : ℕ → Bool) → Lists n t l → Lists n t (l ++ replicate k 0)
  padded-lists n t f = record {
    from = λ y m p. f.from y (padded-of y p m) p;
    all = λ x o i. in_left x l (replicate k 0) (f.all x o i);
    single = once-append l (replicate k 0) f.single (once-zeros k) (λ y p a b. p (mem-replicate k 0 y b));
  }

-- the first k places, filled with a list that has room there
pub places-filled : (i k : ℕ) (f : ℕ → ℕ) (l b : List ℕ) → length l ≤ k → k ≤ length b → ((j : ℕ) → f (i + j) ≡ get_or l j 0)
    → take k (each_from i k (λ j y. f j) b) ≡ l ++ replicate (k - length l) 0
unfolding each_from
places-filled i zero f [] b p q h = refl
places-filled i zero f (y ∷ l) b p q h = absurd (omega arith)
places-filled i (suc k) f l [] p q h = absurd (omega arith)
places-filled i (suc k) f [] (w ∷ b) p q h =
    let z : i ≡ i + 0 = omega arith in
    let next : (j : ℕ) → suc i + j ≡ i + suc j = λ j. omega arith in
    let e : suc k - 0 ≡ suc (k - 0) = omega arith in
    ap₂ (λ (x : ℕ) (r : List ℕ). x ∷ r) (ap f z ∙ h 0) (places-filled (suc i) k f [] b (omega arith) (omega arith) (λ j. ap f (next j) ∙ h (suc j)))
    ∙ ap (λ (m : ℕ). replicate m 0) (sym e)
places-filled i (suc k) f (y ∷ l) (w ∷ b) p q h =
    let z : i ≡ i + 0 = omega arith in
    let next : (j : ℕ) → suc i + j ≡ i + suc j = λ j. omega arith in
    let e : suc k - suc (length l) ≡ k - length l = omega arith in
    ap₂ (λ (x : ℕ) (r : List ℕ). x ∷ r) (ap f z ∙ h 0) (places-filled (suc i) k f l b (omega arith) (omega arith) (λ j. ap f (next j) ∙ h (suc j)))
    ∙ ap (λ (m : ℕ). y ∷ (l ++ replicate m 0)) (sym e)

-- ---- words that became 0

get-zeros : (j k : ℕ) (l : List ℕ) (i : ℕ) → i < k → get_or (each_from j k (λ _ w. 0) l) i 0 ≡ 0
unfolding each_from
get-zeros j zero l i p = absurd (omega arith)
get-zeros j (suc k) [] i p = refl
get-zeros j (suc k) (w ∷ l) zero p = refl
get-zeros j (suc k) (w ∷ l) (suc i) p = get-zeros (suc j) k l i (omega arith)

pub rec_of-zeros : (n : ℕ) (recs : List ℕ) (x : ℕ) → rec_of n (zeros n recs) x ≡ 0
unfolding rec_of zeros
rec_of-zeros n recs zero = refl
rec_of-zeros n recs (suc i) = go (dec_le (suc i) n)
  where
    go : Dec (suc i ≤ n) → get_or (take n (each_from 0 n (λ _ w. 0) recs)) i 0 ≡ 0
    go (yes l) = ap (λ (t : List ℕ). get_or t i 0) (take-each 0 n (λ _ w. 0) recs n (omega arith)) ∙ get-zeros 0 n (take n recs) i l
    go (no l) = rec_of-above n (zeros n recs) (suc i) (omega (arith, l))
