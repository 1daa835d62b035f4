-- The test of the list: place by place from the last on, then object by object.
-- Assumes nothing.
use Prim.Native.Nat.{ℕ, zero, suc, ◌+◌, ◌-◌, ◌≤◌, ◌<◌}
use mathlib.Core.Path.{◌≡◌, refl, sym, ap, ap₂, ◌∙◌}
use mathlib.Core.Bool.{Bool, true, false, not, ◌&&◌, ◌||◌, false≢true}
use mathlib.Core.List.{List, [], ◌∷◌}
use native.Mathlib.Omega.{arith}
use lib.Dec.{eqb, leb}
use lib.ListN.{length, get_or, take, drop, replicate, length-replicate}
use lib.Seq.{drop-cons, drop-length}
use borrow.Author.Tests.{le-leb, lt-leb, eqb-true}
use Rattle.std.specs.List.{list_all, range_with_len}
use Rattle.layout.specs.Limits.{object_max, sink_max, within}
use Rattle.layout.specs.Word.{is_nil, is_pointer}
use Rattle.layout.proofs.LimitLaws.{within-true}
use Rattle.records.specs.Record.{is_sink}
use Rattle.bitmap.specs.Bits.{holds, put_bit}
use Rattle.bitmap.proofs.BitLaws.{put-length, holds-blank}
use Rattle.graph.specs.Numbers.{has}
use Rattle.rules.specs.Buffers.{rec_of, all_of, all_to}
use Rattle.rules.specs.WellFormed.{once, lists, list_ok}
use Rattle.rules.proofs.BoolLaws.{and_split, is_false}
use Rattle.places.specs.Places.{put_all, Tested}
use Rattle.places.proofs.PutLaws.{put-all}

-- ---- empty places

module _ (list : List ℕ) where
  abbrev pub places : List ℕ
  places = take sink_max list

  -- with every place empty there is no number at any
  pub empty-all : list_all (λ y. eqb y 0) places ≡ true → (k : ℕ) → get_or places k 0 ≡ 0
  empty-all h = go places h
    where
      go : (l : List ℕ) → list_all (λ y. eqb y 0) l ≡ true → (k : ℕ) → get_or l k 0 ≡ 0
      go [] e k = refl
      go (y ∷ l) e zero = eqb-true y 0 (and_split (eqb y 0) (list_all (λ z. eqb z 0) l) e).0
      go (y ∷ l) e (suc k) = go l (and_split (eqb y 0) (list_all (λ z. eqb z 0) l) e).1 k

-- ---- the places

module _ (n : ℕ) (recs : List ℕ) where
  abbrev pub fits : ℕ → Bool
  fits y = is_nil y || (is_pointer n y && is_sink (rec_of n recs y))

  -- each place is empty or has a sink that no other has
  abbrev pub good : List ℕ → Bool
  good l = all_of fits l && once l

  -- the test of a place before those of l
  abbrev pub test : ℕ → List ℕ → Bool
  test y l = is_nil y || ((is_pointer n y && is_sink (rec_of n recs y)) && not (has y l))

  good-cons : (y : ℕ) (l : List ℕ) → good (y ∷ l) ≡ (test y l && good l)
  unfolding all_of once
  good-cons y l = go (is_nil y) (is_pointer n y && is_sink (rec_of n recs y)) (has y l) (all_of fits l)
    where
      go : (z s h a : Bool) → (((z || s) && a) && ((z || not h) && once l)) ≡ ((z || (s && not h)) && (a && once l))
      go true s h a = refl
      go false true true true = refl
      go false true true false = refl
      go false true false a = refl
      go false false h a = refl

  good-drop : (k : ℕ) (l : List ℕ) → good l ≡ true → good (drop k l) ≡ true
  good-drop zero l e = e
  good-drop (suc k) [] e = e
  good-drop (suc k) (y ∷ l) e = good-drop k l (and_split (test y l) (good l) (sym (good-cons y l) ∙ e)).1

  module _ (list : List ℕ) where
    -- the places from k on are good, and the set has their numbers
    pub record Seeing (seen : List ℕ) (k : ℕ) : Type 0 where
      pub most : k ≤ length list
      pub so_far : good (drop k list) ≡ true
      pub numbers : (z : ℕ) → z ≤ n → holds z seen ≡ has z (drop k list)
      pub long : length seen ≡ 64

    pub seeing-start : (seen : List ℕ) (k : ℕ) → seen ≡ replicate 64 0 → k ≡ length list → Seeing seen k
    unfolding all_of once has
    seeing-start seen k e f =
        let d : drop k list ≡ [] = rw f (drop-length list) in
        record {
          most = omega arith;
          so_far = rw d refl;
          numbers = λ z p. rw (e, d) (holds-blank 64 z);
          long = ap length e ∙ length-replicate {A = ℕ} 64 0;
        }

    module _ (small : n ≤ object_max) (seen : List ℕ) (k : ℕ) (s : Seeing seen k) (p : 0 < k) where
      abbrev y : ℕ
      y = get_or list (k - 1) 0

      at : drop (k - 1) list ≡ y ∷ drop k list
      at =
          let l : k - 1 < length list = omega (arith, s.most) in
          let z : suc (k - 1) ≡ k = omega arith in
          drop-cons list (k - 1) 0 l ∙ ap (λ (i : ℕ). get_or list (k - 1) 0 ∷ drop i list) z

      -- the set has what the other places have
      same : (b : Bool) → b ≡ is_nil y || ((is_pointer n y && is_sink (rec_of n recs y)) && not (holds y seen)) → b ≡ test y (drop k list)
      unfolding is_pointer
      same b e = go (within 1 n y) refl
        where
          go : (t : Bool) → within 1 n y ≡ t → b ≡ test y (drop k list)
          go true q = e ∙ ap (λ (h : Bool). is_nil y || ((within 1 n y && is_sink (rec_of n recs y)) && not h)) (s.numbers y (within-true 1 n y q).1)
          go false q = e ∙ rw (q) refl

      -- a place that passes, and its number in the set
      pub seeing-turn : (b : Bool) (next : List ℕ) → b ≡ is_nil y || ((is_pointer n y && is_sink (rec_of n recs y)) && not (holds y seen)) → b ≡ true
          → next ≡ put_bit y seen → Seeing next (k - 1)
      unfolding put_all has
      seeing-turn b next e t f =
          record {
            most = omega (arith, s.most);
            so_far = rw at (good-cons y (drop k list) ∙ rw (← same b e, t) s.so_far);
            numbers = numbers;
            long = ap length f ∙ put-length seen y ∙ s.long;
          }
        where
          or-none : (a c : Bool) → ((a || false) || c) ≡ (a || c)
          or-none true c = refl
          or-none false c = refl

          numbers : (z : ℕ) → z ≤ n → holds z next ≡ has z (drop (k - 1) list)
          numbers z q =
              ap (holds z) f ∙ put-all (y ∷ []) seen z (omega (arith, s.long))
              ∙ or-none (eqb z y) (holds z seen) ∙ ap (λ (c : Bool). eqb z y || c) (s.numbers z q) ∙ sym (ap (has z) at)

      -- one that does not
      pub seeing-stop : (b : Bool) (now : List ℕ) → b ≡ is_nil y || ((is_pointer n y && is_sink (rec_of n recs y)) && not (holds y seen)) → b ≡ false
          → Tested n recs list false now
      seeing-stop b now e t = record {
        answer = sym (is_false (good list) bad);
        seen-is = λ q. absurd (false≢true q);
      }
        where
          bad : good list ≡ true → ⊥
          bad g = false≢true (sym (good-cons y (drop k list) ∙ rw (← same b e, t) refl) ∙ ap good (sym at) ∙ good-drop (k - 1) list g)

    -- all places are passed
    pub seeing-end : (seen : List ℕ) (k : ℕ) → Seeing seen k → k ≤ 0 → Tested n recs list true seen
    seeing-end seen k s p =
        let z : k ≡ 0 = omega arith in
        record {
          answer = sym (rw z at s.so_far);
          seen-is = λ q x l. rw z at (s.numbers x l);
        }

-- ---- the objects

pub all_to-same : (n : ℕ) (s t : ℕ → Bool) → ((x : ℕ) → 1 ≤ x → x ≤ n → s x ≡ t x) → all_to n s ≡ all_to n t
unfolding all_to
all_to-same zero s t h = refl
all_to-same (suc n) s t h = ap₂ (λ (a b : Bool). a && b) (all_to-same n s t (λ x p q. h x p (omega arith))) (h (suc n) (omega arith) (omega arith))

-- the first of them apart
pub all_to-front : (n : ℕ) (t : ℕ → Bool) → all_to (suc n) t ≡ (t 1 && all_to n (λ x. t (suc x)))
unfolding all_to
all_to-front zero t = swap (t 1)
  where
    swap : (b : Bool) → (true && b) ≡ (b && true)
    swap true = refl
    swap false = refl
all_to-front (suc n) t =
    ap (λ (b : Bool). b && t (suc (suc n))) (all_to-front n t) ∙ assoc (t 1) (all_to n (λ x. t (suc x))) (t (suc (suc n)))
  where
    assoc : (a b c : Bool) → ((a && b) && c) ≡ (a && (b && c))
    assoc true b c = refl
    assoc false b c = refl

-- the numbers 0 to n - 1 asked, each for the next
pub range-all : (n : ℕ) (t : ℕ → Bool) → list_all (λ i. t (i + 1)) (range_with_len 0 n) ≡ all_to n t
range-all n t = go n 0 ∙ all_to-same n (λ x. t (0 + x)) t (λ x p q. ap t (omega arith))
  where
    go : (k a : ℕ) → list_all (λ i. t (i + 1)) (range_with_len a k) ≡ all_to k (λ x. t (a + x))
    go zero a = unfold all_to in refl
    go (suc k) a =
        ap (λ (b : Bool). t (a + 1) && b) (go k (a + 1) ∙ all_to-same k (λ x. t (a + 1 + x)) (λ x. t (a + suc x)) (λ x p q. ap t (omega arith)))
        ∙ sym (all_to-front k (λ x. t (a + x)))

-- ---- the list

and-mid : (a b c : Bool) → ((a && b) && c) ≡ ((a && c) && b)
and-mid true true c = sym (last c)
  where
    last : (d : Bool) → (d && true) ≡ d
    last true = refl
    last false = refl
and-mid true false true = refl
and-mid true false false = refl
and-mid false b c = refl

module _ (n : ℕ) (recs list : List ℕ) where
  by_parts : list_ok n recs list ≡ (good n recs (places list) && all_to n (λ x. not (is_sink (rec_of n recs x)) || has x (places list)))
  unfolding list_ok lists
  by_parts = and-mid (all_of (fits n recs) (places list)) (all_to n (λ x. not (is_sink (rec_of n recs x)) || has x (places list))) (once (places list))

  pub list-large : object_max < n → false ≡ (leb n object_max && list_ok n recs list)
  list-large l = rw (lt-leb n object_max l) refl

  module _ (small : n ≤ object_max) (b : Bool) (seen : List ℕ) (t : Tested n recs (places list) b seen) where
    pub list-bad : b ≡ false → false ≡ (leb n object_max && list_ok n recs list)
    list-bad e = rw (le-leb n object_max small, by_parts, ← t.answer, e) refl

    pub list-good : b ≡ true → (r : Bool) → r ≡ all_to n (λ x. not (is_sink (rec_of n recs x)) || holds x seen) → r ≡ (leb n object_max && list_ok n recs list)
    list-good e r f =
        f ∙ all_to-same n (λ x. not (is_sink (rec_of n recs x)) || holds x seen) (λ x. not (is_sink (rec_of n recs x)) || has x (places list))
        (λ x p l. ap (λ (h : Bool). not (is_sink (rec_of n recs x)) || h) (t.seen-is e x l))
        ∙ sym (rw (le-leb n object_max small, by_parts, ← t.answer, e) refl)
