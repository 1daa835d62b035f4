-- The sinks of a set from a place on, told by the set's word, and the words of visits and markers.
-- Assumes nothing.
use Prim.Native.Nat.{ℕ, zero, suc, ◌+◌, ◌-◌, ◌*◌, ◌/◌, ◌%◌, ◌^◌, ◌≤◌, ◌<◌}
use mathlib.Core.Path.{◌≡◌, refl, sym, ap, ap₂, ◌∙◌}
use mathlib.Core.Bool.{Bool, true, false, cond}
use mathlib.Core.List.{List, [], ◌∷◌, ◌++◌, Memᴰ, cons≢nil}
use mathlib.Core.Logic.{◌≢◌}
use native.Mathlib.Decide.{ℕ_discrete}
use native.Mathlib.Nat.{div-le_self}
use native.Mathlib.Omega.{arith}
use lib.Dec.{eqb}
use lib.ListN.{length, get_or, drop, set}
use lib.Seq.{drop-cons, drop-length}
use lib.Count.{count_trailing_zeros, under}
use borrow.Author.Tests.{eq-eqb, ne_eqb, le-leb, lt-leb}
use Rattle.layout.specs.Limits.{sink_max}
use Rattle.bitmap.specs.Bits.{bits_of}
use Rattle.bitmap.proofs.BitLaws.{half-power}
use Rattle.graph.specs.Numbers.{only}
use Rattle.graph.specs.Heap.{Heap}
use Rattle.graph.specs.Clusters.{in_set}
use Rattle.graph.specs.Analysis.{Item, items}
use Rattle.rules.specs.View.{set_word}
use Rattle.analyse.specs.Memory.{stack_end, mem_of, in_front, item_of, visit_words, mark_from, sinks_from, items_of, visits_of, Marks, markers}
use Rattle.analyse.proofs.MemoryLaws.{front-none, push-mem}

-- ---- a list of places as a word

module _ (f : ℕ → Bool) where
  -- the word whose bit j is set where place j of the list passes the test
  unfoldable pub word_from : List ℕ → ℕ
  word_from [] = 0
  word_from (y ∷ l) = cond (f y) 1 0 + 2 * word_from l

  word_low : (y : ℕ) (l : List ℕ) → word_from (y ∷ l) % 2 ≡ cond (f y) 1 0
  unfolding word_from
  word_low y l = go (f y)
    where
      go : (b : Bool) → (cond b 1 0 + 2 * word_from l) % 2 ≡ cond b 1 0
      go true = omega arith
      go false = omega arith

  word-half : (y : ℕ) (l : List ℕ) → word_from (y ∷ l) / 2 ≡ word_from l
  unfolding word_from
  word-half y l = go (f y)
    where
      go : (b : Bool) → (cond b 1 0 + 2 * word_from l) / 2 ≡ word_from l
      go true = omega arith
      go false = omega arith

  -- the places from p on
  pub word-drop : (p : ℕ) (l : List ℕ) → word_from l / 2 ^ p ≡ word_from (drop p l)
  unfolding word_from
  word-drop zero l = omega arith
  word-drop (suc p) [] = omega (arith, div-le_self 0 (2 ^ suc p))
  word-drop (suc p) (y ∷ l) = half-power (word_from (y ∷ l)) p ∙ ap (λ (w : ℕ). w / 2 ^ p) (word-half y l) ∙ word-drop p l

  pub word_none : (l : List ℕ) → word_from l ≡ 0 → only f l ≡ []
  unfolding word_from only
  word_none [] e = refl
  word_none (y ∷ l) e = go (f y) e (λ z. word_none l z)
    where
      go : (b : Bool) → cond b 1 0 + 2 * word_from l ≡ 0 → (word_from l ≡ 0 → only f l ≡ []) → cond b (y ∷ only f l) (only f l) ≡ []
      go true e ih = absurd (omega arith)
      go false e ih = ih (omega arith)

  abbrev Next : ℕ → List ℕ → Type 0
  Next k l = (k < length l) × (only f l ≡ get_or l k 0 ∷ only f (drop (k + 1) l))

  -- the lowest bit is the first place that passes
  pub word_next : (m : ℕ) (l : List ℕ) → word_from l ≢ 0 → length l ≤ m → Next (count_trailing_zeros m (word_from l)) l
  unfolding word_from count_trailing_zeros only
  word_next m [] nz h = absurd (nz refl)
  word_next zero (y ∷ l) nz h = absurd (omega arith)
  word_next (suc m) (y ∷ l) nz h = rw (word_low y l, word-half y l) (go (f y) nz (λ z. word_next m l z (omega arith)))
    where
      go : (b : Bool) → cond b 1 0 + 2 * word_from l ≢ 0 → (word_from l ≢ 0 → Next (count_trailing_zeros m (word_from l)) l)
          → (under (cond b 1 0) (count_trailing_zeros m (word_from l)) < suc (length l))
          × (cond b (y ∷ only f l) (only f l)
          ≡ get_or (y ∷ l) (under (cond b 1 0) (count_trailing_zeros m (word_from l))) 0 ∷ only f (drop (under (cond b 1 0) (count_trailing_zeros m (word_from l)) + 1) (y ∷ l)))
      go true z ih = (omega arith, refl)
      go false z ih =
          let k = count_trailing_zeros m (word_from l) in
          let r = ih (λ e. z (omega arith)) in
          let e : suc k + 1 ≡ suc (k + 1) = omega arith in
          (omega (arith, r.0), rw e r.1)

  -- a word made from the test on the places of a list
  pub bits-word : (k b : ℕ) (l : List ℕ) → b + k ≡ length l → bits_of (λ j. f (get_or l j 0)) b k ≡ word_from (drop b l)
  unfolding bits_of word_from
  bits-word zero b l e =
      let i : b ≡ length l = omega arith in
      rw (i, drop-length l) refl
  bits-word (suc k) b l e = rw (drop-cons l b 0 (omega arith), bits-word k (suc b) l (omega arith)) refl

-- the word of a cluster's set from place p on
pub set_word_lem : (H : Heap) (h p : ℕ) → length H.listed ≡ sink_max → set_word H h / 2 ^ p ≡ word_from (in_set H h) (drop p H.listed)
unfolding set_word
set_word_lem H h p e =
    ap (λ (w : ℕ). w / 2 ^ p) (bits-word (in_set H h) sink_max 0 H.listed (omega arith)) ∙ word-drop (in_set H h) p H.listed

-- ---- visits as words

mark-place : (h p : ℕ) → h ≤ 4095 → p ≤ 64 → (h + 4096 * p + mark_from) / 4096 % 4096 ≡ p
mark-place h p a b =
    let q : (h + 4096 * p + mark_from) / 4096 ≡ p + 4096 = omega arith in
    ap (λ (w : ℕ). w % 4096) q ∙ (omega arith)

module _ (H : Heap) where
  -- a word below the markers
  pub plain-items : (w : ℕ) → w < mark_from → items_of H w ≡ item_of w ∷ []
  unfolding items_of
  plain-items w h = rw (lt-leb mark_from w h) refl

  pub marker-items : (w : ℕ) → mark_from ≤ w → items_of H w ≡ items 0 (sinks_from H (w % 4096) (w / 4096 % 4096))
  unfolding items_of
  marker-items w h = rw (le-leb mark_from w h) refl

  module _ (n c : ℕ) (most : n ≤ 4095) (p : c ≤ n) where
    pub words-visits : (l r : List ℕ) → ((k : ℕ) → Memᴰ k l → k ≤ n) → visits_of H (visit_words c l ++ r) ≡ items c l ++ visits_of H r
    unfolding visit_words visits_of item_of items
    words-visits [] r h = refl
    words-visits (x ∷ l) r h =
        let s : x ≤ n = h x (Memᴰ.head refl) in
        let a : (x + 4096 * c) % 4096 ≡ x = omega arith in
        let b : (x + 4096 * c) / 4096 ≡ c = omega arith in
        ap₂ (λ (i j : List Item). i ++ j)
        (plain-items (x + 4096 * c) (omega arith) ∙ ap₂ (λ (y z : ℕ). record { obj = y; passed = z } ∷ []) a b)
        (words-visits l r (λ k m. h k (Memᴰ.tail m)))

    pub words-marks : (l r : List ℕ) → ((k : ℕ) → Memᴰ k l → k ≤ n) → Marks H r → Marks H (visit_words c l ++ r)
    unfolding visit_words
    words-marks [] r h g w i m = g w i m
    words-marks (x ∷ l) r h g w (Memᴰ.head e) m = let s : x ≤ n = h x (Memᴰ.head refl) in absurd (omega arith)
    words-marks (x ∷ l) r h g w (Memᴰ.tail i) m = words-marks l r (λ k j. h k (Memᴰ.tail j)) g w i m

  module _ (s h p : ℕ) (low : 1 ≤ h) (high : h ≤ H.n) (most : H.n ≤ 4095) (near : p ≤ 64)
      (is : s ≡ word_from (in_set H h) (drop p H.listed)) where
    -- the marker, if there is one, stands for the sinks from place p on
    pub marker-visits : (l : List ℕ) → visits_of H (markers s h p ++ l) ≡ items 0 (sinks_from H h p) ++ visits_of H l
    unfolding markers visits_of sinks_from items
    marker-visits l = go (ℕ_discrete s 0)
      where
        go : Dec (s ≡ 0) → visits_of H (markers s h p ++ l) ≡ items 0 (sinks_from H h p) ++ visits_of H l
        go (yes z) = rw (eq-eqb s 0 z) (ap (λ (t : List ℕ). items 0 t ++ visits_of H l) (sym (word_none (in_set H h) (drop p H.listed) (sym is ∙ z))))
        go (no z) =
            let a : (h + 4096 * p + mark_from) % 4096 ≡ h = omega arith in
            let b = mark-place h p (omega arith) near in
            rw (ne_eqb s 0 z) (ap (λ (t : List Item). t ++ visits_of H l)
            (marker-items (h + 4096 * p + mark_from) (omega arith) ∙ ap₂ (λ (i j : ℕ). items 0 (sinks_from H i j)) a b))

    pub marker-marks : (l : List ℕ) → Marks H l → Marks H (markers s h p ++ l)
    unfolding markers sinks_from
    marker-marks l g = go (ℕ_discrete s 0)
      where
        go : Dec (s ≡ 0) → Marks H (markers s h p ++ l)
        go (yes z) = rw (eq-eqb s 0 z) g
        go (no z) = rw (ne_eqb s 0 z) both
          where
            both : Marks H ((h + 4096 * p + mark_from) ∷ l)
            both w (Memᴰ.tail i) m = g w i m
            both w (Memᴰ.head e) m =
                let a : w % 4096 ≡ h = omega arith in
                let b : w / 4096 % 4096 ≡ p = ap (λ (v : ℕ). v / 4096 % 4096) e ∙ mark-place h p (omega arith) near in
                record {
                  low = omega arith;
                  high = omega arith;
                  some = rw (a, b) (λ n. cons≢nil (sym (word_next (in_set H h) (length (drop p H.listed)) (drop p H.listed) (λ y. z (is ∙ y)) (omega arith)).1 ∙ n));
                }

pub markers-one : (s h p : ℕ) → length (markers s h p) ≤ 1
unfolding markers
markers-one s h p = go (eqb s 0)
  where
    go : (b : Bool) → length (cond b [] ((h + 4096 * p + mark_from) ∷ [])) ≤ 1
    go true = omega arith
    go false = omega arith

-- ---- a marker is put in front

module _ (n : ℕ) (work : List ℕ) (s h p top : ℕ) where
  pub mark-none : s ≡ 0 → (mem_of n work top ≡ in_front (markers s h p) (mem_of n work top)) × (top + length (markers s h p) ≡ top)
  unfolding markers
  mark-none z = rw (eq-eqb s 0 z) (sym (front-none (mem_of n work top)), omega arith)

  pub mark-put : s ≢ 0 → 10 * n + 64 ≤ length work → 1 ≤ top → top ≤ stack_end n
      → (mem_of n (set work (top - 1) (h + 4096 * p + mark_from)) (top - 1) ≡ in_front (markers s h p) (mem_of n work top))
      × (top - 1 + length (markers s h p) ≡ top)
  unfolding markers
  mark-put z l a b = rw (ne_eqb s 0 z) (push-mem n work l top (h + 4096 * p + mark_from) (omega arith) b, omega arith)
