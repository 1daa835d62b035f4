-- Numbers put into a set one after the other, and the words that the loops read.
-- Assumes nothing.
use Prim.Native.Nat.{ℕ, zero, suc, ◌+◌, ◌-◌, ◌*◌, ◌/◌, ◌%◌, ◌^◌, ◌≤◌, ◌<◌}
use mathlib.Core.Path.{◌≡◌, refl, sym, ap, ap₂, ◌∙◌}
use mathlib.Core.Bool.{Bool, true, false, cond, ◌&&◌, ◌||◌}
use mathlib.Core.List.{List, [], ◌∷◌, ◌++◌, map, Memᴰ}
use mathlib.Core.Logic.{◌≢◌}
use native.Mathlib.Decide.{dec_lt, ℕ_discrete}
use native.Mathlib.Numerals.{add-one}
use native.Mathlib.Omega.{arith}
use lib.Bits.{or_lt}
use lib.Dec.{eqb}
use lib.Pow.{pow-lt}
use lib.ListN.{length, get_or, take, drop, drop_of_length-le}
use lib.Seq.{drop-cons, get_or-set_same, get_or-set_other}
use borrow.Author.Tests.{eq-eqb, ne_eqb}
use Rattle.layout.specs.Field.{put_flag}
use Rattle.layout.specs.Word.{is_pointer}
use Rattle.layout.specs.Limits.{within}
use Rattle.layout.proofs.FieldLaws.{or-flag}
use Rattle.records.specs.Record.{width, cluster}
use Rattle.bitmap.specs.Bits.{holds, put_bit}
use Rattle.bitmap.proofs.BitLaws.{put-length, put-past, put_holds}
use Rattle.graph.specs.Numbers.{has, gather, some}
use Rattle.rules.specs.Buffers.{rec_of, used_words, eight}
use Rattle.rules.specs.View.{target}
use Rattle.table.specs.Clusters.{cluster_of}
use Rattle.places.specs.Places.{put_all, kids_of, place_bits, is_member, object_bits}

-- ---- numbers put

pub put-append : (l m words : List ℕ) → put_all (l ++ m) words ≡ put_all m (put_all l words)
unfolding put_all
put-append [] m words = refl
put-append (y ∷ l) m words = put-append l m (put_bit y words)

pub length-put : (l words : List ℕ) → length (put_all l words) ≡ length words
unfolding put_all
length-put [] words = refl
length-put (y ∷ l) words = length-put l (put_bit y words) ∙ put-length words y

or_swap : (a b c : Bool) → (a || (b || c)) ≡ ((b || a) || c)
or_swap true true c = refl
or_swap true false c = refl
or_swap false true c = refl
or_swap false false c = refl

-- a number of the set's room is in it afterwards if it was, or was put
pub put-all : (l words : List ℕ) (z : ℕ) → z / 64 < length words → holds z (put_all l words) ≡ (has z l || holds z words)
unfolding put_all has
put-all [] words z p = refl
put-all (y ∷ l) words z p =
    put-all l (put_bit y words) z (rw (put-length words y) p) ∙ ap (λ (b : Bool). has z l || b) (one (dec_lt (y / 64) (length words)))
    ∙ or_swap (has z l) (eqb z y) (holds z words)
  where
    one : Dec (y / 64 < length words) → holds z (put_bit y words) ≡ (eqb z y || holds z words)
    one (yes q) = put_holds words y q z
    one (no q) =
        ap (holds z) (put-past words y (omega (arith, q)))
        ∙ sym (ap (λ (b : Bool). b || holds z words) (ne_eqb z y (λ e. q (rw (← e) p))))

-- a word whose bits are not put stays
pub put_keeps : (l words : List ℕ) (j : ℕ) → ((y : ℕ) → Memᴰ y l → y / 64 ≢ j) → get_or (put_all l words) j 0 ≡ get_or words j 0
unfolding put_all
put_keeps [] words j h = refl
put_keeps (y ∷ l) words j h =
    put_keeps l (put_bit y words) j (λ z m. h z (Memᴰ.tail m))
    ∙ get_or-set_other words (y / 64) j _ 0 (λ e. h y (Memᴰ.head refl) (sym e))

flag-lt : (p r : ℕ) → p < 64 → r < 2 ^ 64 → put_flag p true r < 2 ^ 64
flag-lt p r l h = rw (← or-flag p r) (or_lt 64 r (2 ^ p) h (pow-lt l))

-- words of 64 bits stay such
pub put-fits : (l words : List ℕ) (j : ℕ) → get_or words j 0 < 2 ^ 64 → get_or (put_all l words) j 0 < 2 ^ 64
unfolding put_all
put-fits [] words j h = h
put-fits (y ∷ l) words j h = put-fits l (put_bit y words) j (go (ℕ_discrete j (y / 64)) (dec_lt (y / 64) (length words)))
  where
    go : Dec (j ≡ y / 64) → Dec (y / 64 < length words) → get_or (put_bit y words) j 0 < 2 ^ 64
    go (yes e) (yes p) =
        rw (e, get_or-set_same words (y / 64) (put_flag (y % 64) true (get_or words (y / 64) 0)) 0 p)
        (flag-lt (y % 64) (get_or words (y / 64) 0) (omega arith) (rw (← e) h))
    go (yes e) (no p) = rw (put-past words y (omega (arith, p))) h
    go (no e) d = rw (get_or-set_other words (y / 64) j (put_flag (y % 64) true (get_or words (y / 64) 0)) 0 e) h

-- ---- the numbers of objects, one object after the other

module _ (t : ℕ → Bool) (f : ℕ → List ℕ) (words : List ℕ) where
  pub gather_none : words ≡ put_all (gather 0 t f) words
  unfolding gather put_all
  gather_none = refl

  pub gather-more : (i : ℕ) (now next : List ℕ) → now ≡ put_all (gather i t f) words → next ≡ put_all (cond (t (i + 1)) (f (i + 1)) []) now
      → next ≡ put_all (gather (i + 1) t f) words
  unfolding gather
  gather-more i now next e g =
      g ∙ ap (put_all (cond (t (i + 1)) (f (i + 1)) [])) e ∙ sym (put-append (gather i t f) (cond (t (i + 1)) (f (i + 1)) []) words)
      ∙ rw (add-one i) refl

pub has-append : (z : ℕ) (l m : List ℕ) → has z (l ++ m) ≡ (has z l || has z m)
unfolding has
has-append z [] m = refl
has-append z (y ∷ l) m = ap (λ (b : Bool). eqb z y || b) (has-append z l m) ∙ assoc (eqb z y) (has z l) (has z m)
  where
    assoc : (a b c : Bool) → (a || (b || c)) ≡ ((a || b) || c)
    assoc true b c = refl
    assoc false b c = refl

pub has-gather : (z n : ℕ) (t : ℕ → Bool) (f : ℕ → List ℕ) → has z (gather n t f) ≡ some n (λ x. t x && has z (f x))
unfolding has gather some
has-gather z zero t f = refl
has-gather z (suc n) t f =
    has-append z (gather n t f) (cond (t (suc n)) (f (suc n)) [])
    ∙ ap₂ (λ (a b : Bool). a || b) (has-gather z n t f) (go (t (suc n)))
  where
    go : (b : Bool) → has z (cond b (f (suc n)) []) ≡ (b && has z (f (suc n)))
    go true = refl
    go false = refl

-- ---- the words of an object

-- what the words from place `at` on point at
abbrev pub rest : ℕ → List ℕ → ℕ → List ℕ
rest n words at = map (target n) (drop at words)

pub rest-turn : (n : ℕ) (words : List ℕ) (at : ℕ) → at < length words → rest n words at ≡ target n (get_or words at 0) ∷ rest n words (at + 1)
rest-turn n words at q = rw (add-one at) (ap (map (target n)) (drop-cons words at 0 q))

pub rest-none : (n : ℕ) (words : List ℕ) (at : ℕ) → length words ≤ at → rest n words at ≡ []
rest-none n words at p = rw (drop_of_length-le words {i = at} p) refl

-- ---- the places of words

module _ (place : List ℕ) (c y : ℕ) where
  pub place-cons : (l : List ℕ) → place_bits place c (y ∷ l) ≡ place_bits place c (y ∷ []) ++ place_bits place c l
  unfolding place_bits
  place-cons l = go (eqb (get_or place y 0) 0)
    where
      go : (b : Bool)
          → cond b (place_bits place c l) ((64 * (c - 1) + (get_or place y 0 - 1)) ∷ place_bits place c l)
          ≡ cond b [] ((64 * (c - 1) + (get_or place y 0 - 1)) ∷ []) ++ place_bits place c l
      go true = refl
      go false = refl

  pub place_none : (k : ℕ) (words : List ℕ) → k ≡ get_or place y 0 → k ≡ 0 → words ≡ put_all (place_bits place c (y ∷ [])) words
  unfolding place_bits put_all
  place_none k words e z = rw (eq-eqb (get_or place y 0) 0 (sym e ∙ z)) refl

  pub place-put : (k : ℕ) (words next : List ℕ) → k ≡ get_or place y 0 → k ≢ 0 → next ≡ put_bit (64 * (c - 1) + (k - 1)) words
      → next ≡ put_all (place_bits place c (y ∷ [])) words
  unfolding place_bits put_all
  place-put k words next e z f =
      f ∙ ap (λ (m : ℕ). put_bit (64 * (c - 1) + (m - 1)) words) e ∙ rw (ne_eqb (get_or place y 0) 0 (λ q. z (e ∙ q))) refl

-- what is left to put comes to the same after a word
module _ (n : ℕ) (words : List ℕ) (at : ℕ) (q : at < length words) where
  pub words-turn : (y : ℕ) (now next all : List ℕ) → y ≡ target n (get_or words at 0) → next ≡ put_bit y now → put_all (rest n words at) now ≡ all
      → put_all (rest n words (at + 1)) next ≡ all
  unfolding put_all
  words-turn y now next all e f g =
      ap (put_all (rest n words (at + 1))) (f ∙ ap (λ (z : ℕ). put_bit z now) e)
      ∙ sym (ap (λ (l : List ℕ). put_all l now) (rest-turn n words at q)) ∙ g

  pub places-turn : (place : List ℕ) (c : ℕ) (now next all : List ℕ) → next ≡ put_all (place_bits place c (target n (get_or words at 0) ∷ [])) now
      → put_all (place_bits place c (rest n words at)) now ≡ all → put_all (place_bits place c (rest n words (at + 1))) next ≡ all
  places-turn place c now next all f g =
      ap (put_all (place_bits place c (rest n words (at + 1)))) f
      ∙ sym (ap (λ (l : List ℕ). put_all l now) (ap (place_bits place c) (rest-turn n words at q) ∙ place-cons place c (target n (get_or words at 0)) (rest n words (at + 1)))
      ∙ put-append (place_bits place c (target n (get_or words at 0) ∷ [])) (place_bits place c (rest n words (at + 1))) now)
      ∙ g

-- nothing is left
module _ (n : ℕ) (words : List ℕ) (at : ℕ) (now all : List ℕ) (p : length words ≤ at) where
  pub words-end : put_all (rest n words at) now ≡ all → now ≡ all
  unfolding put_all
  words-end g = sym (ap (λ (l : List ℕ). put_all l now) (rest-none n words at p)) ∙ g

  pub places-end : (place : List ℕ) (c : ℕ) → put_all (place_bits place c (rest n words at)) now ≡ all → now ≡ all
  unfolding put_all place_bits
  places-end place c g = sym (ap (λ (l : List ℕ). put_all (place_bits place c l) now) (rest-none n words at p)) ∙ g

-- ---- one object

module _ (n x : ℕ) (recs slots : List ℕ) (r k : ℕ) (e : r ≡ rec_of n recs x) (f : k ≡ cluster r) (words : List ℕ) where
  carries : cluster_of n recs x ≡ k
  carries = ap cluster (sym e) ∙ sym f

  -- no member of cluster c
  pub member-none : (c : ℕ) → k ≢ c → words ≡ put_all (cond (eqb (cluster_of n recs x) c) (kids_of n recs slots x) []) words
  unfolding put_all
  member-none c h = rw (carries, ne_eqb k c h) refl

  -- no member of any
  pub object-none : (place : List ℕ) (b : Bool) → b ≡ within 1 n k → b ≡ false
      → words ≡ put_all (cond (is_member n recs x) (object_bits n recs slots place x) []) words
  unfolding put_all is_member is_pointer
  object-none place b g h = rw (carries, ← g, h) refl

  module _ (used : List ℕ) (d : used ≡ take (width r) (eight slots x)) (next : List ℕ) where
    pub member-put : (c : ℕ) → k ≡ c → next ≡ put_all (map (target n) used) words
        → next ≡ put_all (cond (eqb (cluster_of n recs x) c) (kids_of n recs slots x) []) words
    unfolding kids_of used_words
    member-put c h g = g ∙ rw (carries, eq-eqb k c h, ← e, d) refl

    pub object-put : (place : List ℕ) (b : Bool) → b ≡ within 1 n k → b ≡ true → next ≡ put_all (place_bits place k (map (target n) used)) words
        → next ≡ put_all (cond (is_member n recs x) (object_bits n recs slots place x) []) words
    unfolding is_member is_pointer object_bits kids_of used_words
    object-put place b q h g = g ∙ rw (carries, ← q, h, ← e, d) refl
