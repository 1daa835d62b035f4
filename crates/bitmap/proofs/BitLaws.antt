-- Sets of numbers as bits: the walk from set bit to set bit, the count of ones, and words made from a test.
-- Assumes nothing.
use Prim.Native.Nat.{ℕ, zero, suc, ◌+◌, ◌-◌, ◌*◌, ◌/◌, ◌%◌, ◌^◌, ◌≤◌, ◌<◌, zero-le, suc-le-suc}
use mathlib.Core.Path.{◌≡◌, refl, sym, ap, ap₂, ◌∙◌, subst}
use mathlib.Core.List.{List, [], ◌∷◌, ◌++◌, map}
use mathlib.Core.Bool.{Bool, true, false, cond, ◌||◌}
use mathlib.Core.Logic.{◌≢◌}
use native.Mathlib.Nat.{mod-lt, add-zero, add-suc, suc-add, pow-succ'}
use native.Mathlib.Numerals.{add-one}
use native.Mathlib.Decide.{dec_lt, ℕ_discrete}
use native.Mathlib.Omega.{arith}
use borrow.Author.Tests.{eq-eqb, ne_eqb}
use lib.Arith.{lt-one}
use lib.Dec.{lit<, eqb}
use lib.Pow.{pow_pos, pow_mono, shr_lt, shr-shr}
use lib.ListN.{length, take, get_or, length-append, length-set, get_or-eq_default, replicate, length-replicate, get_or-replicate}
use lib.Seq.{take-suc, set_out, get_or-set_same, get_or-set_other}
use lib.Bits.{bit_and, and_shr, and_mod, and_self, and_le_r}
use denote.Ref.{Bor}
use Rattle.std.specs.Prelude.{Option, Some, None, MatchOption, min, sum}
use Rattle.std.specs.Slice.{IsItemAt}
use Rattle.std.proofs.lemmas.List.{take_min}
use Rattle.std.proofs.lemmas.List.Sums.{sum_by-cons}
use lib.Count.{ones, ones_in, ones-le, ones_step, count_trailing_zeros, under}
use Rattle.layout.specs.Field.{field, flag, put_flag}
use Rattle.layout.specs.Limits.{map_len}
use Rattle.bitmap.specs.Bits.{map_max, holds, put_bit, cons_if, set_bits, numbers_in, bits_of, word_of}
use Rattle.layout.proofs.FieldLaws.{and-flag, zero_flag, flag-put-same, flag-put-other}

pub half_lt : {w : ℕ} (k : ℕ) → w < 2 ^ suc k → w / 2 < 2 ^ k
half_lt {w} k h = shr_lt k 1 (subst (λ (x : ℕ). w < 2 ^ x) (sym (add-one k)) h)

-- the bits above the lowest, shifted down
pub half-power : (w j : ℕ) → w / 2 ^ suc j ≡ w / 2 / 2 ^ j
half-power w j = ap (λ (k : ℕ). w / 2 ^ k) (omega arith) ∙ sym (shr-shr w 1 j)

-- ---- the walk over a word's set bits: the lowest, and then those of the rest

module _ (w : ℕ) (nz : w ≢ 0) where
  rest-low : (bit_and w (w - 1)) % 2 ≡ 0
  rest-low = and_mod w (w - 1) 1 ∙ digits (w % 2) refl
    where
      digits : (d : ℕ) → w % 2 ≡ d → bit_and (w % 2) ((w - 1) % 2) ≡ 0
      digits zero e = rw e
      digits (suc zero) e = let z : (w - 1) % 2 ≡ 0 = omega arith in rw (e, z)
      digits (suc (suc d)) e = absurd (omega (arith, mod-lt w (pow_pos 1)))

  -- the lowest bit is set: the rest is w / 2, doubled
  rest-odd : w % 2 ≡ 1 → bit_and w (w - 1) / 2 ≡ w / 2
  rest-odd e = let h : (w - 1) / 2 ≡ w / 2 = omega arith in and_shr w (w - 1) 1 ∙ rw h (and_self (w / 2))

  -- it is clear: the rest is that of w / 2, doubled
  rest-even : w % 2 ≡ 0 → bit_and w (w - 1) / 2 ≡ bit_and (w / 2) (w / 2 - 1)
  rest-even e = let h : (w - 1) / 2 ≡ w / 2 - 1 = omega arith in and_shr w (w - 1) 1 ∙ ap (bit_and (w / 2)) h

  -- the walk's measure falls
  pub rest_lt : bit_and w (w - 1) < w
  rest_lt = omega (arith, and_le_r w (w - 1))

pub trailing_lt : (k w : ℕ) → w ≢ 0 → w < 2 ^ k → count_trailing_zeros k w < k
unfolding count_trailing_zeros
trailing_lt zero w nz h = absurd (nz (lt-one h))
trailing_lt (suc k) w nz h = digits (w % 2) refl (λ z. trailing_lt k (w / 2) z (half_lt k h))
  where
    digits : (d : ℕ) → w % 2 ≡ d → (w / 2 ≢ 0 → count_trailing_zeros k (w / 2) < k) → under d (count_trailing_zeros k (w / 2)) < suc k
    digits zero e ih = suc-le-suc (ih (λ z. nz (omega arith)))
    digits (suc d) e ih = suc-le-suc zero-le

pub set_bits-step : (k w b : ℕ) → w ≢ 0 → w < 2 ^ k → set_bits k w b ≡ (b + count_trailing_zeros k w) ∷ set_bits k (bit_and w (w - 1)) b
unfolding set_bits count_trailing_zeros
set_bits-step zero w b nz h = absurd (nz (lt-one h))
set_bits-step (suc k) w b nz h = rw (rest-low w nz) (digits (w % 2) refl (λ z. set_bits-step k (w / 2) (suc b) z (half_lt k h)))
  where
    digits : (d : ℕ) → w % 2 ≡ d
        → (w / 2 ≢ 0 → set_bits k (w / 2) (suc b) ≡ (suc b + count_trailing_zeros k (w / 2)) ∷ set_bits k (bit_and (w / 2) (w / 2 - 1)) (suc b))
        → cons_if d b (set_bits k (w / 2) (suc b)) ≡ (b + under d (count_trailing_zeros k (w / 2))) ∷ set_bits k (bit_and w (w - 1) / 2) (suc b)
    digits zero e ih =
        ih (λ z. nz (omega arith))
        ∙ ap₂ (λ (x : ℕ) (l : List ℕ). x ∷ l) (suc-add b (count_trailing_zeros k (w / 2)) ∙ sym (add-suc b (count_trailing_zeros k (w / 2))))
        (ap (λ (x : ℕ). set_bits k x (suc b)) (sym (rest-even w nz e)))
    digits (suc zero) e ih =
        ap₂ (λ (x : ℕ) (l : List ℕ). x ∷ l) (sym (add-zero b)) (ap (λ (x : ℕ). set_bits k x (suc b)) (sym (rest-odd w nz e)))
    digits (suc (suc d)) e ih = absurd (omega (arith, mod-lt w (pow_pos 1)))

pub set_bits-none : (k b : ℕ) → set_bits k 0 b ≡ []
unfolding set_bits
set_bits-none zero b = refl
set_bits-none (suc k) b = set_bits-none k (suc b)

-- ---- ones counted

none : 0 ≡ ones 0
unfolding ones ones_in
none = refl

-- the ones of a word are as many as the numbers of the walk
pub set_bits-count : (k w b : ℕ) → w < 2 ^ k → length (set_bits k w b) ≡ ones w
unfolding set_bits
set_bits-count zero w b h = none ∙ ap ones (sym (lt-one h))
set_bits-count (suc k) w b h = digits (w % 2) refl (set_bits-count k (w / 2) (suc b) (half_lt k h)) ∙ sym (ones_step w)
  where
    digits : (d : ℕ) → w % 2 ≡ d → length (set_bits k (w / 2) (suc b)) ≡ ones (w / 2)
        → length (cons_if (w % 2) b (set_bits k (w / 2) (suc b))) ≡ w % 2 + ones (w / 2)
    digits zero e ih = rw e (omega arith)
    digits (suc zero) e ih = rw e (omega arith)
    digits (suc (suc d)) e ih = absurd (omega (arith, mod-lt w (pow_pos 1)))

snoc : (b : ℕ) (ws : List ℕ) (w : ℕ) → w < 2 ^ 64 → length (numbers_in b (ws ++ (w ∷ []))) ≡ length (numbers_in b ws) + ones w
unfolding numbers_in
snoc b [] w h = length-append (set_bits 64 w b) [] ∙ omega (arith, set_bits-count 64 w b h)
snoc b (x ∷ ws) w h =
    length-append (set_bits 64 x b) (numbers_in (b + 64) (ws ++ (w ∷ [])))
    ∙ omega (arith, snoc (b + 64) ws w h, length-append (set_bits 64 x b) (numbers_in (b + 64) ws))

-- one word more is counted
pub count-more : (ws : List ℕ) (n i : ℕ) → n ≡ length (numbers_in 0 (take i ws)) → i < length ws → get_or ws i 0 < 2 ^ 64
    → n + ones (get_or ws i 0) ≡ length (numbers_in 0 (take (i + 1) ws))
count-more ws n i e l h = rw (add-one i, take-suc ws i 0 l, snoc 0 (take i ws) (get_or ws i 0) h, e)

pub count_none : (ws : List ℕ) → 0 ≡ length (numbers_in 0 (take 0 ws))
unfolding numbers_in
count_none ws = refl

-- the sum of the ones of the first n words, and its bound
module _ (n : ℕ) (w : ℕ) (ws : List ℕ) where
  first-more : sum (map ones (take (suc n) (w ∷ ws))) ≡ ones w + sum (map ones (take n ws))
  first-more = sum_by-cons (λ (x : ℕ). x) (ones w) (map ones (take n ws))

pub sum-ones : (n b : ℕ) (ws : List ℕ) → ((i : ℕ) → get_or ws i 0 < 2 ^ 64) → sum (map ones (take n ws)) ≡ length (numbers_in b (take n ws))
unfolding numbers_in
sum-ones zero b ws h = refl
sum-ones (suc n) b [] h = refl
sum-ones (suc n) b (w ∷ ws) h =
    first-more n w ws ∙ ap₂ (λ (x y : ℕ). x + y) (sym (set_bits-count 64 w b (h 0))) (sum-ones n (b + 64) ws (λ i. h (suc i)))
    ∙ sym (length-append (set_bits 64 w b) (numbers_in (b + 64) (take n ws)))

pub sum-ones_le : (n : ℕ) (ws : List ℕ) → ((i : ℕ) → get_or ws i 0 < 2 ^ 64) → sum (map ones (take n ws)) ≤ 64 * n
sum-ones_le zero ws h = omega arith
sum-ones_le (suc n) [] h = omega arith
sum-ones_le (suc n) (w ∷ ws) h = omega (arith, first-more n w ws, ones-le 64 w (h 0), sum-ones_le n ws (λ i. h (suc i)))

-- the count's bound
pub count_le : (n b : ℕ) (ws : List ℕ) → ((i : ℕ) → get_or ws i 0 < 2 ^ 64) → length (numbers_in b (take n ws)) ≤ 64 * n
unfolding numbers_in
count_le zero b ws h = omega arith
count_le (suc n) b [] h = omega arith
count_le (suc n) b (w ∷ ws) h =
    omega (
      arith,
      length-append (set_bits 64 w b) (numbers_in (b + 64) (take n ws)),
      set_bits-count 64 w b (h 0),
      ones-le 64 w (h 0),
      count_le n (b + 64) ws (λ i. h (suc i)),
    )

-- all words that count are counted
pub count-end : (ws : List ℕ) (n i : ℕ) → n ≡ length (numbers_in 0 (take i ws)) → i ≡ min 64 (length ws) → n ≡ length (numbers_in 0 (take map_max ws))
unfolding map_len
count-end ws n i e q = e ∙ ap (λ (l : List ℕ). length (numbers_in 0 l)) (ap (λ (k : ℕ). take k ws) q ∙ take_min 64 ws)

-- a word past the end is 0
pub holds-past : (i : ℕ) (ws : List ℕ) → length ws ≤ i / 64 → holds i ws ≡ false
holds-past i ws l = ap (flag (i % 64)) (get_or-eq_default ws 0 l) ∙ zero_flag (i % 64)

-- one bit of the word that is read, if it is there
pub has-is : (i : ℕ) (ws : List ℕ) (r : Option (Bor ℕ)) (t : Bool) → IsItemAt ws (i / 64) r
    → MatchOption r (t ≡ false) (λ w. t ≡ eqb (bit_and (w.now / 2 ^ (i % 64)) 1) 1) → t ≡ holds i ws
has-is i ws None t p q = q ∙ sym (holds-past i ws p.3)
has-is i ws (Some w) t p q = q ∙ and-flag (i % 64) w.now ∙ ap (flag (i % 64)) (p.4 (omega arith) 0)

-- words that are 0 have no number
pub holds-blank : (k z : ℕ) → holds z (replicate k 0) ≡ false
holds-blank k z = go (dec_lt (z / 64) k)
  where
    go : Dec (z / 64 < k) → holds z (replicate k 0) ≡ false
    go (yes l) = ap (flag (z % 64)) (get_or-replicate k (z / 64) 0 0 l) ∙ zero_flag (z % 64)
    go (no l) = let e : length {A = ℕ} (replicate k 0) ≡ k = length-replicate {A = ℕ} k 0 in holds-past z (replicate k 0) (omega (arith, l))

-- ---- one number put into a set

module _ (words : List ℕ) (x : ℕ) where
  abbrev old : ℕ
  old = get_or words (x / 64) 0

  abbrev new : ℕ
  new = put_flag (x % 64) true old

  pub put-length : length (put_bit x words) ≡ length words
  put-length = length-set words (x / 64) new

  -- past the end nothing is put
  pub put-past : length words ≤ x / 64 → put_bit x words ≡ words
  put-past l = set_out words (x / 64) new l

  pub put_same : x / 64 < length words → holds x (put_bit x words) ≡ true
  put_same inside = ap (flag (x % 64)) (get_or-set_same words (x / 64) new 0 inside) ∙ flag-put-same (x % 64) true old

  pub put_other : (z : ℕ) → z ≢ x → holds z (put_bit x words) ≡ holds z words
  put_other z ne = by_word (ℕ_discrete (z / 64) (x / 64)) (dec_lt (x / 64) (length words))
    where
      by_word : Dec (z / 64 ≡ x / 64) → Dec (x / 64 < length words) → holds z (put_bit x words) ≡ holds z words
      by_word (yes e) (yes inside) =
          rw e
          (ap (flag (z % 64)) (get_or-set_same words (x / 64) new 0 inside)
          ∙ flag-put-other (x % 64) true old (z % 64) (λ q. ne (omega arith)))
      by_word (yes e) (no l) = ap (holds z) (put-past (omega (arith, l)))
      by_word (no h) d = ap (flag (z % 64)) (get_or-set_other words (x / 64) (z / 64) new 0 h)

  -- what the set has afterwards
  pub put_holds : x / 64 < length words → (z : ℕ) → holds z (put_bit x words) ≡ (eqb z x || holds z words)
  put_holds inside z = go (ℕ_discrete z x)
    where
      go : Dec (z ≡ x) → holds z (put_bit x words) ≡ (eqb z x || holds z words)
      go (yes e) = rw e (put_same inside ∙ sym (ap (λ (b : Bool). b || holds x words) (eq-eqb x x refl)))
      go (no h) = put_other z h ∙ sym (ap (λ (b : Bool). b || holds z words) (ne_eqb z x h))

-- ---- words made from a test

digit-test : (t : Bool) → eqb (cond t 1 0) 1 ≡ t
digit-test true = refl
digit-test false = refl

module _ (t : ℕ → Bool) where
  pub bits_of-lt : (k b : ℕ) → bits_of t b k < 2 ^ k
  unfolding bits_of
  bits_of-lt zero b = lit< tt
  bits_of-lt (suc k) b = go (t b) (bits_of-lt k (suc b))
    where
      go : (d : Bool) → bits_of t (suc b) k < 2 ^ k → cond d 1 0 + 2 * bits_of t (suc b) k < 2 ^ suc k
      go true h = omega (arith, pow-succ' 2 k)
      go false h = omega (arith, pow-succ' 2 k)

  bits-low : (b k : ℕ) → bits_of t b (suc k) % 2 ≡ cond (t b) 1 0
  unfolding bits_of
  bits-low b k = go (t b)
    where
      go : (d : Bool) → (cond d 1 0 + 2 * bits_of t (suc b) k) % 2 ≡ cond d 1 0
      go true = omega arith
      go false = omega arith

  bits-rest : (b k : ℕ) → bits_of t b (suc k) / 2 ≡ bits_of t (suc b) k
  unfolding bits_of
  bits-rest b k = go (t b)
    where
      go : (d : Bool) → (cond d 1 0 + 2 * bits_of t (suc b) k) / 2 ≡ bits_of t (suc b) k
      go true = omega arith
      go false = omega arith

  -- bit j says whether b + j passes
  pub bits_of-flag : (j k b : ℕ) → j < k → flag j (bits_of t b k) ≡ t (b + j)
  unfolding flag field
  bits_of-flag j zero b h = absurd (omega arith)
  bits_of-flag zero (suc k) b h =
      let one : bits_of t b (suc k) / 1 ≡ bits_of t b (suc k) = omega arith in
      let at : b + 0 ≡ b = omega arith in
      rw (one, bits-low b k, at) (digit-test (t b))
  bits_of-flag (suc j) (suc k) b h =
      let at : b + suc j ≡ suc b + j = omega arith in
      rw (half-power (bits_of t b (suc k)) j, bits-rest b k, at) (bits_of-flag j k (suc b) (omega arith))

  -- a word of k bits whose bit j says whether b + j passes
  pub bits_of-is : (k w b : ℕ) → w < 2 ^ k → ((j : ℕ) → j < k → flag j w ≡ t (b + j)) → w ≡ bits_of t b k
  unfolding flag field bits_of
  bits_of-is zero w b l h = lt-one l
  bits_of-is (suc k) w b l h =
      let rest : w / 2 ≡ bits_of t (suc b) k = bits_of-is k (w / 2) (suc b) (half_lt k l) upper in
      let one : w / 1 ≡ w = omega arith in
      let low : eqb (w % 2) 1 ≡ t b = rw (one, add-zero b) at (h 0 (omega arith)) in
      digits (w % 2) (t b) refl low rest
    where
      upper : (j : ℕ) → j < k → flag j (w / 2) ≡ t (suc b + j)
      upper j p = let at : b + suc j ≡ suc b + j = omega arith in rw (half-power w j, at) at (h (suc j) (omega arith))

      digits : (d : ℕ) (u : Bool) → w % 2 ≡ d → eqb d 1 ≡ u → w / 2 ≡ bits_of t (suc b) k → w ≡ cond u 1 0 + 2 * bits_of t (suc b) k
      digits zero u e q r = rw (sym q) (omega arith)
      digits (suc zero) u e q r = rw (sym q) (omega arith)
      digits (suc (suc d)) u e q r = absurd (omega (arith, mod-lt w (pow_pos 1)))

  -- a set whose word i / 64 was made from the test
  pub word_of-holds : (i : ℕ) (ws : List ℕ) → get_or ws (i / 64) 0 ≡ word_of t (i / 64) → holds i ws ≡ t i
  unfolding word_of
  word_of-holds i ws e =
      let whole : 64 * (i / 64) + i % 64 ≡ i = omega arith in
      ap (flag (i % 64)) e ∙ bits_of-flag (i % 64) 64 (64 * (i / 64)) (omega arith) ∙ ap t whole

  -- the numbers that pass, of k from b on
  unfoldable pub passers : ℕ → ℕ → List ℕ
  passers b zero = []
  passers b (suc k) = cond (t b) (b ∷ passers (suc b) k) (passers (suc b) k)

  pub passers-add : (j k b : ℕ) → passers b (j + k) ≡ passers b j ++ passers (b + j) k
  unfolding passers
  passers-add zero k b = let e : 0 + k ≡ k = omega arith in let z : b + 0 ≡ b = omega arith in rw (e, z) refl
  passers-add (suc j) k b =
      let e : suc j + k ≡ suc (j + k) = omega arith in
      let z : b + suc j ≡ suc b + j = omega arith in
      rw (e, z, passers-add j k (suc b)) (go (t b))
    where
      go : (d : Bool)
          → cond d (b ∷ (passers (suc b) j ++ passers (suc b + j) k)) (passers (suc b) j ++ passers (suc b + j) k)
          ≡ cond d (b ∷ passers (suc b) j) (passers (suc b) j) ++ passers (suc b + j) k
      go true = refl
      go false = refl

  -- the walk over a word made from the test visits them
  pub set_bits-bits_of : (k b : ℕ) → set_bits k (bits_of t b k) b ≡ passers b k
  unfolding set_bits passers
  set_bits-bits_of zero b = refl
  set_bits-bits_of (suc k) b = rw (bits-low b k, bits-rest b k, set_bits-bits_of k (suc b)) (go (t b))
    where
      go : (d : Bool) → cons_if (cond d 1 0) b (passers (suc b) k) ≡ cond d (b ∷ passers (suc b) k) (passers (suc b) k)
      go true = refl
      go false = refl

  -- a map whose words, from word j on, were made from the test
  pub numbers_in-words : (ws : List ℕ) (j : ℕ) → ((i : ℕ) → i < length ws → get_or ws i 0 ≡ word_of t (j + i))
      → numbers_in (64 * j) ws ≡ passers (64 * j) (64 * length ws)
  unfolding numbers_in passers word_of
  numbers_in-words [] j h = refl
  numbers_in-words (w ∷ ws) j h =
      let here : w ≡ bits_of t (64 * j) 64 = h 0 (omega arith) ∙ ap (λ (k : ℕ). bits_of t (64 * k) 64) (add-zero j) in
      let next : 64 * j + 64 ≡ 64 * suc j = omega arith in
      let size : 64 * suc (length ws) ≡ 64 + 64 * length ws = omega arith in
      ap₂ (λ (a b : List ℕ). a ++ b)
      (ap (λ (x : ℕ). set_bits 64 x (64 * j)) here ∙ set_bits-bits_of 64 (64 * j))
      (ap (λ (b : ℕ). numbers_in b ws) next ∙ numbers_in-words ws (suc j) (λ i l. h (suc i) (omega arith) ∙ ap (λ (k : ℕ). bits_of t (64 * k) 64) (omega arith))
      ∙ ap (λ (b : ℕ). passers b (64 * length ws)) (sym next))
      ∙ sym (passers-add 64 (64 * length ws) (64 * j)) ∙ ap (passers (64 * j)) (sym size)

-- two tests that agree on the numbers of a word
pub bits_of-same : (t u : ℕ → Bool) (k b : ℕ) → ((j : ℕ) → j < k → t (b + j) ≡ u (b + j)) → bits_of t b k ≡ bits_of u b k
bits_of-same t u k b h = bits_of-is u k (bits_of t b k) b (bits_of-lt t k b) (λ j l. bits_of-flag t j k b l ∙ h j l)

-- a word made from its highest bit down
module _ (t : ℕ → Bool) (base b word : ℕ) (p : 0 < b) (q : b ≤ 64) (e : word ≡ bits_of t (base + b) (64 - b)) where
  pub down-room : word < 2 ^ 63
  down-room =
      let l = bits_of-lt t (64 - b) (base + b) in
      let m : 2 ^ (64 - b) ≤ 2 ^ 63 = pow_mono {i = 64 - b} {j = 63} (omega arith) in
      omega (arith, e, l, m)

  pub down_turn : word * 2 + cond (t (base + (b - 1))) 1 0 ≡ bits_of t (base + (b - 1)) (64 - (b - 1))
  unfolding bits_of
  down_turn =
      let s : 64 - (b - 1) ≡ suc (64 - b) = omega arith in
      let n : suc (base + (b - 1)) ≡ base + b = omega arith in
      rw (s, n, ← e) (omega arith)
