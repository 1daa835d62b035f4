-- The set of postponed objects: numbers put in, taken out and found.
-- Assumes nothing.
use Prim.Native.Nat.{ℕ, zero, suc, ◌+◌, ◌-◌, ◌*◌, ◌/◌, ◌%◌, ◌^◌, ◌<◌, ◌≤◌}
use mathlib.Core.Path.{◌≡◌, refl, sym, ap, ◌∙◌}
use mathlib.Core.Logic.{◌≢◌}
use mathlib.Core.Bool.{Bool, true, false, not, true≢false}
use mathlib.Core.List.{List}
use native.Mathlib.Nat.{div-one}
use native.Mathlib.Omega.{arith}
use native.Mathlib.Decide.{ℕ_discrete, dec_lt}
use borrow.Author.Tests.{eqb-true, eq-eqb, ne_eqb, not-false}
use lib.Dec.{eqb}
use lib.ListN.{length, get_or, set, take, drop, length-set}
use lib.Seq.{get_or-drop, get_or-set_same, get_or-set_other, take-set-le}
use lib.Count.{count_trailing_zeros, under}
use Rattle.layout.specs.Field.{field, flag, put_flag}
use Rattle.layout.proofs.FieldLaws.{zero_flag, flag-put-same, flag-put-other}
use Rattle.bitmap.proofs.BitLaws.{half_lt, half-power, trailing_lt}
use Rattle.graph.specs.Numbers.{Obj, lowest}
use Rattle.graph.proofs.LowestLaws.{lowest-passes, lowest-least, none-lowest}
use Rattle.postponed.specs.Postponed as P
use Rattle.postponed.specs.Postponed.{bit_at, put_bit, sum_at, some_in, lowest_from, Mapped}

-- ---- the lowest set bit

digit_set : (k w : ℕ) → w ≢ 0 → w < 2 ^ k → w / 2 ^ count_trailing_zeros k w % 2 ≡ 1
unfolding count_trailing_zeros
digit_set zero w nz h = absurd (nz (omega arith))
digit_set (suc k) w nz h = go (w % 2) refl (λ z. digit_set k (w / 2) z (half_lt k h))
  where
    go : (d : ℕ) → w % 2 ≡ d → (w / 2 ≢ 0 → w / 2 / 2 ^ count_trailing_zeros k (w / 2) % 2 ≡ 1) → w / 2 ^ under d (count_trailing_zeros k (w / 2)) % 2 ≡ 1
    go zero e ih = ap (λ (x : ℕ). x % 2) (half-power w (count_trailing_zeros k (w / 2))) ∙ ih (λ z. nz (omega arith))
    go (suc d) e ih = ap (λ (x : ℕ). x % 2) (div-one w) ∙ omega arith

digit_clear : (k w b : ℕ) → b < count_trailing_zeros k w → w / 2 ^ b % 2 ≡ 0
unfolding count_trailing_zeros
digit_clear zero w b h = absurd (omega arith)
digit_clear (suc k) w b h = go (w % 2) refl h (λ c l. digit_clear k (w / 2) c l)
  where
    go : (d : ℕ) → w % 2 ≡ d → b < under d (count_trailing_zeros k (w / 2)) → ((c : ℕ) → c < count_trailing_zeros k (w / 2) → w / 2 / 2 ^ c % 2 ≡ 0) → w / 2 ^ b % 2 ≡ 0
    go zero e l ih = at b l
      where
        at : (c : ℕ) → c < suc (count_trailing_zeros k (w / 2)) → w / 2 ^ c % 2 ≡ 0
        at zero q = ap (λ (x : ℕ). x % 2) (div-one w) ∙ e
        at (suc c) q = ap (λ (x : ℕ). x % 2) (half-power w c) ∙ ih c (omega arith)
    go (suc d) e l ih = absurd (omega arith)

pub lowest_set : (w : ℕ) → w ≢ 0 → w < 2 ^ 32 → flag (count_trailing_zeros 32 w) w ≡ true
unfolding flag field
lowest_set w nz h = eq-eqb (w / 2 ^ count_trailing_zeros 32 w % 2) 1 (digit_set 32 w nz h)

pub lowest-clear : (w b : ℕ) → b < count_trailing_zeros 32 w → flag b w ≡ false
unfolding flag field
lowest-clear w b l = ne_eqb (w / 2 ^ b % 2) 1 (λ e. omega (arith, digit_clear 32 w b l))

-- ---- one bit put

module _ (work : List ℕ) (base i : ℕ) (v : Bool) (inside : base + i / 32 < length work) where
  abbrev old : ℕ
  old = get_or work (base + i / 32) 0

  pub bit-same : bit_at (put_bit work base i v) base i ≡ v
  unfolding bit_at put_bit
  bit-same = ap (flag (i % 32)) (get_or-set_same work (base + i / 32) (put_flag (i % 32) v old) 0 inside) ∙ flag-put-same (i % 32) v old

  pub bit-other : (j : ℕ) → j ≢ i → bit_at (put_bit work base i v) base j ≡ bit_at work base j
  unfolding bit_at put_bit
  bit-other j ne = by_word (ℕ_discrete (j / 32) (i / 32))
    where
      by_word : Dec (j / 32 ≡ i / 32) → flag (j % 32) (get_or (set work (base + i / 32) (put_flag (i % 32) v old)) (base + j / 32) 0) ≡ flag (j % 32) (get_or work (base + j / 32) 0)
      by_word (yes e) =
          rw e
          (ap (flag (j % 32)) (get_or-set_same work (base + i / 32) (put_flag (i % 32) v old) 0 inside)
          ∙ flag-put-other (i % 32) v old (j % 32) (λ q. ne (omega arith)))
      by_word (no h) = ap (flag (j % 32)) (get_or-set_other work (base + i / 32) (base + j / 32) (put_flag (i % 32) v old) 0 (λ q. h (omega arith)))

  pub word-other : (k : ℕ) → k ≢ base + i / 32 → get_or (put_bit work base i v) k 0 ≡ get_or work k 0
  unfolding put_bit
  word-other k ne = get_or-set_other work (base + i / 32) k (put_flag (i % 32) v old) 0 ne

  -- bits of a set whose words lie elsewhere
  pub bit-apart : (base' j : ℕ) → base' + j / 32 ≢ base + i / 32 → bit_at (put_bit work base i v) base' j ≡ bit_at work base' j
  unfolding bit_at
  bit-apart base' j ne = ap (flag (j % 32)) (word-other (base' + j / 32) ne)

  pub take_put : (m : ℕ) → m ≤ base → take m (put_bit work base i v) ≡ take m work
  unfolding put_bit
  take_put m l = take-set-le m work (base + i / 32) (put_flag (i % 32) v old) (omega arith)

  pub length-put : length (put_bit work base i v) ≡ length work
  unfolding put_bit
  length-put = length-set work (base + i / 32) (put_flag (i % 32) v old)

-- a bit in the same word, and in a word that is 0
bit-of : (work work' : List ℕ) (base i : ℕ) → get_or work' (base + i / 32) 0 ≡ get_or work (base + i / 32) 0 → bit_at work' base i ≡ bit_at work base i
unfolding bit_at
bit-of work work' base i e = ap (flag (i % 32)) e

bit-zero : (work : List ℕ) (base i : ℕ) → get_or work (base + i / 32) 0 ≡ 0 → bit_at work base i ≡ false
unfolding bit_at
bit-zero work base i e = ap (flag (i % 32)) e ∙ zero_flag (i % 32)

-- ---- the set, with one number put in or taken out

-- both bits are put, the second by whether the word is 0
pub put-made : (n x : ℕ) (v : Bool) (work w₁ w₂ : List ℕ) (r : ℕ) → w₁ ≡ set work (9 * n + x / 32) (put_flag (x % 32) v (get_or work (9 * n + x / 32) 0))
    → r ≡ get_or w₁ (9 * n + x / 32) 0
    → w₂ ≡ set w₁ (sum_at n + x / 32 / 32) (put_flag (x / 32 % 32) (not (eqb r 0)) (get_or w₁ (sum_at n + x / 32 / 32) 0)) → w₂ ≡ P.put n x v work
unfolding P.put put_bit
put-made n x v work w₁ w₂ r e f g = rw (g, f, e) refl

module _ (n : ℕ) (work : List ℕ) (o : ℕ) (most : n ≤ 4095) (long : 10 * n + 64 ≤ length work) (io : Obj n o) (v : Bool) where
  in-word : o / 32 ≤ n / 32
  in-word = omega arith

  abbrev first : List ℕ
  first = put_bit work (9 * n) o v

  inside₁ : 9 * n + o / 32 < length work
  inside₁ = omega arith

  first-length : length first ≡ length work
  first-length = length-put work (9 * n) o v inside₁

  inside₂ : sum_at n + o / 32 / 32 < length first
  inside₂ = omega (arith, first-length)

  abbrev s : Bool
  s = some_in n first (o / 32)

  abbrev second : List ℕ
  second = put_bit first (sum_at n) (o / 32) s

  module _ (t t' : ℕ → Bool) (m : Mapped n t work) (e : t' o ≡ v) (f : (i : ℕ) → i ≢ o → t' i ≡ t i) where
    at-bit : (i : ℕ) → i / 32 ≤ n / 32 → Dec (i ≡ o) → bit_at first (9 * n) i ≡ t' i
    at-bit i h (yes q) = rw q (bit-same work (9 * n) o v inside₁ ∙ sym e)
    at-bit i h (no d) = bit-other work (9 * n) o v inside₁ i d ∙ m.bits i h ∙ sym (f i d)

    at_sum : (j : ℕ) → j ≤ n / 32 → Dec (j ≡ o / 32) → bit_at second (sum_at n) j ≡ some_in n second j
    at_sum j h (yes q) =
        rw q
        (bit-same first (sum_at n) (o / 32) s inside₂
        ∙ ap (λ (x : ℕ). not (eqb x 0)) (sym (word-other first (sum_at n) (o / 32) s inside₂ (9 * n + o / 32) (λ z. omega (arith, in-word)))))
    at_sum j h (no d) =
        bit-other first (sum_at n) (o / 32) s inside₂ j d
        ∙ bit-apart work (9 * n) o v inside₁ (sum_at n) j (λ z. omega (arith, in-word))
        ∙ m.sums j h
        ∙ ap (λ (x : ℕ). not (eqb x 0))
        (sym (word-other first (sum_at n) (o / 32) s inside₂ (9 * n + j) (λ z. omega arith) ∙ word-other work (9 * n) o v inside₁ (9 * n + j) (λ z. d (omega arith))))

    pub put-mapped : Mapped n t' (P.put n o v work)
    unfolding P.put
    put-mapped =
        record {
          bits = λ i h. bit-apart first (sum_at n) (o / 32) s inside₂ (9 * n) i (λ q. omega (arith, in-word)) ∙ at-bit i h (ℕ_discrete i o);
          sums = λ j h. at_sum j h (ℕ_discrete j (o / 32));
          over = λ j g h.
              bit-other first (sum_at n) (o / 32) s inside₂ j (λ q. omega (arith, in-word))
              ∙ bit-apart work (9 * n) o v inside₁ (sum_at n) j (λ q. omega (arith, in-word))
              ∙ m.over j g h;
        }

  -- the words before the set are as they were
  pub put-kept : take (9 * n) (P.put n o v work) ≡ take (9 * n) work
  unfolding P.put
  put-kept = take_put first (sum_at n) (o / 32) s inside₂ (9 * n) (omega arith) ∙ take_put work (9 * n) o v inside₁ (9 * n) (omega arith)

-- ---- the lowest number

lowest-found : (t : ℕ → Bool) (n o : ℕ) → Obj n o → t o ≡ true → ((p : ℕ) → 1 ≤ p → p < o → t p ≡ false) → o ≡ lowest t n
lowest-found t n o io e none = at (lowest t n) refl
  where
    least : (1 ≤ lowest t n) × (lowest t n ≤ o)
    least = lowest-least t n o io e

    at : (m : ℕ) → lowest t n ≡ m → o ≡ lowest t n
    at zero q = absurd (omega (arith, least))
    at (suc m) q = by (dec_lt (lowest t n) o) (lowest-passes t n m q).1
      where
        by : Dec (lowest t n < o) → t (lowest t n) ≡ true → o ≡ lowest t n
        by (yes l) x = absurd (true≢false (sym x ∙ none (lowest t n) least.0 l))
        by (no g) x = omega (arith, least)

module _ (n : ℕ) (work : List ℕ) (t : ℕ → Bool) (m : Mapped n t work) where
  -- a word that its bit tells to be 0 holds no number
  empty-word : (p : ℕ) → p / 32 ≤ n / 32 → bit_at work (sum_at n) (p / 32) ≡ false → t p ≡ false
  unfolding bit_at
  empty-word p h e =
      let z : get_or work (9 * n + p / 32) 0 ≡ 0 = eqb-true _ 0 (not-false _ (sym (m.sums (p / 32) h) ∙ e)) in
      sym (m.bits p h) ∙ ap (flag (p % 32)) z ∙ zero_flag (p % 32)

  module _ (only : (i : ℕ) → t i ≡ true → Obj n i) (k : ℕ) (none : (j : ℕ) → j < k → get_or work (sum_at n + j) 0 ≡ 0) where
    -- no number has its word's bit in the words before k
    before : (p : ℕ) → p / 32 ≤ n / 32 → p / 32 / 32 < k → t p ≡ false
    unfolding bit_at
    before p h l = empty-word p h (ap (flag (p / 32 % 32)) (none (p / 32 / 32) l) ∙ zero_flag (p / 32 % 32))

    pub lowest-none-in : n / 32 / 32 < k → 0 ≡ lowest t n
    lowest-none-in l = sym (none-lowest t n (λ p b. before p (omega arith) (omega arith)))

    module _
        (w : ℕ)
        (wis : w ≡ get_or work (sum_at n + k) 0)
        (wnz : w ≢ 0)
        (wfit : w < 2 ^ 32)
        (there : k < 4)
        (j : ℕ)
        (jis : j ≡ 32 * k + count_trailing_zeros 32 w)
        (v : ℕ)
        (vis : v ≡ get_or work (9 * n + j) 0)
        (vfit : v < 2 ^ 32)
        (r : ℕ)
        (ris : r ≡ 32 * j + count_trailing_zeros 32 v)
      where
        j-word : (j / 32 ≡ k) × (j % 32 ≡ count_trailing_zeros 32 w)
        j-word = let l = trailing_lt 32 w wnz wfit in (omega arith, omega arith)

        sum-set : bit_at work (sum_at n) j ≡ true
        unfolding bit_at
        sum-set =
            ap (λ (x : ℕ). flag x (get_or work (sum_at n + j / 32) 0)) j-word.1
            ∙ ap (λ (x : ℕ). flag (count_trailing_zeros 32 w) (get_or work (sum_at n + x) 0)) j-word.0
            ∙ ap (flag (count_trailing_zeros 32 w)) (sym wis) ∙ lowest_set w wnz wfit

        j-in : j ≤ n / 32
        j-in = at (dec_lt (n / 32) j)
          where
            at : Dec (n / 32 < j) → j ≤ n / 32
            at (yes l) = absurd (true≢false (sym sum-set ∙ m.over j l (omega (arith, j-word))))
            at (no g) = omega arith

        vnz : v ≢ 0
        vnz e = true≢false (sym sum-set ∙ m.sums j j-in ∙ ap (λ (x : ℕ). not (eqb x 0)) (sym vis ∙ e))

        r-word : (r / 32 ≡ j) × (r % 32 ≡ count_trailing_zeros 32 v)
        r-word = let l = trailing_lt 32 v vnz vfit in (omega arith, omega arith)

        r-set : t r ≡ true
        unfolding bit_at
        r-set =
            sym (m.bits r (omega (arith, r-word, j-in)))
            ∙ ap (λ (x : ℕ). flag x (get_or work (9 * n + r / 32) 0)) r-word.1
            ∙ ap (λ (x : ℕ). flag (count_trailing_zeros 32 v) (get_or work (9 * n + x) 0)) r-word.0
            ∙ ap (flag (count_trailing_zeros 32 v)) (sym vis) ∙ lowest_set v vnz vfit

        lower : (p : ℕ) → 1 ≤ p → p < r → t p ≡ false
        unfolding bit_at
        lower p a l = by (ℕ_discrete (p / 32) j)
          where
            in_map : p / 32 ≤ n / 32
            in_map = omega (arith, r-word, j-in)

            by-sum : Dec (p / 32 / 32 ≡ k) → p / 32 ≢ j → t p ≡ false
            by-sum (yes q) d =
                empty-word p in_map
                (ap (λ (x : ℕ). flag (p / 32 % 32) (get_or work (sum_at n + x) 0)) q ∙ ap (flag (p / 32 % 32)) (sym wis)
                ∙ lowest-clear w (p / 32 % 32) (omega (arith, j-word, r-word)))
            by-sum (no q) d = before p in_map (omega (arith, j-word, r-word))

            by : Dec (p / 32 ≡ j) → t p ≡ false
            by (yes q) =
                sym (m.bits p in_map) ∙ ap (λ (x : ℕ). flag (p % 32) (get_or work (9 * n + x) 0)) q ∙ ap (flag (p % 32)) (sym vis)
                ∙ lowest-clear v (p % 32) (omega (arith, r-word))
            by (no d) = by-sum (ℕ_discrete (p / 32 / 32) k) d

        pub lowest-in : r ≡ lowest t n
        lowest-in = lowest-found t n r (only r r-set) r-set lower

-- one word more is 0
pub none-zero : (work : List ℕ) (at k : ℕ) → ((j : ℕ) → j < k → get_or work (at + j) 0 ≡ 0) → get_or work (at + k) 0 ≡ 0 → (j : ℕ) → j < k + 1 → get_or work (at + j) 0 ≡ 0
none-zero work at k none e j l = go (ℕ_discrete j k)
  where
    go : Dec (j ≡ k) → get_or work (at + j) 0 ≡ 0
    go (yes q) = rw q e
    go (no d) = none j (omega arith)

-- ---- the lowest number by the summary

pub from-none : (n : ℕ) (work : List ℕ) (k m : ℕ) → get_or work (sum_at n + k) 0 ≡ 0 → lowest_from n work k (suc m) ≡ lowest_from n work (suc k) m
unfolding lowest_from
from-none n work k m e = rw (eq-eqb (get_or work (sum_at n + k) 0) 0 e) refl

pub from_some : (n : ℕ) (work : List ℕ) (k m : ℕ) → get_or work (sum_at n + k) 0 ≢ 0
    → lowest_from n work k (suc m) ≡ P.lowest_in n work (32 * k + count_trailing_zeros 32 (get_or work (sum_at n + k) 0))
unfolding lowest_from
from_some n work k m e = rw (ne_eqb (get_or work (sum_at n + k) 0) 0 e) refl

from_zero : (n : ℕ) (work : List ℕ) (k : ℕ) → lowest_from n work k 0 ≡ 0
unfolding lowest_from
from_zero n work k = refl

-- the search at word k of the summary
module _ (n : ℕ) (work : List ℕ) (k : ℕ) where
  module _ (less : k < 4) (here : lowest_from n work k (4 - k) ≡ P.lowest n work) where
    four : 4 - k ≡ suc (4 - (k + 1))
    four = omega arith

    pub search-on : get_or work (sum_at n + k) 0 ≡ 0 → lowest_from n work (k + 1) (4 - (k + 1)) ≡ P.lowest n work
    search-on e =
        let s : k + 1 ≡ suc k = omega arith in
        ap (λ (j : ℕ). lowest_from n work j (4 - (k + 1))) s ∙ sym (from-none n work k (4 - (k + 1)) e) ∙ ap (lowest_from n work k) (sym four) ∙ here

    pub search-found : (w : ℕ) → w ≡ get_or work (sum_at n + k) 0 → w ≢ 0 → (z : ℕ) → z ≡ count_trailing_zeros 32 w → (v : ℕ) → v ≡ get_or work (9 * n + (32 * k + z)) 0
        → (y : ℕ) → y ≡ count_trailing_zeros 32 v → 32 * (32 * k + z) + y ≡ P.lowest n work
    search-found w e nz z ez v ev y ey =
        rw (ey, ev, ez, e) (sym (from_some n work k (4 - (k + 1)) (λ q. nz (e ∙ q))) ∙ ap (lowest_from n work k) (sym four) ∙ here)

  pub search-done : 4 ≤ k → lowest_from n work k (4 - k) ≡ P.lowest n work → 0 ≡ P.lowest n work
  search-done l here = let z : 4 - k ≡ 0 = omega arith in sym (ap (lowest_from n work k) z ∙ from_zero n work k) ∙ here

module _
    (n : ℕ)
    (work : List ℕ)
    (most : n ≤ 4095)
    (fit : (i : ℕ) → get_or work i 0 < 2 ^ 32)
    (t : ℕ → Bool)
    (h : Mapped n t work)
    (only : (i : ℕ) → t i ≡ true → Obj n i)
  where
    lowest-on : (k m : ℕ) → ((j : ℕ) → j < k → get_or work (sum_at n + j) 0 ≡ 0) → k + m ≡ 4 → lowest_from n work k m ≡ lowest t n
    lowest-on k zero none q = from_zero n work k ∙ lowest-none-in n work t h only k none (omega arith)
    lowest-on k (suc m) none q =
        at (ℕ_discrete (get_or work (sum_at n + k) 0) 0) (λ z. lowest-on (suc k) m (λ j l. none-zero work (sum_at n) k none z j (omega arith)) (omega arith))
      where
        at : Dec (get_or work (sum_at n + k) 0 ≡ 0) → (get_or work (sum_at n + k) 0 ≡ 0 → lowest_from n work (suc k) m ≡ lowest t n) → lowest_from n work k (suc m) ≡ lowest t n
        at (yes z) on = from-none n work k m z ∙ on z
        at (no d) on =
            from_some n work k m d
            ∙ lowest-in n work t h only k none _ refl d (fit (sum_at n + k)) (omega arith) _ refl _ refl
            (fit (9 * n + (32 * k + count_trailing_zeros 32 (get_or work (sum_at n + k) 0)))) _ refl

    pub lowest-is : P.lowest n work ≡ lowest t n
    lowest-is = lowest-on 0 4 (λ j l. absurd (omega arith)) (omega arith)

-- ---- the set in words that did not change, and by another test

pub mapped-kept : (n : ℕ) (t t' : ℕ → Bool) (work work' : List ℕ) → drop (8 * n) work' ≡ drop (8 * n) work → ((i : ℕ) → t' i ≡ t i) → Mapped n t work → Mapped n t' work'
mapped-kept n t t' work work' e f m =
    record {
      bits = λ i h. bit_kept (9 * n) i (omega arith) ∙ m.bits i h ∙ sym (f i);
      sums = λ j h. bit_kept (sum_at n) j (omega arith) ∙ m.sums j h ∙ ap (λ (x : ℕ). not (eqb x 0)) (sym (word_kept (9 * n + j) (omega arith)));
      over = λ j g h. bit_kept (sum_at n) j (omega arith) ∙ m.over j g h;
    }
  where
    word_kept : (k : ℕ) → 8 * n ≤ k → get_or work' k 0 ≡ get_or work k 0
    word_kept k l =
        let q : k ≡ 8 * n + (k - 8 * n) = omega arith in
        ap (λ (x : ℕ). get_or work' x 0) q ∙ sym (get_or-drop (8 * n) work' (k - 8 * n) 0) ∙ ap (λ (z : List ℕ). get_or z (k - 8 * n) 0) e
        ∙ get_or-drop (8 * n) work (k - 8 * n) 0 ∙ ap (λ (x : ℕ). get_or work x 0) (sym q)

    bit_kept : (base i : ℕ) → 8 * n ≤ base → bit_at work' base i ≡ bit_at work base i
    bit_kept base i l = bit-of work work' base i (word_kept (base + i / 32) (omega arith))

pub mapped-none : (n : ℕ) (t : ℕ → Bool) (work : List ℕ) → n ≤ 4095 → ((i : ℕ) → 9 * n ≤ i → i < 10 * n + 64 → get_or work i 0 ≡ 0) → ((i : ℕ) → t i ≡ false) → Mapped n t work
mapped-none n t work most z f =
    record {
      bits = λ i h. clear (9 * n) i (omega arith) (omega arith) ∙ sym (f i);
      sums = λ j h. clear (sum_at n) j (omega arith) (omega arith) ∙ sym (ap (λ (x : ℕ). not (eqb x 0)) (z (9 * n + j) (omega arith) (omega arith)));
      over = λ j g h. clear (sum_at n) j (omega arith) (omega arith);
    }
  where
    clear : (base i : ℕ) → 9 * n ≤ base → base + i / 32 < 10 * n + 64 → bit_at work base i ≡ false
    clear base i a b = bit-zero work base i (z (base + i / 32) (omega arith) b)
