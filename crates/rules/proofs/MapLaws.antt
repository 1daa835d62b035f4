-- The freed map as words made from a test: what it holds, and that its ones are the numbers from 1 to n that pass.
-- Assumes nothing.
use Prim.Native.Nat.{ℕ, zero, suc, ◌+◌, ◌-◌, ◌*◌, ◌/◌, ◌≤◌, ◌<◌}
use mathlib.Core.Path.{◌≡◌, refl, sym, ap, ◌∙◌}
use mathlib.Core.Bool.{Bool, true, false, cond}
use mathlib.Core.List.{List, [], ◌∷◌, map}
use native.Mathlib.Decide.{dec_lt}
use native.Mathlib.Omega.{arith}
use lib.ListN.{length, take, length-append}
use Rattle.layout.specs.Limits.{map_len}
use Rattle.bitmap.specs.Bits.{holds, numbers_in, word_of}
use Rattle.bitmap.proofs.BitLaws.{passers, passers-add, word_of-holds, holds-past, numbers_in-words}
use Rattle.graph.specs.Numbers.{bit, sum, count}
use Rattle.rules.specs.Buffers.{each_from, numbers}
use Rattle.rules.proofs.ListLaws.{length-numbers, get-numbers}

-- the first k words, each given by its number
pub take_by_lem : (h : ℕ → ℕ) (a k : ℕ) (l : List ℕ) → k ≤ length l → take k (each_from a k (λ j w. h j) l) ≡ map h (numbers a k)
unfolding each_from numbers
take_by_lem h a zero l p = refl
take_by_lem h a (suc k) [] p = absurd (omega arith)
take_by_lem h a (suc k) (w ∷ l) p = ap (λ r. h a ∷ r) (take_by_lem h (suc a) k l (omega arith))

-- a count over more numbers, none of which passes
pub count_past : (t : ℕ → Bool) (n d : ℕ) → ((x : ℕ) → n < x → t x ≡ false) → count (d + n) t ≡ count n t
unfolding count sum
count_past t n zero h = let e : 0 + n ≡ n = omega arith in rw e refl
count_past t n (suc d) h =
    let e : suc d + n ≡ suc (d + n) = omega arith in
    let r = count_past t n d h in
    rw (e, h (suc (d + n)) (omega arith)) (omega arith)

pub length-passers : (t : ℕ → Bool) (m : ℕ) → length (passers t 0 (suc m)) ≡ bit (t 0) + count m t
unfolding passers count sum
length-passers t zero = go (t 0)
  where
    go : (b : Bool) → length {A = ℕ} (cond b (0 ∷ []) []) ≡ bit b + 0
    go true = refl
    go false = refl
length-passers t (suc m) =
    let e : suc (suc m) ≡ suc m + 1 = omega arith in
    let r = length-passers t m in
    let a = length-append (passers t 0 (suc m)) (passers t (0 + suc m) 1) in
    let b = last (0 + suc m) in
    let z : 0 + suc m ≡ suc m = omega arith in
    let c : bit (t (0 + suc m)) ≡ bit (t (suc m)) = ap (λ (x : ℕ). bit (t x)) z in
    ap (λ (k : ℕ). length (passers t 0 k)) e ∙ ap length (passers-add t (suc m) 1 0) ∙ a ∙ omega arith
  where
    last : (x : ℕ) → length (passers t x 1) ≡ bit (t x)
    last x = go (t x)
      where
        go : (b : Bool) → length (cond b (x ∷ []) []) ≡ bit b
        go true = refl
        go false = refl

-- the words of a map that is made from a test of which only numbers from 1 to n pass
module _ (n : ℕ) (t : ℕ → Bool) (past : (x : ℕ) → n < x → t x ≡ false) where
  abbrev words : List ℕ
  words = map (word_of t) (numbers 0 (map_len n))

  pub map-holds : (x : ℕ) → holds x words ≡ t x
  unfolding map_len
  map-holds x = go (dec_lt (x / 64) (map_len n))
    where
      go : Dec (x / 64 < map_len n) → holds x words ≡ t x
      go (yes l) = word_of-holds t x words (get-numbers (word_of t) 0 (map_len n) (x / 64) 0 l ∙ ap (word_of t) (omega arith))
      go (no l) = holds-past x words (let e = length-numbers (word_of t) 0 (map_len n) in omega (arith, l, e)) ∙ sym (past x (omega (arith, l)))

  pub map-ones : t 0 ≡ false → length (numbers_in 0 words) ≡ count n t
  unfolding map_len
  map-ones z =
      let e = length-numbers (word_of t) 0 (map_len n) in
      let a : 64 * (n / 64 + 1) ≡ suc ((64 * (n / 64 + 1) - 1 - n) + n) = omega arith in
      ap length (numbers_in-words t words 0 (λ i l. get-numbers (word_of t) 0 (map_len n) i 0 (omega (arith, l, e))))
      ∙ ap (λ (k : ℕ). length (passers t 0 (64 * k))) e
      ∙ ap (λ (k : ℕ). length (passers t 0 k)) a
      ∙ length-passers t ((64 * (n / 64 + 1) - 1 - n) + n)
      ∙ (let r = count_past t n (64 * (n / 64 + 1) - 1 - n) past in rw z (omega arith))
