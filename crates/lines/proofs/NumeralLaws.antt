-- Laws of numerals, a digit at a time. Assumes nothing.
use Prim.Native.Nat.{ℕ, ◌+◌, ◌*◌, ◌≤◌, ◌<◌, ◌^◌, min}
use mathlib.Core.Path.{◌≡◌, refl, ◌∙◌}
use mathlib.Core.Bool.{Bool, true, false, cond, and-false}
use mathlib.Core.List.{List, [], ◌∷◌}
use native.Mathlib.Decide.{dec_le}
use native.Mathlib.Nat.{mul-le-mul_left}
use native.Mathlib.Omega.{arith}
use lib.Dec.{eqb, ltb}
use lib.ListN.{length, get_or, drop, drop_of_length-le}
use borrow.Author.Tests.{lt-ltb, le-ltb}
use Rattle.std.proofs.Common.{Ok, Err}
use Rattle.lines.specs.declared.kinds.Problem.TheVariants.{NoNumber, LargeNumber}
use Rattle.lines.specs.Numeral.{digit_of, digits, numeral_of, is_hex}
use Rattle.lines.proofs.WordLaws.{next-at}

module _ (base : ℕ) (s : List ℕ) (i : ℕ) where
  pub digits_step : (v : ℕ) → i < length s → digit_of (get_or s i 0) < base → digits base v (drop i s) ≡ digits base (v * base + digit_of (get_or s i 0)) (drop (i + 1) s)
  unfolding digits
  digits_step v h l = rw (next-at s i h, lt-ltb (digit_of (get_or s i 0)) base l, digits)

  pub digits-bad : (v : ℕ) → i < length s → base ≤ digit_of (get_or s i 0) → digits base v (drop i s) ≡ Err NoNumber
  unfolding digits
  digits-bad v h l = rw (next-at s i h, le-ltb (digit_of (get_or s i 0)) base l, digits)

  digits-end : (v : ℕ) → length s ≤ i → digits base v (drop i s) ≡ cond (ltb v (2 ^ 32)) (Ok v) (Err LargeNumber)
  unfolding digits
  digits-end v h = rw (drop_of_length-le s h, digits)

  pub digits_value : (v : ℕ) → length s ≤ i → v < 2 ^ 32 → digits base v (drop i s) ≡ Ok v
  digits_value v h l = digits-end v h ∙ rw (lt-ltb v (2 ^ 32) l) refl

  pub digits-too-large : (v : ℕ) → length s ≤ i → 2 ^ 32 ≤ v → digits base v (drop i s) ≡ Err LargeNumber
  digits-too-large v h l = digits-end v h ∙ rw (le-ltb v (2 ^ 32) l) refl

pub numeral-some : (base : ℕ) (s : List ℕ) → (length s ≡ 0 → ⊥) → digits base 0 s ≡ numeral_of base s
unfolding numeral_of
numeral-some base [] d = absurd (d refl)
numeral-some base (x ∷ s) d = refl

pub numeral-none : (base : ℕ) (s : List ℕ) → length s ≡ 0 → Err NoNumber ≡ numeral_of base s
unfolding numeral_of
numeral-none base [] e = refl
numeral-none base (x ∷ s) e = absurd (omega arith)

-- what is too large stays so
large-grows : (base v d : ℕ) → 1 ≤ base → 2 ^ 32 ≤ v → 2 ^ 32 ≤ v * base + d
large-grows base v d b h = omega (arith, mul-le-mul_left v b)

digits-large : (base : ℕ) (s : List ℕ) (v u : ℕ) → 1 ≤ base → 2 ^ 32 ≤ v → 2 ^ 32 ≤ u → digits base v s ≡ digits base u s
unfolding digits
digits-large base [] v u b h k = rw (le-ltb v (2 ^ 32) h, le-ltb u (2 ^ 32) k)
digits-large base (x ∷ s) v u b h k =
    go (ltb (digit_of x) base) refl
    (digits-large base s (v * base + digit_of x) (u * base + digit_of x) b (large-grows base v (digit_of x) b h) (large-grows base u (digit_of x) b k))
  where
    go : (t : Bool) → ltb (digit_of x) base ≡ t → digits base (v * base + digit_of x) s ≡ digits base (u * base + digit_of x) s → digits base v (x ∷ s) ≡ digits base u (x ∷ s)
    go true e r = rw (e, digits) r
    go false e r = rw (e, digits)

pub digits-capped : (base : ℕ) (s : List ℕ) (v : ℕ) → 1 ≤ base → digits base (min v (2 ^ 32)) s ≡ digits base v s
digits-capped base s v b = go (dec_le (2 ^ 32) v)
  where
    go : Dec (2 ^ 32 ≤ v) → digits base (min v (2 ^ 32)) s ≡ digits base v s
    go (yes h) = let e : min v (2 ^ 32) ≡ 2 ^ 32 = omega arith in rw e (digits-large base s (2 ^ 32) v b (omega arith) h)
    go (no h) = let e : min v (2 ^ 32) ≡ v = omega arith in rw e refl

pub short_no_hex : (w : List ℕ) → length w < 2 → is_hex w ≡ false
unfolding is_hex
short_no_hex [] h = refl
short_no_hex (x ∷ []) h = and-false (eqb x 48)
short_no_hex (x ∷ y ∷ w) h = absurd (omega arith)

pub ruleset numerals = (digits_step, digits-bad, digits_value, digits-too-large, digits-capped, numeral-some, numeral-none)
