-- The laws of field, put, flag and putFlag, over the field's place and width, and what shifts and masks compute.
-- Assumes nothing.
use Prim.Native.Nat.{ℕ, zero, suc, ◌+◌, ◌-◌, ◌*◌, ◌/◌, ◌%◌, ◌^◌, ◌≤◌, ◌<◌}
use mathlib.Core.Path.{◌≡◌, refl, sym, ap, ap₂, ◌∙◌, subst}
use mathlib.Core.Bool.{Bool, true, false, ◌||◌, or-true}
use mathlib.Core.Logic.{◌≢◌, ◌⊎◌, inl, inr, ⊎_elim}
use native.Mathlib.Nat.{mod-lt, add_comm, add_assoc, mul_assoc, add-zero, add-mul, max-eq_right, le_of_suc-le-suc, lt_of_lt_of_le, mod-eq_of_lt, one-mul, zero-div}
use native.Mathlib.Decide.{dec_lt}
use native.Mathlib.Omega.{arith}
use lib.Dec.{eqb, leb}
use borrow.Author.Tests.{le-leb, leb-true}
use lib.Pow.{pow_pos, pow_mono, pow-add, split, high, low, field, mod-mod-pow, shr-shr, shr_mod, ones_lt, ones_split, shl_exact, shl_lt, mod-pow-add}
use lib.Bits.{bit_and, bit_or, and_mask, and_block, or_block, or_shifted, or_zero_r, or_step, and_zero_r}
use Rattle.layout.specs.Field as F
use Rattle.layout.proofs.BoolLaws.{or_cases}

-- ---- one field

-- a value that fits is put as it is
pub small : (w v : ℕ) → v < 2 ^ w → v % 2 ^ w ≡ v
small w v h = mod-eq_of_lt h

pub field_lt : (p w r : ℕ) → F.field p w r < 2 ^ w
unfolding F.field
field_lt p w r = mod-lt (r / 2 ^ p) (pow_pos w)

-- the number 0 has no bit
pub zero_field : (p w : ℕ) → F.field p w 0 ≡ 0
unfolding F.field
zero_field p w = ap (λ (x : ℕ). x % 2 ^ w) (zero-div (2 ^ p)) ∙ mod-eq_of_lt (pow_pos w)

pub zero_flag : (p : ℕ) → F.flag p 0 ≡ false
unfolding F.flag
zero_flag p = ap (λ (x : ℕ). eqb x 1) (zero_field p 1)

module _ (p w v r : ℕ) where
  fits : v % 2 ^ w < 2 ^ w
  fits = mod-lt v (pow_pos w)

  put-shift : F.put p w v r / 2 ^ p ≡ r / 2 ^ (w + p) * 2 ^ w + v % 2 ^ w
  unfolding F.put
  put-shift = high (r / 2 ^ (w + p) * 2 ^ w + v % 2 ^ w) p (mod-lt r (pow_pos p))

  -- the field that was put
  pub field-put-same : F.field p w (F.put p w v r) ≡ v % 2 ^ w
  unfolding F.field
  field-put-same = ap (λ (x : ℕ). x % 2 ^ w) put-shift ∙ low (r / 2 ^ (w + p)) w fits

  -- what stands above it
  put-high : F.put p w v r / 2 ^ (w + p) ≡ r / 2 ^ (w + p)
  put-high =
      ap (λ (k : ℕ). F.put p w v r / 2 ^ k) (add_comm w p) ∙ sym (shr-shr (F.put p w v r) p w)
      ∙ ap (λ (x : ℕ). x / 2 ^ w) put-shift ∙ high (r / 2 ^ (w + p)) w fits

  pub put-above : (k : ℕ) → w + p ≤ k → F.put p w v r / 2 ^ k ≡ r / 2 ^ k
  put-above k l =
      let e : k ≡ (w + p) + (k - (w + p)) = omega arith in
      ap (λ (i : ℕ). F.put p w v r / 2 ^ i) e ∙ sym (shr-shr (F.put p w v r) (w + p) (k - (w + p)))
      ∙ ap (λ (x : ℕ). x / 2 ^ (k - (w + p))) put-high
      ∙ shr-shr r (w + p) (k - (w + p)) ∙ ap (λ (i : ℕ). r / 2 ^ i) (sym e)

  -- what stands below it
  put_low : F.put p w v r % 2 ^ p ≡ r % 2 ^ p
  unfolding F.put
  put_low = low (r / 2 ^ (w + p) * 2 ^ w + v % 2 ^ w) p (mod-lt r (pow_pos p))

  pub put-below : (k : ℕ) → k ≤ p → F.put p w v r % 2 ^ k ≡ r % 2 ^ k
  put-below k l =
      let e : p ≡ (p - k) + k = omega arith in
      let lows : (x : ℕ) → x % 2 ^ k ≡ x % 2 ^ p % 2 ^ k
      = λ x. sym (mod-mod-pow x (p - k) k) ∙ ap (λ (i : ℕ). x % 2 ^ i % 2 ^ k) (sym e) in
      lows (F.put p w v r) ∙ ap (λ (x : ℕ). x % 2 ^ k) put_low ∙ sym (lows r)

  -- the same field put twice
  pub put-put : (u : ℕ) → F.put p w u (F.put p w v r) ≡ F.put p w u r
  unfolding F.put
  put-put u = ap₂ (λ (x y : ℕ). (x * 2 ^ w + u % 2 ^ w) * 2 ^ p + y) put-high put_low

  -- the value counts modulo the width
  pub put-mod : F.put p w (v % 2 ^ w) r ≡ F.put p w v r
  unfolding F.put
  put-mod = ap (λ (x : ℕ). (r / 2 ^ (w + p) * 2 ^ w + x) * 2 ^ p + r % 2 ^ p) (mod-eq_of_lt fits)

-- a field put back as it was
pub put_same : (p w r : ℕ) → F.put p w (F.field p w r) r ≡ r
unfolding F.put F.field
put_same p w r =
    ap (λ (x : ℕ). x * 2 ^ p + r % 2 ^ p)
    (ap₂ (λ (x y : ℕ). x * 2 ^ w + y)
    (ap (λ (k : ℕ). r / 2 ^ k) (add_comm w p) ∙ sym (shr-shr r p w))
    (mod-eq_of_lt (mod-lt (r / 2 ^ p) (pow_pos w)))
    ∙ split (r / 2 ^ p) w)
    ∙ split r p

-- two numbers with the same above, in and below a field are the same
pub parts : (p w r s : ℕ) → r / 2 ^ (w + p) ≡ s / 2 ^ (w + p) → F.field p w r ≡ F.field p w s → r % 2 ^ p ≡ s % 2 ^ p → r ≡ s
unfolding F.put
parts p w r s a b c =
    sym (put_same p w r) ∙ ap (λ (v : ℕ). F.put p w v r) b
    ∙ ap₂ (λ (x y : ℕ). (x * 2 ^ w + F.field p w s % 2 ^ w) * 2 ^ p + y) a c ∙ put_same p w s

-- ---- two fields

-- no bit in common; computes where the places are numerals
abbrev pub apart : ℕ → ℕ → ℕ → ℕ → Bool
apart p w q u = leb (w + p) q || leb (u + q) p

pub apart-cases : (p w q u : ℕ) → apart p w q u ≡ true → (w + p ≤ q) ⊎ (u + q ≤ p)
apart-cases p w q u e = ⊎_elim (λ a. inl (leb-true (w + p) q a)) (λ b. inr (leb-true (u + q) p b)) (or_cases (leb (w + p) q) (leb (u + q) p) e)

pub apart-flags : (p q : ℕ) → p ≢ q → apart p 1 q 1 ≡ true
apart-flags p q h = go (dec_lt p q)
  where
    go : Dec (p < q) → apart p 1 q 1 ≡ true
    go (yes l) = rw (le-leb (1 + p) q (omega arith)) refl
    go (no l) = rw (le-leb (1 + q) p (omega arith)) (or-true (leb (1 + p) q))

module _ (p w v r q u : ℕ) where
  field-put-above : w + p ≤ q → F.field q u (F.put p w v r) ≡ F.field q u r
  unfolding F.field
  field-put-above l = ap (λ (x : ℕ). x % 2 ^ u) (put-above p w v r q l)

  field-put-below : u + q ≤ p → F.field q u (F.put p w v r) ≡ F.field q u r
  unfolding F.field
  field-put-below l = sym (field (F.put p w v r) u q) ∙ ap (λ (x : ℕ). x / 2 ^ q) (put-below p w v r (u + q) l) ∙ field r u q

  -- the field of other bits than those put
  pub field-put-other : apart p w q u ≡ true → F.field q u (F.put p w v r) ≡ F.field q u r
  field-put-other e = ⊎_elim field-put-above field-put-below (apart-cases p w q u e)

-- a field put k bits up is put into what stands above those k bits
put_up : (p w v k r : ℕ) → F.put (p + k) w v r / 2 ^ k ≡ F.put p w v (r / 2 ^ k)
unfolding F.put
put_up p w v k r =
    ap (λ (x : ℕ). x / 2 ^ k)
    (ap₂ (λ (x y : ℕ). (r / 2 ^ (w + (p + k)) * 2 ^ w + v % 2 ^ w) * x + y) (pow-add 2 p k) (mod-pow-add r p k)
    ∙ regroup (r / 2 ^ (w + (p + k)) * 2 ^ w + v % 2 ^ w) (2 ^ p) (2 ^ k) (r / 2 ^ k % 2 ^ p) (r % 2 ^ k))
    ∙ high ((r / 2 ^ (w + (p + k)) * 2 ^ w + v % 2 ^ w) * 2 ^ p + r / 2 ^ k % 2 ^ p) k (mod-lt r (pow_pos k))
    ∙ ap (λ (x : ℕ). (x * 2 ^ w + v % 2 ^ w) * 2 ^ p + r / 2 ^ k % 2 ^ p)
    (ap (λ (i : ℕ). r / 2 ^ i) (omega arith) ∙ sym (shr-shr r k (w + p)))
  where
    regroup : (a b c d e : ℕ) → a * (b * c) + (d * c + e) ≡ (a * b + d) * c + e
    regroup a b c d e = sym (add_assoc (a * (b * c)) (d * c) e) ∙ ap (λ (x : ℕ). x + e) (ap (λ (x : ℕ). x + d * c) (sym (mul_assoc a b c)) ∙ sym (add-mul (a * b) d c))

-- the lower of the two last
put-comm-low : (p w v q u x r : ℕ) → u + q ≤ p → F.put p w v (F.put q u x r) ≡ F.put q u x (F.put p w v r)
put-comm-low p w v q u x r l =
    let k = u + q in
    let e : p ≡ (p - (u + q)) + (u + q) = omega arith in
    let up : (s : ℕ) → F.put p w v s / 2 ^ (u + q) ≡ F.put (p - (u + q)) w v (s / 2 ^ (u + q))
    = λ s. ap (λ (i : ℕ). F.put i w v s / 2 ^ (u + q)) e ∙ put_up (p - (u + q)) w v (u + q) s in
    parts q u (F.put p w v (F.put q u x r)) (F.put q u x (F.put p w v r))
    (up (F.put q u x r) ∙ ap (F.put (p - (u + q)) w v) (put-high q u x r) ∙ sym (up r) ∙ sym (put-high q u x (F.put p w v r)))
    (field-put-below p w v (F.put q u x r) q u l ∙ field-put-same q u x r ∙ sym (field-put-same q u x (F.put p w v r)))
    (put-below p w v (F.put q u x r) q (omega arith) ∙ put_low q u x r ∙ sym (put-below p w v r q (omega arith)) ∙ sym (put_low q u x (F.put p w v r)))

-- fields of other bits are put in any order
pub put-comm : (p w v q u x r : ℕ) → apart p w q u ≡ true → F.put p w v (F.put q u x r) ≡ F.put q u x (F.put p w v r)
put-comm p w v q u x r e =
    ⊎_elim (λ l. sym (put-comm-low q u x p w v r l)) (λ l. put-comm-low p w v q u x r l) (apart-cases p w q u e)

-- ---- flags

digit-is : (b : Bool) → eqb (F.digit b % 2 ^ 1) 1 ≡ b
unfolding F.digit
digit-is true = refl
digit-is false = refl

-- a digit is what its test says
digit-of : (d : ℕ) → d < 2 → F.digit (eqb d 1) ≡ d
unfolding F.digit
digit-of zero h = refl
digit-of (suc zero) h = refl
digit-of (suc (suc d)) h = absurd (omega arith)

pub digit-flag : (p r : ℕ) → F.digit (F.flag p r) ≡ F.field p 1 r
unfolding F.flag
digit-flag p r = digit-of (F.field p 1 r) (field_lt p 1 r)

pub flag-put-same : (p : ℕ) (b : Bool) (r : ℕ) → F.flag p (F.put_flag p b r) ≡ b
unfolding F.flag F.put_flag
flag-put-same p b r = ap (λ (x : ℕ). eqb x 1) (field-put-same p 1 (F.digit b) r) ∙ digit-is b

-- a flag after another field, or another flag, was put
module _ (p w v r q : ℕ) (e : apart p w q 1 ≡ true) where
  pub flag-put-field : F.flag q (F.put p w v r) ≡ F.flag q r
  unfolding F.flag
  flag-put-field = ap (λ (x : ℕ). eqb x 1) (field-put-other p w v r q 1 e)

module _ (p : ℕ) (b : Bool) (r q u : ℕ) (e : apart p 1 q u ≡ true) where
  pub field-put-flag : F.field q u (F.put_flag p b r) ≡ F.field q u r
  unfolding F.put_flag
  field-put-flag = field-put-other p 1 (F.digit b) r q u e

  pub put-flag-comm : (x : ℕ) → F.put_flag p b (F.put q u x r) ≡ F.put q u x (F.put_flag p b r)
  unfolding F.put_flag
  put-flag-comm x = put-comm p 1 (F.digit b) q u x r e

module _ (p : ℕ) (b : Bool) (r q : ℕ) (h : p ≢ q) where
  pub flag-put-other : F.flag q (F.put_flag p b r) ≡ F.flag q r
  unfolding F.put_flag
  flag-put-other = flag-put-field p 1 (F.digit b) r q (apart-flags p q h)

  pub flags-comm : (c : Bool) → F.put_flag p b (F.put_flag q c r) ≡ F.put_flag q c (F.put_flag p b r)
  unfolding F.put_flag
  flags-comm c = put-comm p 1 (F.digit b) q 1 (F.digit c) r (apart-flags p q h)

pub flag-put-put : (p : ℕ) (b c : Bool) (r : ℕ) → F.put_flag p c (F.put_flag p b r) ≡ F.put_flag p c r
unfolding F.put_flag
flag-put-put p b c r = put-put p 1 (F.digit b) r (F.digit c)

pub flag_same : (p r : ℕ) → F.put_flag p (F.flag p r) r ≡ r
unfolding F.put_flag
flag_same p r = ap (λ (v : ℕ). F.put p 1 v r) (digit-flag p r) ∙ put_same p 1 r

-- a flag that is so already, and one put back as it was
pub flag-stays : (p : ℕ) (b : Bool) (r : ℕ) → F.flag p r ≡ b → F.put_flag p b r ≡ r
flag-stays p b r e = ap (λ (c : Bool). F.put_flag p c r) (sym e) ∙ flag_same p r

-- ---- shifts and masks

-- a shift and a mask read a field
pub and-field : (p w r : ℕ) → bit_and (r / 2 ^ p) (2 ^ w - 1) ≡ F.field p w r
unfolding F.field
and-field p w r = and_mask (r / 2 ^ p) w

pub and-flag : (p r : ℕ) → eqb (bit_and (r / 2 ^ p) 1) 1 ≡ F.flag p r
unfolding F.flag
and-flag p r = ap (λ (x : ℕ). eqb x 1) (and-field p 1 r)

-- a mask of all bits but the field's clears it, in a record of h + (w + p) bits
and-clear : (h w p r : ℕ) → r < 2 ^ (h + (w + p)) → bit_and r ((2 ^ h - 1) * 2 ^ (w + p) + (2 ^ p - 1)) ≡ F.put p w 0 r
unfolding F.put
and-clear h w p r b =
    let small_mask : 2 ^ p - 1 < 2 ^ (w + p) = lt_of_lt_of_le (ones_lt p) (pow_mono (omega arith)) in
    ap (λ (x : ℕ). bit_and x ((2 ^ h - 1) * 2 ^ (w + p) + (2 ^ p - 1))) (sym (split r (w + p)))
    ∙ and_block (w + p) (r / 2 ^ (w + p)) (2 ^ h - 1) (r % 2 ^ (w + p)) (2 ^ p - 1) (mod-lt r (pow_pos (w + p))) small_mask
    ∙ ap₂ (λ (x y : ℕ). x * 2 ^ (w + p) + y)
    (and_mask (r / 2 ^ (w + p)) h ∙ shr_mod h (w + p) b)
    (and_mask (r % 2 ^ (w + p)) p ∙ mod-mod-pow r w p)
    ∙ ap (λ (x : ℕ). x + r % 2 ^ p)
    (ap (λ (m : ℕ). r / 2 ^ (w + p) * m) (pow-add 2 w p) ∙ sym (mul_assoc (r / 2 ^ (w + p)) (2 ^ w) (2 ^ p))
    ∙ ap (λ (x : ℕ). x * 2 ^ p) (sym (add-zero (r / 2 ^ (w + p) * 2 ^ w)) ∙ ap (λ (x : ℕ). r / 2 ^ (w + p) * 2 ^ w + x) (sym (mod-eq_of_lt (pow_pos w)))))

-- or puts a value into a field that is clear
or_put : (w p v r : ℕ) → v < 2 ^ w → bit_or (F.put p w 0 r) (v * 2 ^ p) ≡ F.put p w v r
unfolding F.put
or_put w p v r h =
    ap₂ bit_or
    (ap (λ (x : ℕ). (r / 2 ^ (w + p) * 2 ^ w + x) * 2 ^ p + r % 2 ^ p) (mod-eq_of_lt (pow_pos w)))
    (sym (add-zero (v * 2 ^ p)))
    ∙ or_block p (r / 2 ^ (w + p) * 2 ^ w + 0) v (r % 2 ^ p) 0 (mod-lt r (pow_pos p)) (pow_pos p)
    ∙ ap₂ (λ (x y : ℕ). x * 2 ^ p + y)
    (ap (λ (x : ℕ). bit_or x v) (add-zero (r / 2 ^ (w + p) * 2 ^ w)) ∙ or_shifted (r / 2 ^ (w + p)) w v h
    ∙ ap (λ (x : ℕ). r / 2 ^ (w + p) * 2 ^ w + x) (sym (mod-eq_of_lt h)))
    (or_zero_r (r % 2 ^ p))

-- `(r & !mask) | ((v & ones) << p)` puts v into the field, in a record of h + (w + p) bits
pub set-bits : (h w p v r : ℕ) → r < 2 ^ (h + (w + p))
    → bit_or (bit_and r ((2 ^ h - 1) * 2 ^ (w + p) + (2 ^ p - 1))) (bit_and v (2 ^ w - 1) * 2 ^ p % 2 ^ (h + (w + p))) ≡ F.put p w v r
set-bits h w p v r b =
    let l : v % 2 ^ w < 2 ^ w = mod-lt v (pow_pos w) in
    ap₂ bit_or (and-clear h w p r b)
    (ap (λ (x : ℕ). x * 2 ^ p % 2 ^ (h + (w + p))) (and_mask v w) ∙ shl_exact w p (h + (w + p)) l (omega arith))
    ∙ or_put w p (v % 2 ^ w) r l ∙ put-mod p w v r

-- or with one bit sets it
pub or-flag : (p r : ℕ) → bit_or r (2 ^ p) ≡ F.put_flag p true r
unfolding F.put_flag F.put F.digit
or-flag p r =
    let one : (x : ℕ) → bit_or x 1 ≡ x / 2 ^ 1 * 2 ^ 1 + 1
    = λ x. or_step x 1 ∙ ap₂ (λ (y z : ℕ). y * 2 + z) (or_zero_r (x / 2)) (max-eq_right (le_of_suc-le-suc (mod-lt x (pow_pos 1)))) in
    ap₂ bit_or (sym (split r p)) (omega arith)
    ∙ or_block p (r / 2 ^ p) 1 (r % 2 ^ p) 0 (mod-lt r (pow_pos p)) (pow_pos p)
    ∙ ap₂ (λ (x y : ℕ). x * 2 ^ p + y)
    (one (r / 2 ^ p) ∙ ap (λ (x : ℕ). x * 2 ^ 1 + 1) (shr-shr r p 1 ∙ ap (λ (k : ℕ). r / 2 ^ k) (add_comm p 1)))
    (or_zero_r (r % 2 ^ p))

-- one bit shifted to its place, in a word of n bits
pub one_at : (n p : ℕ) → p < n → 1 * 2 ^ p % 2 ^ n ≡ 2 ^ p
one_at n p l = shl_exact 1 p n (omega arith) (omega arith) ∙ one-mul (2 ^ p)

-- the mask of all bits but bit p
not-bit : (h p : ℕ) → (2 ^ (h + (1 + p)) - 1) - 2 ^ p ≡ (2 ^ h - 1) * 2 ^ (1 + p) + (2 ^ p - 1)
not-bit h p = let o = pow_pos p in let e = ones_split h (1 + p) in let d = pow-add 2 1 p in omega arith

-- and with the mask of all bits but one clears it, in a word of n bits
pub and-not-flag : (n p r : ℕ) → p < n → r < 2 ^ n → bit_and r ((2 ^ n - 1) - 2 ^ p) ≡ F.put_flag p false r
unfolding F.put_flag F.digit
and-not-flag n p r l b =
    let e : n ≡ (n - (1 + p)) + (1 + p) = omega arith in
    ap (bit_and r) (ap (λ (k : ℕ). (2 ^ k - 1) - 2 ^ p) e ∙ not-bit (n - (1 + p)) p)
    ∙ and-clear (n - (1 + p)) 1 p r (subst (λ (k : ℕ). r < 2 ^ k) e b)

-- a mask with the bits of one field, and others above it, tests the field and the others
pub and-window : (w p k r : ℕ)
    → bit_and r (k * 2 ^ (w + p) + (2 ^ w - 1) * 2 ^ p) ≡ bit_and (r / 2 ^ (w + p)) k * 2 ^ (w + p) + F.field p w r * 2 ^ p
unfolding F.field
and-window w p k r =
    let small_mask : (2 ^ w - 1) * 2 ^ p < 2 ^ (w + p) = shl_lt w p (ones_lt w) in
    ap (λ (x : ℕ). bit_and x (k * 2 ^ (w + p) + (2 ^ w - 1) * 2 ^ p)) (sym (split r (w + p)))
    ∙ and_block (w + p) (r / 2 ^ (w + p)) k (r % 2 ^ (w + p)) ((2 ^ w - 1) * 2 ^ p) (mod-lt r (pow_pos (w + p))) small_mask
    ∙ ap (λ (y : ℕ). bit_and (r / 2 ^ (w + p)) k * 2 ^ (w + p) + y)
    (ap₂ bit_and (mod-pow-add r w p) (sym (add-zero ((2 ^ w - 1) * 2 ^ p)))
    ∙ and_block p (r / 2 ^ p % 2 ^ w) (2 ^ w - 1) (r % 2 ^ p) 0 (mod-lt r (pow_pos p)) (pow_pos p)
    ∙ ap₂ (λ (x y : ℕ). x * 2 ^ p + y)
    (and_mask (r / 2 ^ p % 2 ^ w) w ∙ mod-eq_of_lt (mod-lt (r / 2 ^ p) (pow_pos w))) (and_zero_r (r % 2 ^ p))
    ∙ add-zero (r / 2 ^ p % 2 ^ w * 2 ^ p))
