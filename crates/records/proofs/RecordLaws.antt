-- What each setter of a record leaves to each reader, and the legal records as plain facts.
-- Assumes nothing.
use Prim.Native.Nat.{ℕ, zero, suc, ◌+◌, ◌*◌, ◌/◌, ◌%◌, ◌^◌, ◌≤◌, ◌<◌}
use mathlib.Core.Path.{◌≡◌, refl, sym, ap, ap₂, ◌∙◌}
use mathlib.Core.Bool.{Bool, true, false, not, ◌&&◌, ◌||◌, and-false, false≢true}
use mathlib.Core.Logic.{◌≢◌}
use native.Mathlib.Nat.{zero-add}
use native.Mathlib.Omega.{arith}
use lib.Dec.{eqb, lit<, eqb-suc-zero}
use lib.Bits.{bit_and, and_zero_r}
use lib.Pow.{shr-shr}
use borrow.Author.Tests.{leb-true, le-leb, eqb-true, eqb-false, eq-eqb, ne_eqb, not-false}
use Rattle.layout.specs.Limits.{width_max}
use Rattle.layout.specs.Field.{field, put, flag, put_flag, digit}
use Rattle.records.specs.Record as R
use Rattle.layout.proofs.BoolLaws.{and_split}
use Rattle.layout.proofs.FieldLaws.{apart, small, zero_flag, field-put-same, field-put-other, field-put-flag, flag-put-same, flag-put-field, flag-put-other, and-window}

-- ---- one setter, any reader of other bits
-- The flags' places are 0 to 6, the width has 4 bits from 8, the cluster 12 from 16: `apart` of two of them is `refl`.

module _ (p : ℕ) (b : Bool) (r : ℕ) where
  pub width-put-flag : apart p 1 8 4 ≡ true → R.width (put_flag p b r) ≡ R.width r
  width-put-flag e = field-put-flag p b r 8 4 e

  pub cluster-put-flag : apart p 1 16 12 ≡ true → R.cluster (put_flag p b r) ≡ R.cluster r
  cluster-put-flag e = field-put-flag p b r 16 12 e

module _ (v r : ℕ) where
  pub width-with-width : v < 2 ^ 4 → R.width (R.with_width v r) ≡ v
  width-with-width h = field-put-same 8 4 v r ∙ small 4 v h

  pub cluster-with-cluster : v < 2 ^ 12 → R.cluster (R.with_cluster v r) ≡ v
  cluster-with-cluster h = field-put-same 16 12 v r ∙ small 12 v h

  pub flag-with-cluster : (q : ℕ) → apart 16 12 q 1 ≡ true → flag q (R.with_cluster v r) ≡ flag q r
  flag-with-cluster q e = flag-put-field 16 12 v r q e

-- ---- the bits that are 0 between calls

-- a record with the same bits 4 to 7, 12 to 15 and 28 to 31
pub clear-same : (r s : ℕ) → field 4 4 r ≡ field 4 4 s → field 12 4 r ≡ field 12 4 s → field 28 4 r ≡ field 28 4 s → R.clear r ≡ R.clear s
unfolding R.clear
clear-same r s a b c = rw (a, b, c) refl

-- the mask of those bits, as a sum of the three fields
and-clear-mask : (r : ℕ) → bit_and r 0xF000F0F0 ≡ (field 28 4 r * 2 ^ 12 * 2 ^ 8 + field 12 4 r * 2 ^ 4) * 2 ^ 8 + field 4 4 r * 2 ^ 4
unfolding field
and-clear-mask r =
    and-window 4 4 0xF000F0 r
    ∙ ap (λ (x : ℕ). x * 2 ^ 8 + field 4 4 r * 2 ^ 4)
    (and-window 4 4 0xF000 (r / 2 ^ 8)
    ∙ ap₂ (λ (x y : ℕ). x * 2 ^ 8 + y * 2 ^ 4)
    (and-window 4 12 0 (r / 2 ^ 8 / 2 ^ 8)
    ∙ ap₂ (λ (x y : ℕ). x * 2 ^ 16 + y * 2 ^ 12) (and_zero_r (r / 2 ^ 8 / 2 ^ 8 / 2 ^ 16))
    (ap (λ (x : ℕ). x % 2 ^ 4) (shr-shr (r / 2 ^ 8) 8 12 ∙ shr-shr r 8 20))
    ∙ zero-add (r / 2 ^ 28 % 2 ^ 4 * 2 ^ 12))
    (ap (λ (x : ℕ). x % 2 ^ 4) (shr-shr r 8 4)))

nonzero : (m : ℕ) → 0 < m → eqb m 0 ≡ false
nonzero m l = ne_eqb m 0 (λ e. omega arith)

three : (a b c : ℕ) → eqb ((a * 2 ^ 12 * 2 ^ 8 + b * 2 ^ 4) * 2 ^ 8 + c * 2 ^ 4) 0 ≡ eqb c 0 && eqb b 0 && eqb a 0
three a b (suc c) = nonzero ((a * 2 ^ 12 * 2 ^ 8 + b * 2 ^ 4) * 2 ^ 8 + suc c * 2 ^ 4) (omega arith) ∙ rw (eqb-suc-zero c)
three a (suc b) zero = nonzero ((a * 2 ^ 12 * 2 ^ 8 + suc b * 2 ^ 4) * 2 ^ 8 + 0) (omega arith) ∙ rw (eqb-suc-zero b)
three (suc a) zero zero = nonzero ((suc a * 2 ^ 12 * 2 ^ 8 + 0) * 2 ^ 8 + 0) (omega arith) ∙ rw (eqb-suc-zero a)
three zero zero zero = refl

-- one mask tests them all
pub mask-clear : (r : ℕ) → eqb (bit_and r 0xF000F0F0) 0 ≡ R.clear r
unfolding R.clear
mask-clear r = ap (λ (x : ℕ). eqb x 0) (and-clear-mask r) ∙ three (field 28 4 r) (field 12 4 r) (field 4 4 r)

-- a clear record is neither marked nor postponed nor reached
module _ (r : ℕ) (h : R.clear r ≡ true) where
  zeros : field 4 4 r ≡ 0
  unfolding R.clear
  zeros = eqb-true (field 4 4 r) 0 (and_split _ _ (and_split _ _ h).0).0

  pub clear-marked : R.is_marked r ≡ false
  unfolding flag field
  clear-marked = let z = zeros in ne_eqb (r / 16 % 2) 1 (λ e. omega arith)

  pub clear-postponed : R.is_postponed r ≡ false
  unfolding flag field
  clear-postponed = let z = zeros in ne_eqb (r / 32 % 2) 1 (λ e. omega arith)

  pub clear-reached : R.is_reached r ≡ false
  unfolding flag field
  clear-reached = let z = zeros in ne_eqb (r / 64 % 2) 1 (λ e. omega arith)

-- ---- legal records

pub record Legal (n r : ℕ) : Type 0 where
  pub blank : R.clear r ≡ true
  pub used : R.in_use r ≡ true
  pub narrow : R.width r ≤ width_max
  pub low : R.cluster r ≤ n
  pub sinkless : R.is_sink r ≡ true → R.cluster r ≡ 0
  pub outless : R.is_out r ≡ true → R.cluster r ≢ 0

implies : (a b : Bool) → (not a || b) ≡ true → a ≡ true → b ≡ true
implies true b e f = e
implies false b e f = absurd (false≢true f)

implied : (a b : Bool) → (a ≡ true → b ≡ true) → (not a || b) ≡ true
implied true b h = h refl
implied false b h = refl

pub legal-facts : (n r : ℕ) → R.legal n r ≡ true → Legal n r
unfolding R.legal
legal-facts n r e =
    let f = and_split _ _ e in
    let g = and_split _ _ f.0 in
    let d = and_split _ _ g.0 in
    let c = and_split _ _ d.0 in
    let b = and_split _ _ c.0 in
    record {
      blank = b.0;
      used = b.1;
      narrow = leb-true (R.width r) width_max c.1;
      low = leb-true (R.cluster r) n d.1;
      sinkless = λ s. eqb-true (R.cluster r) 0 (implies (R.is_sink r) (eqb (R.cluster r) 0) g.1 s);
      outless = λ o z. false≢true (sym (ap not (eq-eqb (R.cluster r) 0 z)) ∙ implies (R.is_out r) (not (eqb (R.cluster r) 0)) f.1 o);
    }

pub facts-legal : (n r : ℕ) → Legal n r → R.legal n r ≡ true
unfolding R.legal
facts-legal n r L =
    rw (
      L.blank,
      L.used,
      le-leb (R.width r) width_max L.narrow,
      le-leb (R.cluster r) n L.low,
      implied (R.is_sink r) (eqb (R.cluster r) 0) (λ s. eq-eqb (R.cluster r) 0 (L.sinkless s)),
      implied (R.is_out r) (not (eqb (R.cluster r) 0)) (λ o. ap not (ne_eqb (R.cluster r) 0 (L.outless o))),
    ) refl

-- a legal record is not 0
pub legal-nonzero : (n r : ℕ) → Legal n r → r ≢ 0
legal-nonzero n r L e = false≢true (sym (zero_flag 0) ∙ sym (ap R.in_use e) ∙ L.used)

-- a record is free, legal or damaged
module _ (n r : ℕ) where
  pub zero-free : r ≡ 0 → R.free r ≡ true
  unfolding R.free
  zero-free e = eq-eqb r 0 e

  pub nonzero-free : r ≢ 0 → R.free r ≡ false
  unfolding R.free
  nonzero-free e = ne_eqb r 0 e

  pub free-nonzero : R.free r ≡ false → r ≢ 0
  unfolding R.free
  free-nonzero e = eqb-false r 0 e

  -- undamaged and not free: legal
  pub undamaged : R.damaged n r ≡ false → R.free r ≡ false → R.legal n r ≡ true
  unfolding R.damaged
  undamaged d f = not-false (R.legal n r) (rw f at d)

  pub legal-undamaged : R.legal n r ≡ true → R.damaged n r ≡ false
  unfolding R.damaged
  legal-undamaged l = rw l (and-false (not (R.free r)))

  pub free-undamaged : R.free r ≡ true → R.damaged n r ≡ false
  unfolding R.damaged
  free-undamaged f = rw f refl

-- ---- cluster and out taken off

module _ (r : ℕ) where
  pub loose-field : (q u : ℕ) → apart 16 12 q u ≡ true → apart 3 1 q u ≡ true → field q u (R.loose r) ≡ field q u r
  unfolding R.loose
  loose-field q u a b = field-put-other 16 12 0 (R.with_out false r) q u a ∙ field-put-flag 3 false r q u b

  pub loose-cluster : R.cluster (R.loose r) ≡ 0
  unfolding R.loose
  loose-cluster = cluster-with-cluster 0 (R.with_out false r) (lit< tt)

  pub loose-out : R.is_out (R.loose r) ≡ false
  unfolding R.loose
  loose-out = flag-with-cluster 0 (R.with_out false r) 3 refl ∙ flag-put-same 3 false r

  pub loose-width : R.width (R.loose r) ≡ R.width r
  loose-width = loose-field 8 4 refl refl

  pub loose-flag : (q : ℕ) → apart 16 12 q 1 ≡ true → q ≢ 3 → flag q (R.loose r) ≡ flag q r
  unfolding R.loose
  loose-flag q a h = flag-with-cluster 0 (R.with_out false r) q a ∙ flag-put-other 3 false r q (λ e. h (sym e))

  pub loose-legal : (n : ℕ) → Legal n r → Legal n (R.loose r)
  loose-legal n L = record {
    blank = clear-same (R.loose r) r (loose-field 4 4 refl refl) (loose-field 12 4 refl refl) (loose-field 28 4 refl refl) ∙ L.blank;
    used = loose-flag 0 refl (eqb-false 0 3 refl) ∙ L.used;
    narrow = rw loose-width L.narrow;
    low = rw loose-cluster (omega arith);
    sinkless = λ e. loose-cluster;
    outless = λ e z. false≢true (sym loose-out ∙ e);
  }

-- ---- a new record

module _ (w : ℕ) where
  pub new-field : (q u : ℕ) → apart 8 4 q u ≡ true → field q u (R.new_record w) ≡ field q u 1
  unfolding R.new_record
  new-field q u a = field-put-other 8 4 w (R.with_use true 0) q u a ∙ ap (field q u) (unfold put_flag put digit in refl)

  pub new-flag : (q : ℕ) → apart 8 4 q 1 ≡ true → flag q (R.new_record w) ≡ flag q 1
  unfolding flag
  new-flag q a = ap (λ (x : ℕ). eqb x 1) (new-field q 1 a)

  pub new-used : R.in_use (R.new_record w) ≡ true
  new-used = new-flag 0 refl ∙ (unfold flag field in refl)

  pub new-written : R.is_written (R.new_record w) ≡ false
  new-written = new-flag 1 refl ∙ (unfold flag field in refl)

  pub new-sink : R.is_sink (R.new_record w) ≡ false
  new-sink = new-flag 2 refl ∙ (unfold flag field in refl)

  pub new-out : R.is_out (R.new_record w) ≡ false
  new-out = new-flag 3 refl ∙ (unfold flag field in refl)

  pub new-cluster : R.cluster (R.new_record w) ≡ 0
  new-cluster = new-field 16 12 refl ∙ (unfold field in refl)

  pub new-clear : R.clear (R.new_record w) ≡ true
  new-clear = clear-same (R.new_record w) 1 (new-field 4 4 refl) (new-field 12 4 refl) (new-field 28 4 refl) ∙ (unfold R.clear field in refl)

  module _ (h : w ≤ width_max) where
    pub new-width : R.width (R.new_record w) ≡ w
    unfolding R.new_record
    new-width = width-with-width w (R.with_use true 0) (omega arith)

    pub new-legal : (n : ℕ) → Legal n (R.new_record w)
    new-legal n = record {
      blank = new-clear;
      used = new-used;
      narrow = rw new-width h;
      low = rw new-cluster (omega arith);
      sinkless = λ e. new-cluster;
      outless = λ e z. false≢true (sym new-out ∙ e);
    }

-- ---- sizes
