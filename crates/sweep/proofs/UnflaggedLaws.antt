-- A record without the three flags of a walk. Assumes nothing.
use Prim.Native.Nat.{ℕ, zero, suc, ◌≤◌}
use mathlib.Core.Path.{◌≡◌, refl, sym, ap, ◌∙◌}
use mathlib.Core.Bool.{Bool, true, false, cond, ◌||◌}
use mathlib.Core.Logic.{◌≢◌}
use mathlib.Core.List.{List}
use native.Mathlib.Decide.{dec_le}
use native.Mathlib.Omega.{arith}
use lib.Dec.{eqb}
use lib.ListN.{length}
use borrow.Author.Tests.{eqb-false}
use Rattle.layout.specs.Field.{put, put_flag, digit}
use Rattle.records.specs.Record.{in_use, cluster, loose, with_out}
use Rattle.layout.proofs.FieldLaws.{apart, flag-put-other, flags-comm, put-flag-comm}
use Rattle.records.proofs.RecordLaws.{cluster-put-flag}
use Rattle.rules.specs.Buffers.{rec_of}
use Rattle.rules.specs.Sweep.{kept_record}
use Rattle.rules.proofs.ListLaws.{rec_of-each, rec_of-above}
use Rattle.sweep.specs.Sweep.{unflagged_record, unflagged}

module _ (r : ℕ) where
  pub unflagged-used : in_use (unflagged_record r) ≡ in_use r
  unfolding unflagged_record
  unflagged-used = flag-put-other 6 false _ 0 (eqb-false 6 0 refl) ∙ flag-put-other 5 false _ 0 (eqb-false 5 0 refl) ∙ flag-put-other 4 false r 0 (eqb-false 4 0 refl)

  pub unflagged-cluster : cluster (unflagged_record r) ≡ cluster r
  unfolding unflagged_record
  unflagged-cluster = cluster-put-flag 6 false _ refl ∙ cluster-put-flag 5 false _ refl ∙ cluster-put-flag 4 false r refl

  loose-put : (p : ℕ) (s : ℕ) → p ≢ 3 → apart p 1 16 12 ≡ true → put_flag p false (loose s) ≡ loose (put_flag p false s)
  unfolding loose
  loose-put p s h e = put-flag-comm p false (with_out false s) 16 12 e 0 ∙ ap (put 16 12 0) (flags-comm p false s 3 h false)

  pub unflagged-loose : unflagged_record (loose r) ≡ loose (unflagged_record r)
  unfolding unflagged_record
  unflagged-loose =
      ap (λ (s : ℕ). put_flag 6 false (put_flag 5 false s)) (loose-put 4 r (eqb-false 4 3 refl) refl)
      ∙ ap (put_flag 6 false) (loose-put 5 (put_flag 4 false r) (eqb-false 5 3 refl) refl)
      ∙ loose-put 6 (put_flag 5 false (put_flag 4 false r)) (eqb-false 6 3 refl) refl

pub unflagged-freed : (d : Bool) (r : ℕ) → unflagged_record (cond d 0 r) ≡ cond d 0 (unflagged_record r)
unfolding unflagged_record put_flag put digit
unflagged-freed true r = refl
unflagged-freed false r = refl

pub unflagged-kept : (heads : ℕ → Bool) (r : ℕ) → unflagged_record (kept_record heads r) ≡ kept_record heads (unflagged_record r)
unfolding kept_record
unflagged-kept heads r = rw (unflagged-cluster r) (go (eqb (cluster r) 0 || heads (cluster r)))
  where
    go : (b : Bool) → unflagged_record (cond b r (loose r)) ≡ cond b (unflagged_record r) (loose (unflagged_record r))
    go true = refl
    go false = unflagged-loose r

pub rec-unflagged : (n : ℕ) (recs : List ℕ) → n ≤ length recs → (x : ℕ) → rec_of n (unflagged n recs) x ≡ unflagged_record (rec_of n recs x)
unfolding unflagged rec_of
rec-unflagged n recs long x = go x (dec_le x n)
  where
    none : 0 ≡ unflagged_record 0
    none = sym (unflagged-freed true 0)

    go : (x : ℕ) → Dec (x ≤ n) → rec_of n (unflagged n recs) x ≡ unflagged_record (rec_of n recs x)
    go zero d = none
    go (suc i) (yes l) = rec_of-each n (λ y r. unflagged_record r) recs (suc i) (omega arith) l long
    go (suc i) (no g) = rec_of-above n (unflagged n recs) (suc i) (omega (arith, g)) ∙ none ∙ ap unflagged_record (sym (rec_of-above n recs (suc i) (omega (arith, g))))
