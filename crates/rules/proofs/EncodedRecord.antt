-- The fields of a record after cluster, out, sink and written were encoded into it.
-- Assumes nothing.
use Prim.Native.Nat.{ℕ, ◌≤◌, ◌<◌, ◌^◌}
use mathlib.Core.Path.{◌≡◌, refl, sym, ap, ◌∙◌}
use mathlib.Core.Bool.{Bool, true, false}
use mathlib.Core.Logic.{◌≢◌}
use native.Mathlib.Omega.{arith}
use lib.Dec.{eqb}
use borrow.Author.Tests.{eqb-false}
use Rattle.layout.specs.Field.{field, flag, put, put_flag, digit}
use Rattle.records.specs.Record.{in_use, is_written, is_sink, is_out, width, cluster, clear, loose, with_written, with_sink, with_out, with_cluster}
use Rattle.layout.proofs.FieldLaws.{apart, field-put-other, field-put-flag, flag-put-same, flag-put-other, flag_same, put_same}
use Rattle.records.proofs.RecordLaws.{Legal, clear-same, cluster-with-cluster, flag-with-cluster}
use Rattle.rules.specs.View.{encoded_record}

module _ (c : ℕ) (o s w : Bool) (r : ℕ) where
  pub encoded-out : is_out (encoded_record c o s w r) ≡ o
  unfolding encoded_record
  encoded-out = flag-with-cluster c (with_out o (with_sink s (with_written w r))) 3 refl ∙ flag-put-same 3 o (with_sink s (with_written w r))

  pub encoded-sink : is_sink (encoded_record c o s w r) ≡ s
  unfolding encoded_record
  encoded-sink =
      flag-with-cluster c (with_out o (with_sink s (with_written w r))) 2 refl ∙ flag-put-other 3 o (with_sink s (with_written w r)) 2 (eqb-false 3 2 refl)
      ∙ flag-put-same 2 s (with_written w r)

  pub encoded-written : is_written (encoded_record c o s w r) ≡ w
  unfolding encoded_record
  encoded-written =
      flag-with-cluster c (with_out o (with_sink s (with_written w r))) 1 refl ∙ flag-put-other 3 o (with_sink s (with_written w r)) 1 (eqb-false 3 1 refl)
      ∙ flag-put-other 2 s (with_written w r) 1 (eqb-false 2 1 refl)
      ∙ flag-put-same 1 w r

  -- the bits of no field that is encoded
  pub encoded-field : (q u : ℕ) → apart 16 12 q u ≡ true → apart 3 1 q u ≡ true → apart 2 1 q u ≡ true → apart 1 1 q u ≡ true
      → field q u (encoded_record c o s w r) ≡ field q u r
  unfolding encoded_record
  encoded-field q u a b d e =
      field-put-other 16 12 c (with_out o (with_sink s (with_written w r))) q u a ∙ field-put-flag 3 o (with_sink s (with_written w r)) q u b
      ∙ field-put-flag 2 s (with_written w r) q u d
      ∙ field-put-flag 1 w r q u e

  pub encoded-width : width (encoded_record c o s w r) ≡ width r
  encoded-width = encoded-field 8 4 refl refl refl refl

  pub encoded-used : in_use (encoded_record c o s w r) ≡ in_use r
  unfolding flag
  encoded-used = ap (λ (x : ℕ). eqb x 1) (encoded-field 0 1 refl refl refl refl)

  pub encoded-clear : clear (encoded_record c o s w r) ≡ clear r
  encoded-clear =
      clear-same (encoded_record c o s w r) r (encoded-field 4 4 refl refl refl refl) (encoded-field 12 4 refl refl refl refl)
      (encoded-field 28 4 refl refl refl refl)

  pub encoded-cluster : c < 2 ^ 12 → cluster (encoded_record c o s w r) ≡ c
  unfolding encoded_record
  encoded-cluster h = cluster-with-cluster c (with_out o (with_sink s (with_written w r))) h

-- nothing is encoded into a free record
pub encoded-free : encoded_record 0 false false false 0 ≡ 0
unfolding encoded_record put_flag put digit
encoded-free = refl

-- what stands there already changes nothing
pub encoded-same : (r : ℕ) → encoded_record (cluster r) (is_out r) (is_sink r) (is_written r) r ≡ r
unfolding encoded_record
encoded-same r =
    ap (λ (x : ℕ). with_cluster (cluster r) (with_out (is_out r) (with_sink (is_sink r) x))) (flag_same 1 r)
    ∙ ap (λ (x : ℕ). with_cluster (cluster r) (with_out (is_out r) x)) (flag_same 2 r)
    ∙ ap (with_cluster (cluster r)) (flag_same 3 r)
    ∙ put_same 16 12 r

-- cluster and out taken off, the rest as it stands: the record of a member whose cluster is dissolved
pub encoded-loose : (r : ℕ) → encoded_record 0 false (is_sink r) (is_written r) r ≡ loose r
unfolding encoded_record loose
encoded-loose r =
    ap (λ (x : ℕ). with_cluster 0 (with_out false (with_sink (is_sink r) x))) (flag_same 1 r) ∙ ap (λ (x : ℕ). with_cluster 0 (with_out false x)) (flag_same 2 r)

pub encoded-legal : (n c : ℕ) (o s w : Bool) (r : ℕ) → n < 2 ^ 12 → Legal n r → c ≤ n → (s ≡ true → c ≡ 0) → (o ≡ true → c ≢ 0)
    → Legal n (encoded_record c o s w r)
encoded-legal n c o s w r b L l hs ho =
    let k : cluster (encoded_record c o s w r) ≡ c = encoded-cluster c o s w r (omega arith) in
    record {
      blank = encoded-clear c o s w r ∙ L.blank;
      used = encoded-used c o s w r ∙ L.used;
      narrow = rw (encoded-width c o s w r) L.narrow;
      low = rw k l;
      sinkless = λ e. k ∙ hs (sym (encoded-sink c o s w r) ∙ e);
      outless = λ e z. ho (sym (encoded-out c o s w r) ∙ e) (sym k ∙ z);
    }
