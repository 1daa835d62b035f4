-- A heap encoded into any records is read back, and no record changes between free and legal by it.
-- Assumes nothing.
use Prim.Native.Nat.{ℕ, zero, suc, ◌≤◌, ◌<◌, ◌^◌}
use mathlib.Core.Path.{◌≡◌, refl, sym, ap, ◌∙◌, fun_ext}
use mathlib.Core.Bool.{Bool, true, false}
use mathlib.Core.List.{List, map}
use mathlib.Core.Logic.{◌≢◌, ◌⊎◌, inl, inr}
use native.Mathlib.Decide.{dec_le}
use native.Mathlib.Omega.{arith}
use lib.ListN.{length, take}
use borrow.Author.Tests.{eqb-false}
use Rattle.layout.specs.Field.{field, flag}
use Rattle.records.specs.Record as R
use Rattle.records.specs.Record.{in_use, width, cluster, is_sink, is_written, is_out, with_written, with_sink, with_out, with_cluster}
use Rattle.layout.proofs.FieldLaws.{flags-comm, put-flag-comm, flag-put-put, put-put}
use Rattle.records.proofs.RecordLaws.{Legal, legal-nonzero, nonzero-free}
use Rattle.graph.specs.Heap.{Heap}
use Rattle.rules.specs.Buffers.{rec_of, each_record, used_words, eight}
use Rattle.rules.specs.View.{target, view, listing, encoded_record, encoded}
use Rattle.rules.proofs.ListLaws.{rec_of-above, rec_of-range, rec_of-each, each-each, each_same}
use Rattle.rules.proofs.EncodedRecord.{encoded-width, encoded-used, encoded-sink, encoded-out, encoded-written, encoded-cluster, encoded-free, encoded-legal}

-- ---- encoded twice

module _ (c c' : ℕ) (o o' s s' w w' : Bool) (r : ℕ) where
  encoded-twice : encoded_record c o s w (encoded_record c' o' s' w' r) ≡ encoded_record c o s w r
  unfolding encoded_record
  encoded-twice =
      ap (λ (x : ℕ). with_cluster c (with_out o (with_sink s x))) first
      ∙ ap (λ (x : ℕ). with_cluster c (with_out o x)) second
      ∙ ap (with_cluster c) third
      ∙ put-put 16 12 c' (with_out o (with_sink s e)) c
    where
      d : ℕ
      d = with_sink s' (with_written w' r)

      e : ℕ
      e = with_written w r

      first : with_written w (with_cluster c' (with_out o' d)) ≡ with_cluster c' (with_out o' (with_sink s' e))
      first =
          put-flag-comm 1 w (with_out o' d) 16 12 refl c'
          ∙ ap (with_cluster c') (flags-comm 1 w d 3 (eqb-false 1 3 refl) o')
          ∙ ap (λ (x : ℕ). with_cluster c' (with_out o' x)) (flags-comm 1 w (with_written w' r) 2 (eqb-false 1 2 refl) s')
          ∙ ap (λ (x : ℕ). with_cluster c' (with_out o' (with_sink s' x))) (flag-put-put 1 w' w r)

      second : with_sink s (with_cluster c' (with_out o' (with_sink s' e))) ≡ with_cluster c' (with_out o' (with_sink s e))
      second =
          put-flag-comm 2 s (with_out o' (with_sink s' e)) 16 12 refl c'
          ∙ ap (with_cluster c') (flags-comm 2 s (with_sink s' e) 3 (eqb-false 2 3 refl) o')
          ∙ ap (λ (x : ℕ). with_cluster c' (with_out o' x)) (flag-put-put 2 s' s e)

      third : with_out o (with_cluster c' (with_out o' (with_sink s e))) ≡ with_cluster c' (with_out o (with_sink s e))
      third =
          put-flag-comm 3 o (with_out o' (with_sink s e)) 16 12 refl c'
          ∙ ap (with_cluster c') (flag-put-put 3 o' o (with_sink s e))

-- a heap encoded over another is there alone
pub encoded-over : (K L : Heap) (recs : List ℕ) → L.n ≡ K.n → encoded K (encoded L recs) ≡ encoded K recs
unfolding encoded each_record
encoded-over K L recs e =
    rw e (each-each 1 K.n _ _ recs
    ∙ each_same 1 K.n _ _ recs (λ x r p q. encoded-twice (K.cluster x) (L.cluster x) (K.out x) (L.out x) (K.sink x) (L.sink x) (K.written x) (L.written x) r))

-- ---- one record

module _ (n : ℕ) (K : Heap) (size : K.n ≡ n) (recs : List ℕ) (long : n ≤ length recs) where
  pub encoded-at : (x : ℕ) → 1 ≤ x → x ≤ n → rec_of n (encoded K recs) x ≡ encoded_record (K.cluster x) (K.out x) (K.sink x) (K.written x) (rec_of n recs x)
  unfolding encoded
  encoded-at x p q = rw size (rec_of-each n (λ y r. encoded_record (K.cluster y) (K.out y) (K.sink y) (K.written y) r) recs x p q long)

  -- what is read in a record: as in 0 where it was 0, and as encoded elsewhere
  pub read_at : {A : Type 0} (f g : ℕ → A) → ((x : ℕ) → rec_of n recs x ≡ 0 → f 0 ≡ g x)
      → ((x : ℕ) → f (encoded_record (K.cluster x) (K.out x) (K.sink x) (K.written x) (rec_of n recs x)) ≡ g x)
      → (x : ℕ) → f (rec_of n (encoded K recs) x) ≡ g x
  unfolding rec_of
  read_at f g z h zero = z 0 refl
  read_at f g z h (suc i) = go (dec_le (suc i) n)
    where
      go : Dec (suc i ≤ n) → f (rec_of n (encoded K recs) (suc i)) ≡ g (suc i)
      go (yes l) = ap f (encoded-at (suc i) (omega arith) l) ∙ h (suc i)
      go (no l) =
          ap f (rec_of-above n (encoded K recs) (suc i) (omega (arith, l))) ∙ z (suc i) (rec_of-above n recs (suc i) (omega (arith, l)))

-- ---- a heap that fits the records

-- no bit where the record is 0, and legal ones elsewhere
pub record Fits (n : ℕ) (recs : List ℕ) (sink written out : ℕ → Bool) (cl : ℕ → ℕ) : Type 0 where
  pub low : (x : ℕ) → cl x ≤ n
  pub blank : (x : ℕ) → rec_of n recs x ≡ 0 → (sink x ≡ false) × (written x ≡ false) × (cl x ≡ 0) × (out x ≡ false)
  pub alone : (x : ℕ) → sink x ≡ true → cl x ≡ 0
  pub member : (x : ℕ) → out x ≡ true → cl x ≢ 0

module _ {n : ℕ} {recs : List ℕ} (long : n ≤ length recs) (most : n < 2 ^ 12) (kids : ℕ → List ℕ) (listed : List ℕ)
    {sink written out : ℕ → Bool} {cl : ℕ → ℕ}
    (F : Fits n recs sink written out cl) where
  abbrev heap : Heap
  heap = record { n = n; kids = kids; sink = sink; listed = listed; written = written; cluster = cl; out = out }

  abbrev was : ℕ → ℕ
  was x = rec_of n recs x

  abbrev now : ℕ → ℕ
  now x = rec_of n (encoded heap recs) x

  -- what no encoded field touches stays as it was
  stays : {A : Type 0} (f : ℕ → A) → ((c : ℕ) (o s w : Bool) (r : ℕ) → f (encoded_record c o s w r) ≡ f r) → (x : ℕ) → f (now x) ≡ f (was x)
  stays f h = read_at n heap refl recs long f (λ x. f (was x)) (λ x e. ap f (sym e)) (λ x. h (cl x) (out x) (sink x) (written x) (was x))

  pub width-stays : (x : ℕ) → width (now x) ≡ width (was x)
  width-stays = stays width encoded-width

  pub used-stays : (x : ℕ) → in_use (now x) ≡ in_use (was x)
  used-stays = stays in_use encoded-used

  pub zero-stays : (x : ℕ) → was x ≡ 0 → now x ≡ 0
  zero-stays x e =
      read_at n heap refl recs long (λ r. r) (λ y. encoded_record (cl y) (out y) (sink y) (written y) (was y))
      (λ y q. let b = F.blank y q in sym (rw (q, b.0, b.1, b.2, b.3) encoded-free)) (λ y. refl) x
      ∙ (let b = F.blank x e in rw (e, b.0, b.1, b.2, b.3) encoded-free)

  pub legal-stays : (x : ℕ) → Legal n (was x) → Legal n (now x)
  legal-stays x L =
      let r = rec_of-range n recs x (legal-nonzero n (was x) L) in
      rw (encoded-at n heap refl recs long x r.0 r.1)
      (encoded-legal n (cl x) (out x) (sink x) (written x) (was x) most L (F.low x) (F.alone x) (F.member x))

  pub free_stays : (x : ℕ) → (was x ≡ 0) ⊎ Legal n (was x) → R.free (now x) ≡ R.free (was x)
  free_stays x (inl e) = ap R.free (zero-stays x e ∙ sym e)
  free_stays x (inr L) =
      nonzero-free n (now x) (legal-nonzero n (now x) (legal-stays x L)) ∙ sym (nonzero-free n (was x) (legal-nonzero n (was x) L))

  pub sink-back : (x : ℕ) → is_sink (now x) ≡ sink x
  unfolding flag field
  sink-back = read_at n heap refl recs long is_sink sink (λ x e. sym (F.blank x e).0) (λ x. encoded-sink _ _ _ _ _)

  pub words-stay : (slots : List ℕ) (x : ℕ) → used_words n (encoded heap recs) slots x ≡ used_words n recs slots x
  unfolding used_words
  words-stay slots x = ap (λ (k : ℕ). take k (eight slots x)) (width-stays x)

  -- the buffers then hold the heap
  pub view-back : (slots : List ℕ) → ((x : ℕ) → map (target n) (used_words n recs slots x) ≡ kids x)
      → listing listed (view n (encoded heap recs) slots) ≡ heap
  unfolding view flag field
  view-back slots same-kids = λ i. record {
    n = n;
    kids = fun_ext (λ x. ap (map (target n)) (words-stay slots x) ∙ same-kids x) i;
    sink = fun_ext sink-back i;
    listed = listed;
    written = fun_ext (read_at n heap refl recs long is_written written (λ x e. sym (F.blank x e).1) (λ x. encoded-written _ _ _ _ _)) i;
    cluster = fun_ext (read_at n heap refl recs long cluster cl (λ x e. sym (F.blank x e).2) (λ x. encoded-cluster _ _ _ _ _ (small x))) i;
    out = fun_ext (read_at n heap refl recs long is_out out (λ x e. sym (F.blank x e).3) (λ x. encoded-out _ _ _ _ _)) i;
  }
    where
      small : (x : ℕ) → cl x < 2 ^ 12
      small x = omega (arith, F.low x, most)
