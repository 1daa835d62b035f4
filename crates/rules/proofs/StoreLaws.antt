-- A store into a slot and its object's record, for any records: what is read after it, and the records that the rules of a write give.
-- Assumes nothing.
use Prim.Native.Nat.{ℕ, zero, suc, ◌+◌, ◌-◌, ◌*◌, ◌≤◌, ◌<◌}
use mathlib.Core.Path.{◌≡◌, refl, sym, ap, ap₂, ◌∙◌, fun_ext}
use mathlib.Core.Bool.{Bool, true, false, not, cond, ◌&&◌}
use mathlib.Core.Logic.{◌≢◌}
use mathlib.Core.List.{List, map}
use native.Mathlib.Decide.{ℕ_discrete, dec_lt}
use native.Mathlib.Omega.{arith}
use lib.Dec.{eqb, ltb}
use lib.ListN.{length, get_or, take, set, length-set, length-take, get_or-eq_default}
use lib.Seq.{take-set-lt, get_or-set_same, get_or-set_other, ext_get_or}
use borrow.Author.Tests.{eq-eqb, ne_eqb, eqb-false}
use Rattle.layout.specs.Field.{field}
use Rattle.records.specs.Record.{width, cluster, is_out, is_sink, is_written, with_out, with_sink, with_cluster, with_written, loose}
use Rattle.layout.proofs.FieldLaws.{put_same, field-put-flag, flag-put-other, flag-stays}
use Rattle.graph.specs.Numbers.{upd, has}
use Rattle.graph.specs.Heap.{Heap}
use Rattle.graph.specs.Clusters.{keep, others, out_count, out_bit}
use Rattle.graph.specs.Writes.{dissolves, stored, store_by}
use Rattle.graph.proofs.NumberLaws.{upd_same, upd_other}
use Rattle.rules.specs.Buffers.{rec_of, eight, used_words, each_from, each_record}
use Rattle.rules.specs.View.{target, view, heap_in, set_word, exact_out, encoded_record, encoded}
use Rattle.rules.proofs.ListLaws.{length-each, get-each, each_set, rec_of-above, rec-get, eight-set, eight-set-other, map-set}
use Rattle.rules.proofs.ViewLaws.{get-target, rec-target, target-word, target-low, has-targets}
use Rattle.rules.proofs.PassLaws.{get-past}
use Rattle.rules.proofs.BufferLaws.{rec_of-get}
use Rattle.rules.proofs.SetLaws.{set_word-same, set_word-none}
use Rattle.rules.proofs.EncodedRecord.{encoded-same, encoded-loose}

-- ---- the record of an object

pub rec_of-past : (n : ℕ) (recs : List ℕ) (x : ℕ) → length recs < x → rec_of n recs x ≡ 0
unfolding rec_of
rec_of-past n recs zero p = refl
rec_of-past n recs (suc i) p = get_or-eq_default (take n recs) 0 (let a = length-take n recs in omega arith)

pub rec_of-zero : (n : ℕ) (recs : List ℕ) → rec_of n recs 0 ≡ 0
unfolding rec_of
rec_of-zero n recs = refl

-- the object whose record stands at place m
pub rec_of-place : (n : ℕ) (recs : List ℕ) (m : ℕ) → m < n → rec_of n recs (1 + m) ≡ get_or recs m 0
rec_of-place n recs m p = let z : 1 + m - 1 ≡ m = omega arith in rec_of-get n recs (1 + m) (omega arith) (omega arith) ∙ ap (λ (j : ℕ). get_or recs j 0) z

-- a store of a record that a reader does not tell from the old one
pub stored-alike : {A : Type 0} (f : ℕ → A) (n : ℕ) (recs : List ℕ) (i v : ℕ) → i < length recs → f v ≡ f (get_or recs i 0)
    → (y : ℕ) → f (rec_of n (set recs i v) y) ≡ f (rec_of n recs y)
stored-alike f n recs i v p e zero = ap f (rec_of-zero n (set recs i v) ∙ sym (rec_of-zero n recs))
stored-alike f n recs i v p e (suc j) = go (dec_lt j n) (ℕ_discrete j i)
  where
    go : Dec (j < n) → Dec (j ≡ i) → f (rec_of n (set recs i v) (suc j)) ≡ f (rec_of n recs (suc j))
    go (yes q) (yes h) =
        ap f (rec-get n (set recs i v) j q ∙ ap (λ (m : ℕ). get_or (set recs i v) m 0) h ∙ get_or-set_same recs i v 0 p)
        ∙ e ∙ ap f (ap (λ (m : ℕ). get_or recs m 0) (sym h) ∙ sym (rec-get n recs j q))
    go (yes q) (no h) = ap f (rec-get n (set recs i v) j q ∙ get_or-set_other recs i j v 0 h ∙ sym (rec-get n recs j q))
    go (no q) h = ap f (rec_of-above n (set recs i v) (suc j) (omega (arith, q)) ∙ sym (rec_of-above n recs (suc j) (omega (arith, q))))

module _ (n : ℕ) (recs : List ℕ) (i v : ℕ) (p : 1 ≤ i) (q : i ≤ n) (l : n ≤ length recs) where
  pub rec_of-set-same : rec_of n (set recs (i - 1) v) i ≡ v
  rec_of-set-same = rec_of-get n (set recs (i - 1) v) i p q ∙ get_or-set_same recs (i - 1) v 0 (omega arith)

  pub rec_of-set-other : (x : ℕ) → x ≢ i → rec_of n (set recs (i - 1) v) x ≡ rec_of n recs x
  unfolding rec_of
  rec_of-set-other zero e = refl
  rec_of-set-other (suc j) e =
      ap (λ (r : List ℕ). get_or r j 0) (take-set-lt n recs (i - 1) v (omega arith)) ∙ get_or-set_other (take n recs) (i - 1) j v 0 (λ z. e (omega arith))

  -- what the stored record has as the old one had, every object has
  pub rec_of-set-alike : {A : Type 0} (f : ℕ → A) → f v ≡ f (rec_of n recs i) → (x : ℕ) → f (rec_of n (set recs (i - 1) v) x) ≡ f (rec_of n recs x)
  rec_of-set-alike f e = stored-alike f n recs (i - 1) v (omega arith) (e ∙ ap f (rec_of-get n recs i p q))

-- ---- one record

module _ (r : ℕ) where
  sink-kept : with_sink (is_sink r) (with_written true r) ≡ with_written true r
  sink-kept = flag-stays 2 (is_sink r) (with_written true r) (flag-put-other 1 true r 2 (eqb-false 1 2 refl))

  -- written, with a new out bit
  pub encoded-written-out : (o : Bool) → encoded_record (cluster r) o (is_sink r) true r ≡ with_out o (with_written true r)
  unfolding encoded_record
  encoded-written-out o =
      let s = with_out o (with_written true r) in
      let e : cluster s ≡ cluster r = field-put-flag 3 o (with_written true r) 16 12 refl ∙ field-put-flag 1 true r 16 12 refl in
      ap (λ (x : ℕ). with_cluster (cluster r) (with_out o x)) sink-kept ∙ ap (λ (k : ℕ). with_cluster k s) (sym e) ∙ put_same 16 12 s

  -- written, and loose
  pub encoded-written-loose : encoded_record 0 false (is_sink r) true r ≡ loose (with_written true r)
  unfolding encoded_record loose
  encoded-written-loose = ap (λ (x : ℕ). with_cluster 0 (with_out false x)) sink-kept

-- a record after cluster c is dissolved
pub encoded-dissolved : (r c : ℕ) → encoded_record (keep (others c) cluster r) (others c (cluster r) && is_out r) (is_sink r) (is_written r) r ≡ cond (eqb (cluster r) c) (loose r) r
unfolding keep others
encoded-dissolved r c = go (eqb (cluster r) c)
  where
    go : (b : Bool) → encoded_record (cond (not b) (cluster r) 0) (not b && is_out r) (is_sink r) (is_written r) r ≡ cond b (loose r) r
    go true = encoded-loose r
    go false = encoded-same r

-- a store leaves the number of objects
pub store-size : (d : Bool) (H : Heap) (i k t : ℕ) → (store_by d H i k t).n ≡ H.n
unfolding store_by
store-size true H i k t = refl
store-size false H i k t = refl

-- ---- a write that leaves the clusters as they are

module _ (n : ℕ) (recs slots : List ℕ) (i k t : ℕ) (p : 1 ≤ i) (q : i ≤ n) (l : n ≤ length recs) where
  abbrev H : Heap
  H = view n recs slots

  -- one record changes: written set, out exact
  pub store-staying : encoded (store_by false H i k t) recs
      ≡ set recs (i - 1) (with_out (out_bit (stored H i k t) H.sink H.cluster i) (with_written true (rec_of n recs i)))
  unfolding encoded each_record store_by view
  store-staying =
      each_set 1 n f recs (i - 1) _ 0 (omega arith) here (λ m a b d. other m a (λ z. d (omega arith)))
    where
      o : Bool
      o = out_bit (stored H i k t) H.sink H.cluster i

      f : ℕ → ℕ → ℕ
      f x r = encoded_record (cluster (rec_of n recs x)) (upd H.out i o x) (is_sink (rec_of n recs x)) (upd H.written i true x) r

      other : (m : ℕ) → m < n → 1 + m ≢ i → f (1 + m) (get_or recs m 0) ≡ get_or recs m 0
      other m a d =
          rw (upd_other H.out i (1 + m) o d, upd_other H.written i (1 + m) true d, ← rec_of-place n recs m a) (encoded-same (rec_of n recs (1 + m)))

      here : f (1 + (i - 1)) (get_or recs (i - 1) 0) ≡ with_out o (with_written true (rec_of n recs i))
      here =
          let z : 1 + (i - 1) ≡ i = omega arith in
          rw (z, ← rec_of-get n recs i p q, upd_same H.out i o, upd_same H.written i true) (encoded-written-out (rec_of n recs i) o)

  -- ---- a write that dissolves a cluster

  abbrev c : ℕ
  c = cluster (rec_of n recs i)

  -- written is set, then every member of the object's cluster becomes loose
  pub store-dissolving : encoded (store_by true H i k t) recs
      ≡ each_record n (λ x r. cond (eqb (cluster r) (cluster (rec_of n recs i))) (loose r) r) (set recs (i - 1) (with_written true (rec_of n recs i)))
  unfolding encoded each_record store_by view keep others
  store-dissolving =
      ext_get_or 0 (each_from 1 n f recs) (each_from 1 n g new) (length-each 1 n f recs ∙ sym (length-each 1 n g new ∙ length-set recs (i - 1) v))
      (λ m a. at m (let b = length-each 1 n f recs in omega arith) (ℕ_discrete m (i - 1)) (dec_lt m n))
    where
      v : ℕ
      v = with_written true (rec_of n recs i)

      new : List ℕ
      new = set recs (i - 1) v

      f : ℕ → ℕ → ℕ
      f x r = encoded_record (keep (others c) H.cluster x) (others c (cluster (rec_of n recs x)) && is_out (rec_of n recs x)) (is_sink (rec_of n recs x)) (upd H.written i true x) r

      g : ℕ → ℕ → ℕ
      g x r = cond (eqb (cluster r) c) (loose r) r

      here : f i (rec_of n recs i) ≡ g i v
      here =
          let e : cluster v ≡ c = field-put-flag 1 true (rec_of n recs i) 16 12 refl in
          rw (eq-eqb c c refl, upd_same H.written i true, e, eq-eqb c c refl) (encoded-written-loose (rec_of n recs i))

      other : (m : ℕ) → m < n → 1 + m ≢ i → f (1 + m) (get_or recs m 0) ≡ g (1 + m) (get_or recs m 0)
      other m b d = rw (upd_other H.written i (1 + m) true d, ← rec_of-place n recs m b) (encoded-dissolved (rec_of n recs (1 + m)) c)

      at : (m : ℕ) → m < length recs → Dec (m ≡ i - 1) → Dec (m < n) → get_or (each_from 1 n f recs) m 0 ≡ get_or (each_from 1 n g new) m 0
      at m a (yes e) b =
          let z : 1 + m ≡ i = omega arith in
          let r : get_or recs m 0 ≡ rec_of n recs i = rw e (sym (rec_of-get n recs i p q)) in
          let y : get_or new m 0 ≡ v = rw e (get_or-set_same recs (i - 1) v 0 (omega arith)) in
          get-each 1 n f recs m 0 (omega arith) a ∙ ap₂ f z r ∙ here
          ∙ sym (get-each 1 n g new m 0 (omega arith) (let x = length-set recs (i - 1) v in omega arith) ∙ ap (g (1 + m)) y)
      at m a (no e) (yes b) =
          get-each 1 n f recs m 0 b a ∙ other m b (λ z. e (omega arith))
          ∙ sym (get-each 1 n g new m 0 b (let x = length-set recs (i - 1) v in omega arith) ∙ ap (g (1 + m)) (get_or-set_other recs (i - 1) m v 0 e))
      at m a (no e) (no b) =
          get-past 1 n f recs m 0 (omega (arith, b)) ∙ sym (get-past 1 n g new m 0 (omega (arith, b)) ∙ get_or-set_other recs (i - 1) m v 0 e)

-- ---- the heap after a store

-- records with the old widths, and a word in slot k: the pointers of the rule
pub kids-stored : (n : ℕ) (recs slots : List ℕ) (i k w : ℕ) → 1 ≤ i → k < width (rec_of n recs i) → width (rec_of n recs i) ≤ 8
    → (recs' : List ℕ) → ((x : ℕ) → width (rec_of n recs' x) ≡ width (rec_of n recs x)) → (x : ℕ)
    → (view n recs' (set slots (8 * (i - 1) + k) w)).kids x ≡ stored (view n recs slots) i k (target n w) x
unfolding view stored used_words
kids-stored n recs slots i k w p u b recs' same x = rw (same x) (go (ℕ_discrete x i))
  where
    changed : List ℕ
    changed = set slots (8 * (i - 1) + k) w

    kids : ℕ → List ℕ
    kids y = map (target n) (take (width (rec_of n recs y)) (eight slots y))

    z : suc (i - 1) ≡ i
    z = omega arith

    go : Dec (x ≡ i) → map (target n) (take (width (rec_of n recs x)) (eight changed x)) ≡ upd kids i (set (kids i) k (target n w)) x
    go (yes h) =
        rw (h, upd_same kids i (set (kids i) k (target n w)))
        (ap (λ (m : List ℕ). map (target n) (take (width (rec_of n recs i)) m)) (rw z at (eight-set slots (i - 1) k w (omega arith)))
        ∙ ap (map (target n)) (take-set-lt (width (rec_of n recs i)) (eight slots i) k w u)
        ∙ map-set (target n) (take (width (rec_of n recs i)) (eight slots i)) k w)
    go (no h) =
        rw (upd_other kids i x (set (kids i) k (target n w)) h)
        (ap (λ (m : List ℕ). map (target n) (take (width (rec_of n recs x)) m)) (eight-set-other slots (i - 1) k w x (omega arith) (λ y. h (y ∙ z))))

-- ---- the out bit after a store

module _ (n : ℕ) (recs slots : List ℕ) (i k : ℕ) (p : 1 ≤ i) (u : k < width (rec_of n recs i)) (b : width (rec_of n recs i) ≤ 8) where
  -- one word stored and written set: the out bit is that of the rule
  pub exact-stored : (w : ℕ) → i ≤ n → n ≤ length recs → exact_out (view n (set recs (i - 1) (with_written true (rec_of n recs i))) (set slots (8 * (i - 1) + k) w)) i
      ≡ out_bit (stored (view n recs slots) i k (target n w)) (view n recs slots).sink (view n recs slots).cluster i
  unfolding exact_out view out_bit
  exact-stored w q l =
      ap (λ s. made s (cl new) (kids i)) (fun_ext (rec_of-set-alike n recs i v p q l is_sink (flag-put-other 1 true r 2 (eqb-false 1 2 refl))))
      ∙ ap (λ d. made (sink recs) d (kids i)) (fun_ext (rec_of-set-alike n recs i v p q l cluster (field-put-flag 1 true r 16 12 refl)))
      ∙ ap (made (sink recs) (cl recs)) (kids-stored n recs slots i k w p u b new (rec_of-set-alike n recs i v p q l width (field-put-flag 1 true r 8 4 refl)) i)
    where
      r : ℕ
      r = rec_of n recs i

      v : ℕ
      v = with_written true r

      new : List ℕ
      new = set recs (i - 1) v

      sink : List ℕ → ℕ → Bool
      sink rs x = is_sink (rec_of n rs x)

      cl : List ℕ → ℕ → ℕ
      cl rs x = cluster (rec_of n rs x)

      kids : ℕ → List ℕ
      kids = (view n new (set slots (8 * (i - 1) + k) w)).kids

      made : (ℕ → Bool) → (ℕ → ℕ) → List ℕ → Bool
      made s d ks = not (eqb (d i) 0) && ltb 0 (out_count s d (d i) ks)

-- ---- the set after a store

-- a dissolved cluster has no member left
pub dissolved-empty : (H : Heap) (i k t : ℕ) → H.cluster i ≢ 0 → set_word (store_by true H i k t) (H.cluster i) ≡ 0
unfolding store_by keep others
dissolved-empty H i k t d = set_word-none (store_by true H i k t) (H.cluster i) (λ x b. gone (H.cluster x) (ℕ_discrete (H.cluster x) (H.cluster i)))
  where
    gone : (y : ℕ) → Dec (y ≡ H.cluster i) → cond (not (eqb y (H.cluster i))) y 0 ≢ H.cluster i
    gone y (yes e) = rw (eq-eqb y (H.cluster i) e) (λ z. d (sym z))
    gone y (no e) = rw (ne_eqb y (H.cluster i) e) e

-- a word in a slot, and a record with the old width and cluster: the sets of the rule
pub stored-set : (n : ℕ) (recs slots list : List ℕ) (i k v w : ℕ) → 1 ≤ i → i ≤ n → n ≤ length recs → k < width (rec_of n recs i) → width (rec_of n recs i) ≤ 8
    → width v ≡ width (rec_of n recs i) → cluster v ≡ cluster (rec_of n recs i) → (c : ℕ)
    → set_word (heap_in n (set recs (i - 1) v) (set slots (8 * (i - 1) + k) w) list) c ≡ set_word (store_by false (heap_in n recs slots list) i k (target n w)) c
unfolding store_by stored view
stored-set n recs slots list i k v w p q l u b e f c =
    set_word-same (heap_in n (set recs (i - 1) v) (set slots (8 * (i - 1) + k) w) list) (store_by false (heap_in n recs slots list) i k (target n w)) c refl refl
    (λ x o. let s = rec_of-set-alike n recs i v p q l cluster f x in ((λ z. sym s ∙ z), (λ z. s ∙ z)))
    (λ x o z. kids-stored n recs slots i k w p u b (set recs (i - 1) v) (rec_of-set-alike n recs i v p q l width e) x)

-- ---- whether a write dissolves a cluster, by the words of the buffers

module _ (n : ℕ) (recs slots : List ℕ) (i k w : ℕ) where
  abbrev words : List ℕ
  words = used_words n recs slots i

  abbrev old : ℕ
  old = get_or words k 0

  abbrev own : ℕ
  own = cluster (rec_of n recs i)

  pub dissolves-words : dissolves (view n recs slots) i k (target n w)
      ≡ not (eqb own 0) && (eqb (cluster (rec_of n recs old)) own && not (has old (set words k w)))
  unfolding dissolves view
  dissolves-words = rw (get-target n words k, ← map-set (target n) words k w) (go (ℕ_discrete own 0) (ℕ_discrete (target n old) 0))
    where
      by : ℕ → List ℕ → Bool
      by t l = not (eqb t 0) && (eqb (cluster (rec_of n recs t)) own && not (has t l))

      go : Dec (own ≡ 0) → Dec (target n old ≡ 0)
          → not (eqb own 0) && by (target n old) (map (target n) (set words k w))
          ≡ not (eqb own 0) && (eqb (cluster (rec_of n recs old)) own && not (has old (set words k w)))
      go (yes e) d = rw e refl
      go (no e) (yes z) =
          rw (← rec-target n recs old, z, rec_of-zero n recs) (unfold field in (rw (ne_eqb own 0 e, ne_eqb 0 own (λ j. e (sym j))) refl))
      go (no e) (no z) =
          let t = target-word n old z in
          let h = target-low n old in
          rw (t, ne_eqb old 0 (λ j. z (t ∙ j)), has-targets n old (set words k w) (omega (arith, z)) (omega arith)) refl
