-- What the sweep does in every well-formed heap; and that it leaves a heap with the invariant, and frees what the plain heap frees.
-- Assumes nothing.
use Prim.Native.Nat.{ℕ, zero, suc, ◌+◌, ◌*◌, ◌≤◌, ◌<◌, ◌/◌}
use mathlib.Core.Path.{◌≡◌, refl, sym, ap, ap₂, ◌∙◌, subst, fun_ext}
use mathlib.Core.Bool.{Bool, true, false, not, cond, ◌&&◌, ◌||◌, false≢true, true≢false}
use mathlib.Core.List.{List, [], ◌∷◌, map, Memᴰ}
use mathlib.Core.Logic.{◌≢◌, ◌⊎◌, inl, inr, ◌↔◌}
use native.Mathlib.Decide.{ℕ_discrete, dec_le}
use native.Mathlib.Omega.{arith}
use lib.Dec.{eqb}
use lib.ListN.{length, get_or, take, drop}
use lib.Seq.{length-take-le, get_or-take}
use borrow.Author.Tests.{ne_eqb, eq-eqb, eqb-true, eqb-false, not-true}
use Rattle.records.specs.Record as R
use Rattle.layout.specs.Field.{field, flag}
use Rattle.records.specs.Record.{width, cluster, in_use, is_written, is_sink, loose}
use Rattle.layout.specs.Limits.{slots_len, sink_max, map_len}
use Rattle.layout.specs.Word.{is_nil, is_immediate}
use Rattle.records.proofs.RecordLaws.{Legal, loose-cluster, loose-out, loose-flag, loose-legal, loose-width, legal-nonzero}
use Rattle.graph.specs.Clusters.{keep, out_bit}
use Rattle.graph.specs.Heap.{Heap}
use Rattle.graph.specs.Numbers.{Obj, has, count}
use Rattle.graph.proofs.NumberLaws.{count-ext}
use Rattle.bitmap.specs.Bits.{word_of, holds, numbers_in}
use Rattle.graph.specs.Invariant.{Heads}
use Rattle.graph.proofs.Lifecycle.{collect-good, collect-exact, collect-heads}
use Rattle.graph.proofs.Lifecycle as Lifecycle
use Rattle.graph.proofs.OutLaws.{out_bit-none}
use Rattle.graph.proofs.Paths.{keep-zero, keep_out, keep-in}
use Rattle.graph.proofs.MemberLaws.{word-pointer}
use Rattle.graph.proofs.State.{Good}
use Rattle.graph.proofs.TraceCorrect.{same_test}
use Rattle.rules.specs.Buffers.{rec_of, each_from, each_record, each_slot, eight, used_words, other_words, all_of, numbers}
use Rattle.rules.specs.View.{view, heap_in, target, exact_out, exact_sets}
use Rattle.rules.specs.WellFormed.{names, once, well_formed}
use Rattle.rules.specs.Plain.{vacant, object, is_free, cell_at, kept_numbers, plain_swept, plain_freed, plain_map}
use Rattle.rules.specs.Sweep.{freed, kept_record, swept_record, swept_records, swept_slots, swept_sinks, Swept, sweep}
use Rattle.rules.specs.Steps.{State}
use Rattle.rules.specs.Demands.{Reachable, heap_of, words_of, record_in, roots_of}
use Rattle.rules.specs.PlainOf.{plain_of, cell_of, cells_of}
use Rattle.rules.proofs.ListLaws.{rec_of-above, all_of-all, mem-get, map-id, map_of, length-each, get-each, take-each, each_map, rec_of-each, eight-each, same_numbers, each-numbers, records-alike}
use Rattle.rules.proofs.BoolLaws.{and-false, and_split, or-true, is_false, or_right, cond_same}
use Rattle.rules.proofs.Invariant.{Inv, SlotWord, RootWord, formed-by}
use Rattle.rules.proofs.Abstraction.{cells-size, at-free}
use Rattle.rules.proofs.WellFormedLaws.{Names, names-used, in-or-out, facts-list}
use Rattle.rules.proofs.ListedLaws.{Lists, has-not, once_more, once-rest, once-other}
use Rattle.rules.proofs.SetLaws.{length-exact, exact-at, exact-ok}
use Rattle.rules.proofs.SaneLaws.{sane-exact}
use Rattle.rules.proofs.MapLaws.{take_by_lem, map-holds, map-ones}
use Rattle.rules.proofs.CreateLaws.{nil-map}
use Rattle.rules.proofs.TraceLaws.{Fit, Facts, rules, places, obj-of, head-own, head-obj, word-target, plain-kept, member-led}

-- ---- two walks that tell the same of the objects

module _ (n : ℕ) (recs slots list sets map₀ : List ℕ) (kept heads kept' heads' : ℕ → Bool) (Kept-same : (x : ℕ) → Obj n x → kept x ≡ kept' x)
    (heads-same : (x : ℕ) → Obj n x → cluster (rec_of n recs x) ≢ 0 → heads (cluster (rec_of n recs x)) ≡ heads' (cluster (rec_of n recs x))) where
  freed-alike : freed n recs kept ≡ freed n recs kept'
  unfolding freed flag field
  freed-alike = fun_ext (λ x. go x (in-or-out n recs x))
    where
      go : (x : ℕ) → Obj n x ⊎ (rec_of n recs x ≡ 0) → (in_use (rec_of n recs x) && not (kept x)) ≡ (in_use (rec_of n recs x) && not (kept' x))
      go x (inl o) = ap (λ (b : Bool). in_use (rec_of n recs x) && not b) (Kept-same x o)
      go x (inr z) = rw z refl

  stays-alike : (x : ℕ) → Obj n x → kept_record heads (rec_of n recs x) ≡ kept_record heads' (rec_of n recs x)
  unfolding kept_record
  stays-alike x o = go (ℕ_discrete (cluster (rec_of n recs x)) 0)
    where
      r : ℕ
      r = rec_of n recs x

      go : Dec (cluster r ≡ 0) → cond (eqb (cluster r) 0 || heads (cluster r)) r (loose r) ≡ cond (eqb (cluster r) 0 || heads' (cluster r)) r (loose r)
      go (yes e) = rw (eq-eqb (cluster r) 0 e) refl
      go (no e) = ap (λ (b : Bool). cond (eqb (cluster r) 0 || b) r (loose r)) (heads-same x o e)

  records-same : swept_records n recs kept heads ≡ swept_records n recs kept' heads'
  unfolding swept_records swept_record
  records-same =
      records-alike n (λ x r. cond (freed n recs kept x) 0 (kept_record heads r)) (λ x r. cond (freed n recs kept' x) 0 (kept_record heads' r)) recs
      (λ x p q. λ j. cond (freed-alike j x) 0 (stays-alike x (p, q) j))

  slots_same : swept_slots n recs kept slots ≡ swept_slots n recs kept' slots
  unfolding swept_slots
  slots_same = ap (λ (t : ℕ → Bool). each_slot n (λ x w. cond (t x) 0 w) slots) freed-alike

  sinks-same : swept_sinks n recs kept list ≡ swept_sinks n recs kept' list
  unfolding swept_sinks
  sinks-same = ap (λ (t : ℕ → Bool). each_from 0 sink_max (λ k y. cond (t y) 0 y) list) freed-alike

  -- are swept alike
  pub sweep-alike : sweep n recs slots list sets map₀ kept heads ≡ sweep n recs slots list sets map₀ kept' heads'
  unfolding sweep
  sweep-alike = λ i. record {
    freed = count n (freed-alike i);
    kept = count-ext n kept kept' Kept-same i;
    records = records-same i;
    slots = slots_same i;
    sinks = sinks-same i;
    sets = exact_sets (heap_in n (records-same i) (slots_same i) (sinks-same i)) sets;
    map = each_from 0 (map_len n) (λ j w. word_of (freed-alike i) j) map₀;
  }

-- ---- a list with some places cleared

pub once-cleared : (t : ℕ → Bool) (l : List ℕ) → once l ≡ true → once (map (λ y. cond (t y) 0 y) l) ≡ true
once-cleared t [] e = e
once-cleared t (y ∷ l) e = go (t y) (once-cleared t l (once-rest y l e))
  where
    apart : y ≢ 0 → (w : ℕ) → Memᴰ w l → (b : Bool) → y ≡ cond b 0 w → ⊥
    apart nz w m true q = nz q
    apart nz w m false q = has-not y l (once-other y l e nz) (rw q m)

    go : (b : Bool) → once (map (λ y. cond (t y) 0 y) l) ≡ true → once (cond b 0 y ∷ map (λ y. cond (t y) 0 y) l) ≡ true
    go true r = once_more 0 _ (λ nz m. nz refl) r
    go false r = once_more y _ (λ nz m. let o = map_of (λ y. cond (t y) 0 y) l y m in apart nz o.0 o.1 (t o.0) o.2) r

-- ---- in every well-formed heap

-- what is left
module _ (s : State) (kept heads : ℕ → Bool) where
  abbrev pub recs' : List ℕ
  recs' = swept_records s.control.n s.records kept heads

  abbrev pub slots' : List ℕ
  slots' = swept_slots s.control.n s.records kept s.slots

  abbrev pub sinks' : List ℕ
  sinks' = swept_sinks s.control.n s.records kept s.sinks

  abbrev pub state' : State
  state' = record {
    control = s.control;
    records = recs';
    slots = slots';
    roots = s.roots;
    sinks = sinks';
    sets = exact_sets (heap_in s.control.n recs' slots' sinks') s.sets;
  }

module _ (s : State) (C : Fit s) (kept heads : ℕ → Bool) (K : ℕ → Type 0) (F : Facts s C kept heads K) where
  abbrev H : Heap
  H = heap_of s

  abbrev was : ℕ → ℕ
  was x = record_in s x

  abbrev gone? : ℕ → Bool
  gone? = freed s.control.n s.records kept

  abbrev recs₁ : List ℕ
  recs₁ = recs' s kept heads

  abbrev slots₁ : List ℕ
  slots₁ = slots' s kept heads

  abbrev sinks₁ : List ℕ
  sinks₁ = sinks' s kept heads

  abbrev now : ℕ → ℕ
  now x = rec_of s.control.n recs₁ x

  -- does x keep its cluster, or have none
  abbrev stays : ℕ → Bool
  stays x = eqb (cluster (was x)) 0 || heads (cluster (was x))

  -- ---- three cases: free before, freed, kept
  data Case (x : ℕ) : Type 0 where
    blank : was x ≡ 0 → gone? x ≡ false → now x ≡ 0 → Case x
    gone : Legal s.control.n (was x) → kept x ≡ false → gone? x ≡ true → now x ≡ 0 → Case x
    left : Legal s.control.n (was x) → kept x ≡ true → gone? x ≡ false → now x ≡ cond (stays x) (was x) (loose (was x)) → Case x

  at-rec : (x : ℕ) → Obj s.control.n x → now x ≡ cond (gone? x) 0 (cond (stays x) (was x) (loose (was x)))
  unfolding swept_records swept_record kept_record
  at-rec x b = rec_of-each s.control.n _ s.records x b.0 b.1 C.recs-long

  dead-legal : (x : ℕ) → Legal s.control.n (was x) → gone? x ≡ not (kept x)
  unfolding freed
  dead-legal x L = rw L.used refl

  dead-blank : (x : ℕ) → was x ≡ 0 → gone? x ≡ false
  unfolding freed flag field
  dead-blank x e = rw e refl

  case : (x : ℕ) → Case x
  case x = go ((rules s C).fit x)
    where
      zero-now : was x ≡ 0 → Dec (Obj s.control.n x) → now x ≡ 0
      zero-now e (yes b) = at-rec x b ∙ rw (dead-blank x e, e) (unfold field in refl)
      zero-now e (no d) = outside x d
        where
          outside : (x : ℕ) → (Obj s.control.n x → ⊥) → rec_of s.control.n recs₁ x ≡ 0
          outside zero d = unfold rec_of in refl
          outside (suc i) d = go (dec_le (suc i) s.control.n)
            where
              go : Dec (suc i ≤ s.control.n) → rec_of s.control.n recs₁ (suc i) ≡ 0
              go (yes l) = absurd (d (omega arith, l))
              go (no l) = rec_of-above s.control.n recs₁ (suc i) (omega (arith, l))

      obj? : (x : ℕ) → Dec (1 ≤ x) → Dec (x ≤ s.control.n) → Dec (Obj s.control.n x)
      obj? x (yes a) (yes b) = yes (a, b)
      obj? x (yes a) (no b) = no (λ c. b c.1)
      obj? x (no a) d = no (λ c. a c.0)

      legal : Legal s.control.n (was x) → (b : Bool) → kept x ≡ b → Case x
      legal L true e =
          let d : gone? x ≡ false = dead-legal x L ∙ ap not e in
          left L e d (at-rec x (obj-of s C x (legal-nonzero s.control.n (was x) L)) ∙ rw d refl)
      legal L false e =
          let d : gone? x ≡ true = dead-legal x L ∙ ap not e in
          gone L e d (at-rec x (obj-of s C x (legal-nonzero s.control.n (was x) L)) ∙ rw d refl)

      go : (was x ≡ 0) ⊎ Legal s.control.n (was x) → Case x
      go (inl e) = blank e (dead-blank x e) (zero-now e (obj? x (dec_le 1 x) (dec_le x s.control.n)))
      go (inr L) = legal L (kept x) refl

  -- a field that stays in a kept object
  kept_field : {A : Type 0} (f : ℕ → A) → ((r : ℕ) → f (loose r) ≡ f r) → (x : ℕ) → now x ≡ cond (stays x) (was x) (loose (was x)) → f (now x)
      ≡ f (was x)
  kept_field f h x e = ap f e ∙ go (stays x)
    where
      go : (b : Bool) → f (cond b (was x) (loose (was x))) ≡ f (was x)
      go true = refl
      go false = h (was x)

  -- ---- the words

  eight-at : (x : ℕ) → Obj s.control.n x → eight slots₁ x ≡ map (λ w. cond (gone? x) 0 w) (eight s.slots x)
  unfolding swept_slots
  eight-at x b = eight-each s.control.n _ s.slots x b.0 b.1

  eight-kept : (x : ℕ) → Obj s.control.n x → gone? x ≡ false → eight slots₁ x ≡ eight s.slots x
  eight-kept x b e = eight-at x b ∙ map-id _ (eight s.slots x) (λ w. rw e refl)

  pub used-kept : (x : ℕ) → Legal s.control.n (was x) → gone? x ≡ false → now x ≡ cond (stays x) (was x) (loose (was x))
      → used_words s.control.n recs₁ slots₁ x ≡ words_of s x
  unfolding used_words
  used-kept x L d e =
      ap₂ (λ (k : ℕ) (l : List ℕ). take k l) (kept_field width loose-width x e) (eight-kept x (obj-of s C x (legal-nonzero s.control.n (was x) L)) d)

  used-none : (x : ℕ) → now x ≡ 0 → used_words s.control.n recs₁ slots₁ x ≡ []
  unfolding used_words field
  used-none x e = rw e refl

  was-none : (x : ℕ) → was x ≡ 0 → words_of s x ≡ []
  unfolding used_words field
  was-none x e = rw e refl

  legal' : (x : ℕ) → (now x ≡ 0) ⊎ Legal s.control.n (now x)
  legal' x = go (case x)
    where
      go : Case x → (now x ≡ 0) ⊎ Legal s.control.n (now x)
      go (blank e d z) = inl z
      go (gone L k d z) = inl z
      go (left L k d z) = inr (rw z (either (stays x)))
        where
          either : (b : Bool) → Legal s.control.n (cond b (was x) (loose (was x)))
          either true = L
          either false = loose-legal (was x) s.control.n L

  empty-was : (x : ℕ) → 1 ≤ x → x ≤ s.control.n → all_of is_nil (other_words s.control.n s.records s.slots x) ≡ true
  unfolding is_nil
  empty-was x p q = all_of-all _ _ (λ w m. eq-eqb w 0 ((rules s C).empty x w p q m))

  empty' : (x : ℕ) → 1 ≤ x → x ≤ s.control.n → all_of is_nil (other_words s.control.n recs₁ slots₁ x) ≡ true
  unfolding other_words
  empty' x p q = go (case x)
    where
      same : (k : ℕ) → width (now x) ≡ k → k ≡ width (was x) → gone? x ≡ false → all_of is_nil (drop (width (now x)) (eight slots₁ x)) ≡ true
      same k e f d = ap₂ (λ (k : ℕ) (l : List ℕ). all_of is_nil (drop k l)) (e ∙ f) (eight-kept x (p, q) d) ∙ empty-was x p q

      go : Case x → all_of is_nil (drop (width (now x)) (eight slots₁ x)) ≡ true
      go (blank e d z) = same (width (now x)) refl (ap width z ∙ sym (ap width e)) d
      go (gone L k d z) =
          ap (λ (l : List ℕ). all_of is_nil (drop (width (now x)) l)) (eight-at x (p, q) ∙ rw d refl) ∙ nil-map (eight s.slots x) (width (now x))
      go (left L k d z) = same (width (now x)) refl (kept_field width loose-width x z) d

  -- ---- the kept

  in_kept : (x : ℕ) → K x → (kept x ≡ true) × Obj s.control.n x
  in_kept x r = let b = obj-of s C x (F.used x r) in ((F.kept-is x b).1 r, b)

  -- they are in use after the sweep
  still-used : (x : ℕ) → K x → flag 0 (now x) ≡ true
  still-used x r = go (case x)
    where
      go : Case x → flag 0 (now x) ≡ true
      go (blank e d z) = absurd (F.used x r e)
      go (gone L k d z) = absurd (true≢false (sym (in_kept x r).0 ∙ k))
      go (left L k d z) = kept_field (flag 0) (λ q. loose-flag q 0 refl (eqb-false 0 3 refl)) x z ∙ L.used

  names' : (w : ℕ) → K w → names s.control.n recs₁ w ≡ true
  names' w r = names-used _ _ w ∙ still-used w r

  named' : (x w : ℕ) → Memᴰ w (used_words s.control.n recs₁ slots₁ x) → SlotWord s.control.n recs₁ w
  named' x w m = go (case x)
    where
      word : K x → Memᴰ w (words_of s x) → (w ≡ 0) ⊎ ((is_immediate w ≡ true) ⊎ Names s.control.n s.records w)
          → SlotWord s.control.n recs₁ w
      word r p (inl e) = unfold is_nil in (rw (eq-eqb w 0 e) refl)
      word r p (inr (inl l)) = rw (l, or-true (is_nil w)) refl
      word r p (inr (inr N)) = or_right (is_nil w || is_immediate w) _ (names' w (F.leads x w r (word-target s C x w p N.low N.high)))

      go : Case x → SlotWord s.control.n recs₁ w
      go (blank e d z) = absurd (mathlib.Core.List.Memᴰ.not-nil (rw (used-none x z) at m))
      go (gone L k d z) = absurd (mathlib.Core.List.Memᴰ.not-nil (rw (used-none x z) at m))
      go (left L k d z) =
          let p : Memᴰ w (words_of s x) = rw (used-kept x L d z) at m in
          word ((F.kept-is x (obj-of s C x (legal-nonzero s.control.n (was x) L))).0 k) p ((rules s C).named x w p)

  begun : (x : ℕ) → x ≢ 0 → Memᴰ x (roots_of s) → K x
  begun x nz m = F.begins x (word-pointer _ x nz m)

  rooted' : (w : ℕ) → Memᴰ w (roots_of s) → RootWord s.control.n recs₁ w
  rooted' w m = go ((rules s C).rooted w m)
    where
      go : (w ≡ 0) ⊎ Names s.control.n s.records w → RootWord s.control.n recs₁ w
      go (inl e) = unfold is_nil in (rw (eq-eqb w 0 e) refl)
      go (inr N) = or_right (is_nil w) _ (names' w (begun w (λ z. absurd (omega (arith, N.low, z))) m))

  -- ---- the clusters

  no-out : (x : ℕ) → H.cluster x ≡ 0 → H.out x ≡ false
  no-out x e = sane-exact (rules s C) x ∙ out_bit-none H.kids H.sink H.cluster x e

  -- the heap after the sweep
  abbrev after : Heap
  after = Lifecycle.collected H heads gone?

  sink-at : (x : ℕ) → flag 2 (now x) ≡ (not (gone? x) && H.sink x)
  unfolding view flag field
  sink-at x = go (case x)
    where
      go : Case x → flag 2 (now x) ≡ (not (gone? x) && H.sink x)
      go (blank e d z) = rw (z, d, e) refl
      go (gone L k d z) = rw (z, d) refl
      go (left L k d z) = rw d (kept_field (flag 2) (λ q. loose-flag q 2 refl (eqb-false 2 3 refl)) x z)

  written_at : (x : ℕ) → flag 1 (now x) ≡ (not (gone? x) && H.written x)
  unfolding view flag field
  written_at x = go (case x)
    where
      go : Case x → flag 1 (now x) ≡ (not (gone? x) && H.written x)
      go (blank e d z) = rw (z, d, e) refl
      go (gone L k d z) = rw (z, d) refl
      go (left L k d z) = rw d (kept_field (flag 1) (λ q. loose-flag q 1 refl (eqb-false 1 3 refl)) x z)

  cluster-at : (x : ℕ) → cluster (now x) ≡ cond (gone? x) 0 (keep heads H.cluster x)
  unfolding view field
  cluster-at x = go (case x)
    where
      go : Case x → cluster (now x) ≡ cond (gone? x) 0 (keep heads H.cluster x)
      go (blank e d z) = rw d (ap cluster z ∙ sym (keep-zero heads H.cluster x (rw e refl)))
      go (gone L k d z) = rw d (ap cluster z)
      go (left L k d z) = rw d (ap cluster z ∙ at (eqb (H.cluster x) 0) (heads (H.cluster x)) refl refl)
        where
          at : (a b : Bool) → eqb (H.cluster x) 0 ≡ a → heads (H.cluster x) ≡ b → cluster (cond (a || b) (was x) (loose (was x)))
              ≡ keep heads H.cluster x
          at true b e h = eqb-true (H.cluster x) 0 e ∙ sym (keep-zero heads H.cluster x (eqb-true (H.cluster x) 0 e))
          at false true e h = sym (keep-in heads H.cluster (H.cluster x) x refl h)
          at false false e h = loose-cluster (was x) ∙ sym (keep_out heads H.cluster (H.cluster x) x refl h)

  out_at : (x : ℕ) → flag 3 (now x) ≡ (not (gone? x) && (heads (H.cluster x) && H.out x))
  unfolding view flag field
  out_at x = go (case x)
    where
      none : H.out x ≡ false → false ≡ (heads (H.cluster x) && H.out x)
      none e = rw e (sym (and-false (heads (H.cluster x))))

      go : Case x → flag 3 (now x) ≡ (not (gone? x) && (heads (H.cluster x) && H.out x))
      go (blank e d z) = rw d (ap (flag 3) z ∙ none (no-out x (rw e refl)))
      go (gone L k d z) = rw d (ap (flag 3) z)
      go (left L k d z) = rw d (ap (flag 3) z ∙ at (eqb (H.cluster x) 0) (heads (H.cluster x)) refl refl)
        where
          at : (a b : Bool) → eqb (H.cluster x) 0 ≡ a → heads (H.cluster x) ≡ b → flag 3 (cond (a || b) (was x) (loose (was x)))
              ≡ (b && H.out x)
          at true b e h =
              no-out x (eqb-true (H.cluster x) 0 e) ∙ sym (ap (λ (o : Bool). b && o) (no-out x (eqb-true (H.cluster x) 0 e)) ∙ and-false b)
          at false true e h = refl
          at false false e h = loose-out (was x)

  kids-at : (x : ℕ) → map (target s.control.n) (used_words s.control.n recs₁ slots₁ x)
      ≡ cond (gone? x) [] (map (target s.control.n) (words_of s x))
  kids-at x = go (case x)
    where
      go : Case x → map (target s.control.n) (used_words s.control.n recs₁ slots₁ x)
          ≡ cond (gone? x) [] (map (target s.control.n) (words_of s x))
      go (blank e d z) = ap (map (target s.control.n)) (used-none x z) ∙ rw d (sym (ap (map (target s.control.n)) (was-none x e)))
      go (gone L k d z) = ap (map (target s.control.n)) (used-none x z) ∙ rw d refl
      go (left L k d z) = ap (map (target s.control.n)) (used-kept x L d z) ∙ rw d refl

  -- the places of freed sinks are empty
  listed_at : take sink_max sinks₁ ≡ map (λ y. cond (gone? y) 0 y) (take sink_max s.sinks)
  unfolding swept_sinks
  listed_at =
      take-each 0 sink_max (λ k y. cond (gone? y) 0 y) s.sinks sink_max (omega arith)
      ∙ each_map 0 sink_max (λ y. cond (gone? y) 0 y) (take sink_max s.sinks) (let a = length-take-le sink_max s.sinks C.sinks-long in omega arith)

  view' : heap_in s.control.n recs₁ slots₁ sinks₁ ≡ after
  unfolding view Lifecycle.collected flag field
  view' = λ i. record {
    n = s.control.n;
    kids = fun_ext kids-at i;
    sink = fun_ext sink-at i;
    listed = listed_at i;
    written = fun_ext written_at i;
    cluster = fun_ext cluster-at i;
    out = fun_ext out_at i;
  }

  -- ---- the heap left is well formed

  -- what is freed was not kept
  live : (x : ℕ) → (record_in s x ≢ 0 → kept x ≡ true) → gone? x ≡ false
  live x h = go (case x)
    where
      go : Case x → gone? x ≡ false
      go (blank e d z) = d
      go (gone L k d z) = absurd (true≢false (sym (h (legal-nonzero s.control.n (was x) L)) ∙ k))
      go (left L k d z) = d

  heads' : Heads (view s.control.n recs₁ slots₁).cluster
  heads' = subst (λ (E : Heap). Heads E.cluster) (sym view')
      (collect-heads H heads gone? (head-own s C) (λ x nz h. live (H.cluster x) (λ u. sym (F.heads-is x nz) ∙ h)))

  -- a kept object points at no freed one
  points-live : (x y : ℕ) → gone? x ≡ false → Memᴰ y (H.kids x) → y ≢ 0 → gone? y ≡ false
  unfolding view
  points-live x y e m nz = live y (λ u. go (case x) nz)
    where
      go : Case x → y ≢ 0 → kept y ≡ true
      go (blank q d z) nz = absurd (mathlib.Core.List.Memᴰ.not-nil (rw (was-none x q) at m))
      go (gone L k d z) nz = absurd (true≢false (sym d ∙ e))
      go (left L k d z) nz =
          (in_kept y (F.leads x y ((F.kept-is x (obj-of s C x (legal-nonzero s.control.n (was x) L))).0 k) (word-pointer (H.kids x) y nz m))).0

  exact' : (x : ℕ) → (view s.control.n recs₁ slots₁).out x
      ≡ exact_out (view s.control.n recs₁ slots₁) x
  unfolding exact_out
  exact' x = subst (λ (E : Heap). E.out x ≡ out_bit E.kids E.sink E.cluster x) (sym view')
      (collect-exact H heads gone? (sane-exact (rules s C)) points-live x)

  -- what is left of the list has the sinks that are left, each once
  sinks_in_lem : (y : ℕ) → Memᴰ y (take sink_max sinks₁) → y ≢ 0 → Memᴰ y (take sink_max s.sinks) × (gone? y ≡ false)
  sinks_in_lem y m nz =
      let t = map_of (λ y. cond (gone? y) 0 y) (take sink_max s.sinks) y (subst (λ (l : List ℕ). Memᴰ y l) listed_at m) in
      go t.0 t.1 (gone? t.0) refl t.2
    where
      go : (w : ℕ) → Memᴰ w (take sink_max s.sinks) → (b : Bool) → gone? w ≡ b → y ≡ cond b 0 w
          → Memᴰ y (take sink_max s.sinks) × (gone? y ≡ false)
      go w i true d e = absurd (nz e)
      go w i false d e = (rw e i, rw e d)

  sunk-at : (x : ℕ) → is_sink (now x) ≡ true → (is_sink (was x) ≡ true) × (gone? x ≡ false)
  unfolding view
  sunk-at x e =
      let t = and_split (not (gone? x)) (H.sink x) (sym (sink-at x) ∙ e) in
      (t.1, not-true (gone? x) t.0)

  places' : Lists s.control.n (λ x. is_sink (now x)) (take sink_max sinks₁)
  unfolding view
  places' = record {
    from = λ y m nz.
        let t = sinks_in_lem y m nz in
        let r = (places s C).from y t.0 nz in
        (r.0, sink-at y ∙ rw t.1 r.1);
    all = λ x b e.
        let t = sunk-at x e in
        subst (λ (l : List ℕ). Memᴰ x l) (sym listed_at)
        (subst (λ (z : ℕ). Memᴰ z (map (λ y. cond (gone? y) 0 y) (take sink_max s.sinks))) (rw t.1 refl)
        (mathlib.Core.List.Memᴰ.map (λ y. cond (gone? y) 0 y) ((places s C).all x b t.0)));
    single = ap once listed_at ∙ once-cleared gone? (take sink_max s.sinks) (places s C).single;
  }

  pub swept-formed : well_formed s.control recs₁ slots₁ s.roots sinks₁ (state' s kept heads).sets ≡ true
  unfolding well_formed
  swept-formed =
      rw (
        formed-by s.control.n s.control.r recs₁ slots₁ s.roots legal' empty' named' heads' exact' rooted',
        facts-list s.control.n recs₁ slots₁ sinks₁ s.sets places',
      )
      (exact-ok s.control.n recs₁ slots₁ sinks₁ s.sets C.sets-long)

  -- ---- freed exactly if not to be kept

  pub freed-is : (x : ℕ) → in_use (was x) ≡ true → (now x ≡ 0) ↔ (K x → ⊥)
  freed-is x u = go (case x)
    where
      go : Case x → (now x ≡ 0) ↔ (K x → ⊥)
      go (blank e d z) = absurd (false≢true (unfold flag field in (sym (ap (λ (r : ℕ). flag 0 r) e)) ∙ u))
      go (gone L k d z) = (λ y r. true≢false (sym (in_kept x r).0 ∙ k), λ h. z)
      go (left L k d z) =
          let r = (F.kept-is x (obj-of s C x (legal-nonzero s.control.n (was x) L))).0 k in
          (λ y. absurd (false≢true (unfold flag field in (sym (ap (λ (q : ℕ). flag 0 q) y)) ∙ still-used x r)), λ h. absurd (h r))

  -- ---- who is in use after it, and which clusters stay

  pub kept-now : (x : ℕ) → Obj s.control.n x → kept x ≡ in_use (now x)
  kept-now x b = go (case x)
    where
      none : in_use 0 ≡ false
      none = unfold flag field in refl

      go : Case x → kept x ≡ in_use (now x)
      go (blank e d z) = is_false (kept x) (λ f. F.used x ((F.kept-is x b).0 f) e) ∙ sym (ap in_use z ∙ none)
      go (gone L k d z) = k ∙ sym (ap in_use z ∙ none)
      go (left L k d z) = k ∙ sym (still-used x ((F.kept-is x b).0 k))

  pub dead-is : (x : ℕ) → (gone? x ≡ true) ↔ (Obj s.control.n x × (in_use (was x) ≡ true) × (now x ≡ 0))
  dead-is x = go (case x)
    where
      go : Case x → (gone? x ≡ true) ↔ (Obj s.control.n x × (in_use (was x) ≡ true) × (now x ≡ 0))
      go (blank e d z) =
          (λ f. absurd (true≢false (sym f ∙ d)), λ f. absurd (false≢true (unfold flag field in (sym (ap (λ (r : ℕ). flag 0 r) e)) ∙ f.1)))
      go (gone L k d z) = (λ f. (obj-of s C x (legal-nonzero s.control.n (was x) L), L.used, z), λ f. d)
      go (left L k d z) =
          (λ f. absurd (true≢false (sym f ∙ d)), λ f. absurd (false≢true (sym (kept-now x f.0 ∙ ap in_use f.2 ∙ (unfold flag field in refl)) ∙ k)))

  -- the place of a freed sink is empty, and no other place changes
  pub swept-places : (k : ℕ) → k < sink_max → let y = get_or s.sinks k 0 in get_or sinks₁ k 0 ≡ cond (eqb (now y) 0) 0 y
  unfolding swept_sinks
  swept-places k p = get-each 0 sink_max (λ k y. cond (gone? y) 0 y) s.sinks k 0 p (let a = C.sinks-long in omega arith) ∙ go (case y)
    where
      y : ℕ
      y = get_or s.sinks k 0

      -- an empty place, since a sink is in use
      vacant-place : was y ≡ 0 → Dec (y ≡ 0) → y ≡ 0
      vacant-place e (yes z) = z
      vacant-place e (no z) = absurd (false≢true (sym (ap is_sink e ∙ (unfold flag field in refl)) ∙ ((places s C).from y inside z).1))
        where
          inside : Memᴰ y (take sink_max s.sinks)
          inside =
              subst (λ (z : ℕ). Memᴰ z (take sink_max s.sinks)) (get_or-take sink_max s.sinks k 0 p)
              (mem-get (take sink_max s.sinks) k (let a = C.sinks-long in let b = length-take-le sink_max s.sinks a in omega arith))

      go : Case y → cond (gone? y) 0 y ≡ cond (eqb (now y) 0) 0 y
      go (blank e d z) = rw (d, z) (vacant-place e (ℕ_discrete y 0))
      go (gone L k d z) = rw (d, z) refl
      go (left L k d z) =
          let u = still-used y ((F.kept-is y (obj-of s C y (legal-nonzero s.control.n (was y) L))).0 k) in
          rw (d, ne_eqb (now y) 0 (λ e. false≢true (unfold flag field in (sym (ap (λ (r : ℕ). flag 0 r) e)) ∙ u))) refl

  -- ---- what is counted, and the map

  freed-obj : (x : ℕ) → (Obj s.control.n x → ⊥) → gone? x ≡ false
  freed-obj x h = is_false (gone? x) (λ e. h ((dead-is x).0 e).0)

  past : (x : ℕ) → s.control.n < x → gone? x ≡ false
  past x p = freed-obj x (λ b. absurd (omega (arith, p, b.1)))

  unfreed : gone? 0 ≡ false
  unfreed = freed-obj 0 (λ b. absurd (omega (arith, b.0)))

  module _ (map₀ : List ℕ) where
    abbrev swept : Swept
    swept = sweep s.control.n s.records s.slots s.sinks s.sets map₀ kept heads

    pub swept_kept : swept.kept ≡ count s.control.n (λ x. in_use (now x))
    unfolding sweep
    swept_kept = count-ext s.control.n _ _ kept-now

    module _ (map-long : map_len s.control.n ≤ length map₀) where
      -- the words of the map that are the heap's
      pub map-words : take (map_len s.control.n) swept.map ≡ map (word_of gone?) (numbers 0 (map_len s.control.n))
      unfolding sweep
      map-words = take_by_lem (λ j. word_of gone? j) 0 (map_len s.control.n) map₀ map-long

      pub swept-maps : (x : ℕ) → (holds x (take (map_len s.control.n) swept.map) ≡ true)
          ↔ (Obj s.control.n x × (in_use (was x) ≡ true) × (now x ≡ 0))
      swept-maps x =
          let e : holds x (take (map_len s.control.n) swept.map) ≡ gone? x
          = ap (λ (l : List ℕ). holds x l) map-words ∙ map-holds s.control.n gone? past x in
          (λ h. (dead-is x).0 (sym e ∙ h), λ h. e ∙ (dead-is x).1 h)

      pub swept-freed : swept.freed ≡ length (numbers_in 0 (take (map_len s.control.n) swept.map))
      unfolding sweep
      swept-freed = sym (ap (λ (l : List ℕ). length (numbers_in 0 l)) map-words ∙ map-ones s.control.n gone? past unfreed)

  -- the head of x's cluster is in use after it, exactly if the walk reached it
  head-now : (x : ℕ) → H.cluster x ≢ 0 → heads (H.cluster x) ≡ in_use (now (H.cluster x))
  head-now x nz = F.heads-is x nz ∙ kept-now (H.cluster x) (head-obj s C x nz)

  cluster-left : (x : ℕ) → (gone? x ≡ true → keep heads H.cluster x ≡ 0) → now (cluster (was x)) ≢ 0 → cluster (now x) ≡ cluster (was x)
  unfolding view
  cluster-left x g h = cluster-at x ∙ same (gone? x) refl ∙ go (ℕ_discrete (H.cluster x) 0)
    where
      same : (b : Bool) → gone? x ≡ b → cond b 0 (keep heads H.cluster x) ≡ keep heads H.cluster x
      same true e = sym (g e)
      same false e = refl

      go : Dec (H.cluster x ≡ 0) → keep heads H.cluster x ≡ H.cluster x
      go (yes e) = keep-zero heads H.cluster x e ∙ sym e
      go (no e) = keep-in heads H.cluster (H.cluster x) x refl (head-now x e ∙ used (legal' (H.cluster x)))
        where
          used : (now (H.cluster x) ≡ 0) ⊎ Legal s.control.n (now (H.cluster x)) → in_use (now (H.cluster x)) ≡ true
          used (inl z) = absurd (h z)
          used (inr L) = L.used

  pub cluster-stays : (x : ℕ) → now x ≢ 0 → now (cluster (was x)) ≢ 0 → cluster (now x) ≡ cluster (was x)
  cluster-stays x u = cluster-left x (λ e. absurd (u ((dead-is x).0 e).2))

  pub cluster-goes : (x : ℕ) → now (cluster (was x)) ≡ 0 → cluster (now x) ≡ 0
  unfolding view
  cluster-goes x h = cluster-at x ∙ none (gone? x) (go (ℕ_discrete (H.cluster x) 0))
    where
      none : (b : Bool) → keep heads H.cluster x ≡ 0 → cond b 0 (keep heads H.cluster x) ≡ 0
      none true e = refl
      none false e = e

      go : Dec (H.cluster x ≡ 0) → keep heads H.cluster x ≡ 0
      go (yes e) = keep-zero heads H.cluster x e
      go (no e) = keep_out heads H.cluster (H.cluster x) x refl (head-now x e ∙ ap in_use h ∙ (unfold flag field in refl))

  -- what a kept object keeps
  pub kept_leaves : (x : ℕ) → now x ≢ 0 → (in_use (now x) ≡ in_use (was x)) × (used_words s.control.n recs₁ slots₁ x ≡ words_of s x) × (width (now x) ≡ width (was x))
      × (is_written (now x) ≡ is_written (was x)) × (is_sink (now x) ≡ is_sink (was x))
  kept_leaves x u = go (case x)
    where
      go : Case x → (in_use (now x) ≡ in_use (was x)) × (used_words s.control.n recs₁ slots₁ x ≡ words_of s x) × (width (now x) ≡ width (was x))
          × (is_written (now x) ≡ is_written (was x)) × (is_sink (now x) ≡ is_sink (was x))
      go (blank e d z) = absurd (u z)
      go (gone L k d z) = absurd (u z)
      go (left L k d z) = (
        kept_field (flag 0) (λ q. loose-flag q 0 refl (eqb-false 0 3 refl)) x z,
        used-kept x L d z,
        kept_field width loose-width x z,
        kept_field (flag 1) (λ q. loose-flag q 1 refl (eqb-false 1 3 refl)) x z,
        kept_field (flag 2) (λ q. loose-flag q 2 refl (eqb-false 2 3 refl)) x z,
      )

  -- ---- with the invariant

  module _ (I : Inv s) (led : (x : ℕ) → K x ↔ Reachable s x) where
    -- a member of a cluster whose head was reached is kept
    member-kept : (x : ℕ) → Legal s.control.n (was x) → H.cluster x ≢ 0 → heads (H.cluster x) ≡ true → kept x ≡ true
    member-kept x L nz h =
        let k : kept (H.cluster x) ≡ true = sym (F.heads-is x nz) ∙ h in
        let r = (led (H.cluster x)).0 ((F.kept-is (H.cluster x) (head-obj s C x nz)).0 k) in
        (F.kept-is x (obj-of s C x (legal-nonzero s.control.n (was x) L))).1 ((led x).1 (member-led s I x nz r))

    -- the freed are in no cluster that stays
    dead-loose : (x : ℕ) → gone? x ≡ true → keep heads H.cluster x ≡ 0
    dead-loose x e = go (case x)
      where
        go : Case x → keep heads H.cluster x ≡ 0
        go (blank z d w) = absurd (true≢false (sym e ∙ d))
        go (left L k d z) = absurd (true≢false (sym e ∙ d))
        go (gone L k d z) = at (ℕ_discrete (H.cluster x) 0) (heads (H.cluster x)) refl
          where
            at : Dec (H.cluster x ≡ 0) → (b : Bool) → heads (H.cluster x) ≡ b → keep heads H.cluster x ≡ 0
            at (yes c) b h = keep-zero heads H.cluster x c
            at (no c) true h = absurd (true≢false (sym (member-kept x L c h) ∙ k))
            at (no c) false h = keep_out heads H.cluster (H.cluster x) x refl h

    pub whole-stays : (x : ℕ) → now (cluster (was x)) ≢ 0 → cluster (now x) ≡ cluster (was x)
    whole-stays x = cluster-left x (dead-loose x)

    pub swept-inv : Inv (state' s kept heads)
    swept-inv = record {
      sound = I.sound;
      recs-long = unfold swept_records each_record in
          (rw (length-each 1 s.control.n (swept_record s.control.n s.records kept heads) s.records) I.recs-long);
      slots-long = unfold swept_slots each_slot slots_len in
          (rw (length-each 0 (8 * s.control.n) (λ j w. cond (gone? (j / 8 + 1)) 0 w) s.slots) I.slots-long);
      roots-long = I.roots-long;
      sinks-long = unfold swept_sinks in (rw (length-each 0 sink_max (λ k y. cond (gone? y) 0 y) s.sinks) I.sinks-long);
      sets-long = rw (length-exact (heap_in s.control.n recs₁ slots₁ sinks₁) s.sets) I.sets-long;
      legal = legal';
      empty = empty';
      named = named';
      rooted = rooted';
      single = places'.single;
      sets-exact = λ h p q. unfold view in (exact-at (heap_in s.control.n recs₁ slots₁ sinks₁) s.sets h (p, q) I.sets-long);
      good = subst (λ (E : Heap). Good E s.control.write_loss) (sym view')
          (collect-good H s.control.write_loss heads gone? I.good dead-loose points-live);
    }

    -- ---- the plain heap

    pub same_kept : (x : ℕ) → Obj s.control.n x → kept x ≡ has x (kept_numbers (plain_of s))
    same_kept x b =
        let p = plain-kept s C x b in
        let q = F.kept-is x b in
        same_test _ _ (λ e. p.1 ((led x).0 (q.0 e))) (λ e. q.1 ((led x).1 (p.0 e)))

    cell-at : (x : ℕ) → Obj s.control.n x → cell_of s.control.n recs₁ slots₁ x
        ≡ cond (has x (kept_numbers (plain_of s))) (cell_of s.control.n s.records s.slots x) vacant
    unfolding cell_of R.free
    cell-at x b = go (case x)
      where
        go : Case x → cond (eqb (now x) 0) vacant (object (used_words s.control.n recs₁ slots₁ x) (flag 2 (now x)))
            ≡ cond (has x (kept_numbers (plain_of s))) (cond (eqb (was x) 0) vacant (object (words_of s x) (flag 2 (was x)))) vacant
        go (blank e d z) = rw (z, e) (sym (cond_same (has x (kept_numbers (plain_of s))) vacant))
        go (gone L k d z) = rw (z, sym (same_kept x b) ∙ k) refl
        go (left L k d z) =
            rw (
              sym (same_kept x b) ∙ k,
              used-kept x L d z,
              kept_field (flag 2) (λ q. loose-flag q 2 refl (eqb-false 2 3 refl)) x z,
              ne_eqb (now x) 0 (λ y. true≢false (sym (kept_field (flag 0) (λ q. loose-flag q 0 refl (eqb-false 0 3 refl)) x z ∙ L.used) ∙ ap (flag 0) y ∙ (unfold flag field in refl))),
              ne_eqb (was x) 0 (legal-nonzero s.control.n (was x) L),
            ) refl

    pub swept-cells : cells_of s.control.n recs₁ slots₁ ≡ plain_swept (plain_of s) (kept_numbers (plain_of s))
    unfolding cells_of plain_swept
    swept-cells =
        same_numbers _ _ 1 s.control.n (λ x p q. cell-at x (p, omega arith))
        ∙ sym (each-numbers (cell_of s.control.n s.records s.slots) (λ x cell. cond (has x (kept_numbers (plain_of s))) cell vacant) 1 s.control.n)
        ∙ ap (λ (k : ℕ). each_from 1 k (λ x cell. cond (has x (kept_numbers (plain_of s))) cell vacant) (map (cell_of s.control.n s.records s.slots) (numbers 1 s.control.n)))
        (sym (cells-size s.control.n s.records s.slots))

    pub same-freed : (x : ℕ) → gone? x ≡ plain_freed (plain_of s) (kept_numbers (plain_of s)) x
    unfolding plain_freed
    same-freed x = go (case x)
      where
        is_free_lem : is_free (cell_at (plain_of s).cells x) ≡ R.free (was x)
        is_free_lem = at-free s.control.n s.records s.slots x

        go : Case x → gone? x ≡ (not (is_free (cell_at (plain_of s).cells x)) && not (has x (kept_numbers (plain_of s))))
        go (blank e d z) = d ∙ sym (rw is_free_lem (unfold R.free in (rw e refl)))
        go (gone L k d z) =
            d ∙ sym (rw (is_free_lem, sym (same_kept x (obj-of s C x (legal-nonzero s.control.n (was x) L))) ∙ k) (unfold R.free in (rw (ne_eqb (was x) 0 (legal-nonzero s.control.n (was x) L)) refl)))
        go (left L k d z) =
            d ∙ sym (rw (is_free_lem, sym (same_kept x (obj-of s C x (legal-nonzero s.control.n (was x) L))) ∙ k) (and-false (not (R.free (was x)))))

    module _ (map₀ : List ℕ) where
      pub same-free : (swept map₀).freed ≡ count (length (plain_of s).cells) (plain_freed (plain_of s) (kept_numbers (plain_of s)))
      unfolding sweep
      same-free = rw (cells-size s.control.n s.records s.slots) (count-ext s.control.n _ _ (λ x b. same-freed x))

      pub same_count : (swept map₀).kept ≡ count (length (plain_of s).cells) (λ x. has x (kept_numbers (plain_of s)))
      unfolding sweep
      same_count = rw (cells-size s.control.n s.records s.slots) (count-ext s.control.n _ _ same_kept)

      pub same_map : map_len s.control.n ≤ length map₀ → take (map_len s.control.n) (swept map₀).map
          ≡ plain_map (plain_of s) (kept_numbers (plain_of s))
      unfolding plain_map
      same_map long =
          map-words map₀ long
          ∙ (λ i. map (word_of (fun_ext same-freed i)) (numbers 0 (map_len (sym (cells-size s.control.n s.records s.slots) i))))
