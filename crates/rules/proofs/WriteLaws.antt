-- Write, of the buffers and of the plain heap.
-- Assumes nothing.
use Prim.Native.Nat.{ℕ, zero, suc, ◌+◌, ◌-◌, ◌*◌, ◌≤◌, ◌<◌}
use mathlib.Core.Path.{◌≡◌, refl, sym, ap, ◌∙◌}
use mathlib.Core.Bool.{Bool, true, false, not, cond, ◌&&◌, ◌||◌, false≢true}
use mathlib.Core.List.{List, [], ◌∷◌, ◌++◌, map, Memᴰ}
use mathlib.Core.Logic.{◌≢◌, ◌⊎◌, inl, inr}
use native.Mathlib.Decide.{ℕ_discrete}
use native.Mathlib.Nat.{suc-ne-zero}
use native.Mathlib.Omega.{arith}
use lib.Dec.{eqb, ltb}
use lib.ListN.{length, set, take, drop, length-set}
use lib.Seq.{take-set-lt, drop-set-lt}
use borrow.Author.Tests.{not-false, leb-false, le-ltb, eqb-false, eq-eqb, ne_eqb}
use Rattle.layout.proofs.RefusalLaws.{first-passed}
use Rattle.records.specs.Record as R
use Rattle.layout.specs.ControlRecord.{with_write_loss}
use Rattle.layout.specs.Field.{field, flag}
use Rattle.layout.specs.Limits.{sink_max, slots_len}
use Rattle.records.specs.Record.{width}
use Rattle.layout.specs.Refusal.{first}
use Rattle.layout.specs.Word.{is_nil, is_immediate, is_pointer, legal_word}
use Rattle.layout.proofs.ControlLaws.{writes-sound}
use Rattle.graph.specs.Clusters.{keep, others}
use Rattle.graph.specs.Heap.{Heap}
use Rattle.graph.specs.Numbers.{upd}
use Rattle.graph.specs.Writes.{dissolves, stored, store, store_by, loss_by, loss_of}
use Rattle.graph.proofs.NumberLaws.{upd_same, upd_other, mem-of-set}
use Rattle.graph.proofs.Paths.{connected-head, keep-zero, keep-in, keep-was}
use Rattle.graph.proofs.State.{Good}
use Rattle.graph.proofs.WritesLaws.{dissolving, staying, still-connected, points-clustered, write-fits}
use Rattle.rules.specs.Buffers.{rec_of, used_words, other_words, eight, all_of}
use Rattle.rules.specs.View.{view, heap_in, set_word, target, encoded}
use Rattle.rules.specs.Calls.{write, write_in_place, did}
use Rattle.rules.specs.Write.{loss_after}
use Rattle.rules.specs.Write as Write
use Rattle.rules.specs.Plain.{Plain, Played, Cell, vacant, object, cell_at, is_sink, plain_words, object_tests, slot_tests, names_free, with_cell, answer, plain_step}
use Rattle.rules.specs.Steps.{State, step}
use Rattle.rules.specs.Demands.{heap_of, words_of, record_in, roots_of}
use Rattle.rules.specs.PlainOf.{plain_of, cell_of, cells_of}
use Rattle.rules.proofs.ListLaws.{eight-set, eight-set-other, set-numbers}
use Rattle.rules.proofs.PlaceLaws.{rec-put}
use Rattle.rules.proofs.SetLaws.{set_word-same}
use Rattle.rules.proofs.StoreLaws.{kids-stored}
use Rattle.rules.proofs.Invariant.{Inv, SlotWord, inv-control, inv-sane, inv-illegal, enough}
use Rattle.rules.proofs.Abstraction.{cells-size, at-free, at_words, at-sink}
use Rattle.rules.proofs.Simulation.{Same, same_by, all-by, pointer-facts, is-named, used-length, widths}
use Rattle.rules.proofs.ViewLaws.{target-low}
use Rattle.rules.proofs.EncodedState.{good-fits, encoded-cell, encoded-inv, encoded-view}
use Rattle.rules.proofs.EncodedLaws.{Fits}

-- the slots and the plain heap's cells after a store, for any heap that is encoded into the records with it
module _ (s : State) (I : Inv s) (i k w : ℕ) (k-fits : k < width (record_in s (suc i))) (there : record_in s (suc i) ≢ 0)
    (word : SlotWord s.control.n s.records w) where
  abbrev n : ℕ
  n = s.control.n

  abbrev H : Heap
  H = heap_of s

  abbrev slots' : List ℕ
  slots' = set s.slots (8 * i + k) w

  k8 : k < 8
  k8 = let a = widths s I (suc i) in omega arith

  used-after : used_words n s.records slots' (suc i) ≡ set (words_of s (suc i)) k w
  unfolding used_words
  used-after =
      ap (take (width (record_in s (suc i)))) (eight-set s.slots i k w k8)
      ∙ take-set-lt (width (record_in s (suc i))) (eight s.slots (suc i)) k w k-fits

  used-other : (x : ℕ) → x ≢ suc i → used_words n s.records slots' x ≡ words_of s x
  unfolding used_words
  used-other x e = ap (take (width (record_in s x))) (eight-set-other s.slots i k w x k8 e)

  same-kids : (x : ℕ) → map (target n) (used_words n s.records slots' x) ≡ stored H (suc i) k (target n w) x
  unfolding view stored
  same-kids x =
      let z : i ≡ suc i - 1 = omega arith in
      ap (λ (j : ℕ). (view n s.records (set s.slots (8 * j + k) w)).kids x) z
      ∙ kids-stored n s.records s.slots (suc i) k w (omega arith) k-fits (widths s I (suc i)) s.records (λ y. refl) x

  other_after : (x : ℕ) → other_words n s.records slots' x ≡ other_words n s.records s.slots x
  unfolding other_words
  other_after x = go (ℕ_discrete x (suc i))
    where
      go : Dec (x ≡ suc i) → drop (width (record_in s x)) (eight slots' x) ≡ drop (width (record_in s x)) (eight s.slots x)
      go (yes e) =
          rw e (ap (drop (width (record_in s (suc i)))) (eight-set s.slots i k w k8)
          ∙ drop-set-lt (width (record_in s (suc i))) (eight s.slots (suc i)) k w k-fits)
      go (no e) = ap (drop (width (record_in s x))) (eight-set-other s.slots i k w x k8 e)

  named-after : (x v : ℕ) → Memᴰ v (used_words n s.records slots' x) → SlotWord n s.records v
  named-after x v m = go (ℕ_discrete x (suc i))
    where
      at : (v ≡ w) ⊎ Memᴰ v (words_of s (suc i)) → SlotWord n s.records v
      at (inl e) = rw e word
      at (inr p) = I.named (suc i) v p

      go : Dec (x ≡ suc i) → SlotWord n s.records v
      go (yes e) = at (mem-of-set (words_of s (suc i)) k w v (rw (e, used-after) at m))
      go (no e) = I.named x v (rw (used-other x e) at m)

  module _ (out' : ℕ → Bool) (cl' : ℕ → ℕ) where
    abbrev heap' : Heap
    heap' = record { n = n; kids = stored H (suc i) k (target n w); sink = H.sink; listed = H.listed; written = upd H.written (suc i) true; cluster = cl'; out = out' }

    abbrev recs' : List ℕ
    recs' = encoded heap' s.records

    module _ (loss' : ℕ) (G : Good heap' loss') (blank-cl : (x : ℕ) → record_in s x ≡ 0 → cl' x ≡ 0) (fits : loss' ≤ n) where
      F : Fits n s.records H.sink (upd H.written (suc i) true) out' cl'
      unfolding view flag field
      F = good-fits G (λ x e. (rw e refl, upd_other H.written (suc i) x true (λ j. there (ap (record_in s) (sym j) ∙ e)) ∙ rw e refl, blank-cl x e))

      store-inv : (sets' : List ℕ) → n ≤ length sets' → ((h : ℕ) → 1 ≤ h → h ≤ n → rec_of n sets' h ≡ set_word heap' h)
          → Inv (record { control = with_write_loss loss' s.control; records = recs'; slots = slots'; roots = s.roots; sinks = s.sinks; sets = sets' })
      unfolding with_write_loss
      store-inv sets' long exact =
          encoded-inv s I (stored H (suc i) k (target n w)) H.listed F slots' same-kids s.sinks sets' s.control.last s.control.limit loss' s.control.out_loss G
          (writes-sound s.control I.sound loss' fits)
          (let a = length-set s.slots (8 * i + k) w in let b = I.slots-long in omega arith)
          (λ x p q. ap (all_of is_nil) (other_after x) ∙ I.empty x p q)
          named-after I.sinks-long refl I.single long exact

      store_view : heap_in n recs' slots' s.sinks ≡ heap'
      store_view = encoded-view s I (stored H (suc i) k (target n w)) H.listed F slots' same-kids

      store_cells : cells_of n recs' slots'
          ≡ set (cells_of n s.records s.slots) i (object (set (words_of s (suc i)) k w) (flag 2 (record_in s (suc i))))
      unfolding cells_of
      store_cells = set-numbers (cell_of n s.records s.slots) (cell_of n recs' slots') 1 n i _ at other
        where
          cell : (x : ℕ) → cell_of n recs' slots' x ≡ cond (R.free (record_in s x)) vacant (object (used_words n s.records slots' x) (H.sink x))
          cell = encoded-cell s I (stored H (suc i) k (target n w)) H.listed F slots'

          not_free : R.free (record_in s (suc i)) ≡ false
          not_free = unfold R.free in (ne_eqb (record_in s (suc i)) 0 there)

          at : cell_of n recs' slots' (1 + i) ≡ object (set (words_of s (suc i)) k w) (flag 2 (record_in s (suc i)))
          at =
              let e : 1 + i ≡ suc i = omega arith in
              rw e (cell (suc i) ∙ rw (not_free, used-after) (unfold view flag field in refl))

          other : (x : ℕ) → 1 ≤ x → x < 1 + n → x ≢ 1 + i → cell_of n recs' slots' x ≡ cell_of n s.records s.slots x
          other x p q d =
              let e : x ≢ suc i = omega (arith, d) in
              cell x ∙ (rw (used-other x e) (unfold cell_of view flag field in refl))

-- a write changes no set but that at its object's head
pub set-elsewhere : (d : Bool) (H : Heap) (i k t h : ℕ) → h ≢ 0 → h ≢ H.cluster i → set_word (store_by d H i k t) h ≡ set_word H h
unfolding store_by stored
set-elsewhere true H i k t h nz o =
    set_word-same (store_by true H i k t) H h refl refl
    (λ x b. (λ e. (keep-was (others (H.cluster i)) H.cluster h x e nz).0, λ e. keep-in (others (H.cluster i)) H.cluster h x e other))
    (λ x b e. upd_other H.kids i x _ (λ j. o (sym (keep-was (others (H.cluster i)) H.cluster h x e nz).0 ∙ ap H.cluster j)))
  where
    other : others (H.cluster i) h ≡ true
    other = unfold others in (rw (ne_eqb h (H.cluster i) o) refl)
set-elsewhere false H i k t h nz o =
    set_word-same (store_by false H i k t) H h refl refl (λ x b. (λ e. e, λ e. e)) (λ x b e. upd_other H.kids i x _ (λ j. o (sym e ∙ ap H.cluster j)))

module _ (s : State) (I : Inv s) where
  -- no write meets 25
  fits-25 : (i k t : ℕ) → t ≤ s.control.n → (b : Bool) → dissolves (heap_of s) i k t ≡ b
      → s.control.write_loss + loss_by b (heap_of s) i ≤ s.control.n
  unfolding loss_by view
  fits-25 i k t l true e = write-fits (heap_of s) s.control.write_loss i k t I.good e
  fits-25 i k t l false e = let a = I.sound.writes in omega arith

  pub no-25 : (i k w : ℕ) → ltb s.control.n (loss_after s.control i k w s.records s.slots s.sinks s.sets) ≡ false
  unfolding loss_after loss_of
  no-25 i k w = le-ltb s.control.n _ (fits-25 i k (target s.control.n w) (target-low s.control.n w) _ refl)

  pub write-tests : (i k w : ℕ) → first (Write.write_tests s.control i k w s.records s.slots s.sinks s.sets)
      ≡ first (slot_tests (plain_of s) i k ++ ((6, not (legal_word (length (plain_of s).cells) w)) ∷ (23, names_free (plain_of s) w) ∷ []))
  unfolding Write.write_tests first slot_tests object_tests plain_words names_free slots_len
  write-tests i k w =
      rw (
        inv-control s I,
        enough s.control.n s.records I.recs-long,
        enough (8 * s.control.n) s.slots I.slots-long,
        enough sink_max s.sinks I.sinks-long,
        enough s.control.n s.sets I.sets-long,
        inv-sane s I i,
        inv-illegal s I w,
        no-25 i k w,
        cells-size s.control.n s.records s.slots,
        at-free s.control.n s.records s.slots i,
        at-free s.control.n s.records s.slots w,
        at_words s.control.n s.records s.slots i,
        used-length s I i,
      )
      refl

  -- what the tests leave
  record Passed (i k w : ℕ) : Type 0 where
    range : (1 ≤ i) × (i ≤ s.control.n)
    there : record_in s i ≢ 0
    narrow : k < width (record_in s i)
    word : SlotWord s.control.n s.records w

  facts : (i k w : ℕ) → first (Write.write_tests s.control i k w s.records s.slots s.sinks s.sets) ≡ 0 → Passed i k w
  unfolding Write.write_tests R.free legal_word
  facts i k w z =
      let t1 = first-passed 19 _ _ z in
      let t2 = first-passed 1 _ _ t1.1 in
      let t3 = first-passed 3 _ _ t2.1 in
      let t4 = first-passed 20 _ _ t3.1 in
      let t5 = first-passed 21 _ _ t4.1 in
      let t6 = first-passed 4 _ _ t5.1 in
      let t7 = first-passed 5 _ _ t6.1 in
      let t8 = first-passed 22 _ _ t7.1 in
      record {
        range = pointer-facts s.control.n i (not-false _ t3.0);
        there = eqb-false _ _ t5.0;
        narrow = leb-false _ _ t6.0;
        word = word (is_nil w) (is_pointer s.control.n w) (is_immediate w) refl refl refl (not-false _ t7.0) t8.0;
      }
    where
      word : (a b c : Bool) → is_nil w ≡ a → is_pointer s.control.n w ≡ b → is_immediate w ≡ c → (a || b || c) ≡ true
          → (b && not (R.legal s.control.n (record_in s w))) ≡ false → SlotWord s.control.n s.records w
      word true b c ea eb ec e f = rw ea refl
      word false true true ea eb ec e f = rw (ea, ec) refl
      word false true false ea eb ec e f = rw (ea, ec) (is-named s I w eb (sym (inv-illegal s I w) ∙ f))
      word false false true ea eb ec e f = rw (ea, ec) refl
      word false false false ea eb ec e f = absurd (false≢true e)

  -- ---- the sets

  -- the set at the object's head becomes that of the new heap
  abbrev sets_by : ℕ → ℕ → ℕ → Bool → List ℕ
  sets_by i k w d =
      cond (eqb ((heap_of s).cluster i) 0) s.sets
      (set s.sets ((heap_of s).cluster i - 1) (set_word (store_by d (heap_of s) i k (target s.control.n w)) ((heap_of s).cluster i)))

  long-by : (i k w : ℕ) (d : Bool) → s.control.n ≤ length (sets_by i k w d)
  long-by i k w d = go (eqb ((heap_of s).cluster i) 0)
    where
      go : (b : Bool) → s.control.n ≤ length (cond b s.sets (set s.sets ((heap_of s).cluster i - 1) (set_word (store_by d (heap_of s) i k (target s.control.n w)) ((heap_of s).cluster i))))
      go true = I.sets-long
      go false = rw (length-set s.sets ((heap_of s).cluster i - 1) (set_word (store_by d (heap_of s) i k (target s.control.n w)) ((heap_of s).cluster i))) I.sets-long

  sets-by : (i k w : ℕ) (d : Bool) (h : ℕ) → 1 ≤ h → h ≤ s.control.n
      → rec_of s.control.n (sets_by i k w d) h ≡ set_word (store_by d (heap_of s) i k (target s.control.n w)) h
  sets-by i k w d h p q = go (ℕ_discrete c 0)
    where
      c : ℕ
      c = (heap_of s).cluster i

      after : Heap
      after = store_by d (heap_of s) i k (target s.control.n w)

      stays : h ≢ c → rec_of s.control.n s.sets h ≡ set_word after h
      stays j = I.sets-exact h p q ∙ sym (set-elsewhere d (heap_of s) i k (target s.control.n w) h (λ z. absurd (omega (arith, p, z))) j)

      at : Dec (h ≡ c) → upd (rec_of s.control.n s.sets) c (set_word after c) h ≡ set_word after h
      at (yes j) = rw j (upd_same (rec_of s.control.n s.sets) c (set_word after c))
      at (no j) = upd_other (rec_of s.control.n s.sets) c h (set_word after c) j ∙ stays j

      go : Dec (c ≡ 0) → rec_of s.control.n (cond (eqb c 0) s.sets (set s.sets (c - 1) (set_word after c))) h ≡ set_word after h
      go (yes e) = rw (eq-eqb c 0 e) (stays (λ j. absurd (omega (arith, p, j ∙ e))))
      go (no e) =
          let m : c ≤ s.control.n = unfold view in (I.good.range c (λ z. e (sym (connected-head _ _ I.good.conn i e) ∙ z))) in
          rw (ne_eqb c 0 e) (rec-put s.control.n s.sets c (set_word after c) (omega (arith, e)) m I.sets-long h ∙ at (ℕ_discrete h c))

  abbrev state_by : ℕ → ℕ → ℕ → Bool → State
  state_by i k w d =
      record {
        control = with_write_loss (s.control.write_loss + loss_by d (heap_of s) i) s.control;
        records = encoded (store_by d (heap_of s) i k (target s.control.n w)) s.records;
        slots = set s.slots (8 * (i - 1) + k) w;
        roots = s.roots;
        sinks = s.sinks;
        sets = sets_by i k w d;
      }

  -- the state after an accepted write, where the cluster is dissolved and where not
  done : (i k w : ℕ) → Passed i k w → (d : Bool) → dissolves (heap_of s) i k (target s.control.n w) ≡ d
      → Inv (state_by i k w d)
      × (cells_of s.control.n (state_by i k w d).records (state_by i k w d).slots
      ≡ set (cells_of s.control.n s.records s.slots) (i - 1) (object (set (words_of s i) k w) (flag 2 (record_in s i))))
      × (heap_in s.control.n (state_by i k w d).records (state_by i k w d).slots s.sinks
      ≡ store_by d (heap_of s) i k (target s.control.n w))
  unfolding store_by with_write_loss view flag field
  done zero k w F d e = absurd (omega (arith, F.range))
  done (suc i) k w F true e =
      let z : suc i - 1 ≡ i = omega arith in
      let H = heap_of s in
      let t = target s.control.n w in
      let l = target-low s.control.n w in
      let G = dissolving H s.control.write_loss (suc i) k t I.good l (points-clustered H (suc i) k t e) in
      let b : (x : ℕ) → record_in s x ≡ 0 → keep (others (H.cluster (suc i))) H.cluster x ≡ 0
      = λ x q. keep-zero (others (H.cluster (suc i))) H.cluster x (rw q refl) in
      let f = fits-25 (suc i) k t l true e in
      rw z (
        store-inv s I i k w F.narrow F.there F.word _ _ _ G b f _ (long-by (suc i) k w true) (sets-by (suc i) k w true),
        store_cells s I i k w F.narrow F.there F.word _ _ _ G b f,
        store_view s I i k w F.narrow F.there F.word _ _ _ G b f,
      )
  done (suc i) k w F false e =
      let z : suc i - 1 ≡ i = omega arith in
      let H = heap_of s in
      let t = target s.control.n w in
      let l = target-low s.control.n w in
      let G = staying H s.control.write_loss (suc i) k t I.good l (still-connected H s.control.write_loss (suc i) k t I.good l e) in
      let b : (x : ℕ) → record_in s x ≡ 0 → H.cluster x ≡ 0 = λ x q. rw q refl in
      let f = fits-25 (suc i) k t l false e in
      rw z (
        store-inv s I i k w F.narrow F.there F.word _ _ _ G b f _ (long-by (suc i) k w false) (sets-by (suc i) k w false),
        store_cells s I i k w F.narrow F.there F.word _ _ _ G b f,
        store_view s I i k w F.narrow F.there F.word _ _ _ G b f,
      )

  abbrev state_of : Write.Outcome → State
  state_of o = record { control = o.answer.control; records = o.records; slots = o.slots; roots = s.roots; sinks = s.sinks; sets = o.sets }

  pub write-inv : (i k w : ℕ) → Inv (step (write i k w) s).after
  unfolding step Write.write answer loss_after loss_of store Write.sets_after
  write-inv i k w = all-by (λ (o : Write.Outcome). Inv (state_of o)) _ _ _ (λ z. (done i k w (facts i k w z) _ refl).0) (λ m. I)

  pub write_same : (i k w : ℕ) → Same (write i k w) s
  unfolding step Write.write answer plain_step loss_after loss_of store Write.sets_after
  write_same i k w = record {
    answers = same_by _ _ _ _ _ _ (λ (o : Write.Outcome). did o.answer.refusal ∷ []) (λ (p : Played Plain). p.answers) (write-tests i k w) (λ z. refl) (λ m. refl);
    after = same_by _ _ _ _ _ _ (λ (o : Write.Outcome). plain_of (state_of o)) (λ (p : Played Plain). p.after) (write-tests i k w)
        (λ z. accepted (facts i k w z)) (λ m. refl);
  }
    where
      accepted : Passed i k w → plain_of (state_by i k w (dissolves (heap_of s) i k (target s.control.n w)))
          ≡ with_cell (plain_of s) i (object (set (plain_words (plain_of s) i) k w) (is_sink (cell_at (plain_of s).cells i)))
      accepted F = unfold with_cell plain_words with_write_loss in
          (rw (at_words s.control.n s.records s.slots i, at-sink s.control.n s.records s.slots i)
          (cells-path (done i k w F _ refl).1))
        where
          cells-path : {a b : List Cell} → a ≡ b
              → ◌≡◌ {A = Plain} (record { last = s.control.last; roots = roots_of s; cells = a })
              (record { last = s.control.last; roots = roots_of s; cells = b })
          cells-path p = ap (λ (l : List Cell). record { last = s.control.last; roots = roots_of s; cells = l }) p

  -- the buffers hold the heap that the rule gives
  pub write-ruled : (i k w : ℕ) → (Write.write s.control i k w s.records s.slots s.sinks s.sets).answer.refusal ≡ 0
      → heap_of (step (write i k w) s).after ≡ store (heap_of s) i k (target s.control.n w)
  unfolding step Write.write answer with_write_loss store
  write-ruled i k w =
      all-by
      (λ (o : Write.Outcome). o.answer.refusal ≡ 0 → heap_in o.answer.control.n o.records o.slots s.sinks
      ≡ store_by (dissolves (heap_of s) i k (target s.control.n w)) (heap_of s) i k (target s.control.n w)) _ _ _
      (λ z e. (done i k w (facts i k w z) _ refl).2) (λ m e. absurd (suc-ne-zero m e))

-- the form that is lent the control record leaves the same state
pub written-in-place : (s : State) (i k w : ℕ) → step (write_in_place i k w) s ≡ step (write i k w) s
unfolding step Write.write_in_place
written-in-place s i k w = refl
