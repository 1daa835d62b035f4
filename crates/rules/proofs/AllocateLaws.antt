-- Allocate, of the buffers and of the plain heap.
-- Assumes nothing.
use Prim.Native.Nat.{ℕ, zero, suc, ◌+◌, ◌-◌, ◌*◌, ◌≤◌, ◌<◌, ◌/◌}
use mathlib.Core.Path.{◌≡◌, refl, sym, ap, ap₂, ◌∙◌, subst, fun_ext}
use mathlib.Core.Bool.{Bool, true, false, cond, ◌&&◌, ◌||◌}
use mathlib.Core.List.{List, [], ◌∷◌, map, Memᴰ}
use mathlib.Core.Logic.{◌≢◌, ◌⊎◌, inl, inr}
use native.Mathlib.Decide.{ℕ_discrete}
use native.Mathlib.Omega.{arith}
use lib.Dec.{leb, ltb, eqb}
use lib.ListN.{length, set, take, drop, replicate}
use borrow.Author.Tests.{ltb-false, eqb-false, eqb-true, ne_eqb}
use Rattle.layout.proofs.RefusalLaws.{first-passed}
use Rattle.records.specs.Record as R
use Rattle.layout.specs.ControlRecord.{with_last}
use Rattle.layout.specs.Field.{field, flag}
use Rattle.layout.specs.Limits.{slots_len, sink_max, width_max}
use Rattle.records.specs.Record.{width, cluster, new_record}
use Rattle.layout.specs.Refusal.{first}
use Rattle.layout.specs.Word.{is_nil, is_immediate, is_pointer}
use Rattle.records.proofs.RecordLaws.{Legal, new-width, new-cluster, new-written, new-sink, new-out, new-legal, legal-nonzero}
use Rattle.layout.proofs.ControlLaws.{last-sound}
use Rattle.graph.specs.Heap.{Heap}
use Rattle.graph.specs.Numbers.{upd}
use Rattle.graph.proofs.Lifecycle.{given-good}
use Rattle.graph.proofs.Lifecycle as Lifecycle
use Rattle.graph.proofs.NumberLaws.{upd_same, upd_other}
use Rattle.graph.proofs.State.{Good}
use Rattle.rules.specs.Buffers.{rec_of, each_record, each_slot, eight, used_words, other_words, all_of}
use Rattle.rules.specs.View.{view, heap_in, set_word, target}
use Rattle.rules.specs.WellFormed.{names}
use Rattle.rules.specs.Calls.{allocate, allocate_in_place, gave}
use Rattle.rules.specs.Allocate.{candidates, first_of, given}
use Rattle.rules.specs.Allocate as Allocate
use Rattle.rules.specs.Plain.{Plain, Played, Cell, object, plain_given, answer, plain_step}
use Rattle.rules.specs.Steps.{State, step}
use Rattle.rules.specs.Demands.{heap_of, record_in, roots_of, words_of}
use Rattle.rules.specs.PlainOf.{plain_of, cell_of, cells_of}
use Rattle.rules.proofs.ListLaws.{length-each, length-eight, set-numbers, rec_of-range}
use Rattle.rules.proofs.BufferLaws.{record-given, record-kept, words-given, words-kept}
use Rattle.rules.proofs.SetLaws.{set_word-same}
use Rattle.rules.proofs.SearchLaws.{candidates-found, candidates-lowest}
use Rattle.rules.proofs.BoolLaws.{or-last, cond_same}
use Rattle.rules.proofs.Invariant.{Inv, SlotWord, inv-control, enough}
use Rattle.rules.proofs.Abstraction.{cells-size, at-free}
use Rattle.rules.proofs.Simulation.{Same, same_by, all-by}
use Rattle.rules.proofs.PointerLaws.{named-used}
use Rattle.rules.proofs.CreateLaws.{nil-map}
use Rattle.rules.proofs.ListedLaws.{mem-replicate}

-- ---- the first that passes

first_of-same : (t u : ℕ → Bool) (l : List ℕ) → ((x : ℕ) → t x ≡ u x) → first_of t l ≡ first_of u l
unfolding first_of
first_of-same t u [] h = refl
first_of-same t u (x ∷ l) h = ap₂ (λ (b : Bool) (r : ℕ). cond b x r) (h x) (first_of-same t u l h)

take-nil : (k : ℕ) (l : List ℕ) → k ≤ length l → take k (map {B = ℕ} (λ (w : ℕ). 0) l) ≡ replicate k 0
take-nil zero l p = refl
take-nil (suc k) [] p = absurd (omega arith)
take-nil (suc k) (w ∷ l) p = ap (λ r. 0 ∷ r) (take-nil k l (omega arith))

map-zero : (n k : ℕ) → map (target n) (replicate k 0) ≡ replicate k 0
unfolding target
map-zero n zero = refl
map-zero n (suc k) = ap₂ (λ x r. x ∷ r) (cond_same (leb 0 n) 0) (map-zero n k)

-- ---- the buffers after it

module _ (s : State) (I : Inv s) (i v : ℕ) (low : 1 ≤ i) (high : i ≤ s.control.n) (blank : record_in s i ≡ 0) (narrow : v ≤ 8) where
  abbrev n : ℕ
  n = s.control.n

  abbrev H : Heap
  H = heap_of s

  abbrev recs' : List ℕ
  recs' = each_record s.control.n (λ x r. cond (eqb x i) (new_record v) r) s.records

  abbrev slots' : List ℕ
  slots' = each_slot s.control.n (λ x w. cond (eqb x i) 0 w) s.slots

  abbrev state' : State
  state' = record { control = with_last i s.control; records = recs'; slots = slots'; roots = s.roots; sinks = s.sinks; sets = s.sets }

  rec-at : rec_of n recs' i ≡ new_record v
  rec-at = record-given n i low high (new_record v) s.records I.recs-long

  rec-other : (x : ℕ) → x ≢ i → rec_of n recs' x ≡ record_in s x
  rec-other x e = record-kept n i low high (new_record v) s.records I.recs-long x e

  eight-at : eight slots' i ≡ map (λ (w : ℕ). 0) (eight s.slots i)
  eight-at = words-given n i low high s.slots

  eight-other : (x : ℕ) → 1 ≤ x → x ≤ n → x ≢ i → eight slots' x ≡ eight s.slots x
  eight-other x p q e = words-kept n i low high s.slots x p q e

  used-at : used_words n recs' slots' i ≡ replicate v 0
  unfolding used_words
  used-at =
      ap (λ (r : ℕ). take (width r) (eight slots' i)) rec-at ∙ ap (λ (k : ℕ). take k (eight slots' i)) (new-width v narrow) ∙ ap (take v) eight-at
      ∙ take-nil v (eight s.slots i) (let e = length-eight n s.slots i low high I.slots-long in omega arith)

  used-other : (x : ℕ) → x ≢ i → used_words n recs' slots' x ≡ words_of s x
  unfolding used_words
  used-other x e = go (I.legal x)
    where
      go : (record_in s x ≡ 0) ⊎ Legal n (record_in s x) → take (width (rec_of n recs' x)) (eight slots' x)
          ≡ take (width (record_in s x)) (eight s.slots x)
      go (inl z) = rw (rec-other x e, z) (unfold field in refl)
      go (inr L) =
          let r = rec_of-range n s.records x (legal-nonzero n (record_in s x) L) in
          ap₂ (λ (k : ℕ) (l : List ℕ). take (width k) l) (rec-other x e) (eight-other x r.0 r.1 e)

  empty' : (x : ℕ) → 1 ≤ x → x ≤ n → all_of is_nil (other_words n recs' slots' x) ≡ true
  unfolding other_words
  empty' x p q = go (ℕ_discrete x i)
    where
      go : Dec (x ≡ i) → all_of is_nil (drop (width (rec_of n recs' x)) (eight slots' x)) ≡ true
      go (yes e) = rw (e, eight-at) (nil-map (eight s.slots i) (width (rec_of n recs' i)))
      go (no e) =
          ap₂ (λ (k : ℕ) (l : List ℕ). all_of is_nil (drop (width k) l)) (rec-other x e) (eight-other x p q e) ∙ (unfold other_words in (I.empty x p q))

  legal' : (x : ℕ) → (rec_of n recs' x ≡ 0) ⊎ Legal n (rec_of n recs' x)
  legal' x = go (ℕ_discrete x i)
    where
      go : Dec (x ≡ i) → (rec_of n recs' x ≡ 0) ⊎ Legal n (rec_of n recs' x)
      go (yes e) = rw (e, rec-at) (inr (new-legal v narrow n))
      go (no e) = rw (rec-other x e) (I.legal x)

  -- a word that named an object in use still does
  names' : (w : ℕ) → names n s.records w ≡ true → names n recs' w ≡ true
  names' w e =
      go (unfold names in (ap (λ (r : ℕ). is_pointer n w && flag 0 r) (rec-other w (λ j. (named-used s I w e).2 (ap (record_in s) j ∙ blank)))))
    where
      go : names n recs' w ≡ names n s.records w → names n recs' w ≡ true
      go h = h ∙ e

  named' : (x w : ℕ) → Memᴰ w (used_words n recs' slots' x) → SlotWord n recs' w
  named' x w m = go (ℕ_discrete x i)
    where
      zero_word : (w : ℕ) → w ≡ 0 → SlotWord n recs' w
      zero_word w e = unfold is_nil in (rw e refl)

      go : Dec (x ≡ i) → SlotWord n recs' w
      go (yes e) = zero_word w (mem-replicate v 0 w (rw (e, used-at) at m))
      go (no e) = or-last (is_nil w || is_immediate w) _ _ (I.named x w (rw (used-other x e) at m)) (names' w)

  -- the heap after it: the object has its new words, and nothing else changes
  view' : heap_in n recs' slots' s.sinks ≡ Lifecycle.given H i (replicate v 0)
  unfolding Lifecycle.given view flag field
  view' = λ j. record {
    n = n;
    kids = fun_ext kids j;
    sink = fun_ext (bits R.is_sink (new-sink v)) j;
    listed = take sink_max s.sinks;
    written = fun_ext (bits R.is_written (new-written v)) j;
    cluster = fun_ext (bits R.cluster (new-cluster v)) j;
    out = fun_ext (bits R.is_out (new-out v)) j;
  }
    where
      bits : {A : Type 0} (f : ℕ → A) → f (new_record v) ≡ f 0 → (x : ℕ) → f (rec_of n recs' x) ≡ f (record_in s x)
      bits f h x = go (ℕ_discrete x i)
        where
          go : Dec (x ≡ i) → f (rec_of n recs' x) ≡ f (record_in s x)
          go (yes e) = ap (λ (y : ℕ). f (rec_of n recs' y)) e ∙ ap f rec-at ∙ h ∙ sym (ap f blank) ∙ ap (λ (y : ℕ). f (record_in s y)) (sym e)
          go (no e) = ap f (rec-other x e)

      kids : (x : ℕ) → map (target n) (used_words n recs' slots' x)
          ≡ upd (λ y. map (target n) (words_of s y)) i (replicate v 0) x
      kids x = go (ℕ_discrete x i)
        where
          go : Dec (x ≡ i) → map (target n) (used_words n recs' slots' x)
              ≡ upd (λ y. map (target n) (words_of s y)) i (replicate v 0) x
          go (yes e) = rw (e, used-at, map-zero n v) (sym (upd_same (λ y. map (target n) (words_of s y)) i (replicate v 0)))
          go (no e) =
              ap (map (target n)) (used-other x e)
              ∙ sym (upd_other (λ y. map (target n) (words_of s y)) i x (replicate v 0) e)

  good' : Good (heap_in n recs' slots' s.sinks) s.control.write_loss
  good' =
      subst (λ (K : Heap). Good K s.control.write_loss) (sym view')
      (given-good H s.control.write_loss i (replicate v 0) I.good (unfold view flag field in (rw blank refl)) (λ k m. unfold view in (rw (mem-replicate v 0 k m) (omega arith))))

  -- the new object is in no cluster, so no set changes
  exact' : (h : ℕ) → 1 ≤ h → h ≤ n → rec_of n s.sets h ≡ set_word (heap_in n recs' slots' s.sinks) h
  exact' h p q = I.sets-exact h p q ∙ same ∙ ap (λ (K : Heap). set_word K h) (sym view')
    where
      same : set_word H h ≡ set_word (Lifecycle.given H i (replicate v 0)) h
      same = unfold Lifecycle.given in
          (set_word-same H (Lifecycle.given H i (replicate v 0)) h refl refl (λ x b. (λ e. e, λ e. e))
          (λ x b e. sym (upd_other H.kids i x (replicate v 0) (λ j. absurd (omega (arith, p, sym e ∙ ap H.cluster j ∙ none))))))
        where
          none : H.cluster i ≡ 0
          none = unfold view field in (rw blank refl)

  pub given-inv : Inv state'
  unfolding with_last
  given-inv = record {
    sound = last-sound s.control I.sound i high;
    recs-long = unfold each_record in (rw (length-each 1 n (λ x r. cond (eqb x i) (new_record v) r) s.records) I.recs-long);
    slots-long = unfold each_slot slots_len in (rw (length-each 0 (8 * n) (λ j w. cond (eqb (j / 8 + 1) i) 0 w) s.slots) I.slots-long);
    roots-long = I.roots-long;
    sinks-long = I.sinks-long;
    sets-long = I.sets-long;
    legal = legal';
    empty = empty';
    named = named';
    rooted = λ w m. or-last (is_nil w) _ _ (I.rooted w m) (names' w);
    single = I.single;
    sets-exact = exact';
    good = good';
  }

  pub given-cells : cells_of n recs' slots' ≡ set (cells_of n s.records s.slots) (i - 1) (object (replicate v 0) false)
  unfolding cells_of cell_of R.free
  given-cells = set-numbers (cell_of n s.records s.slots) (cell_of n recs' slots') 1 n (i - 1) _ at other
    where
      at : cell_of n recs' slots' (1 + (i - 1)) ≡ object (replicate v 0) false
      at =
          let e : 1 + (i - 1) ≡ i = omega arith in
          rw e (rw (used-at, rec-at, new-sink v, ne_eqb (new_record v) 0 (legal-nonzero n (new_record v) (new-legal v narrow n))) refl)

      other : (x : ℕ) → 1 ≤ x → x < 1 + n → x ≢ 1 + (i - 1) → cell_of n recs' slots' x ≡ cell_of n s.records s.slots x
      other x p q d =
          let e : x ≢ i = omega (arith, d) in
          rw (used-other x e, rec-other x e) refl

-- ---- the call

module _ (s : State) (I : Inv s) (v : ℕ) where
  same-given : given s.control s.records ≡ plain_given (plain_of s)
  unfolding given plain_given
  same-given =
      rw (cells-size s.control.n s.records s.slots)
      (first_of-same _ _ (candidates s.control.last s.control.n) (λ x. sym (at-free s.control.n s.records s.slots x))
      ∙ candidates-lowest _ s.control.last s.control.n I.sound.last)

  pub allocate-tests : first (Allocate.allocate_tests s.control v s.records s.slots)
      ≡ first ((3, ltb width_max v) ∷ (24, eqb (plain_given (plain_of s)) 0) ∷ [])
  unfolding Allocate.allocate_tests first slots_len
  allocate-tests =
      rw (inv-control s I, enough s.control.n s.records I.recs-long, enough (8 * s.control.n) s.slots I.slots-long, same-given) refl

  record Passed : Type 0 where
    low : 1 ≤ given s.control s.records
    high : given s.control s.records ≤ s.control.n
    blank : record_in s (given s.control s.records) ≡ 0
    narrow : v ≤ 8

  facts : first (Allocate.allocate_tests s.control v s.records s.slots) ≡ 0 → Passed
  unfolding Allocate.allocate_tests
  facts z =
      let t1 = first-passed 19 _ _ z in
      let t2 = first-passed 1 _ _ t1.1 in
      let t3 = first-passed 2 _ _ t2.1 in
      let t4 = first-passed 23 _ _ t3.1 in
      let f = candidates-found (λ x. R.free (record_in s x)) s.control.last s.control.n I.sound.last (unfold given in (eqb-false _ _ t4.0)) in
      unfold given R.free in (record { low = f.0.0; high = f.0.1; blank = eqb-true _ _ f.1; narrow = ltb-false _ _ t3.0 })

  abbrev state_of : Allocate.Outcome → State
  state_of o = record { control = o.answer.control; records = o.records; slots = o.slots; roots = s.roots; sinks = s.sinks; sets = s.sets }

  pub allocate-inv : Inv (step (allocate v) s).after
  unfolding step Allocate.allocate answer
  allocate-inv =
      all-by (λ (o : Allocate.Outcome). Inv (state_of o)) _ _ _
      (λ z. let F = facts z in given-inv s I (given s.control s.records) v F.low F.high F.blank F.narrow) (λ m. I)

  pub allocate-same : Same (allocate v) s
  unfolding step Allocate.allocate answer plain_step
  allocate-same = record {
    answers =
        same_by _ _ _ _ _ _ (λ (o : Allocate.Outcome). gave o.answer.refusal o.answer.object ∷ []) (λ (p : Played Plain). p.answers) allocate-tests
        (λ z. ap (λ (x : ℕ). gave 0 x ∷ []) same-given) (λ m. refl);
    after = same_by _ _ _ _ _ _ (λ (o : Allocate.Outcome). plain_of (state_of o)) (λ (p : Played Plain). p.after) allocate-tests
        (λ z. unfold with_last in (accepted (facts z))) (λ m. refl);
  }
    where
      accepted : Passed → ◌≡◌ {A = Plain}
          (record {
            last = given s.control s.records;
            roots = roots_of s;
            cells = cells_of s.control.n
                (each_record s.control.n (λ x r. cond (eqb x (given s.control s.records)) (new_record v) r) s.records)
                (each_slot s.control.n (λ x w. cond (eqb x (given s.control s.records)) 0 w) s.slots);
          })
          (record {
            last = plain_given (plain_of s);
            roots = roots_of s;
            cells = set (cells_of s.control.n s.records s.slots) (plain_given (plain_of s) - 1) (object (replicate v 0) false);
          })
      accepted F =
          ap (λ (l : List Cell). record { last = given s.control s.records; roots = roots_of s; cells = l })
          (given-cells s I (given s.control s.records) v F.low F.high F.blank F.narrow)
          ∙ ap (λ (x : ℕ). record { last = x; roots = roots_of s; cells = set (cells_of s.control.n s.records s.slots) (x - 1) (object (replicate v 0) false) }) same-given

-- the form that is lent the control record leaves the same state
pub allocated-in-place : (s : State) (v : ℕ) → step (allocate_in_place v) s ≡ step (allocate v) s
unfolding step Allocate.allocate_in_place
allocated-in-place s v = refl
