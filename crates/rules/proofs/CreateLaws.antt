-- Create: the invariant holds, and the plain heap is the one just created.
-- Assumes nothing.
use Prim.Native.Nat.{ℕ, zero, suc, ◌*◌, ◌≤◌}
use mathlib.Core.Path.{◌≡◌, refl, sym, ap, ◌∙◌, subst}
use mathlib.Core.Bool.{true, ◌||◌, false≢true}
use mathlib.Core.List.Memᴰ
use mathlib.Core.List.{List, [], ◌∷◌, map, Memᴰ}
use mathlib.Core.Logic.{inl}
use native.Mathlib.Nat.{suc-ne-zero}
use native.Mathlib.Omega.{arith}
use lib.ListN.{length, take, drop, replicate}
use borrow.Author.Tests.{ltb-false}
use Rattle.layout.proofs.RefusalLaws.{first-passed}
use Rattle.records.specs.Record as R
use Rattle.layout.specs.ControlRecord.{new_control, no_control}
use Rattle.layout.specs.declared.answers.Tuning.{Tuning}
use Rattle.layout.specs.Field.{field, flag}
use Rattle.layout.specs.Limits.{slots_len, sink_max}
use Rattle.records.specs.Record.{width}
use Rattle.layout.specs.Refusal.{first, by, outcome}
use Rattle.layout.specs.Word.{is_nil}
use Rattle.layout.proofs.ControlLaws.{Sizes, Tuned, sizes-facts, tuning-facts, new-sound}
use Rattle.graph.proofs.Lifecycle.{unclustered-good}
use Rattle.graph.proofs.State.{Good}
use Rattle.rules.specs.Buffers.{rec_of, short, short_heap, each_slot, zeros, eight, used_words, other_words, all_of}
use Rattle.rules.specs.View.{view, heap_in}
use Rattle.rules.specs.Create.{Outcome, gives, create_tests, create}
use Rattle.rules.specs.WellFormed.{once}
use Rattle.rules.specs.Plain.{vacant, plain_created}
use Rattle.rules.specs.Steps.{State, created}
use Rattle.rules.specs.PlainOf.{plain_of, cell_of, cells_of}
use Rattle.rules.proofs.ListLaws.{take-zeros, length-each, eight-each, same_numbers, const-numbers}
use Rattle.rules.proofs.BoolLaws.{or_split}
use Rattle.rules.proofs.ViewLaws.{view-closed}
use Rattle.rules.proofs.ListedLaws.{mem-replicate, once-zeros, rec_of-zeros}
use Rattle.rules.proofs.SetLaws.{set_word-none}
use Rattle.rules.proofs.Invariant.{Inv}

-- ---- zeroed words

pub nil-map : (l : List ℕ) (k : ℕ) → all_of is_nil (drop k (map (λ (w : ℕ). 0) l)) ≡ true
unfolding all_of is_nil
nil-map [] zero = refl
nil-map [] (suc k) = refl
nil-map (w ∷ l) zero = nil-map l 0
nil-map (w ∷ l) (suc k) = nil-map l k

-- ---- an accepted create

module _ (n r : ℕ) (t : Tuning) (recs slots roots list sets : List ℕ) where
  abbrev zeroed : State
  zeroed = record {
    control = new_control n r t;
    records = zeros n recs;
    slots = zeros (slots_len n) slots;
    roots = zeros r roots;
    sinks = zeros sink_max list;
    sets = zeros n sets;
  }

  pub record Fits : Type 0 where
    pub sizes : Sizes n r
    pub tuned : Tuned t
    pub recs-long : n ≤ length recs
    pub slots-long : 8 * n ≤ length slots
    pub roots-long : r ≤ length roots
    pub sinks-long : sink_max ≤ length list
    pub sets-long : n ≤ length sets

  fits : first (create_tests n r t recs slots roots list sets) ≡ 0 → Fits
  unfolding create_tests short short_heap slots_len
  fits z =
      let t1 = first-passed 0 _ _ z in
      let t30 = first-passed 29 _ _ t1.1 in
      let t2 = first-passed 1 _ _ t30.1 in
      let a = or_split _ _ t2.0 in
      let b = or_split _ _ a.0 in
      let d = or_split _ _ b.0 in
      let e = or_split _ _ d.0 in
      record {
        sizes = sizes-facts n r t1.0;
        tuned = tuning-facts t t30.0;
        recs-long = ltb-false _ _ e.0;
        slots-long = ltb-false _ _ e.1;
        roots-long = ltb-false _ _ d.1;
        sinks-long = ltb-false _ _ b.1;
        sets-long = ltb-false _ _ a.1;
      }

  -- accepted: the tests pass, and the state is zeroed
  pub accepted : (create n r t recs slots roots list sets).answer.refusal ≡ 0 → Fits × (created n r t recs slots roots list sets ≡ zeroed)
  unfolding create outcome created
  accepted e = go (first (create_tests n r t recs slots roots list sets)) refl e
    where
      go : (m : ℕ) → first (create_tests n r t recs slots roots list sets) ≡ m
          → (by {A = Outcome} m
          (gives (record { refusal = 0; control = new_control n r t }) (zeros n recs) (zeros (slots_len n) slots) (zeros r roots) (zeros sink_max list) (zeros n sets))
          (λ k. gives (record { refusal = k; control = no_control }) recs slots roots list sets)).answer.refusal ≡ 0
          → Fits × (created n r t recs slots roots list sets ≡ zeroed)
      go zero z h = (fits z, (unfold created create outcome in (rw z (unfold by in refl))))
      go (suc m) z h = absurd (suc-ne-zero m (unfold by in h))

  module _ (F : Fits) where
    blank : (x : ℕ) → rec_of n (zeros n recs) x ≡ 0
    blank = rec_of-zeros n recs

    no_words : (x : ℕ) → used_words n (zeros n recs) (zeros (slots_len n) slots) x ≡ []
    unfolding used_words field
    no_words x = rw (blank x) refl

    empty : (x : ℕ) → 1 ≤ x → x ≤ n → all_of is_nil (other_words n (zeros n recs) (zeros (slots_len n) slots) x) ≡ true
    unfolding other_words zeros slots_len each_slot
    empty x p q =
        ap (λ (l : List ℕ). all_of is_nil (drop (width (rec_of n (zeros n recs) x)) l)) (eight-each n (λ _ w. 0) slots x p q) ∙ nil-map (eight slots x) (width (rec_of n (zeros n recs) x))

    -- the 64 places are empty
    places : take sink_max (zeros sink_max list) ≡ replicate sink_max 0
    unfolding zeros
    places = take-zeros 0 sink_max list F.sinks-long

    vacant-list : (y : ℕ) → Memᴰ y (take sink_max (zeros sink_max list)) → y ≡ 0
    vacant-list y m = mem-replicate sink_max 0 y (subst (λ (l : List ℕ). Memᴰ y l) places m)

    no-cluster : (x : ℕ) → (view n (zeros n recs) (zeros (slots_len n) slots)).cluster x ≡ 0
    unfolding view field
    no-cluster x = rw (blank x) refl

    good : Good (heap_in n (zeros n recs) (zeros (slots_len n) slots) (zeros sink_max list)) 0
    unfolding view flag field
    good =
        unclustered-good (heap_in n (zeros n recs) (zeros (slots_len n) slots) (zeros sink_max list)) no-cluster (λ x. ap R.is_out (blank x))
        (λ x y m. view-closed n (zeros n recs) (zeros (slots_len n) slots) x y m) (λ y m nz. absurd (nz (vacant-list y m)))
        (λ y e. absurd (false≢true (sym (ap R.is_sink (blank y)) ∙ e))) (λ e. false≢true (sym (ap R.is_sink (blank 0)) ∙ e))

    pub zeroed-inv : Inv zeroed
    unfolding new_control
    zeroed-inv = record {
      sound = new-sound n r t F.sizes F.tuned;
      recs-long = unfold zeros in (rw (length-each 0 n (λ _ w. 0) recs) F.recs-long);
      slots-long = unfold zeros slots_len in (rw (length-each 0 (8 * n) (λ _ w. 0) slots) F.slots-long);
      roots-long = unfold zeros in (rw (length-each 0 r (λ _ w. 0) roots) F.roots-long);
      sinks-long = unfold zeros in (rw (length-each 0 sink_max (λ _ w. 0) list) F.sinks-long);
      sets-long = unfold zeros in (rw (length-each 0 n (λ _ w. 0) sets) F.sets-long);
      legal = λ x. inl (blank x);
      empty = empty;
      named = λ x w m. absurd (Memᴰ.not-nil (rw (no_words x) at m));
      rooted = λ w m. root w (mem-replicate r 0 w (unfold zeros in (rw (take-zeros 0 r roots F.roots-long) at m)));
      single = ap once places ∙ once-zeros sink_max;
      sets-exact = λ h p q. rec_of-zeros n sets h
          ∙ sym (set_word-none (heap_in n (zeros n recs) (zeros (slots_len n) slots) (zeros sink_max list)) h (λ x b e. absurd (omega (arith, p, sym e ∙ no-cluster x))));
      good = good;
    }
      where
        root : (w : ℕ) → w ≡ 0 → (is_nil w || Rattle.rules.specs.WellFormed.names n (zeros n recs) w) ≡ true
        root w e = unfold is_nil in (rw e refl)

    pub zeroed-plain : plain_of zeroed ≡ plain_created n r
    unfolding new_control plain_created zeros
    zeroed-plain = λ i. record { last = 0; roots = take-zeros 0 r roots F.roots-long i; cells = cells i }
      where
        cell : (x : ℕ) → cell_of n (zeros n recs) (zeros (slots_len n) slots) x ≡ vacant
        cell x = unfold cell_of R.free in (rw (blank x) refl)

        cells : cells_of n (zeros n recs) (zeros (slots_len n) slots) ≡ replicate n vacant
        cells =
            unfold cells_of in (same_numbers (cell_of n (zeros n recs) (zeros (slots_len n) slots)) (λ (x : ℕ). vacant) 1 n (λ x p q. cell x) ∙ const-numbers vacant 1 n)
