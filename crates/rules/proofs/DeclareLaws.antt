-- Declare sink, of the buffers and of the plain heap.
-- Assumes nothing.
use Prim.Native.Nat.{ℕ, zero, suc, ◌+◌, ◌-◌, ◌≤◌, ◌<◌, ◌^◌}
use mathlib.Core.Path.{◌≡◌, refl, sym, ap, ap₂, ◌∙◌, subst, fun_ext}
use mathlib.Core.Bool.{Bool, true, false, not, cond, ◌&&◌, true≢false}
use mathlib.Core.List.{List, [], ◌∷◌, ◌++◌, map, Memᴰ}
use mathlib.Core.Logic.{◌≢◌}
use native.Mathlib.Nat.{suc-ne-zero}
use native.Mathlib.Omega.{arith}
use lib.Dec.{eqb, leb}
use lib.ListN.{set, length, take, drop}
use lib.Seq.{length-take-le}
use borrow.Author.Tests.{not-false, eqb-true, eqb-false, ne_eqb, ltb-false}
use Rattle.layout.proofs.RefusalLaws.{first-passed, outcome-zero}
use Rattle.layout.proofs.ControlLaws.{control-facts}
use Rattle.records.specs.Record.{is_sink, cluster}
use Rattle.records.specs.Record as R
use Rattle.layout.specs.Field.{field, flag}
use Rattle.layout.specs.Limits.{sink_max}
use Rattle.layout.specs.Refusal.{first}
use Rattle.graph.specs.Clusters.{keep, out_bit, others}
use Rattle.graph.specs.Numbers.{upd, has, count, gather}
use Rattle.graph.specs.Writes.{declare, placed}
use Rattle.graph.proofs.NumberLaws.{upd_same, upd_other, has_in}
use Rattle.graph.proofs.Paths.{keep-zero}
use Rattle.graph.proofs.State.{Good}
use Rattle.graph.proofs.WritesLaws.{declare-good, declare-again}
use Rattle.rules.specs.Buffers.{short, short_heap}
use Rattle.rules.specs.View.{view, listing, exact_sets, target, encoded}
use Rattle.rules.specs.WellFormed.{once}
use Rattle.rules.specs.Calls.{declare_sink, did}
use Rattle.rules.specs.DeclareSink as Declare
use Rattle.rules.specs.Plain.{Plain, Played, Cell, vacant, object, plain_words, plain_sink, plain_sinks, object_tests, with_cell, answer, plain_step}
use Rattle.rules.specs.Steps.{State, step}
use Rattle.rules.specs.Demands.{heap_of, record_in, refusal_of, Declares, words_of, roots_of}
use Rattle.rules.specs.PlainOf.{plain_of, cell_of, cells_of}
use Rattle.rules.proofs.BoolLaws.{or_split}
use Rattle.rules.proofs.ListLaws.{set-numbers}
use Rattle.rules.proofs.ListedLaws.{listed-count, gather-length, full-places}
use Rattle.rules.proofs.PlacedLaws.{once-placed, vacancy, vacancy-in, take-placed, placed-long, placed-set}
use Rattle.rules.proofs.SetLaws.{length-exact, exact-at}
use Rattle.rules.proofs.EncodedRecord.{encoded-sink, encoded-cluster}
use Rattle.rules.proofs.WellFormedLaws.{Sane, formed-of, sane}
use Rattle.rules.proofs.SaneLaws.{sane-low, sane-sinks}
use Rattle.rules.proofs.Refused.{answered}
use Rattle.rules.proofs.Invariant.{Inv, inv-control, inv-long, inv-lists, inv-formed}
use Rattle.rules.proofs.Abstraction.{cells-size, at-free, at_words, at-sink}
use Rattle.rules.proofs.Simulation.{Same, same_by, all-by, pointer-facts}
use Rattle.rules.proofs.EncodedState.{good-fits, encoded-cell, encoded-inv, encoded-view}
use Rattle.rules.proofs.EncodedLaws.{Fits, read_at}

-- test 29 passes, of an object that is no sink
vacant-by : (b h : Bool) → b ≡ false → (not b && not h) ≡ false → h ≡ true
vacant-by true h e f = absurd (true≢false e)
vacant-by false h e f = not-false h f

module _ (s : State) (i : ℕ) where
  -- the outcome for a sink, and for any other object
  abbrev outcome_by : Bool → Declare.Outcome
  outcome_by b =
      cond b (Declare.gives (record { refusal = 0; control = s.control }) s.records s.sinks s.sets)
      (Declare.gives (record { refusal = 0; control = s.control }) (encoded (declare (heap_of s) i) s.records)
      ((declare (heap_of s) i).listed ++ drop sink_max s.sinks) (exact_sets (declare (heap_of s) i) s.sets))

  refusal-by : (b : Bool) → (outcome_by b).answer.refusal ≡ 0
  refusal-by true = refl
  refusal-by false = refl

  -- the refusal is that of the tests
  pub declare-answered : refusal_of (declare_sink i) s
      ≡ first (Declare.declare_tests s.control i s.records s.slots s.roots s.sinks s.sets)
  unfolding Declare.declare_sink
  declare-answered =
      answered _ (outcome_by (is_sink (record_in s i))) (λ k. Declare.gives (record { refusal = k; control = s.control }) s.records s.sinks s.sets)
      (λ (o : Declare.Outcome). o.answer.refusal) (refusal-by (is_sink (record_in s i))) (λ k. refl)

-- the state after it
abbrev state_of : State → Declare.Outcome → State
state_of s o = record { control = o.answer.control; records = o.records; slots = s.slots; roots = s.roots; sinks = o.sinks; sets = o.sets }

module _ (s : State) (I : Inv s) where
  -- no place is empty exactly where 64 objects are sinks
  pub full-count : not (has 0 (take sink_max s.sinks)) ≡ leb sink_max (count s.control.n (λ x. is_sink (record_in s x)))
  full-count =
      full-places (take sink_max s.sinks)
      ∙ ap₂ leb (length-take-le sink_max s.sinks I.sinks-long)
      (listed-count s.control.n (λ x. is_sink (record_in s x)) (take sink_max s.sinks) (inv-lists s I))

  plain-count : length (plain_sinks (plain_of s)) ≡ count s.control.n (λ x. is_sink (record_in s x))
  unfolding plain_sinks plain_sink
  plain-count =
      (λ i. length (gather (cells-size s.control.n s.records s.slots i) (fun_ext (at-sink s.control.n s.records s.slots) i) (λ x. x ∷ [])))
      ∙ gather-length s.control.n (λ x. is_sink (record_in s x))

  pub declare-tests : (i : ℕ) → first (Declare.declare_tests s.control i s.records s.slots s.roots s.sinks s.sets)
      ≡ first (object_tests (plain_of s) i ++ ((29, not (plain_sink (plain_of s) i) && leb sink_max (length (plain_sinks (plain_of s)))) ∷ []))
  unfolding Declare.declare_tests first object_tests plain_sink
  declare-tests i =
      rw (
        inv-control s I,
        inv-long s I,
        inv-formed s I,
        plain-count,
        full-count,
        cells-size s.control.n s.records s.slots,
        at-free s.control.n s.records s.slots i,
        at-sink s.control.n s.records s.slots i,
      )
      refl

  -- what the tests leave
  record Passed (i : ℕ) : Type 0 where
    low : 1 ≤ i
    high : i ≤ s.control.n
    there : record_in s i ≢ 0
    room : is_sink (record_in s i) ≡ false → Memᴰ 0 (take sink_max s.sinks)

  facts : (i : ℕ) → first (Declare.declare_tests s.control i s.records s.slots s.roots s.sinks s.sets) ≡ 0 → Passed i
  unfolding Declare.declare_tests R.free
  facts i z =
      let t1 = first-passed 19 _ _ z in
      let t2 = first-passed 1 _ _ t1.1 in
      let t3 = first-passed 3 _ _ t2.1 in
      let t4 = first-passed 20 _ _ t3.1 in
      let t5 = first-passed 21 _ _ t4.1 in
      let t6 = first-passed 28 _ _ t5.1 in
      let r = pointer-facts s.control.n i (not-false _ t3.0) in
      record { low = r.0; high = r.1; there = eqb-false _ _ t5.0; room = λ e. has_in 0 _ (vacant-by (is_sink (record_in s i)) _ e t6.0) }

  abbrev state_by : ℕ → Bool → State
  state_by i b = state_of s (outcome_by s i b)

  abbrev sink_by : ℕ → ℕ → Bool
  sink_by i = upd (heap_of s).sink i true

  abbrev cl_by : ℕ → ℕ → ℕ
  cl_by i = keep (others ((heap_of s).cluster i)) (heap_of s).cluster

  G : (i : ℕ) → Passed i → Good (declare (heap_of s) i) s.control.write_loss
  unfolding view flag field
  G i F = declare-good (heap_of s) s.control.write_loss i I.good (λ z. absurd (omega (arith, F.low, z))) F.high F.room

  -- the heap after the declaration fits the records
  fits : (i : ℕ) → Passed i
      → Fits s.control.n s.records (sink_by i) (heap_of s).written (out_bit (heap_of s).kids (sink_by i) (cl_by i)) (cl_by i)
  unfolding declare view flag field
  fits i F = good-fits (G i F) (λ x q.
      (upd_other (heap_of s).sink i x true (λ j. F.there (ap (record_in s) (sym j) ∙ q)) ∙ rw q refl, rw q refl, keep-zero (others ((heap_of s).cluster i)) (heap_of s).cluster x (rw q refl)))

  -- its list: a new sink has the first empty place
  placed-list : (i : ℕ) → is_sink (record_in s i) ≡ false → (declare (heap_of s) i).listed ≡ placed i (take sink_max s.sinks)
  unfolding declare view flag field
  placed-list i e = rw e refl

  listed-after : (i : ℕ) → is_sink (record_in s i) ≡ false → take sink_max ((declare (heap_of s) i).listed ++ drop sink_max s.sinks) ≡ (declare (heap_of s) i).listed
  listed-after i e = rw (placed-list i e) (take-placed i sink_max s.sinks I.sinks-long)

  long_after : (i : ℕ) → is_sink (record_in s i) ≡ false → sink_max ≤ length ((declare (heap_of s) i).listed ++ drop sink_max s.sinks)
  long_after i e = rw (placed-list i e, placed-long i sink_max s.sinks I.sinks-long) I.sinks-long

  once_after : (i : ℕ) → 1 ≤ i → is_sink (record_in s i) ≡ false → once (declare (heap_of s) i).listed ≡ true
  once_after i p e =
      rw (placed-list i e)
      (once-placed i (take sink_max s.sinks) (λ m. true≢false (sym ((inv-lists s I).from i m (λ z. absurd (omega (arith, p, z)))).1 ∙ e)) I.single)

  same-kids : (x : ℕ) → map (target s.control.n) (words_of s x) ≡ (heap_of s).kids x
  unfolding view
  same-kids x = refl

  -- the plain heap with other cells
  abbrev plain_with : List Cell → Plain
  plain_with l = record { last = s.control.last; roots = roots_of s; cells = l }

  done : (i : ℕ) → Passed i → (b : Bool) → flag 2 (record_in s i) ≡ b
      → Inv (state_by i b)
      × (plain_of (state_by i b) ≡ plain_with (set (cells_of s.control.n s.records s.slots) (i - 1) (object (words_of s i) true)))
  done zero F b e = absurd (omega (arith, F.low))
  done (suc i) F true e = (I, rw z (ap plain_with cells))
    where
      z : suc i - 1 ≡ i
      z = omega arith

      cells : cells_of s.control.n s.records s.slots
          ≡ set (cells_of s.control.n s.records s.slots) i (object (words_of s (suc i)) true)
      cells =
          unfold cells_of in (set-numbers (cell_of s.control.n s.records s.slots) (cell_of s.control.n s.records s.slots) 1 s.control.n i _ at (λ x p q d. refl))
        where
          at : cell_of s.control.n s.records s.slots (1 + i) ≡ object (words_of s (suc i)) true
          at =
              let y : 1 + i ≡ suc i = omega arith in
              rw y (unfold cell_of R.free in (rw (ne_eqb (record_in s (suc i)) 0 F.there, e) refl))
  done (suc i) F false e = (inv, rw z (ap plain_with cells))
    where
      z : suc i - 1 ≡ i
      z = omega arith

      inv : Inv (state_by (suc i) false)
      inv = unfold declare view in
          (encoded-inv s I (heap_of s).kids (declare (heap_of s) (suc i)).listed (fits (suc i) F) s.slots same-kids (state_by (suc i) false).sinks (state_by (suc i) false).sets
          s.control.last s.control.limit s.control.write_loss s.control.out_loss (G (suc i) F) I.sound I.slots-long I.empty I.named
          (long_after (suc i) e) (listed-after (suc i) e) (once_after (suc i) F.low e)
          (rw (length-exact (declare (heap_of s) (suc i)) s.sets) I.sets-long) (λ h p q. exact-at (declare (heap_of s) (suc i)) s.sets h (p, q) I.sets-long))

      cell : (x : ℕ) → cell_of s.control.n (state_by (suc i) false).records s.slots x
          ≡ cond (R.free (record_in s x)) vacant (object (words_of s x) (sink_by (suc i) x))
      cell x = unfold declare view in (encoded-cell s I (heap_of s).kids (declare (heap_of s) (suc i)).listed (fits (suc i) F) s.slots x)

      cells : cells_of s.control.n (state_by (suc i) false).records s.slots
          ≡ set (cells_of s.control.n s.records s.slots) i (object (words_of s (suc i)) true)
      cells =
          unfold cells_of in (set-numbers (cell_of s.control.n s.records s.slots) (cell_of s.control.n (state_by (suc i) false).records s.slots) 1 s.control.n i _ at other)
        where
          at : cell_of s.control.n (state_by (suc i) false).records s.slots (1 + i) ≡ object (words_of s (suc i)) true
          at =
              let y : 1 + i ≡ suc i = omega arith in
              rw y (cell (suc i) ∙ unfold R.free in (rw (ne_eqb (record_in s (suc i)) 0 F.there, upd_same (heap_of s).sink (suc i) true) refl))

          other : (x : ℕ) → 1 ≤ x → x < 1 + s.control.n → x ≢ 1 + i → cell_of s.control.n (state_by (suc i) false).records s.slots x
              ≡ cell_of s.control.n s.records s.slots x
          other x p q d =
              let y : x ≢ suc i = omega (arith, d) in
              cell x ∙ rw (upd_other (heap_of s).sink (suc i) x true y) (unfold cell_of view flag field in refl)

  pub declare-inv : (i : ℕ) → Inv (step (declare_sink i) s).after
  unfolding step Declare.declare_sink answer
  declare-inv i = all-by (λ (o : Declare.Outcome). Inv (state_of s o)) _ _ _ (λ z. (done i (facts i z) _ refl).0) (λ m. I)

  pub declare-same : (i : ℕ) → Same (declare_sink i) s
  unfolding step Declare.declare_sink answer plain_step
  declare-same i = record {
    answers = same_by _ _ _ _ _ _ (λ (o : Declare.Outcome). did o.answer.refusal ∷ []) (λ (p : Played Plain). p.answers) (declare-tests i)
        (λ z. ap (λ (k : ℕ). did k ∷ []) (refusal-by s i (is_sink (record_in s i)))) (λ m. refl);
    after = same_by _ _ _ _ _ _ (λ (o : Declare.Outcome). plain_of (state_of s o)) (λ (p : Played Plain). p.after) (declare-tests i) (λ z. accepted (facts i z)) (λ m. refl);
  }
    where
      accepted : Passed i → plain_of (state_by i (flag 2 (record_in s i))) ≡ with_cell (plain_of s) i (object (plain_words (plain_of s) i) true)
      accepted F = unfold with_cell plain_words in
          (rw (at_words s.control.n s.records s.slots i)
          (done i F _ refl).1)

  done-view : (i : ℕ) → Passed i → (b : Bool) → flag 2 (record_in s i) ≡ b → heap_of (state_by i b) ≡ declare (heap_of s) i
  done-view i F true e = sym (declare-again (heap_of s) s.control.write_loss i I.good (unfold view flag field in e))
  done-view i F false e =
      ap (λ (l : List ℕ). listing l (view s.control.n (state_by i false).records s.slots)) (listed-after i e)
      ∙ unfold declare view in (encoded-view s I (heap_of s).kids (declare (heap_of s) i).listed (fits i F) s.slots same-kids)

  -- the buffers hold the heap that the rule gives
  pub declare-ruled : (i : ℕ) → (Declare.declare_sink s.control i s.records s.slots s.roots s.sinks s.sets).answer.refusal ≡ 0
      → heap_of (step (declare_sink i) s).after ≡ declare (heap_of s) i
  unfolding step Declare.declare_sink answer
  declare-ruled i =
      all-by (λ (o : Declare.Outcome). o.answer.refusal ≡ 0 → heap_of (state_of s o) ≡ declare (heap_of s) i) _ _ _
      (λ z e. done-view i (facts i z) _ refl) (λ m e. absurd (suc-ne-zero m e))

-- ---- every accepted declaration

module _ (s : State) (i : ℕ) (accepted : refusal_of (declare_sink i) s ≡ 0) where
  abbrev sunk : Bool
  sunk = is_sink (record_in s i)

  none : first (Declare.declare_tests s.control i s.records s.slots s.roots s.sinks s.sets) ≡ 0
  none = sym (declare-answered s i) ∙ accepted

  passed : (s.control.n < 2 ^ 12) × (s.control.n ≤ length s.records) × Sane s.control.n s.control.r s.records s.slots s.roots
      × (record_in s i ≢ 0) × (sink_max ≤ length s.sinks) × (is_sink (record_in s i) ≡ false → has 0 (take sink_max s.sinks) ≡ true)
  unfolding Declare.declare_tests R.free short short_heap
  passed =
      let t1 = first-passed 19 _ _ none in
      let t2 = first-passed 1 _ _ t1.1 in
      let t3 = first-passed 3 _ _ t2.1 in
      let t4 = first-passed 20 _ _ t3.1 in
      let t5 = first-passed 21 _ _ t4.1 in
      let t6 = first-passed 28 _ _ t5.1 in
      let size = (control-facts s.control t1.0).sizes.most in
      let small : s.control.n < 2 ^ 12 = omega (arith, size) in
      let d = or_split _ _ (or_split _ _ t2.0).0 in (
        small,
        ltb-false _ _ (or_split _ _ (or_split _ _ d.0).0).0,
        sane _ _ _ _ _ (formed-of s.control s.records s.slots s.roots s.sinks s.sets (not-false _ t4.0)),
        eqb-false _ _ t5.0,
        ltb-false _ _ d.1,
        λ e. vacant-by (is_sink (record_in s i)) _ e t6.0,
      )

  declared-after : (step (declare_sink i) s).after ≡ state_of s (outcome_by s i sunk)
  unfolding step Declare.declare_sink answer
  declared-after = ap (state_of s) (outcome-zero _ _ _ none)

  abbrev now : Bool → ℕ → ℕ
  now b x = record_in (state_of s (outcome_by s i b)) x

  sinks-by : (b : Bool) → sunk ≡ b → (x : ℕ) → is_sink (now b x) ≡ cond (eqb x i) true (is_sink (record_in s x))
  sinks-by true e x = go (eqb x i) refl
    where
      go : (c : Bool) → eqb x i ≡ c → is_sink (record_in s x) ≡ cond c true (is_sink (record_in s x))
      go true h = ap (λ y. is_sink (record_in s y)) (eqb-true x i h) ∙ e
      go false h = refl
  sinks-by false e x = unfold declare view upd in
      (read_at s.control.n (declare (heap_of s) i) refl s.records passed.1 is_sink (λ y. cond (eqb y i) true (is_sink (record_in s y))) blank (λ y. encoded-sink _ _ _ _ _) x)
    where
      blank : (y : ℕ) → record_in s y ≡ 0 → is_sink 0 ≡ cond (eqb y i) true (is_sink (record_in s y))
      blank y z = rw (ne_eqb y i (λ q. passed.3 (ap (record_in s) (sym q) ∙ z)), z) refl

  clusters-by : (b : Bool) → sunk ≡ b → (x : ℕ) → cluster (now b x) ≡ cond (eqb (cluster (record_in s x)) (cluster (record_in s i))) 0 (cluster (record_in s x))
  clusters-by true e x = rw loner (go (eqb (cluster (record_in s x)) 0) refl)
    where
      loner : cluster (record_in s i) ≡ 0
      loner = unfold view in (sane-sinks passed.2 i e)

      go : (c : Bool) → eqb (cluster (record_in s x)) 0 ≡ c → cluster (record_in s x) ≡ cond c 0 (cluster (record_in s x))
      go true h = eqb-true (cluster (record_in s x)) 0 h
      go false h = refl
  clusters-by false e x = unfold declare view keep others in
      (read_at s.control.n (declare (heap_of s) i) refl s.records passed.1 cluster (λ y. cond (same y) 0 (cluster (record_in s y)))
      (λ y. blank y (same y)) (λ y. encoded-cluster _ _ _ _ _ (fits y (same y)) ∙ member y (same y)) x)
    where
      same : ℕ → Bool
      same y = eqb (cluster (record_in s y)) (cluster (record_in s i))

      fits : (y : ℕ) (b : Bool) → cond (not b) (cluster (record_in s y)) 0 < 2 ^ 12
      fits y true = omega arith
      fits y false = omega (arith, sane-low passed.2 y, passed.0)

      member : (y : ℕ) (b : Bool) → cond (not b) (cluster (record_in s y)) 0 ≡ cond b 0 (cluster (record_in s y))
      member y true = refl
      member y false = refl

      blank : (y : ℕ) (b : Bool) → record_in s y ≡ 0 → cluster 0 ≡ cond b 0 (cluster (record_in s y))
      blank y true z = unfold field in refl
      blank y false z = ap cluster (sym z)

  pub declare-does : Declares s i
  declare-does = record {
    sinks = λ x. subst (λ (t : State). is_sink (record_in t x) ≡ cond (eqb x i) true (is_sink (record_in s x))) (sym declared-after) (sinks-by sunk refl x);
    dissolved = λ x.
        subst (λ (t : State). cluster (record_in t x) ≡ cond (eqb (cluster (record_in s x)) (cluster (record_in s i))) 0 (cluster (record_in s x))) (sym declared-after)
        (clusters-by sunk refl x);
    places = λ e.
        let v = vacancy (take sink_max s.sinks) (passed.5 e) in
        let l = vacancy-in i sink_max s.sinks passed.4 v in
        (v.place, l.0, l.1, l.2, ap (λ (t : State). t.sinks) declared-after ∙ placed_by e sunk refl ∙ placed-set i sink_max s.sinks passed.4 v);
  }
    where
      placed_by : is_sink (record_in s i) ≡ false → (b : Bool) → sunk ≡ b → (outcome_by s i b).sinks ≡ placed i (take sink_max s.sinks) ++ drop sink_max s.sinks
      placed_by e true f = absurd (true≢false (sym f ∙ e))
      placed_by e false f = unfold declare view flag field in (rw e refl)

-- a second declaration, accepted or refused, in any heap
pub declare-twice : (s : State) (i : ℕ) → is_sink (record_in s i) ≡ true → (step (declare_sink i) s).after ≡ s
unfolding step answer Declare.declare_sink
declare-twice s i e =
    all-by
    (λ (o : Declare.Outcome). ◌≡◌ {A = State}
    (record { control = o.answer.control; records = o.records; slots = s.slots; roots = s.roots; sinks = o.sinks; sets = o.sets }) s)
    _ _ _ (λ z. rw e refl) (λ m. refl)
