-- Of every input: what an accepted call answers and stores, and the control record that each hands back.
-- Assumes nothing.
use Prim.Native.Nat.{ℕ, suc, ◌+◌, ◌-◌, ◌*◌, ◌≤◌, ◌<◌}
use mathlib.Core.Path.{◌≡◌, refl, sym, ap, ◌∙◌}
use mathlib.Core.Bool.{Bool, true, false, cond, ◌||◌}
use mathlib.Core.List.{List, [], ◌∷◌, map}
use mathlib.Core.Logic.{◌≢◌, ◌⊎◌, inl, inr}
use native.Mathlib.Nat.{suc-ne-zero}
use native.Mathlib.Omega.{arith}
use lib.Dec.{eqb, ltb}
use lib.ListN.{length, get_or, take, drop, replicate}
use borrow.Author.Tests.{leb-false, ltb-false, eqb-true, eqb-false, eq-eqb}
use Rattle.layout.specs.ControlRecord.{new_control, with_last, with_write_loss}
use Rattle.layout.specs.Field.{put, put_flag, digit}
use Rattle.layout.specs.Limits.{sink_max, slots_len}
use Rattle.layout.specs.Refusal.{Test, first, outcome}
use Rattle.layout.specs.declared.answers.Control.{Control}
use Rattle.layout.specs.declared.answers.Tuning.{Tuning}
use Rattle.layout.specs.declared.answers.WordRead.{WordRead}
use Rattle.layout.proofs.ControlLaws.{control-facts}
use Rattle.layout.proofs.RefusalLaws.{first-passed}
use Rattle.records.specs.Record.{is_written, is_sink, width, cluster, loose, new_record}
use Rattle.records.specs.Record as R
use Rattle.graph.specs.Numbers.{Obj}
use Rattle.graph.specs.Heap.{Heap}
use Rattle.graph.specs.Clusters.{keep}
use Rattle.graph.specs.Writes.{dissolves, store_by, store}
use Rattle.graph.proofs.NumberLaws.{upd_same, upd_other}
use Rattle.graph.proofs.WritesLaws.{points-clustered}
use Rattle.rules.specs.Buffers.{short, short_heap, rec_of, eight, used_words, each_record, each_slot, zeros}
use Rattle.rules.specs.View.{view, heap_in, target, encoded_record, encoded}
use Rattle.rules.specs.Create as Create
use Rattle.rules.specs.Allocate as Allocate
use Rattle.rules.specs.Read as Read
use Rattle.rules.specs.Show as Show
use Rattle.rules.specs.Write as Write
use Rattle.rules.specs.SetRoot as SetRoot
use Rattle.rules.specs.DeclareSink as DeclareSink
use Rattle.rules.specs.Collect.{Kind}
use Rattle.rules.specs.Collect as Collect
use Rattle.rules.specs.Demands.{Refuses, here, there, Cleared, Stored, Touches, Gives}
use Rattle.rules.proofs.BoolLaws.{or_split}
use Rattle.rules.proofs.BufferLaws.{used-part, used-get, record-given, record-kept, words-given, words-kept}
use Rattle.rules.proofs.Frames.{clears, named, write-named, slot-fits, root-fits}
use Rattle.rules.proofs.EncodedRecord.{encoded-written, encoded-same}
use Rattle.rules.proofs.ListLaws.{length-eight}
use Rattle.rules.proofs.Refused.{refuses, answered}
use Rattle.rules.proofs.SearchLaws.{candidates-found, candidates-first}
use Rattle.rules.proofs.StoreLaws.{encoded-dissolved, store-size}
use Rattle.rules.proofs.EncodedLaws.{encoded-at}
use Rattle.rules.proofs.Simulation.{all-by}

-- ---- create

pub create-new : (n r : ℕ) (t : Tuning) (recs slots roots list sets : List ℕ)
    → let o = Create.create n r t recs slots roots list sets in
    o.answer.refusal ≡ 0
    → (o.answer.control ≡ new_control n r t) × Cleared n o.records × Cleared (slots_len n) o.slots × Cleared r o.roots
    × Cleared sink_max o.sinks × Cleared n o.sets
unfolding Create.create
create-new n r t recs slots roots list sets =
    all-by
    (λ (o : Create.Outcome).
    o.answer.refusal ≡ 0
    → (o.answer.control ≡ new_control n r t) × Cleared n o.records × Cleared (slots_len n) o.slots × Cleared r o.roots
    × Cleared sink_max o.sinks × Cleared n o.sets) _ _ _
    (λ z e. new z) (λ m e. absurd (suc-ne-zero m e))
  where
    new : first (Create.create_tests n r t recs slots roots list sets) ≡ 0
        → (new_control n r t ≡ new_control n r t) × Cleared n (zeros n recs) × Cleared (slots_len n) (zeros (slots_len n) slots) × Cleared r (zeros r roots)
        × Cleared sink_max (zeros sink_max list) × Cleared n (zeros n sets)
    new z = unfold Create.create_tests short_heap in
        (let t1 = first-passed 0 _ _ z in
        let t30 = first-passed 29 _ _ t1.1 in
        let t2 = first-passed 1 (short n recs || short (slots_len n) slots || short r roots || short sink_max list || short n sets) _ t30.1 in
        let e = or_split (short n recs || short (slots_len n) slots || short r roots || short sink_max list) (short n sets) t2.0 in
        let d = or_split (short n recs || short (slots_len n) slots || short r roots) (short sink_max list) e.0 in
        let a = or_split (short n recs || short (slots_len n) slots) (short r roots) d.0 in
        let b = or_split (short n recs) (short (slots_len n) slots) a.0 in
        (refl, clears n recs b.0, clears (slots_len n) slots b.1, clears r roots a.1, clears sink_max list d.1, clears n sets e.1))

-- ---- allocate

new-number : (v : ℕ) → v ≤ 8 → new_record v ≡ 1 + 256 * v
unfolding new_record put put_flag digit
new-number v p = omega arith

nil-words : (l : List ℕ) → map {B = ℕ} (λ (w : ℕ). 0) l ≡ replicate (length l) 0
nil-words [] = refl
nil-words (w ∷ l) = ap (λ r. 0 ∷ r) (nil-words l)

module _ (c : Control) (v : ℕ) (recs slots : List ℕ) where
  abbrev g : ℕ
  g = Allocate.given c recs

  -- refused with 24
  full : Refuses 24 (Allocate.allocate_tests c v recs slots) → (x : ℕ) → Obj c.n x → rec_of c.n recs x ≢ 0
  unfolding Allocate.allocate_tests
  full (here q h) x b z = absurd (omega (arith, q))
  full (there h (here q k)) x b z = absurd (omega (arith, q))
  full (there h (there k (here q m))) x b z = absurd (omega (arith, q))
  full (there h (there k (there m (there _ x34)))) x b z = elim x34 [ ]
  full (there h (there k (there m (here q e)))) x b z =
      (candidates-first (λ y. R.free (rec_of c.n recs y)) c.last c.n x (control-facts c h).last b (unfold R.free in (eq-eqb _ 0 z))).0
      (unfold Allocate.given in (eqb-true _ 0 e))

  pub allocate-full : (Allocate.allocate c v recs slots).answer.refusal ≡ 24 → (x : ℕ) → Obj c.n x → rec_of c.n recs x ≢ 0
  unfolding Allocate.allocate
  allocate-full e = full (refuses _ 24 (omega arith) (sym (answered _ _ _ (λ (o : Allocate.Outcome). o.answer.refusal) refl (λ k. refl)) ∙ e))

  -- accepted
  abbrev after : Allocate.Outcome
  after = Allocate.gives (record { refusal = 0; object = g; control = with_last g c })
      (each_record c.n (λ x r. cond (eqb x g) (new_record v) r) recs) (each_slot c.n (λ x w. cond (eqb x g) 0 w) slots)

  gives : first (Allocate.allocate_tests c v recs slots) ≡ 0 → Gives c v recs slots g after
  unfolding Allocate.allocate_tests
  gives z =
      let t1 = first-passed 19 _ _ z in
      let t2 = first-passed 1 (short c.n recs || short (slots_len c.n) slots) _ t1.1 in
      let t3 = first-passed 2 _ _ t2.1 in
      let t4 = first-passed 23 _ _ t3.1 in
      let b = or_split (short c.n recs) (short (slots_len c.n) slots) t2.0 in
      given-facts (control-facts c t1.0).last (unfold short in (ltb-false (length recs) c.n b.0))
      (unfold short slots_len in (ltb-false (length slots) (8 * c.n) b.1)) (ltb-false 8 v t3.0) (eqb-false g 0 t4.0)
    where
      given-facts : c.last ≤ c.n → c.n ≤ length recs → 8 * c.n ≤ length slots → v ≤ 8 → g ≢ 0 → Gives c v recs slots g after
      given-facts l p q narrow d =
          let f = candidates-found (λ x. R.free (rec_of c.n recs x)) c.last c.n l (unfold Allocate.given in d) in
          let low : 1 ≤ g = unfold Allocate.given in f.0.0 in
          let high : g ≤ c.n = unfold Allocate.given in f.0.1 in
          record {
            object = (low, high);
            free = unfold Allocate.given R.free in (eqb-true _ 0 f.1);
            first = λ x b e. unfold Allocate.given in
                (candidates-first (λ x. R.free (rec_of c.n recs x)) c.last c.n x l b (unfold R.free in (eq-eqb _ 0 e))).1;
            used = record-given c.n g low high (new_record v) recs p ∙ new-number v narrow;
            words = words-given c.n g low high slots ∙ nil-words (eight slots g) ∙ ap (λ (k : ℕ). replicate k 0) (length-eight c.n slots g low high q);
            others = λ x b e. (record-kept c.n g low high (new_record v) recs p x e, words-kept c.n g low high slots x b.0 b.1 e);
            control = refl;
          }

  pub allocate-gives : let o = Allocate.allocate c v recs slots in o.answer.refusal ≡ 0 → Gives c v recs slots o.answer.object o
  unfolding Allocate.allocate
  allocate-gives =
      all-by (λ (o : Allocate.Outcome). o.answer.refusal ≡ 0 → Gives c v recs slots o.answer.object o) _ _ _
      (λ z e. gives z) (λ m e. absurd (suc-ne-zero m e))

  pub allocate-in-place : let o = Allocate.allocate c v recs slots in
      Allocate.allocate_in_place c v recs slots
      ≡ Allocate.gives_in_place (record { refusal = o.answer.refusal; object = o.answer.object }) o.answer.control o.records o.slots
  unfolding Allocate.allocate_in_place
  allocate-in-place = refl

-- ---- read, show, write, set root

pub read_word : (c : Control) (i k : ℕ) (recs slots : List ℕ)
    → let a = Read.read c i k recs slots in
    a.refusal ≡ 0 → (8 * (i - 1) + k < length slots) × (a.word ≡ get_or slots (8 * (i - 1) + k) 0)
unfolding Read.read
read_word c i k recs slots =
    all-by (λ (a : WordRead). a.refusal ≡ 0 → (8 * (i - 1) + k < length slots) × (a.word ≡ get_or slots (8 * (i - 1) + k) 0)) _ _ _
    (λ z e. word z) (λ m e. absurd (suc-ne-zero m e))
  where
    word : first (Read.read_tests c i k recs slots) ≡ 0
        → (8 * (i - 1) + k < length slots) × (get_or (used_words c.n recs slots i) k 0 ≡ get_or slots (8 * (i - 1) + k) 0)
    word z = unfold Read.read_tests in
        (let f = named c i recs slots _ (λ e. e) _ z in
        let l = leb-false (width (rec_of c.n recs i)) k (first-passed 4 _ _ f.1).0 in
        (omega (arith, f.0, l), used-get c.n recs slots i f.0.low f.0.narrow k l))

-- the part that is shown
abbrev Part : Control → ℕ → List ℕ → List ℕ → Show.Outcome → Type 0
Part c i recs slots o =
    (o.answer.start ≡ 8 * (i - 1)) × (o.answer.length ≡ width (rec_of c.n recs i)) × (o.answer.start + o.answer.length ≤ length slots)
    × (o.words ≡ take o.answer.length (drop o.answer.start slots))

pub show-part : (c : Control) (i : ℕ) (recs slots : List ℕ) → let o = Show.show c i recs slots in o.answer.refusal ≡ 0 → Part c i recs slots o
unfolding Show.show
show-part c i recs slots =
    all-by (λ (o : Show.Outcome). o.answer.refusal ≡ 0 → Part c i recs slots o) _ _ _
    (λ z e. let f = (named c i recs slots _ (λ e. e) [] (unfold Show.show_tests in z)).0 in
    (refl, refl, omega (arith, f), used-part c.n recs slots i f.low f.narrow)) (λ m e. absurd (suc-ne-zero m e))

-- the records after a store, dissolving or not
module _ (n : ℕ) (recs slots list : List ℕ) (i k t : ℕ) (low : 1 ≤ i) (high : i ≤ n) (long : n ≤ length recs) where
  abbrev H : Heap
  H = heap_in n recs slots list

  at : (d : Bool) (x : ℕ) → 1 ≤ x → x ≤ n
      → let K = store_by d H i k t in rec_of n (encoded K recs) x ≡ encoded_record (K.cluster x) (K.out x) (K.sink x) (K.written x) (rec_of n recs x)
  unfolding view
  at d = encoded-at n (store_by d H i k t) (store-size d H i k t) recs long

  own : (d : Bool) → is_written (rec_of n (encoded (store_by d H i k t) recs) i) ≡ true
  own d = ap is_written (at d i low high) ∙ encoded-written _ _ _ _ (rec_of n recs i) ∙ now d
    where
      now : (d : Bool) → (store_by d H i k t).written i ≡ true
      now true = unfold store_by in (upd_same H.written i true)
      now false = unfold store_by in (upd_same H.written i true)

  other : (d : Bool) → dissolves H i k t ≡ d → (x : ℕ) → Obj n x → x ≢ i
      → (rec_of n (encoded (store_by d H i k t) recs) x ≡ rec_of n recs x)
      ⊎ ((cluster (rec_of n recs i) ≢ 0) × (cluster (rec_of n recs x) ≡ cluster (rec_of n recs i)) × (rec_of n (encoded (store_by d H i k t) recs) x ≡ loose (rec_of n recs x)))
  unfolding store_by view
  other false e x b z = inl (at false x b.0 b.1 ∙ rw (upd_other H.out i x _ z, upd_other H.written i x true z) (encoded-same (rec_of n recs x)))
  other true e x b z =
      member (eqb (cluster (rec_of n recs x)) (cluster (rec_of n recs i))) refl
      (at true x b.0 b.1 ∙ rw (upd_other H.written i x true z) (unfold keep in (encoded-dissolved (rec_of n recs x) (cluster (rec_of n recs i)))))
    where
      member : {r : ℕ} (m : Bool) → eqb (cluster (rec_of n recs x)) (cluster (rec_of n recs i)) ≡ m
          → r ≡ cond (eqb (cluster (rec_of n recs x)) (cluster (rec_of n recs i))) (loose (rec_of n recs x)) (rec_of n recs x)
          → (r ≡ rec_of n recs x) ⊎ ((cluster (rec_of n recs i) ≢ 0) × (cluster (rec_of n recs x) ≡ cluster (rec_of n recs i)) × (r ≡ loose (rec_of n recs x)))
      member true q h = inr (points-clustered H i k t e, eqb-true _ _ q, rw q at h)
      member false q h = inl (rw q at h)

  touches : Touches n i (rec_of n recs) (rec_of n (encoded (store H i k t) recs))
  unfolding store
  touches = (own (dissolves H i k t), other (dissolves H i k t) refl)

-- the last of the tests of a write, 25, passes too
pub loss-passed : (c : Control) (i k w : ℕ) (recs slots list sets : List ℕ) → first (Write.write_tests c i k w recs slots list sets) ≡ 0
    → ltb c.n (Write.loss_after c i k w recs slots list sets) ≡ false
loss-passed c i k w recs slots list sets z =
    (first-passed 24 _ _ (first-passed 22 _ _ (first-passed 5 _ _ (first-passed 4 _ _ (write-named c i k w recs slots list sets z).1).1).1).1).0

pub write-stores : (c : Control) (i k w : ℕ) (recs slots list sets : List ℕ)
    → let o = Write.write c i k w recs slots list sets in
    o.answer.refusal ≡ 0 → Stored (8 * (i - 1) + k) w slots o.slots × Touches c.n i (rec_of c.n recs) (rec_of c.n o.records)
unfolding Write.write
write-stores c i k w recs slots list sets =
    all-by
    (λ (o : Write.Outcome). o.answer.refusal ≡ 0 → Stored (8 * (i - 1) + k) w slots o.slots × Touches c.n i (rec_of c.n recs) (rec_of c.n o.records)) _ _ _
    (λ z e.
    let f = (write-named c i k w recs slots list sets z).0 in
    ((within z, refl), touches c.n recs slots list i k (target c.n w) f.low f.high f.wide))
    (λ m e. absurd (suc-ne-zero m e))
  where
    within : first (Write.write_tests c i k w recs slots list sets) ≡ 0 → 8 * (i - 1) + k < length slots
    within z =
        let a = (write-named c i k w recs slots list sets z).0.long in
        let b : 8 * (i - 1) + k < 8 * c.n = unfold slots_len in (slot-fits c i k w recs slots list sets z) in
        omega arith

pub write-in-place : (c : Control) (i k w : ℕ) (recs slots list sets : List ℕ)
    → let o = Write.write c i k w recs slots list sets in
    Write.write_in_place c i k w recs slots list sets ≡ Write.gives_in_place o.answer.refusal o.answer.control o.records o.slots o.sets
unfolding Write.write_in_place
write-in-place c i k w recs slots list sets = refl

pub root-stores : (c : Control) (j w : ℕ) (recs roots : List ℕ)
    → let o = SetRoot.set_root c j w recs roots in o.answer.refusal ≡ 0 → Stored j w roots o.roots
unfolding SetRoot.set_root
root-stores c j w recs roots =
    all-by (λ (o : SetRoot.Outcome). o.answer.refusal ≡ 0 → Stored j w roots o.roots) _ _ _
    (λ z e. (let f = root-fits c j w recs roots z in omega (arith, f.0, f.1), refl)) (λ m e. absurd (suc-ne-zero m e))

-- ---- the control record

-- the same accepted and refused
handed-back : {A : Type 0} (control : A → Control) (c : Control) (o : A) (T : List Test) (a : A) (r : ℕ → A) → o ≡ outcome T a r → control a ≡ c
    → ((m : ℕ) → control (r m) ≡ c) → control o ≡ c
handed-back control c o T a r e p q = ap control e ∙ all-by (λ o. control o ≡ c) T a r (λ z. p) (λ m. q (suc m))

pub read-control : (c : Control) (i k : ℕ) (recs slots : List ℕ) → (Read.read c i k recs slots).control ≡ c
unfolding Read.read
read-control c i k recs slots = handed-back (λ (a : WordRead). a.control) c (Read.read c i k recs slots) _ _ _ refl refl (λ m. refl)

pub show-control : (c : Control) (i : ℕ) (recs slots : List ℕ) → (Show.show c i recs slots).answer.control ≡ c
unfolding Show.show
show-control c i recs slots = handed-back (λ (o : Show.Outcome). o.answer.control) c (Show.show c i recs slots) _ _ _ refl refl (λ m. refl)

pub write-control : (c : Control) (i k w : ℕ) (recs slots list sets : List ℕ)
    → let o = Write.write c i k w recs slots list sets in o.answer.control ≡ with_write_loss o.answer.control.write_loss c
unfolding Write.write with_write_loss
write-control c i k w recs slots list sets =
    all-by (λ (o : Write.Outcome). o.answer.control ≡ with_write_loss o.answer.control.write_loss c) _ _ _ (λ z. refl) (λ m. refl)

pub root-control : (c : Control) (j w : ℕ) (recs roots : List ℕ) → (SetRoot.set_root c j w recs roots).answer.control ≡ c
unfolding SetRoot.set_root
root-control c j w recs roots = handed-back (λ (o : SetRoot.Outcome). o.answer.control) c (SetRoot.set_root c j w recs roots) _ _ _ refl refl (λ m. refl)

pub declare-control : (c : Control) (i : ℕ) (recs slots roots list sets : List ℕ)
    → (DeclareSink.declare_sink c i recs slots roots list sets).answer.control ≡ c
unfolding DeclareSink.declare_sink
declare-control c i recs slots roots list sets =
    handed-back (λ (o : DeclareSink.Outcome). o.answer.control) c (DeclareSink.declare_sink c i recs slots roots list sets) _ _ _ refl
    (either _ _ (is_sink (rec_of c.n recs i)) refl refl) (λ m. refl)
  where
    either : (a b : DeclareSink.Outcome) (d : Bool) → a.answer.control ≡ c → b.answer.control ≡ c → (cond d a b).answer.control ≡ c
    either a b true p q = p
    either a b false p q = q

pub collect-control : (kind : Kind) (c : Control) (recs slots roots list sets work map : List ℕ)
    → (Collect.collect kind c recs slots roots list sets work map).answer.control ≡ c
unfolding Collect.collect
collect-control kind c recs slots roots list sets work map =
    handed-back (λ (o : Collect.Outcome). o.answer.control) c (Collect.collect kind c recs slots roots list sets work map) _ _ _ refl refl (λ m. refl)
