-- Of every input: no call changes a word past those of the heap, and work is 0 after an accepted one.
-- Assumes nothing.
use Prim.Native.Nat.{ℕ, ◌+◌, ◌-◌, ◌*◌, ◌≤◌, ◌<◌}
use mathlib.Core.Path.{◌≡◌, refl, sym, ap, ◌∙◌}
use mathlib.Core.Bool.{Bool, true, false, cond, not, ◌&&◌, ◌||◌}
use mathlib.Core.List.{List, [], ◌∷◌, ◌++◌}
use native.Mathlib.Omega.{arith}
use native.Mathlib.Nat.{suc-ne-zero}
use lib.Dec.{eqb, leb, ltb}
use lib.ListN.{length, set, take, drop, length-set}
use lib.Seq.{drop-set-lt, length_front, length-take-le, drop-append_seam}
use borrow.Author.Tests.{not-false, leb-false, ltb-false, eqb-false}
use Rattle.layout.proofs.RefusalLaws.{first-passed}
use Rattle.layout.specs.Limits.{width_max, sink_max, slots_len, work_len, map_len}
use Rattle.layout.specs.ControlRecord.{bad_control}
use Rattle.layout.specs.Refusal.{Test, first}
use Rattle.layout.specs.Word.{is_pointer, legal_word}
use Rattle.records.specs.Record.{width, cluster, is_sink, free, legal, damaged}
use Rattle.layout.specs.declared.answers.Control.{Control}
use Rattle.layout.specs.declared.answers.Tuning.{Tuning}
use Rattle.records.proofs.RecordLaws.{legal-facts, undamaged}
use Rattle.graph.specs.Heap.{Heap}
use Rattle.graph.specs.Analysis as Graph
use Rattle.graph.specs.Writes.{dissolves, store, placed, declare}
use Rattle.graph.proofs.SinkLaws.{length-placed}
use Rattle.rules.specs.Buffers.{short, short_heap, rec_of, each_from, each_record, each_slot, zeros}
use Rattle.rules.specs.View.{view, heap_in, set_word, exact_sets, target, encoded}
use Rattle.rules.specs.Create as Create
use Rattle.rules.specs.Allocate as Allocate
use Rattle.rules.specs.Write as Write
use Rattle.rules.specs.SetRoot as SetRoot
use Rattle.rules.specs.DeclareSink as DeclareSink
use Rattle.rules.specs.Analyse as Analyse
use Rattle.rules.specs.Collect.{Kind}
use Rattle.rules.specs.Collect as Collect
use Rattle.rules.specs.Sweep.{sweep, swept_records, swept_slots, swept_sinks}
use Rattle.rules.specs.Demands.{Within, Cleared}
use Rattle.rules.proofs.ListLaws.{length-each, drop_past, take-zeros}
use Rattle.rules.proofs.BoolLaws.{or_split}
use Rattle.rules.proofs.StoreLaws.{store-size}
use Rattle.rules.proofs.Simulation.{all-by, pointer-facts}

-- ---- work after an accepted analysis or collection

pub clears : (k : ℕ) (l : List ℕ) → short k l ≡ false → Cleared k (zeros k l)
unfolding short zeros
clears k l e = take-zeros 0 k l (ltb-false (length l) k e)

pub analyse-clears : (c : Control) (recs slots roots list sets work : List ℕ)
    → let o = Analyse.analyse c recs slots roots list sets work in o.answer.refusal ≡ 0 → Cleared (work_len c.n) o.work
unfolding Analyse.analyse
analyse-clears c recs slots roots list sets work =
    all-by (λ (o : Analyse.Outcome). o.answer.refusal ≡ 0 → Cleared (work_len c.n) o.work) _ _ _
    (λ z e. clears (work_len c.n) work (fits z)) (λ m e. absurd (suc-ne-zero m e))
  where
    fits : first (Analyse.analyse_tests c recs slots roots list sets work) ≡ 0 → short (work_len c.n) work ≡ false
    fits z = unfold Analyse.analyse_tests in
        (let t1 = first-passed 19 _ _ z in
        let t2 = first-passed 1 (short_heap c.n c.r recs slots roots list sets || short (work_len c.n) work) _ t1.1 in
        (or_split (short_heap c.n c.r recs slots roots list sets) (short (work_len c.n) work) t2.0).1)

pub collect-clears : (kind : Kind) (c : Control) (recs slots roots list sets work map : List ℕ)
    → let o = Collect.collect kind c recs slots roots list sets work map in o.answer.refusal ≡ 0 → Cleared (work_len c.n) o.work
unfolding Collect.collect
collect-clears kind c recs slots roots list sets work map =
    all-by (λ (o : Collect.Outcome). o.answer.refusal ≡ 0 → Cleared (work_len c.n) o.work) _ _ _
    (λ z e. clears (work_len c.n) work (fits z)) (λ m e. absurd (suc-ne-zero m e))
  where
    fits : first (Collect.collect_tests c recs slots roots list sets work map) ≡ 0 → short (work_len c.n) work ≡ false
    fits z = unfold Collect.collect_tests in
        (let t1 = first-passed 19 _ _ z in
        let t2 = first-passed 1 (short_heap c.n c.r recs slots roots list sets || short (work_len c.n) work || short (map_len c.n) map) _ t1.1 in
        let t3 = or_split (short_heap c.n c.r recs slots roots list sets || short (work_len c.n) work) (short (map_len c.n) map) t2.0 in
        (or_split (short_heap c.n c.r recs slots roots list sets) (short (work_len c.n) work) t3.0).1)

-- ---- what may change

same : (k : ℕ) (l : List ℕ) → Within k l l
same k l = (refl, refl)

each : (i k : ℕ) (f : ℕ → ℕ → ℕ) (l : List ℕ) → Within k l (each_from i k f l)
each i k f l = (length-each i k f l, drop_past i k f l)

one : (k : ℕ) (l : List ℕ) (j w : ℕ) → j < k → Within k l (set l j w)
one k l j w p = (length-set l j w, drop-set-lt k l j w p)

by-record : (n : ℕ) (f : ℕ → ℕ → ℕ) (l : List ℕ) → Within n l (each_record n f l)
unfolding each_record
by-record n f l = each 1 n f l

by-slot : (n : ℕ) (f : ℕ → ℕ → ℕ) (l : List ℕ) → Within (slots_len n) l (each_slot n f l)
unfolding each_slot
by-slot n f l = each 0 (slots_len n) _ l

zeroed : (k : ℕ) (l : List ℕ) → Within k l (zeros k l)
unfolding zeros
zeroed k l = each 0 k _ l

by-encoded : (n : ℕ) (H : Heap) (l : List ℕ) → H.n ≡ n → Within n l (encoded H l)
unfolding encoded
by-encoded n H l e = rw (sym e) (by-record H.n _ l)

by-exact : (n : ℕ) (H : Heap) (l : List ℕ) → H.n ≡ n → Within n l (exact_sets H l)
unfolding exact_sets
by-exact n H l e = rw (sym e) (by-record H.n _ l)

-- a first part of another length, and the rest
front : (k : ℕ) (l m : List ℕ) → k ≤ length l → length m ≡ k → Within k l (m ++ drop k l)
front k l m p e =
    (length_front l m k (e ∙ sym (length-take-le k l p)), ap (λ (j : ℕ). drop j (m ++ drop k l)) (sym e) ∙ drop-append_seam m (drop k l))

pub create-within : (n r : ℕ) (t : Tuning) (recs slots roots list sets : List ℕ)
    → let o = Create.create n r t recs slots roots list sets in
    Within n recs o.records × Within (slots_len n) slots o.slots × Within r roots o.roots
    × Within sink_max list o.sinks × Within n sets o.sets
unfolding Create.create
create-within n r t recs slots roots list sets =
    all-by
    (λ (o : Create.Outcome).
    Within n recs o.records × Within (slots_len n) slots o.slots × Within r roots o.roots
    × Within sink_max list o.sinks × Within n sets o.sets) _ _ _
    (λ z. (zeroed n recs, zeroed (slots_len n) slots, zeroed r roots, zeroed sink_max list, zeroed n sets))
    (λ m. (same n recs, same (slots_len n) slots, same r roots, same sink_max list, same n sets))

pub allocate-within : (c : Control) (width : ℕ) (recs slots : List ℕ)
    → let o = Allocate.allocate c width recs slots in Within c.n recs o.records × Within (slots_len c.n) slots o.slots
unfolding Allocate.allocate
allocate-within c width recs slots =
    all-by (λ (o : Allocate.Outcome). Within c.n recs o.records × Within (slots_len c.n) slots o.slots) _ _ _
    (λ z. (by-record c.n _ recs, by-slot c.n _ slots)) (λ m. (same c.n recs, same (slots_len c.n) slots))

-- an object that the tests of read, show and write passed
pub record Named (c : Control) (i : ℕ) (recs slots : List ℕ) : Type 0 where
  pub low : 1 ≤ i
  pub high : i ≤ c.n
  pub narrow : width (rec_of c.n recs i) ≤ 8
  pub inside : cluster (rec_of c.n recs i) ≤ c.n
  pub wide : c.n ≤ length recs
  pub long : 8 * c.n ≤ length slots

-- test 2 is of these two slices and perhaps of others
pub named : (c : Control) (i : ℕ) (recs slots : List ℕ) (two : Bool) → (two ≡ false → (short c.n recs || short (slots_len c.n) slots) ≡ false)
    → (l : List Test)
    → first
    ((20, bad_control c) ∷ (2, two) ∷ (4, not (is_pointer c.n i))
    ∷ (21, damaged c.n (rec_of c.n recs i)) ∷ (22, free (rec_of c.n recs i)) ∷ l) ≡ 0
    → Named c i recs slots × (first l ≡ 0)
named c i recs slots two both l z =
    let t1 = first-passed 19 _ _ z in
    let t2 = first-passed 1 _ _ t1.1 in
    let t3 = first-passed 3 _ _ t2.1 in
    let t4 = first-passed 20 _ _ t3.1 in
    let t5 = first-passed 21 _ _ t4.1 in
    let r = pointer-facts c.n i (not-false _ t3.0) in
    let s = or_split (short c.n recs) (short (slots_len c.n) slots) (both t2.0) in
    let L = legal-facts c.n (rec_of c.n recs i) (undamaged c.n (rec_of c.n recs i) t4.0 t5.0) in (
      record {
        low = r.0;
        high = r.1;
        narrow = L.narrow;
        inside = L.low;
        wide = unfold short in (ltb-false (length recs) c.n s.0);
        long = unfold short slots_len in (ltb-false (length slots) (8 * c.n) s.1);
      },
      t5.1,
    )

-- what the tests of a write let pass
pub write-named : (c : Control) (i k w : ℕ) (recs slots list sets : List ℕ) → first (Write.write_tests c i k w recs slots list sets) ≡ 0
    → Named c i recs slots
    × (first
    ((5, leb (width (rec_of c.n recs i)) k) ∷ (6, not (legal_word c.n w)) ∷ (23, is_pointer c.n w && not (legal c.n (rec_of c.n recs w)))
    ∷ (25, ltb c.n (Write.loss_after c i k w recs slots list sets)) ∷ []) ≡ 0)
unfolding Write.write_tests
write-named c i k w recs slots list sets z =
    named c i recs slots _ (λ e. (or_split (short c.n recs || short (slots_len c.n) slots) (short sink_max list) (or_split _ (short c.n sets) e).0).0) _ z

-- the sets are long enough, and the slot is a used one
pub sets-long : (c : Control) (i k w : ℕ) (recs slots list sets : List ℕ) → first (Write.write_tests c i k w recs slots list sets) ≡ 0 → c.n ≤ length sets
unfolding Write.write_tests short
sets-long c i k w recs slots list sets z =
    let two = short c.n recs || short (slots_len c.n) slots || short sink_max list in
    let a = first-passed 1 _ _ (first-passed 19 _ _ z).1 in
    ltb-false (length sets) c.n (or_split two (short c.n sets) a.0).1

pub slot-used : (c : Control) (i k w : ℕ) (recs slots list sets : List ℕ) → first (Write.write_tests c i k w recs slots list sets) ≡ 0
    → k < width (rec_of c.n recs i)
slot-used c i k w recs slots list sets z = leb-false (width (rec_of c.n recs i)) k (first-passed 4 _ _ (write-named c i k w recs slots list sets z).1).0

-- so it is one of the object's eight
pub slot-fits : (c : Control) (i k w : ℕ) (recs slots list sets : List ℕ) → first (Write.write_tests c i k w recs slots list sets) ≡ 0
    → width_max * (i - 1) + k < slots_len c.n
unfolding slots_len
slot-fits c i k w recs slots list sets z =
    let f = (write-named c i k w recs slots list sets z).0 in
    omega (arith, f.low, f.high, f.narrow, slot-used c i k w recs slots list sets z)

pub write-within : (c : Control) (i k w : ℕ) (recs slots list sets : List ℕ)
    → let o = Write.write c i k w recs slots list sets in
    Within c.n recs o.records × Within (slots_len c.n) slots o.slots × Within c.n sets o.sets
unfolding Write.write
write-within c i k w recs slots list sets =
    all-by (λ (o : Write.Outcome). Within c.n recs o.records × Within (slots_len c.n) slots o.slots × Within c.n sets o.sets) _ _ _
    (λ z. (
      by-encoded c.n _ recs size,
      one (slots_len c.n) slots _ w (slot-fits c i k w recs slots list sets z),
      set-within (write-named c i k w recs slots list sets z).0.inside,
    ))
    (λ m. (same c.n recs, same (slots_len c.n) slots, same c.n sets))
  where
    size : (store (heap_in c.n recs slots list) i k (target c.n w)).n ≡ c.n
    size = unfold store view in
        (store-size (dissolves (heap_in c.n recs slots list) i k (target c.n w)) (heap_in c.n recs slots list) i k (target c.n w))

    set-within : cluster (rec_of c.n recs i) ≤ c.n → Within c.n sets (Write.sets_after c i k w recs slots list sets)
    set-within l = unfold Write.sets_after view in (go (cluster (rec_of c.n recs i)) l (eqb (cluster (rec_of c.n recs i)) 0) refl)
      where
        go : (h : ℕ) → h ≤ c.n → (b : Bool) → eqb h 0 ≡ b
            → Within c.n sets (cond b sets (set sets (h - 1) (set_word (store (heap_in c.n recs slots list) i k (target c.n w)) h)))
        go h q true e = same c.n sets
        go h q false e = one c.n sets (h - 1) _ (let z = eqb-false h 0 e in omega (arith, q, z))

pub root-fits : (c : Control) (j w : ℕ) (recs roots : List ℕ) → first (SetRoot.set_root_tests c j w recs roots) ≡ 0 → (j < c.r) × (c.r ≤ length roots)
unfolding SetRoot.set_root_tests short
root-fits c j w recs roots z =
    let t1 = first-passed 19 _ _ z in
    let t2 = first-passed 1 _ _ t1.1 in
    let t3 = first-passed 6 _ _ t2.1 in
    (leb-false c.r j t3.0, ltb-false (length roots) c.r (or_split (short c.n recs) (short c.r roots) t2.0).1)

pub root-within : (c : Control) (j w : ℕ) (recs roots : List ℕ) → Within c.r roots (SetRoot.set_root c j w recs roots).roots
unfolding SetRoot.set_root
root-within c j w recs roots =
    all-by (λ (o : SetRoot.Outcome). Within c.r roots o.roots) _ _ _ (λ z. one c.r roots j w (root-fits c j w recs roots z).0) (λ m. same c.r roots)

pub declare-within : (c : Control) (i : ℕ) (recs slots roots list sets : List ℕ)
    → let o = DeclareSink.declare_sink c i recs slots roots list sets in
    Within c.n recs o.records × Within sink_max list o.sinks × Within c.n sets o.sets
unfolding DeclareSink.declare_sink
declare-within c i recs slots roots list sets =
    all-by Only _ _ _ (λ z. either (long z) (is_sink (rec_of c.n recs i))) (λ m. (same c.n recs, same sink_max list, same c.n sets))
  where
    Only : DeclareSink.Outcome → Type 0
    Only o = Within c.n recs o.records × Within sink_max list o.sinks × Within c.n sets o.sets

    long : first (DeclareSink.declare_tests c i recs slots roots list sets) ≡ 0 → sink_max ≤ length list
    long z = unfold DeclareSink.declare_tests short_heap short in
        (let t1 = first-passed 19 _ _ z in
        let t2 = first-passed 1 (short c.n recs || short (slots_len c.n) slots || short c.r roots || short sink_max list || short c.n sets) _ t1.1 in
        let a = or_split (short c.n recs || short (slots_len c.n) slots || short c.r roots || short sink_max list) (short c.n sets) t2.0 in
        ltb-false (length list) sink_max (or_split (short c.n recs || short (slots_len c.n) slots || short c.r roots) (short sink_max list) a.0).1)

    -- the list is as long as it was
    placed-length : sink_max ≤ length list → (b : Bool) → length (cond b (take sink_max list) (placed i (take sink_max list))) ≡ sink_max
    placed-length p true = length-take-le sink_max list p
    placed-length p false = length-placed i (take sink_max list) ∙ length-take-le sink_max list p

    either : sink_max ≤ length list → (b : Bool) → Only
        (cond b (DeclareSink.gives (record { refusal = 0; control = c }) recs list sets)
        (DeclareSink.gives (record { refusal = 0; control = c }) (encoded (DeclareSink.after c i recs slots roots list sets) recs)
        ((DeclareSink.after c i recs slots roots list sets).listed ++ drop sink_max list) (exact_sets (DeclareSink.after c i recs slots roots list sets) sets)))
    either p true = (same c.n recs, same sink_max list, same c.n sets)
    either p false = (
      by-encoded c.n (DeclareSink.after c i recs slots roots list sets) recs (unfold declare view in refl),
      front sink_max list (DeclareSink.after c i recs slots roots list sets).listed p (unfold declare in (placed-length p ((view c.n recs slots).sink i))),
      by-exact c.n (DeclareSink.after c i recs slots roots list sets) sets (unfold declare view in refl),
    )

pub analyse-within : (c : Control) (recs slots roots list sets work : List ℕ)
    → let o = Analyse.analyse c recs slots roots list sets work in
    Within c.n recs o.records × Within c.n sets o.sets × Within (work_len c.n) work o.work
unfolding Analyse.analyse Analyse.analysed Graph.analyse view
analyse-within c recs slots roots list sets work =
    all-by (λ (o : Analyse.Outcome). Within c.n recs o.records × Within c.n sets o.sets × Within (work_len c.n) work o.work) _ _ _
    (λ z. (by-encoded c.n _ recs refl, by-exact c.n _ sets refl, zeroed (work_len c.n) work))
    (λ m. (same c.n recs, same c.n sets, same (work_len c.n) work))

pub collect-within : (kind : Kind) (c : Control) (recs slots roots list sets work map : List ℕ)
    → let o = Collect.collect kind c recs slots roots list sets work map in
    Within c.n recs o.records × Within (slots_len c.n) slots o.slots × Within sink_max list o.sinks × Within c.n sets o.sets
    × Within (work_len c.n) work o.work × Within (map_len c.n) map o.map
unfolding Collect.collect sweep swept_records swept_slots swept_sinks view
collect-within kind c recs slots roots list sets work map =
    all-by
    (λ (o : Collect.Outcome).
    Within c.n recs o.records × Within (slots_len c.n) slots o.slots × Within sink_max list o.sinks × Within c.n sets o.sets
    × Within (work_len c.n) work o.work × Within (map_len c.n) map o.map) _ _ _
    (λ z. (
      by-record c.n _ recs,
      by-slot c.n _ slots,
      each 0 sink_max _ list,
      by-exact c.n _ sets refl,
      zeroed (work_len c.n) work,
      each 0 (map_len c.n) _ map,
    ))
    (λ m. (same c.n recs, same (slots_len c.n) slots, same sink_max list, same c.n sets, same (work_len c.n) work, same (map_len c.n) map))
