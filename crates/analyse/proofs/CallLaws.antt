-- The call: its tests in order, what an accepted heap gives, and the outcome as the rule has it.
-- Assumes nothing.
use Prim.Native.Nat.{ℕ, ◌-◌, ◌≤◌}
use mathlib.Core.Path.{◌≡◌, refl, sym, ap, ◌∙◌}
use mathlib.Core.Bool.{Bool, false, cond}
use mathlib.Core.List.{List}
use mathlib.Core.Logic.{◌≢◌}
use native.Mathlib.Omega.{arith}
use lib.Dec.{leb, ltb}
use lib.ListN.{length}
use borrow.Author.Tests.{ltb-false}
use borrow.Rule.Slice.PartMut.{mid_of, put_mid}
use Rattle.layout.specs.declared.answers.Control.{Control}
use Rattle.layout.specs.Limits.{object_max, work_len}
use Rattle.records.specs.Record.{is_sink}
use Rattle.layout.specs.ControlRecord.{with_analysis}
use Rattle.layout.specs.Refusal.{first}
use Rattle.layout.proofs.RefusalLaws.{outcome-zero, outcome-number}
use Rattle.graph.specs.Heap.{Heap}
use Rattle.graph.specs.Analysis.{walked, is_new, new_head, over, few, stays, out_loss_of, left_clusters}
use Rattle.graph.specs.Analysis as Graph
use Rattle.graph.specs.Clusters.{out_bit}
use Rattle.rules.specs.Buffers.{short, rec_of, each_from, each_record, zeros}
use Rattle.rules.specs.View.{view, heap_in, starts_in, exact_sets, encoded_record, encoded}
use Rattle.places.specs.Places.{last_places}
use Rattle.places.proofs.LatestLaws.{fill-exact}
use Rattle.rules.specs.Analyse.{rule_of, next_limit, used_count, gives, analyse_tests, limit_after, analysed}
use Rattle.rules.specs.Analyse as Rules
use Rattle.rules.proofs.ListLaws.{records-alike}
use Rattle.rules.proofs.WellFormedLaws.{Sane, Sinks}
use Rattle.rules.proofs.SaneLaws.{sane-roots, sane-listed, sane-ready}
use Rattle.layout.proofs.ControlLaws.{control-facts}
use Rattle.rules.proofs.AnalyseLaws.{limit-range}
use Rattle.analyse.specs.Starts.{Formable, formed_from}
use Rattle.table.specs.Room.{Accepted}
use Rattle.wellformed.specs.Check.{heap_tests}
use Rattle.wellformed.proofs.CheckLaws.{accepted-sane, accepted-sized, accepted-sinks}
use Rattle.wellformed.proofs.CheckLaws as Check
use Rattle.table.proofs.ClearedLaws.{zeros-lent}
use Rattle.analyse.specs.Judge.{Judged, left_of}
use Rattle.analyse.proofs.EndLaws.{formed-fits, sets-left}

-- ---- the tests

module _ (c : Control) (recs slots roots list sets work : List ℕ) where
  module _ (u : ℕ) (us : u ≡ work_len c.n) (k : ℕ) (ks : k ≡ first (heap_tests c recs slots roots list sets (ltb (length work) u))) where
    -- they are those of the whole heap, with the work words besides
    tests-are : first (analyse_tests c recs slots roots list sets work) ≡ k
    unfolding analyse_tests heap_tests short
    tests-are = rw (← us) (sym ks)

    pub refused : k ≢ 0 → gives (record { refusal = k; clusters = 0; members = 0; control = c }) recs sets work ≡ Rules.analyse c recs slots roots list sets work
    unfolding Rules.analyse
    refused z = sym (outcome-number _ _ (analyse_tests c recs slots roots list sets work) k tests-are z)

    -- ---- what no refusal says

    pub accepted : k ≡ 0 → Accepted c recs slots roots list sets work
    accepted e = (Check.accepted c recs slots roots list sets _ (sym ks ∙ e) work (λ f. rw us at (ltb-false (length work) u f))).0

  module _ (A : Accepted c recs slots roots list sets work) where
    pub cap-fits : (k : ℕ) → k ≡ work_len c.n → k ≤ length work
    unfolding work_len
    cap-fits k e = omega (arith, A.work-long)

    -- the rules of the list and of the sets
    holds : Sinks c.n recs slots list sets
    holds = accepted-sinks c recs slots roots list sets work A

    heap : Sane c.n c.r recs slots roots
    heap = accepted-sane c recs slots roots list sets work A

    -- the next limit is at least 1 and at most 4,095
    limits : (1 ≤ next_limit c (used_count c.n recs)) × (next_limit c (used_count c.n recs) ≤ 4095)
    limits =
        let S = control-facts c A.control in
        let a = limit-range c S (used_count c.n recs) in
        (omega (arith, a.0, S.tuned.lowest), a.1)

    pub formable : (m : ℕ) → m ≡ next_limit c (used_count c.n recs)
        → Formable c.n m recs slots list sets work (starts_in c.r roots) × (c.r ≤ length roots)
    unfolding view
    formable m e =
        let a = limits in (
          record {
            sized = accepted-sized c recs slots roots list sets work A;
            known = record { sinks-long = A.sinks-long; sets-long = A.sets-long; exact = holds.exact };
            limits = (omega (arith, a.0), omega (arith, a.1));
            heads = λ x p. heap.heads x p;
            listed = sane-listed heap list holds.listed;
            fit = sane-roots heap;
          },
          A.roots-long,
        )

    -- the sets made exact for the records that are left
    pub sets-after : (m : ℕ) → m ≡ next_limit c (used_count c.n recs) → (recs' : List ℕ) (loss clusters members : ℕ)
        → Judged c.n c.tuning recs slots (formed_from c.n recs slots list m (starts_in c.r roots)) recs' loss clusters members → (sets' : List ℕ)
        → sets' ≡ cond (leb c.n object_max) (exact_sets (heap_in c.n recs' slots (last_places list)) sets) sets
        → sets' ≡ exact_sets (Graph.analyse (rule_of c.tuning) (heap_in c.n recs slots list) m (starts_in c.r roots)).heap sets
    unfolding Graph.analyse walked left_clusters stays is_new over few view
    sets-after m e recs' loss clusters members J sets' f =
        let l = limits in
        fill-exact c.n recs' slots list sets sets' f A.room.most holds.listed.single
        ∙ sets-left c.n c.tuning recs slots list (formed_from c.n recs slots list m (starts_in c.r roots)) A.room.most A.room.recs-long
        (formed-fits c.n recs slots list m (starts_in c.r roots) (sane-ready heap list holds.listed) (omega (arith, l.0)) (sane-roots heap))
        recs' loss clusters members J (Graph.analyse (rule_of c.tuning) (heap_in c.n recs slots list) m (starts_in c.r roots)).heap refl refl refl refl sets

-- ---- the outcome

encoded-is : (H : Heap) (n : ℕ) (cl : ℕ → ℕ) (o : ℕ → Bool) (recs : List ℕ)
    → ((x : ℕ) → is_sink (rec_of n recs x) ≡ H.sink x)
    → each_from 1 n (λ x r. encoded_record (cl x) (o x) (is_sink r) false r) recs ≡ each_from 1 n (λ x r. encoded_record (cl x) (o x) (H.sink x) false r) recs
unfolding each_record
encoded-is H n cl o recs s = records-alike n _ _ recs (λ x p q. ap (λ (b : Bool). encoded_record (cl x) (o x) b false (rec_of n recs x)) (s x))

pub outcome : (c : Control) (recs slots roots list sets work : List ℕ) (u : ℕ) → u ≡ work_len c.n → (k : ℕ)
    → k ≡ first (heap_tests c recs slots roots list sets (ltb (length work) u)) → k ≡ 0
    → (m : ℕ) → m ≡ next_limit c (used_count c.n recs) → (recs' sets' part work' : List ℕ) (loss clusters members : ℕ)
    → Judged c.n c.tuning recs slots (formed_from c.n recs slots list m (starts_in c.r roots)) recs' loss clusters members
    → sets' ≡ cond (leb c.n object_max) (exact_sets (heap_in c.n recs' slots (last_places list)) sets) sets
    → length part ≡ length (mid_of 0 (u - 0) work) → work' ≡ zeros u (put_mid 0 (u - 0) work part) → (d : Control) → d ≡ with_analysis m loss c
    → gives (record { refusal = 0; clusters = clusters; members = members; control = d }) recs' sets' work'
    ≡ Rules.analyse c recs slots roots list sets work
unfolding Rules.analyse analysed limit_after Graph.analyse walked left_clusters stays is_new over few out_loss_of new_head encoded view each_record
outcome c recs slots roots list sets work u us k ks z m e recs' sets' part work' loss clusters members J x l y d q =
    go m (sym e) J q (sets-after c recs slots roots list sets work A m e recs' loss clusters members J sets' x)
    ∙ sym (outcome-zero _ _ (analyse_tests c recs slots roots list sets work) (tests-are c recs slots roots list sets work u us k ks ∙ z))
  where
    A : Accepted c recs slots roots list sets work
    A = accepted c recs slots roots list sets work u us k ks z

    w : work' ≡ zeros (work_len c.n) work
    w = zeros-lent u (work_len c.n) work part work' us (cap-fits c recs slots roots list sets work A u us) l y

    H : Heap
    H = heap_in c.n recs slots list

    from : List ℕ
    from = starts_in c.r roots

    lim : ℕ
    lim = next_limit c (used_count c.n recs)

    analysed_at : ℕ → Graph.Analysed
    analysed_at k = Graph.analyse (rule_of c.tuning) H k from

    go : (m : ℕ) → lim ≡ m → Judged c.n c.tuning recs slots (formed_from c.n recs slots list m from) recs' loss clusters members → d ≡ with_analysis m loss c
        → sets' ≡ exact_sets (analysed_at m).heap sets
        → gives (record { refusal = 0; clusters = clusters; members = members; control = d }) recs' sets' work'
        ≡ (let a = analysed c recs slots roots list sets work in
        record {
          answer = record { refusal = 0; clusters = a.clusters; members = a.members; control = with_analysis (limit_after c recs) a.out_loss c };
          records = encoded a.heap recs;
          sets = exact_sets a.heap sets;
          work = zeros (work_len c.n) work;
        })
    go m f K q t = λ i. record {
      answer = record {
        refusal = 0;
        clusters = (K.clusters-is ∙ at (λ k. (analysed_at k).clusters)) i;
        members = (K.members-is ∙ at (λ k. (analysed_at k).members)) i;
        control = (q ∙ λ j. with_analysis (sym f j) ((K.loss-is ∙ at (λ k. (analysed_at k).out_loss)) j) c) i;
      };
      records =
          (K.records ∙ encoded-is H c.n (left_of c.tuning H (formed_from c.n recs slots list m from)) (out_bit H.kids H.sink (left_of c.tuning H (formed_from c.n recs slots list m from))) recs (λ x. refl)
          ∙ ap (λ (k : ℕ). encoded (analysed_at k).heap recs) (sym f)) i;
      sets = (t ∙ ap (λ (k : ℕ). exact_sets (analysed_at k).heap sets) (sym f)) i;
      work = w i;
    }
      where
        at : (g : ℕ → ℕ) → g m ≡ g lim
        at g = ap g (sym f)
