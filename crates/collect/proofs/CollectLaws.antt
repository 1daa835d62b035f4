-- The marks after the walk tell what the definition's walk tells, and the whole collection is the definition's.
-- Assumes nothing.
use Prim.Native.Nat.{ℕ, ◌≤◌}
use mathlib.Core.Path.{◌≡◌, refl, sym, ap, ◌∙◌}
use mathlib.Core.Logic.{◌≢◌}
use mathlib.Core.Bool.{Bool, true, false, not, cond, ◌&&◌, ◌||◌, true≢false, or_assoc}
use mathlib.Core.List.{List, [], ◌∷◌}
use native.Mathlib.Omega.{arith}
use lib.Dec.{eqb, ltb}
use lib.ListN.{length}
use borrow.Author.Tests.{ltb-false, ne_eqb}
use Rattle.layout.specs.declared.answers.Control.{Control}
use Rattle.layout.specs.Limits.{slots_len, work_len, map_len}
use Rattle.layout.specs.ControlRecord.{bad_control}
use Rattle.records.specs.Record.{is_marked, is_reached, cluster}
use Rattle.layout.specs.Refusal.{first}
use Rattle.layout.proofs.RefusalLaws.{outcome-zero, outcome-number}
use Rattle.graph.specs.Numbers.{Obj}
use Rattle.graph.specs.Heap.{Heap}
use Rattle.graph.specs.Trace.{marked, reached, Flags, traced, keeps, unclustered}
use Rattle.graph.proofs.TraceKeep.{keeps-plain, traced-finished}
use Rattle.rules.specs.Buffers.{short, short_heap, rec_of, zeros}
use Rattle.rules.specs.WellFormed.{well_formed}
use Rattle.graph.proofs.TraceCorrect.{same_test}
use Rattle.rules.specs.View.{view, heap_in, starts_in}
use Rattle.rules.specs.Collect as Collect
use Rattle.rules.specs.Collect.{gives, collect_tests}
use Rattle.rules.proofs.WellFormedLaws.{Sane}
use Rattle.rules.proofs.SaneLaws.{sane-low}
use Rattle.rules.proofs.ViewLaws.{view-ranged}
use Rattle.table.specs.Room.{Accepted}
use Rattle.wellformed.specs.Check.{heap_tests}
use Rattle.wellformed.proofs.CheckLaws.{accepted-sane, accepted-once}
use Rattle.sweep.specs.Sweep.{unflagged, marked_at, marked_count, members_marked, AfterSweep, Marked}
use Rattle.sweep.proofs.MarkLaws.{unflagged-members, members-marked}
use Rattle.sweep.proofs.SweptLaws.{sweep-ruled, kept-ruled}
use Rattle.walk.specs.Marks.{flags_of}
use Rattle.walk.specs.State.{way, Traceable, Walked}
use Rattle.walk.specs.Walk.{walk_tests, AfterWalk}
use Rattle.walk.proofs.AcceptLaws.{trace-able, accepted}
use Rattle.collect.specs.Call.{kind_of, walked}
use Rattle.walk.proofs.MarkLaws.{length-same, cluster-same}

-- ---- the marks

-- the marks of recs' tell what it keeps, and k is how many objects it scanned; without clusters these are the marked
pub record Kept (by : Bool) (n : ℕ) (from recs slots list recs' : List ℕ) (k : ℕ) : Type 0 where
  pub marks : Marked n recs recs' (walked by n from recs slots list).kept (walked by n from recs slots list).heads
  pub scanned : k ≡ (walked by n from recs slots list).scanned
  pub marked : by ≡ false → k ≡ marked_count n recs'

module _ (n r : ℕ) (from recs slots roots list sets work : List ℕ) (any : Bool) (a : Traceable (way any list sets) n from recs slots work)
    (s : Sane n r recs slots roots) (recs' : List ℕ) where
  abbrev H : Heap
  H = heap_in n recs slots list

  module _ (t : Walked (way false list sets) n from recs slots recs') where
    plain-mark : (x : ℕ) → keeps (unclustered H) (traced (unclustered H) from).flags x ≡ marked_at n recs' x
    unfolding marked_at flags_of
    plain-mark x =
        keeps-plain (unclustered H) (traced (unclustered H) from).flags x refl
        ∙ sym (ap (λ (f : Flags). f marked x) t.flags-now)

    marks-plain : Marked n recs recs' (walked false n from recs slots list).kept (walked false n from recs slots list).heads
    unfolding Collect.trace
    marks-plain = record { same = t.kept; kept-is = λ x o. plain-mark x; heads-is = λ x o e. plain-mark (cluster (rec_of n recs x)) }

  module _ (t : Walked (way true list sets) n from recs slots recs') where
    abbrev flags : Flags
    flags = (traced H from).flags

    same-unflagged : unflagged n recs' ≡ unflagged n recs
    same-unflagged = t.kept ∙ sym a.clear

    long : n ≤ length recs'
    long = omega (arith, length-same n recs recs' same-unflagged, a.sized.room.recs-long)

    cluster-is : (x : ℕ) → cluster (rec_of n recs' x) ≡ cluster (rec_of n recs x)
    cluster-is = cluster-same n recs recs' a.sized.room.recs-long same-unflagged

    mark-is : (x : ℕ) → Obj n x → keeps H flags x ≡ marked_at n (members_marked n recs') x
    unfolding keeps view marked_at flags_of
    mark-is x o =
        ap (λ (f : Flags). f marked x || (not (eqb (cluster (rec_of n recs x)) 0) && f reached (cluster (rec_of n recs x)))) (sym t.flags-now)
        ∙ ap (λ (d : ℕ). is_marked (rec_of n recs' x) || (not (eqb d 0) && is_reached (rec_of n recs' d))) (sym (cluster-is x))
        ∙ sym (members-marked n recs' long x o)

    -- a cluster's head is kept where the cluster is reached
    head-is : (d : ℕ) → Obj n d → cluster (rec_of n recs d) ≡ d → flags reached d ≡ keeps H flags d
    unfolding view
    head-is d o e =
        let i = (traced-finished H (view-ranged n recs slots list a.listing.listed) from a.objects).head-kept d o e in
        same_test (flags reached d) (keeps H flags d) i.1 i.0

    marks-clusters : Marked n recs (members_marked n recs') (walked true n from recs slots list).kept (walked true n from recs slots list).heads
    unfolding Collect.trace
    marks-clusters = record { same = unflagged-members n recs' ∙ t.kept; kept-is = mark-is; heads-is = heads }
      where
        heads : (x : ℕ) → Obj n x → cluster (rec_of n recs x) ≢ 0
            → flags reached (cluster (rec_of n recs x)) ≡ marked_at n (members_marked n recs') (cluster (rec_of n recs x))
        heads x o y =
            let d : Obj n (cluster (rec_of n recs x)) = (omega (arith, y), sane-low s x) in
            head-is (cluster (rec_of n recs x)) d (s.heads x y) ∙ mark-is (cluster (rec_of n recs x)) d

  pub kept-marks : (by : Bool) → Walked (way by list sets) n from recs slots recs' → (recs'' : List ℕ) → recs'' ≡ cond by (members_marked n recs') recs'
      → (k : ℕ) → k ≡ marked_count n recs' → Kept by n from recs slots list recs'' k
  unfolding Collect.trace marked_count marked_at flags_of
  kept-marks true t recs'' e k q = record { marks = rw e (marks-clusters t); scanned = q ∙ t.counted; marked = λ z. absurd (true≢false z) }
  kept-marks false t recs'' e k q = record { marks = rw e (marks-plain t); scanned = q ∙ t.counted; marked = λ z. rw e q }

-- ---- the whole collection

module _ (by : Bool) (c : Control) (recs slots roots list sets work map : List ℕ) where
  abbrev n : ℕ
  n = c.n

  abbrev from : List ℕ
  from = starts_in c.r roots

  -- the tests are those of the walk, with the map besides
  tests-are : (m : ℕ) → m ≡ map_len n
      → first (collect_tests c recs slots roots list sets work map) ≡ first (walk_tests c recs slots roots list sets work (ltb (length map) m))
  unfolding collect_tests heap_tests short
  tests-are m e =
      rw e
      (ap (λ (b : Bool). first ((20, bad_control c) ∷ (2, b) ∷ (21, not (well_formed c recs slots roots list sets)) ∷ []))
      (or_assoc (short_heap n c.r recs slots roots list sets) (short (work_len n) work) (short (map_len n) map)))

  module _ (m : ℕ) (em : m ≡ map_len n) (k : ℕ) (recs₁ work₁ : List ℕ)
      (w : AfterWalk by c recs slots roots list sets work (ltb (length map) m) k recs₁ work₁) where
    answers : k ≡ first (collect_tests c recs slots roots list sets work map)
    answers = w.refusal ∙ sym (tests-are m em)

    pub refused : k ≢ 0
        → gives (record { refusal = k; freed = 0; kept = 0; scanned = 0; control = c }) recs₁ slots list sets work₁ map
        ≡ Collect.collect (kind_of by) c recs slots roots list sets work map
    unfolding Collect.collect collect_tests
    refused d =
        let z = ne_eqb k 0 d in
        let a : recs₁ ≡ recs = rw z at w.records in
        let b : work₁ ≡ work = rw z at w.words in
        rw (a, b) (sym (outcome-number _ _ _ k (sym answers) d))

    module _ (z : k ≡ 0) where
      -- no test holds
      fit : Accepted c recs slots roots list sets work × (m ≤ length map)
      unfolding short
      fit =
          let p = accepted by c recs slots roots list sets work (ltb (length map) m) (work_len n) k refl w.refusal z in
          (p.0, ltb-false _ _ p.1)

      pub collected : (scanned : ℕ) → scanned ≡ marked_count n recs₁ → (recs₂ : List ℕ) → recs₂ ≡ cond by (members_marked n recs₁) recs₁ → length recs₂ ≡ length recs₁
          → (kept : ℕ) → kept ≡ cond by (marked_count n recs₂) scanned → (recs₃ slots₃ list₃ sets₃ map₃ : List ℕ) (freed : ℕ)
          → AfterSweep n recs₂ slots list sets map recs₃ slots₃ list₃ sets₃ map₃ freed
          → gives (record { refusal = 0; freed = freed; kept = kept; scanned = scanned; control = c }) recs₃ slots₃ list₃ sets₃ work₁ map₃
          ≡ Collect.collect (kind_of by) c recs slots roots list sets work map
      unfolding Collect.collect collect_tests slots_len
      collected scanned es recs₂ e₂ l₂ kept ek recs₃ slots₃ list₃ sets₃ map₃ freed sw =
          let a = fit.0 in
          let d = w.walked z in
          let v = trace-able c recs slots roots list sets work a by in
          let t = kept-marks n c.r from recs slots roots list sets work by v (accepted-sane c recs slots roots list sets work a) recs₁ by d recs₂ e₂ scanned es in
          let u : unflagged n recs₁ ≡ unflagged n recs = d.kept ∙ sym v.clear in
          let long : n ≤ length recs₂ = omega (arith, l₂, length-same n recs recs₁ u, a.room.recs-long) in
          let o = accepted-once c recs slots roots list sets work a in
          let f = sweep-ruled n recs recs₂ slots list sets map _ _ t.marks a.room.most long a.room.slots-long (omega (arith, em, fit.1)) o recs₃ slots₃ list₃ sets₃ map₃ freed sw in
          let q = ek ∙ either by t.marked ∙ kept-ruled n recs recs₂ slots list sets map _ _ t.marks in
          let y : work₁ ≡ zeros (work_len n) work = rw z at w.words in
          rw (f.records, f.slot_words, f.sinks, f.set_words, f.map_words, f.freed, q, y, t.scanned) (sym (outcome-zero _ _ _ (sym answers ∙ z)))
        where
          either : (b : Bool) → (b ≡ false → scanned ≡ marked_count n recs₂) → cond b (marked_count n recs₂) scanned ≡ marked_count n recs₂
          either true g = refl
          either false g = g refl
