-- A visit of the code is a step of the walk.
-- Assumes nothing.
use Prim.Native.Nat.{ℕ, ◌+◌, ◌-◌, ◌*◌, ◌/◌, ◌%◌, ◌^◌, ◌≤◌, ◌<◌}
use mathlib.Core.Path.{◌≡◌, refl, sym, ap, ap₂, ◌∙◌, fun_ext, subst}
use mathlib.Core.Bool.{Bool, true, false, cond, not, ◌&&◌, ◌||◌}
use mathlib.Core.List.{List, ◌∷◌, ◌++◌, append_assoc, Memᴰ}
use mathlib.Core.Logic.{◌≢◌}
use native.Mathlib.Decide.{ℕ_discrete}
use native.Mathlib.Omega.{arith}
use lib.Dec.{eqb, leb}
use lib.ListN.{length, get_or, drop}
use lib.Seq.{length-take-le}
use borrow.Author.Tests.{eqb-true, eq-eqb, ne_eqb, le-leb, lt-leb}
use Rattle.layout.specs.Limits.{sink_max}
use Rattle.records.specs.Record.{is_written, is_sink}
use Rattle.graph.specs.Numbers.{upd, gather}
use Rattle.graph.specs.Heap.{Heap}
use Rattle.graph.specs.Clusters.{in_set, sinks_at}
use Rattle.graph.specs.Analysis.{Item, Work, items, bars, Visit, skip, older, pick, kind, visits_of_cluster, pushed, seen_by, cl_by, act, step, needed, finish}
use Rattle.graph.specs.Analysis as A
use Rattle.graph.specs.Invariant.{Ready, Inv, Sizes, unseen_slots}
use Rattle.graph.proofs.NumberLaws.{upd_same, upd_other, gather-all}
use Rattle.graph.proofs.OutLaws.{eqb-iff}
use Rattle.graph.proofs.AnalysisInv.{Facts, facts, all_first, in-range, head-range, passed-range, size_none}
use Rattle.graph.proofs.AnalysisEnds.{step-inv, finish-step, needed-act, slots_of, slots-act, items-append, older-same}
use Rattle.graph.proofs.SizeTable.{table_by, sizes-act, kind-table}
use Rattle.rules.specs.Buffers.{rec_of}
use Rattle.rules.specs.View.{view, heap_in, set_word}
use Rattle.rules.proofs.PlaceLaws.{upd-map}
use Rattle.rules.proofs.BufferLaws.{rec_of-get}
use Rattle.rules.proofs.ViewLaws.{view-closed}
use Rattle.table.specs.Clusters.{cluster_of}
use Rattle.choices.specs.Choices.{joined, goes_by}
use Rattle.analyse.specs.Memory.{stack_end, area, Memory, mem_of, visit_words, visits_of, sinks_from, Marks, markers, seen_in, cluster_in, size_in, walk_of, in_front, with_state, with_link, counting}
use Rattle.table.specs.Room.{Sized}
use Rattle.analyse.specs.Called.{outs_below, Chained, handled_state, handled, goes_to, placed, Ground, visiting, Visiting, Visited}
use Rattle.analyse.proofs.MemoryLaws.{counting-some, counting-next, counting-other}
use Rattle.analyse.proofs.MarkLaws.{word_from, set_word_lem, words-visits, words-marks, marker-visits, marker-marks, markers-one}
use Rattle.analyse.proofs.SlotLaws.{resized}
use Rattle.analyse.proofs.PlaceLaws.{goes-fits}

pub work-path : {t t' : List Item} {s s' : ℕ → Bool} {c c' : ℕ → ℕ} → t ≡ t' → s ≡ s' → c ≡ c'
    → ◌≡◌ {A = Work} (record { todo = t; seen = s; cl = c }) (record { todo = t'; seen = s'; cl = c' })
work-path p q r = λ i. record { todo = p i; seen = q i; cl = r i }

-- ---- the kinds of a visit, from the tests that the code makes

module _ (H : Heap) (limit : ℕ) (seen : ℕ → Bool) (cl : ℕ → ℕ) (o c : ℕ) where
  kind-skip : (eqb o 0 || seen o) ≡ true → kind H limit seen cl o c ≡ skip
  unfolding kind pick
  kind-skip e = rw e refl

  kind-older : (eqb o 0 || seen o) ≡ false → cl o ≢ 0 → kind H limit seen cl o c ≡ older
  unfolding kind pick
  kind-older e p = rw (e, ne_eqb (cl o) 0 p) refl

module _ (H : Heap) (seen : ℕ → Bool) (cl : ℕ → ℕ) (o c : ℕ) (rest : List Item) where
  act-skip : act H seen cl o c rest skip ≡ record { todo = rest; seen = seen; cl = cl }
  unfolding act pushed seen_by cl_by
  act-skip = refl

  act-older : act H seen cl o c rest older
      ≡ record { todo = items 0 (visits_of_cluster H cl (cl o)) ++ rest; seen = λ x. eqb (cl x) (cl o) || seen x; cl = cl }
  unfolding act pushed seen_by cl_by
  act-older = refl

  act-joined : (b s : Bool) → cl o ≡ 0
      → act H seen cl o c rest (pick false false b s)
      ≡ record { todo = items (joined b s o c) (H.kids o) ++ rest; seen = upd seen o true; cl = upd cl o (joined b s o c) }
  unfolding act pushed seen_by cl_by pick joined
  act-joined true s z =
      ap (λ (f : ℕ → ℕ). record { todo = items 0 (H.kids o) ++ rest; seen = upd seen o true; cl = f }) (fun_ext (λ x. same x (ℕ_discrete x o)))
    where
      same : (x : ℕ) → Dec (x ≡ o) → cl x ≡ upd cl o 0 x
      same x (yes i) = rw (i, upd_same cl o 0) z
      same x (no i) = sym (upd_other cl o x 0 i)
  act-joined false true z = refl
  act-joined false false z = refl

slots-joined : (H : Heap) (cl : ℕ → ℕ) (o : ℕ) (b s : Bool) → slots_of H cl o (pick false false b s) ≡ length (H.kids o)
unfolding slots_of pick
slots-joined H cl o true s = refl
slots-joined H cl o false true = refl
slots-joined H cl o false false = refl

seen-joined : (seen : ℕ → Bool) (cl : ℕ → ℕ) (o : ℕ) (b s : Bool) → seen_by seen cl o (pick false false b s) ≡ upd seen o true
unfolding seen_by pick
seen-joined seen cl o true s = refl
seen-joined seen cl o false true = refl
seen-joined seen cl o false false = refl

-- ---- a visit that may be made

module _ (n : ℕ) (recs slots list sets : List ℕ) (limit : ℕ) (work : List ℕ) (o c top : ℕ) (X : Visiting n recs slots list sets limit work o c top) where
  abbrev H : Heap
  H = heap_in n recs slots list

  -- the same heap as records and slots have it
  abbrev K : Heap
  K = view n recs slots

  abbrev st : ℕ → ℕ
  st = area n (9 * n) work

  abbrev lk : ℕ → ℕ
  lk = area n (8 * n) work

  abbrev seen : ℕ → Bool
  seen = seen_in st

  abbrev cl : ℕ → ℕ
  cl = cluster_in st

  abbrev i : Item
  i = record { obj = o; passed = c }

  abbrev rest : List Item
  rest = visits_of H (mem_of n work top).todo

  R : Ready H
  R = X.ground.ready

  I : Inv H limit (record { todo = i ∷ rest; seen = seen; cl = cl })
  unfolding walk_of mem_of
  I = X.inv

  abbrev what : Visit
  what = kind H limit seen cl o c

  steps : step H limit (visiting H o c (mem_of n work top)) ≡ act H seen cl o c rest what
  unfolding step A.visit walk_of mem_of
  steps = refl

  -- what the code must show
  visited : (work' : List ℕ) (top' : ℕ) → walk_of H (mem_of n work' top') ≡ act H seen cl o c rest what → Ground n recs slots list sets limit work'
      → Marks H (mem_of n work' top').todo → unseen_slots K (seen_in (area n (9 * n) work')) ≤ top' → top' ≤ stack_end n
      → Visited n recs slots list sets limit (visiting H o c (mem_of n work top)) work' top'
  unfolding walk_of mem_of
  visited work' top' e G g r h =
      let p = X.ground.limits.0 in
      let w = visiting H o c (mem_of n work top) in
      record {
        walking = record {
          ground = G;
          inv = subst (λ (v : Work). Inv H limit v) (sym (e ∙ sym steps)) (step-inv H limit R p w X.inv);
          marks = g;
          room = r;
          inside = h;
        };
        same = ap (finish H limit) (e ∙ sym steps) ∙ finish-step H limit R p w X.inv;
        less = subst (λ (v : Work). needed H v < needed H w) (sym e) (needed-act H limit R seen cl i rest I what (facts H limit seen cl o c));
      }

  pub object-fits : o ≤ n
  unfolding view
  object-fits = in-range H limit R seen cl i rest I

  pub passed-fits : c ≤ n
  unfolding view
  passed-fits = passed-range I i (all_first I.visits)

  pub sized : Sized n recs slots work
  sized = X.ground.sized

  -- what is put in front was among the slots of objects not seen
  slots-after : (k : Visit) → what ≡ k → unseen_slots K (seen_by seen cl o k) + slots_of H cl o k ≤ unseen_slots K seen
  unfolding unseen_slots
  slots-after k e = slots-act H limit R seen cl i rest I k (subst (λ (v : Visit). Facts H limit seen cl o c v) e (facts H limit seen cl o c))

  -- the next three: what the code tests
  skips : (eqb o 0 || seen o) ≡ true → Visited n recs slots list sets limit (visiting H o c (mem_of n work top)) work top
  unfolding walk_of mem_of
  skips e =
      visited work top (sym (ap (act H seen cl o c rest) (kind-skip H limit seen cl o c e) ∙ act-skip H seen cl o c rest)) X.ground X.marks X.room X.inside

  pub skip-none : o ≡ 0 → Visited n recs slots list sets limit (visiting H o c (mem_of n work top)) work top
  skip-none e = skips (rw e refl)

  pub skip-seen : (s : ℕ) → s ≡ st o → 4096 ≤ s → Visited n recs slots list sets limit (visiting H o c (mem_of n work top)) work top
  skip-seen s e h = skips (go (eqb o 0))
    where
      go : (b : Bool) → (b || seen o) ≡ true
      go true = refl
      go false = le-leb 4096 (st o) (omega arith)

  module _ (nz : o ≢ 0) (s : ℕ) (is : s ≡ st o) (low : s < 4096) where
    unseen : seen o ≡ false
    unseen = lt-leb 4096 (st o) (omega arith)

    not_yet : (eqb o 0 || seen o) ≡ false
    not_yet = rw (ne_eqb o 0 nz) unseen

    own : cl o ≡ s
    own = omega arith

    -- ---- an older cluster

    module _ (p : s ≢ 0) where
      is-older : what ≡ older
      is-older = kind-older H limit seen cl o c not_yet (λ e. p (sym own ∙ e))

      was : H.cluster o ≡ s
      was = sym (I.unseen o unseen) ∙ own

      pub older-low : 1 ≤ s
      older-low = omega (arith, p)

      pub older-fits : s ≤ n
      unfolding view
      older-fits = let a = head-range I o (λ e. p (sym own ∙ e)) in omega (arith, own)

      same-members : (x : ℕ) → eqb (cl x) (cl o) ≡ eqb (H.cluster x) s
      same-members x =
          eqb-iff (cl x) (cl o) (H.cluster x) s
          (λ e. (older-same H limit R (record { todo = i ∷ rest; seen = seen; cl = cl }) I o x unseen (λ f. p (sym own ∙ f)) e).1 ∙ was)
          (λ e. I.kept x (λ f. p (sym e ∙ f)) ∙ e ∙ sym own)

      head-own : cluster_of n recs s ≡ s
      unfolding view
      head-own = ap (cluster_of n recs) (sym was) ∙ R.heads o (λ e. p (sym was ∙ e)) ∙ was

      pub older-chained : Chained n recs lk s
      older-chained = X.ground.chains s p head-own

      abbrev outs : List ℕ
      outs = outs_below K s n

      outs-same : outs ≡ gather H.n (λ x. eqb (cl x) (cl o) && H.out x) H.kids
      unfolding outs_below view
      outs-same = ap (λ (f : ℕ → Bool). gather n (λ x. f x && K.out x) K.kids) (fun_ext (λ x. sym (same-members x)))

      -- the pointers of its out members, then its sinks by place
      visits-same : visits_of_cluster H cl (cl o) ≡ outs ++ sinks_from H s 0
      unfolding visits_of_cluster sinks_at sinks_from
      visits-same = ap₂ (λ (a : List ℕ) (h : ℕ). a ++ sinks_at H h) (sym outs-same) own

      outs-fit : (k : ℕ) → Memᴰ k outs → k ≤ n
      unfolding outs_below view
      outs-fit = gather-all (λ k. k ≤ n) n _ K.kids (λ x q k b. view-closed n recs slots x k b)

      slots-older : unseen_slots K (λ x. eqb (cl x) (cl o) || seen x) + length outs ≤ unseen_slots K seen
      unfolding seen_by slots_of
      slots-older =
          let a = slots-after older is-older in
          let b = ap length outs-same in
          omega arith

      pub spare-there : unseen_slots K seen + 1 ≤ top
      unfolding view
      spare-there = X.spare (λ e. p (sym was ∙ e))

      pub older-set : s - 1 < length sets
      older-set = omega (arith, older-low, older-fits, X.ground.known.sets-long)

      pub mark-may : (n ≤ 4095) × (10 * n + 64 ≤ length work) × (s ≤ n) × (0 ≤ 64) × (1 ≤ top) × (top ≤ stack_end n)
      mark-may = (sized.room.most, sized.work-long, older-fits, omega arith, omega (arith, spare-there), X.inside)

      -- ---- the marker is put in front

      module _ (v : ℕ) (vs : v ≡ get_or sets (s - 1) 0) (work₁ : List ℕ) (at : ℕ) (l₁ : length work₁ ≡ length work)
          (m₁ : mem_of n work₁ at ≡ in_front (markers v s 0) (mem_of n work top)) (t₁ : at + length (markers v s 0) ≡ top) where
        set_is : v ≡ word_from (in_set H s) (drop 0 H.listed)
        set_is =
            vs ∙ sym (rec_of-get n sets s older-low older-fits) ∙ X.ground.known.exact s older-low older-fits
            ∙ (let e : set_word H s / 2 ^ 0 ≡ set_word H s = omega arith in sym e) ∙ set_word_lem H s 0 (length-take-le sink_max list X.ground.known.sinks-long)

        link-marked : area n (8 * n) work₁ ≡ lk
        unfolding in_front mem_of
        link-marked = ap (λ (w : Memory). w.link) m₁

        state-marked : area n (9 * n) work₁ ≡ st
        unfolding in_front mem_of
        state-marked = ap (λ (w : Memory). w.state) m₁

        pub older-may : Sized n recs slots work₁
            × (((1 ≤ s) × (s ≤ n) × (at ≤ stack_end n) × (length outs ≤ at)) × Chained n recs (area n (8 * n) work₁) s)
        older-may = (
          resized sized l₁,
          (
            (older-low, older-fits, omega (arith, X.inside), omega (arith, slots-older, spare-there, markers-one v s 0)),
            subst (λ (f : ℕ → ℕ). Chained n recs f s) (sym link-marked) older-chained,
          ),
        )

        -- ---- and its members are handled

        module _ (work' : List ℕ) (top' : ℕ) (l : length work' ≡ length work₁) (m : mem_of n work' top' ≡ handled K s (mem_of n work₁ at))
            (t : top' + length outs ≡ at) where
          link-now : area n (8 * n) work' ≡ lk
          unfolding handled in_front with_state mem_of
          link-now = ap (λ (w : Memory). w.link) m ∙ link-marked

          state-now : area n (9 * n) work' ≡ handled_state K s st
          unfolding handled in_front with_state mem_of
          state-now = ap (λ (w : Memory). w.state) m ∙ ap (handled_state K s) state-marked

          words-now : (mem_of n work' top').todo ≡ visit_words 0 outs ++ (markers v s 0 ++ (mem_of n work top).todo)
          unfolding handled in_front with_state view
          words-now = ap (λ (w : Memory). w.todo) m ∙ ap (λ (w : Memory). visit_words 0 outs ++ w.todo) m₁

          cl-now : cluster_in (area n (9 * n) work') ≡ cl
          cl-now = fun_ext (λ x. ap (λ (f : ℕ → ℕ). f x % 4096) state-now ∙ go x (eqb (H.cluster x) s) (same-members x))
            where
              go : (x : ℕ) (b : Bool) → eqb (cl x) (cl o) ≡ b → cond b (s + 4096) (st x) % 4096 ≡ st x % 4096
              go x true e = let a : (s + 4096) % 4096 ≡ s = omega arith in a ∙ sym own ∙ sym (eqb-true (cl x) (cl o) e)
              go x false e = refl

          seen-now : seen_in (area n (9 * n) work') ≡ (λ x. eqb (cl x) (cl o) || seen x)
          seen-now = fun_ext (λ x. ap (λ (f : ℕ → ℕ). leb 4096 (f x)) state-now ∙ go x (eqb (H.cluster x) s) (same-members x))
            where
              go : (x : ℕ) (b : Bool) → eqb (cl x) (cl o) ≡ b → leb 4096 (cond b (s + 4096) (st x)) ≡ (eqb (cl x) (cl o) || seen x)
              go x true e = rw e (le-leb 4096 (s + 4096) (omega arith))
              go x false e = rw e refl

          todo-now : visits_of H (mem_of n work' top').todo ≡ items 0 (visits_of_cluster H cl (cl o)) ++ rest
          unfolding view
          todo-now =
              ap (visits_of H) words-now ∙ words-visits H n 0 sized.room.most (omega arith) outs _ outs-fit
              ∙ ap (λ (j : List Item). items 0 outs ++ j)
              (marker-visits H v s 0 older-low older-fits sized.room.most (omega arith) set_is (mem_of n work top).todo)
              ∙ sym (append_assoc (items 0 outs) (items 0 (sinks_from H s 0)) rest)
              ∙ ap (λ (j : List Item). j ++ rest) (sym (items-append 0 outs (sinks_from H s 0)) ∙ ap (items 0) (sym visits-same))

          marks-now : Marks H (mem_of n work' top').todo
          unfolding view
          marks-now =
              subst (Marks H) (sym words-now)
              (words-marks H n 0 sized.room.most (omega arith) outs _ outs-fit
              (marker-marks H v s 0 older-low older-fits sized.room.most (omega arith) set_is (mem_of n work top).todo X.marks))

          room-now : unseen_slots K (seen_in (area n (9 * n) work')) ≤ top'
          room-now = let e = ap (unseen_slots K) seen-now in omega (arith, slots-older, spare-there, markers-one v s 0)

          pub visit-older : Visited n recs slots list sets limit (visiting H o c (mem_of n work top)) work' top'
          unfolding walk_of mem_of
          visit-older =
              visited work' top' (work-path todo-now seen-now cl-now ∙ sym (ap (act H seen cl o c rest) is-older ∙ act-older H seen cl o c rest))
              (record {
                sized = resized sized (l ∙ l₁);
                known = X.ground.known;
                ready = R;
                limits = X.ground.limits;
                sizes = subst (λ (f : ℕ → ℕ). Sizes H f (size_in (area n (8 * n) work'))) (sym cl-now)
                    (subst (λ (f : ℕ → ℕ). Sizes H cl (size_in f)) (sym link-now) X.ground.sizes);
                small = λ x. rw (ap (λ (f : ℕ → ℕ). size_in f x) link-now) (X.ground.small x);
                chains = λ d q e. subst (λ (f : ℕ → ℕ). Chained n recs f d) (sym link-now) (X.ground.chains d q e);
              })
              marks-now room-now (omega (arith, X.inside))

    -- ---- an object in no cluster

    module _ (z : s ≡ 0) where
      none : cl o ≡ 0
      none = own ∙ z

      abbrev barred : Bool
      barred = is_written (rec_of n recs o) || is_sink (rec_of n recs o)

      abbrev roomy : Bool
      roomy = not (eqb c 0) && leb (size_in lk c + 1) limit

      abbrev to : ℕ
      to = goes_to limit (rec_of n recs o) lk o c

      abbrev kd : Visit
      kd = pick false false barred roomy

      kind-is : what ≡ kd
      unfolding bars view
      kind-is =
          kind-table H limit R seen cl i rest I (size_in lk) X.ground.sizes
          ∙ ap₂ (λ (a b : Bool). pick a (not b) (bars H o) roomy) not_yet (eq-eqb (cl o) 0 none)

      known : Facts H limit seen cl o c kd
      known = subst (λ (k : Visit). Facts H limit seen cl o c k) kind-is (facts H limit seen cl o c)

      was-none : H.cluster o ≡ 0
      was-none = sym (I.unseen o unseen) ∙ none

      passed-new : c ≢ 0 → H.cluster c ≡ 0
      passed-new p = ((all_first I.visits).from p).3

      slots-placed : unseen_slots K (upd seen o true) + length (K.kids o) ≤ unseen_slots K seen
      slots-placed =
          let a = slots-after kd kind-is in
          let b = slots-joined H cl o barred roomy in
          let e = ap (unseen_slots K) (seen-joined seen cl o barred roomy) in
          omega arith

      pub placed-room : length (K.kids o) ≤ top
      placed-room = omega (arith, slots-placed, X.room)

      to-fits : to ≤ n
      to-fits = goes-fits limit (rec_of n recs o) lk o c n object-fits passed-fits

      -- the cluster that it gets was none before the walk
      to-new : to ≢ 0 → H.cluster to ≡ 0
      unfolding joined goes_to goes_by
      to-new p = go barred roomy p
        where
          go : (b t : Bool) → joined b t o c ≢ 0 → H.cluster (joined b t o c) ≡ 0
          go true t q = absurd (q refl)
          go false true q = passed-new q
          go false false q = was-none

      new-to : to ≢ 0 → cluster_of n recs to ≡ 0
      unfolding view
      new-to p = to-new p

      more : (x : ℕ) → (v : ℕ) → v ≢ 0 → size_in (counting v lk) x ≡ upd (size_in lk) v (size_in lk v + 1) x
      more x v p =
          let a : (lk v + 4096) / 4096 ≡ lk v / 4096 + 1 = omega arith in
          ap (λ (f : ℕ → ℕ). f x / 4096) (counting-some v lk p) ∙ upd-map (λ (w : ℕ). w / 4096) lk v (lk v + 4096) x
          ∙ ap (λ (w : ℕ). upd (size_in lk) v w x) a

      -- the table holds the sizes after the visit
      table_is : (x : ℕ) → size_in (counting to lk) x ≡ table_by (size_in lk) o c kd x
      unfolding pick joined table_by Sizes goes_to goes_by counting
      table_is x = go barred roomy known
        where
          empty : size_in lk o ≡ 0
          empty = X.ground.sizes o nz was-none ∙ size_none H cl o I.heads none nz

          go : (b t : Bool) → Facts H limit seen cl o c (pick false false b t)
              → size_in (counting (joined b t o c) lk) x ≡ table_by (size_in lk) o c (pick false false b t) x
          go true t f = refl
          go false true f = more x c f.1
          go false false f = more x o nz ∙ ap (λ (v : ℕ). upd (size_in lk) o (v + 1) x) empty

      table-small : (x : ℕ) → table_by (size_in lk) o c kd x ≤ 4095
      unfolding pick table_by Sizes view
      table-small x = go barred roomy known
        where
          at : (v k : ℕ) → k ≤ 4095 → Dec (x ≡ v) → upd (size_in lk) v k x ≤ 4095
          at v k h (yes e) = rw (e, upd_same (size_in lk) v k) h
          at v k h (no e) = rw (upd_other (size_in lk) v x k e) (X.ground.small x)

          go : (b t : Bool) → Facts H limit seen cl o c (pick false false b t) → table_by (size_in lk) o c (pick false false b t) x ≤ 4095
          go true t f = X.ground.small x
          go false true f =
              at c (size_in lk c + 1) (omega (arith, f.2, X.ground.sizes c f.1 (passed-new f.1), X.ground.limits.1)) (ℕ_discrete x c)
          go false false f = at o 1 (omega arith) (ℕ_discrete x o)

      module _ (work' : List ℕ) (top' : ℕ) (l : length work' ≡ length work) (m : mem_of n work' top' ≡ placed K to o (mem_of n work top))
          (t : top' + length (K.kids o) ≡ top) where
        link-then : area n (8 * n) work' ≡ counting to lk
        unfolding placed in_front with_state with_link mem_of
        link-then = ap (λ (v : Memory). v.link) m

        state-then : area n (9 * n) work' ≡ upd st o (to + 4096)
        unfolding placed in_front with_state with_link mem_of
        state-then = ap (λ (v : Memory). v.state) m

        cl-then : cluster_in (area n (9 * n) work') ≡ upd cl o to
        cl-then =
            let a : (to + 4096) % 4096 ≡ to = omega (arith, to-fits, sized.room.most) in
            fun_ext (λ x. ap (λ (f : ℕ → ℕ). f x % 4096) state-then ∙ upd-map (λ (w : ℕ). w % 4096) st o (to + 4096) x ∙ ap (λ (v : ℕ). upd cl o v x) a)

        seen-then : seen_in (area n (9 * n) work') ≡ upd seen o true
        seen-then =
            fun_ext (λ x. ap (λ (f : ℕ → ℕ). leb 4096 (f x)) state-then ∙ upd-map (leb 4096) st o (to + 4096) x
            ∙ ap (λ (b : Bool). upd seen o b x) (le-leb 4096 (to + 4096) (omega arith)))

        words-then : (mem_of n work' top').todo ≡ visit_words to (K.kids o) ++ (mem_of n work top).todo
        unfolding placed in_front with_state with_link
        words-then = ap (λ (v : Memory). v.todo) m

        todo-then : visits_of H (mem_of n work' top').todo ≡ items to (H.kids o) ++ rest
        todo-then =
            ap (visits_of H) words-then ∙ words-visits H n to sized.room.most to-fits (K.kids o) _ (λ k b. view-closed n recs slots o k b)

        marks_then : Marks H (mem_of n work' top').todo
        marks_then =
            subst (Marks H) (sym words-then) (words-marks H n to sized.room.most to-fits (K.kids o) _ (λ k b. view-closed n recs slots o k b) X.marks)

        room-then : unseen_slots K (seen_in (area n (9 * n) work')) ≤ top'
        room-then = let e = ap (unseen_slots K) seen-then in omega (arith, slots-placed, X.room)

        joined_to : act H seen cl o c rest what ≡ record { todo = items to (H.kids o) ++ rest; seen = upd seen o true; cl = upd cl o to }
        unfolding goes_to goes_by
        joined_to = ap (act H seen cl o c rest) kind-is ∙ act-joined H seen cl o c rest barred roomy none

        sizes-then : Sizes H (cluster_in (area n (9 * n) work')) (size_in (area n (8 * n) work'))
        unfolding act
        sizes-then =
            subst (λ (f : ℕ → ℕ). Sizes H f (size_in (area n (8 * n) work')))
            (ap (λ (k : Visit). cl_by cl o c k) (sym kind-is) ∙ ap (λ (w : Work). w.cl) joined_to ∙ sym cl-then)
            (subst (λ (t : ℕ → ℕ). Sizes H (cl_by cl o c kd) t)
            (fun_ext (λ x. sym (ap (λ (f : ℕ → ℕ). size_in f x) link-then ∙ table_is x)))
            (sizes-act H limit R seen cl i rest I (size_in lk) X.ground.sizes kd known))

        pub visit-placed : Visited n recs slots list sets limit (visiting H o c (mem_of n work top)) work' top'
        unfolding walk_of mem_of
        visit-placed =
            visited work' top' (work-path todo-then seen-then cl-then ∙ sym joined_to)
            (record {
              sized = resized sized l;
              known = X.ground.known;
              ready = R;
              limits = X.ground.limits;
              sizes = sizes-then;
              small = λ x. rw (ap (λ (f : ℕ → ℕ). size_in f x) link-then ∙ table_is x) (table-small x);
              chains = chain;
            })
            marks_then room-then (omega (arith, X.inside))
          where
            chain : (d : ℕ) → d ≢ 0 → cluster_of n recs d ≡ d → Chained n recs (area n (8 * n) work') d
            chain d q e =
                let old = X.ground.chains d q e in
                record {
                  first = ap (λ (f : ℕ → ℕ). f d / 4096 % 4096) link-then
                      ∙ ap (λ (w : ℕ). w / 4096 % 4096) (counting-other to lk d (λ g f. q (sym e ∙ ap (cluster_of n recs) f ∙ new-to g))) ∙ old.first;
                  next = λ x f. ap (λ (g : ℕ → ℕ). g x % 4096) link-then ∙ counting-next to lk x ∙ old.next x f;
                }
