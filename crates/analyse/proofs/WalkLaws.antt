-- The walk from one start: the visits one after the other.
-- Assumes nothing.
use Prim.Native.Nat.{ℕ, zero, suc, ◌+◌, ◌-◌, ◌*◌, ◌/◌, ◌%◌, ◌^◌, ◌≤◌, ◌<◌}
use mathlib.Core.Path.{◌≡◌, refl, sym, ap, ap₂, ◌∙◌, subst}
use mathlib.Core.List.{List, [], ◌∷◌, ◌++◌, Memᴰ}
use mathlib.Core.Logic.{◌≢◌}
use native.Mathlib.Decide.{ℕ_discrete}
use native.Mathlib.Omega.{arith}
use lib.ListN.{length, get_or, take, drop, length-drop}
use lib.Seq.{get_or-drop, get_or-take, drop-drop, length-take-le}
use lib.Count.{count_trailing_zeros}
use lib.Pow.{shr-shr}
use Rattle.layout.specs.Limits.{sink_max}
use Rattle.graph.specs.Heap.{Heap}
use Rattle.graph.specs.Clusters.{in_set}
use Rattle.graph.specs.Numbers.{only}
use Rattle.graph.specs.Analysis.{Item, Work, items, finish}
use Rattle.graph.specs.Invariant.{both, Inv, Sizes, unseen_slots}
use Rattle.graph.proofs.AnalysisEnds.{finish-done, unseen-le}
use Rattle.rules.specs.View.{view, heap_in}
use Rattle.rules.proofs.BufferLaws.{rec_of-get}
use Rattle.rules.proofs.ViewLaws.{view-kids}
use Rattle.table.specs.Clusters.{cluster_of}
use Rattle.analyse.specs.Memory.{stack_end, area, Memory, mem_of, item_of, visits_of, mark_from, sinks_from, Marked, Marks, markers, seen_in, cluster_in, size_in, walk_of, in_front}
use Rattle.analyse.specs.Called.{Chained, Ground, Visiting, visiting, Walking, Visited, Walked}
use Rattle.analyse.proofs.MemoryLaws.{todo-next, todo-end}
use Rattle.analyse.proofs.SlotLaws.{resized}
use Rattle.analyse.proofs.VisitLaws.{work-path}
use Rattle.analyse.proofs.MarkLaws.{word_from, set_word_lem, word_none, word_next, plain-items, marker-items, marker-visits, marker-marks, markers-one}

-- one of the first r of a list
pub taken_in : (l : List ℕ) (j r : ℕ) → j < length l → j < r → Memᴰ (get_or l j 0) (take r l)
taken_in [] j r h p = absurd (omega arith)
taken_in (x ∷ l) j zero h p = absurd (omega arith)
taken_in (x ∷ l) zero (suc r) h p = Memᴰ.head refl
taken_in (x ∷ l) (suc j) (suc r) h p = Memᴰ.tail (taken_in l j r (omega arith) (omega arith))

-- the words of the objects are as they were
ground-same : {n : ℕ} {recs slots list sets : List ℕ} {limit : ℕ} {work work₁ : List ℕ} → Ground n recs slots list sets limit work
    → length work₁ ≡ length work → area n (8 * n) work₁ ≡ area n (8 * n) work → area n (9 * n) work₁ ≡ area n (9 * n) work
    → Ground n recs slots list sets limit work₁
ground-same {n} {recs} {slots} {list} {sets} {limit} {work} {work₁} G l a b = record {
  sized = resized G.sized l;
  known = G.known;
  ready = G.ready;
  limits = G.limits;
  sizes = subst (λ (f : ℕ → ℕ). Sizes (heap_in n recs slots list) (cluster_in f) (size_in (area n (8 * n) work₁))) (sym b)
      (subst (λ (f : ℕ → ℕ). Sizes (heap_in n recs slots list) (cluster_in (area n (9 * n) work)) (size_in f)) (sym a) G.sizes);
  small = λ x. rw (ap (λ (f : ℕ → ℕ). size_in f x) a) (G.small x);
  chains = λ d q e. subst (λ (f : ℕ → ℕ). Chained n recs f d) (sym a) (G.chains d q e);
}

pub no-todo : (H : Heap) (n : ℕ) (work : List ℕ) → 10 * n + 64 ≤ length work → (walk_of H (mem_of n work (stack_end n))).todo ≡ []
unfolding walk_of visits_of
no-todo H n work l = ap (visits_of H) (todo-end n work l)

module _ (n : ℕ) (recs slots list sets : List ℕ) (limit : ℕ) (work : List ℕ) where
  abbrev H : Heap
  H = heap_in n recs slots list

  abbrev K : Heap
  K = view n recs slots

  module _ (top : ℕ) (W : Walking n recs slots list sets limit work top) where
    module _ (some : top < stack_end n) where
      abbrev w : ℕ
      w = get_or work top 0

      words : (mem_of n work top).todo ≡ w ∷ (mem_of n work (top + 1)).todo
      words = todo-next n work W.ground.sized.work-long top some

      marks-next : Marks H (mem_of n work (top + 1)).todo
      marks-next x m = subst (Marks H) words W.marks x (Memᴰ.tail m)

      pub word-there : top < length work
      word-there = omega (arith, W.ground.sized.work-long)

      -- ---- a visit

      module _ (plain : w < mark_from) where
        plain-is : walk_of H (mem_of n work top) ≡ visiting H (w % 4096) (w / 4096) (mem_of n work (top + 1))
        unfolding walk_of mem_of item_of visits_of
        plain-is = λ i. record {
          todo = (ap (visits_of H) words ∙ ap (λ (l : List Item). l ++ visits_of H (mem_of n work (top + 1)).todo) (plain-items H w plain)) i;
          seen = (walk_of H (mem_of n work top)).seen;
          cl = (walk_of H (mem_of n work top)).cl;
        }

        pub plain-visit : Visiting n recs slots list sets limit work (w % 4096) (w / 4096) (top + 1)
        plain-visit = record {
          ground = W.ground;
          inv = subst (λ (v : Work). Inv H limit v) plain-is W.inv;
          marks = marks-next;
          room = omega (arith, W.room);
          spare = λ e. omega (arith, W.room);
          inside = omega arith;
        }

        pub plain_done : (work' : List ℕ) (top' : ℕ)
            → Visited n recs slots list sets limit (visiting H (w % 4096) (w / 4096) (mem_of n work (top + 1))) work' top'
            → Visited n recs slots list sets limit (walk_of H (mem_of n work top)) work' top'
        plain_done work' top' g = subst (λ (v : Work). Visited n recs slots list sets limit v work' top') (sym plain-is) g

      -- ---- a marker

      module _ (marked : mark_from ≤ w) where
        abbrev h : ℕ
        h = w % 4096

        abbrev p : ℕ
        p = w / 4096 % 4096

        mark : Marked H w
        mark = subst (Marks H) words W.marks w (Memᴰ.head refl) marked

        pub head-low : 1 ≤ h
        head-low = mark.low

        pub head-fits : h ≤ n
        unfolding view
        head-fits = mark.high

        pub head-there : h - 1 < length sets
        head-there = omega (arith, head-low, head-fits, W.ground.known.sets-long)

        abbrev s : ℕ
        s = get_or sets (h - 1) 0

        places : length H.listed ≡ sink_max
        places = length-take-le sink_max list W.ground.known.sinks-long

        set-from : (j : ℕ) → s / 2 ^ j ≡ word_from (in_set H h) (drop j H.listed)
        set-from j =
            ap (λ (v : ℕ). v / 2 ^ j) (sym (rec_of-get n sets h head-low head-fits) ∙ W.ground.known.exact h head-low head-fits)
            ∙ set_word_lem H h j places

        set-some : word_from (in_set H h) (drop p H.listed) ≢ 0
        unfolding sinks_from
        set-some e = mark.some (word_none (in_set H h) (drop p H.listed) e)

        abbrev t : ℕ
        t = count_trailing_zeros 64 (word_from (in_set H h) (drop p H.listed))

        next_place : (t < length (drop p H.listed))
            × (only (in_set H h) (drop p H.listed) ≡ get_or (drop p H.listed) t 0 ∷ only (in_set H h) (drop (t + 1) (drop p H.listed)))
        next_place = word_next (in_set H h) 64 (drop p H.listed) set-some (omega (arith, length-drop p H.listed, places))

        pub place-fits : p ≤ 63
        place-fits = omega (arith, next_place.0, length-drop p H.listed, places)

        module _ (k : ℕ) (ks : k ≡ p + count_trailing_zeros 64 (s / 2 ^ p)) where
          abbrev y : ℕ
          y = get_or list k 0

          abbrev s' : ℕ
          s' = s / 2 ^ k / 2 ^ 1

          k-is : k ≡ p + t
          k-is = ks ∙ ap (λ (v : ℕ). p + count_trailing_zeros 64 v) (set-from p)

          pub next_fits : k < 64
          next_fits = omega (arith, k-is, next_place.0, length-drop p H.listed, places)

          pub sink-there : k < length list
          sink-there = omega (arith, next_fits, W.ground.known.sinks-long)

          pub next-mark-may : (n ≤ 4095) × (10 * n + 64 ≤ length work) × (h ≤ n) × (k + 1 ≤ 64) × (1 ≤ top + 1) × (top + 1 ≤ stack_end n)
          next-mark-may =
              (W.ground.sized.room.most, W.ground.sized.work-long, head-fits, omega (arith, next_fits), omega arith, omega arith)

          -- the next sink, then those after it
          sinks-next : sinks_from H h p ≡ y ∷ sinks_from H h (k + 1)
          unfolding sinks_from
          sinks-next =
              let e : p + (t + 1) ≡ k + 1 = omega (arith, k-is) in
              next_place.1
              ∙ ap₂ (λ (a : ℕ) (l : List ℕ). a ∷ only (in_set H h) l)
              (get_or-drop p H.listed t 0 ∙ ap (λ (j : ℕ). get_or H.listed j 0) (sym k-is) ∙ get_or-take sink_max list k 0 next_fits)
              (drop-drop (t + 1) p H.listed ∙ ap (λ (j : ℕ). drop j H.listed) e)

          set_after : s' ≡ word_from (in_set H h) (drop (k + 1) H.listed)
          set_after = shr-shr s k 1 ∙ set-from (k + 1)

          -- a sink is in no older cluster
          sink-none : cluster_of n recs y ≡ 0
          unfolding view
          sink-none = go (ℕ_discrete y 0)
            where
              go : Dec (y ≡ 0) → cluster_of n recs y ≡ 0
              go (yes e) = ap (cluster_of n recs) e ∙ W.ground.ready.zero-none
              go (no e) = (W.ground.ready.listed_in y (taken_in list k sink_max sink-there next_fits) e).1

          module _ (work₁ : List ℕ) (at : ℕ) (l₁ : length work₁ ≡ length work)
              (m₁ : mem_of n work₁ at ≡ in_front (markers s' h (k + 1)) (mem_of n work (top + 1))) (t₁ : at + length (markers s' h (k + 1)) ≡ top + 1) where
            link-same : area n (8 * n) work₁ ≡ area n (8 * n) work
            unfolding in_front mem_of
            link-same = ap (λ (m : Memory). m.link) m₁

            state-same : area n (9 * n) work₁ ≡ area n (9 * n) work
            unfolding in_front mem_of
            state-same = ap (λ (m : Memory). m.state) m₁

            words-after : (mem_of n work₁ at).todo ≡ markers s' h (k + 1) ++ (mem_of n work (top + 1)).todo
            unfolding in_front
            words-after = ap (λ (m : Memory). m.todo) m₁

            abbrev more : List ℕ
            more = (mem_of n work (top + 1)).todo

            todo-is : visits_of H (mem_of n work top).todo ≡ record { obj = y; passed = 0 } ∷ visits_of H (mem_of n work₁ at).todo
            unfolding visits_of items view
            todo-is =
                ap (visits_of H) words
                ∙ ap (λ (l : List Item). l ++ visits_of H more) (marker-items H w marked ∙ ap (items 0) sinks-next)
                ∙ ap (λ (l : List Item). record { obj = y; passed = 0 } ∷ l)
                (sym (ap (visits_of H) words-after
                ∙ marker-visits H s' h (k + 1) head-low head-fits W.ground.sized.room.most (omega (arith, next_fits)) set_after more))

            marker-is : walk_of H (mem_of n work top) ≡ visiting H y 0 (mem_of n work₁ at)
            unfolding walk_of mem_of
            marker-is = work-path todo-is (ap seen_in (sym state-same)) (ap cluster_in (sym state-same))

            pub marker-visit : Visiting n recs slots list sets limit work₁ y 0 at
            unfolding view
            marker-visit = record {
              ground = ground-same W.ground l₁ link-same state-same;
              inv = subst (λ (v : Work). Inv H limit v) marker-is W.inv;
              marks = subst (Marks H) (sym words-after)
                  (marker-marks H s' h (k + 1) head-low head-fits W.ground.sized.room.most (omega (arith, next_fits)) set_after more marks-next);
              room = let e = ap (λ (f : ℕ → ℕ). unseen_slots K (seen_in f)) state-same in omega (arith, W.room, markers-one s' h (k + 1));
              spare = λ e. absurd (e sink-none);
              inside = omega arith;
            }

            pub marker-done : (work' : List ℕ) (top' : ℕ) → Visited n recs slots list sets limit (visiting H y 0 (mem_of n work₁ at)) work' top'
                → Visited n recs slots list sets limit (walk_of H (mem_of n work top)) work' top'
            marker-done work' top' g = subst (λ (v : Work). Visited n recs slots list sets limit v work' top') (sym marker-is) g

    pub walk_end : (v : Work) → finish H limit (walk_of H (mem_of n work top)) ≡ finish H limit v → stack_end n ≤ top
        → Walked n recs slots list sets limit v work
    walk_end v e h = record {
      walking = rw is at W;
      ended = sym (finish-done H limit W.ground.ready W.ground.limits.0 (walk_of H (mem_of n work (stack_end n))) none) ∙ (rw is at e);
    }
      where
        is : top ≡ stack_end n
        is = omega (arith, W.inside)

        none : (walk_of H (mem_of n work (stack_end n))).todo ≡ []
        none = no-todo H n work W.ground.sized.work-long

  module _ (W : Walking n recs slots list sets limit work (stack_end n)) (o : ℕ) (h : o ≤ n) where
    -- a visit to one start may be made
    pub start-visit : Visiting n recs slots list sets limit work o 0 (stack_end n)
    unfolding view unseen_slots
    start-visit = record {
      ground = W.ground;
      inv = record {
        conn = W.inv.conn;
        heads = W.inv.heads;
        visits = both (record { fits = h; from = λ q. absurd (q refl) }) W.inv.visits;
        unseen = W.inv.unseen;
        whole = W.inv.whole;
        kept = W.inv.kept;
        fresh = W.inv.fresh;
        barred = W.inv.barred;
        zero-none = W.inv.zero-none;
        range = W.inv.range;
        small = W.inv.small;
      };
      marks = W.marks;
      room = W.room;
      spare = λ e. let a = unseen-le H (seen_in (area n (9 * n) work)) (λ x b. view-kids n recs slots x) in omega arith;
      inside = omega arith;
    }
