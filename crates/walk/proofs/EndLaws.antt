-- The walk from its starts to its end: what the loops keep.
-- Assumes nothing.
use Prim.Native.Nat.{ℕ, suc, ◌+◌, ◌-◌, ◌*◌, ◌^◌, ◌<◌, ◌≤◌}
use mathlib.Core.Path.{◌≡◌, refl, sym, ap, ◌∙◌, subst}
use mathlib.Core.Logic.{◌⊎◌, inl, inr}
use mathlib.Core.Bool.{Bool, true, false, cond, true≢false}
use mathlib.Core.List.Memᴰ
use mathlib.Core.List.{List, [], ◌∷◌, ◌++◌, append_assoc, append-nil, Memᴰ}
use native.Mathlib.Omega.{arith}
use lib.ListN.{length, get_or, take, drop}
use lib.Seq.{drop-cons, take-suc}
use Rattle.graph.specs.Numbers.{Obj, lowest}
use Rattle.graph.specs.Heap.{Heap, pointers}
use Rattle.graph.specs.Trace.{postponed, Walk, visit, step, step_by, needed, finish}
use Rattle.graph.specs.Trace as T
use Rattle.graph.proofs.LowestLaws.{lowest-passes, lowest-none}
use Rattle.graph.proofs.TraceSafe.{Ranged, words-ranged, Safe}
use Rattle.graph.proofs.TraceEnds.{Ended, Falls, visit-falls, step_falls, finish-step, finish-ended}
use Rattle.rules.specs.View.{view}
use Rattle.rules.proofs.ViewLaws.{view-closed}
use Rattle.sweep.specs.Sweep.{unflagged}
use Rattle.postponed.specs.Postponed as P
use Rattle.postponed.proofs.PostponedLaws.{lowest-is}
use Rattle.walk.specs.Marks.{flags_of}
use Rattle.walk.specs.State.{Way, walked_heap, heap_for, walk_at, end_from, steps_from, pending, Objects, State, Listing, Ready, Moved, Followed, Drained, Finished}
use Rattle.walk.proofs.MarkLaws.{view-same, flag-object}
use Rattle.walk.proofs.PendingLaws.{pointers-append}
use Rattle.walk.proofs.VisitLaws.{ready_moved}

-- ---- objects of a list

pub objects-none : (n : ℕ) → Objects n []
objects-none n x m = absurd (Memᴰ.not-nil m)

pub objects-append : (n : ℕ) (a b : List ℕ) → Objects n a → Objects n b → Objects n (a ++ b)
objects-append n a b f g x m = at (Memᴰ.append_cases a m)
  where
    at : Memᴰ x a ⊎ Memᴰ x b → Obj n x
    at (inl p) = f x p
    at (inr p) = g x p

objects-cons : (n o : ℕ) (b : List ℕ) → Obj n o → Objects n b → Objects n (o ∷ b)
objects-cons n o b f g x (Memᴰ.head e) = subst (λ (y : ℕ). Obj n y) (sym e) f
objects-cons n o b f g x (Memᴰ.tail m) = g x m

-- ---- the heap

module _ (by : Way) (n : ℕ) (slots recs recs' : List ℕ) (long : n ≤ length recs) (kept : unflagged n recs' ≡ unflagged n recs) where
  heap-same : walked_heap by n recs' slots ≡ walked_heap by n recs slots
  heap-same = ap (heap_for by) (view-same n recs recs' long kept slots)

  -- the same list, over records of the same heap
  end_same : (todo : List ℕ) → end_from by n slots recs' todo ≡ finish (walked_heap by n recs slots) (walk_at n recs' todo)
  end_same todo = ap (λ (H : Heap). finish H (walk_at n recs' todo)) heap-same

  steps-same : (todo : List ℕ) → steps_from by n slots recs' todo ≡ needed (walked_heap by n recs slots) (walk_at n recs' todo)
  steps-same todo = ap (λ (H : Heap). needed H (walk_at n recs' todo)) heap-same

-- it is in range, as the list is
walked-ranged : (by : Way) (n : ℕ) (recs slots : List ℕ) → Listing by n recs slots → Ranged (walked_heap by n recs slots)
unfolding view
walked-ranged by n recs slots g =
    words-ranged (walked_heap by n recs slots) (view-closed n recs slots)
    (λ y m nz. let t = g.listed y m nz in (t.0, none by.clustered t.1))
  where
    none : (b : Bool) {c : ℕ} → c ≡ 0 → cond b c 0 ≡ 0
    none true e = e
    none false e = refl

-- ---- a visit

module _
    (by : Way)
    (n : ℕ)
    (slots recs work : List ℕ)
    (top o : ℕ)
    (s : State n recs slots work top)
    (g : Listing by n recs slots)
    (io : Obj n o)
    (recs' work' : List ℕ)
    (top' : ℕ)
    (v : Moved n slots recs work top (visit (walked_heap by n recs slots) o) recs' work' top')
    (more : List ℕ)
    (objects : Objects n more)
  where
    abbrev behind : List ℕ
    behind = pending n work top ++ more

    safe : Safe (walked_heap by n recs slots) (walk_at n recs (o ∷ behind))
    unfolding view
    safe = record { todo-in = objects-cons n o behind io (objects-append n (pending n work top) more s.inside objects) }

    end-visit : end_from by n slots recs' (pending n work' top' ++ more) ≡ end_from by n slots recs (o ∷ (pending n work top ++ more))
    unfolding step step_by
    end-visit =
        end_same by n slots recs recs' s.sized.room.recs-long v.kept (pending n work' top' ++ more)
        ∙ ap (finish (walked_heap by n recs slots)) (sym (v.same more))
        ∙ finish-step (walked_heap by n recs slots) (walked-ranged by n recs slots g) (walk_at n recs (o ∷ (pending n work top ++ more))) safe

    steps-visit : steps_from by n slots recs' (pending n work' top' ++ more) < steps_from by n slots recs (o ∷ (pending n work top ++ more))
    unfolding view
    steps-visit =
        let f = visit-falls (walked_heap by n recs slots) (walked-ranged by n recs slots g) (walk_at n recs (o ∷ behind)) o behind refl io in
        omega (
          arith,
          f.0,
          steps-same by n slots recs recs' s.sized.room.recs-long v.kept (pending n work' top' ++ more),
          ap (needed (walked_heap by n recs slots)) (v.same more),
        )

-- ---- the loop that visits what is pending

module _ (by : Way) (n : ℕ) (recs slots work : List ℕ) (top : ℕ) (r : Ready by n recs slots work top) (some : top < 8 * n) where
  next-pending : pending n work top ≡ get_or work top 0 ∷ pending n work (top + 1)
  next-pending =
      let e : 8 * n - top ≡ suc (8 * n - (top + 1)) = omega arith in
      let t : suc top ≡ top + 1 = omega arith in
      let l : top < length work = omega (arith, r.state.sized.work-long) in
      ap (λ (k : ℕ). take k (drop top work)) e
      ∙ ap (λ (x : List ℕ). take (suc (8 * n - (top + 1))) x) (drop-cons work top 0 l)
      ∙ ap (λ (k : ℕ). get_or work top 0 ∷ take (8 * n - (top + 1)) (drop k work)) t

  pub next-object : Obj n (get_or work top 0)
  next-object =
      r.state.inside (get_or work top 0) (subst (λ (l : List ℕ). Memᴰ (get_or work top 0) l) (sym next-pending) (Memᴰ.head refl))

  pub ready-pop : Ready by n recs slots work (top + 1)
  ready-pop =
      let s = r.state in
      record {
        state =
            record {
              sized = s.sized;
              high = omega arith;
              room = omega (arith, s.room);
              inside = λ p m. s.inside p (subst (λ (l : List ℕ). Memᴰ p l) (sym next-pending) (Memᴰ.tail m));
              mapped = s.mapped;
            };
        linked = r.linked;
        listing = r.listing;
      }

pub record Draining (by : Way) (n : ℕ) (slots recs₀ work₀ : List ℕ) (top₀ : ℕ) (recs work : List ℕ) (top : ℕ) : Type 0 where
  pub same : (more : List ℕ) → Objects n more → end_from by n slots recs (pending n work top ++ more) ≡ end_from by n slots recs₀ (pending n work₀ top₀ ++ more)
  pub ready : Ready by n recs slots work top
  pub kept : unflagged n recs ≡ unflagged n recs₀
  pub fewer : steps_from by n slots recs (pending n work top) ≤ steps_from by n slots recs₀ (pending n work₀ top₀)
  pub recs-length : length recs ≡ length recs₀
  pub work-length : length work ≡ length work₀

module _ (by : Way) (n : ℕ) (slots recs₀ work₀ : List ℕ) (top₀ : ℕ) where
  pub draining-here : Ready by n recs₀ slots work₀ top₀ → Draining by n slots recs₀ work₀ top₀ recs₀ work₀ top₀
  draining-here r =
      record { same = λ more h. refl; ready = r; kept = refl; fewer = omega arith; recs-length = refl; work-length = refl }

  module _
      (recs work : List ℕ)
      (top : ℕ)
      (g : Draining by n slots recs₀ work₀ top₀ recs work top)
      (some : top < 8 * n)
      (recs' work' : List ℕ)
      (top' : ℕ)
      (v : Moved n slots recs work (top + 1) (visit (walked_heap by n recs slots) (get_or work top 0)) recs' work' top')
    where
      abbrev o : ℕ
      o = get_or work top 0

      popped : Ready by n recs slots work (top + 1)
      popped = ready-pop by n recs slots work top g.ready some

      list : o ∷ pending n work (top + 1) ≡ pending n work top
      list = sym (next-pending by n recs slots work top g.ready some)

      object : Obj n o
      object = next-object by n recs slots work top g.ready some

      pub draining-less : steps_from by n slots recs' (pending n work' top') < steps_from by n slots recs (pending n work top)
      draining-less =
          let f = steps-visit by n slots recs work (top + 1) o popped.state popped.listing object recs' work' top' v [] (objects-none n) in
          omega (
            arith,
            f,
            ap (steps_from by n slots recs') (append-nil (pending n work' top')),
            ap (steps_from by n slots recs) (ap (λ (l : List ℕ). o ∷ l) (append-nil (pending n work (top + 1))) ∙ list),
          )

      pub draining-on : length recs' ≡ length recs → length work' ≡ length work → Draining by n slots recs₀ work₀ top₀ recs' work' top'
      draining-on a b =
          record {
            same = λ more h.
                end-visit by n slots recs work (top + 1) o popped.state popped.listing object recs' work' top' v more h
                ∙ ap (λ (l : List ℕ). end_from by n slots recs (l ++ more)) list
                ∙ g.same more h;
            ready = ready_moved by n slots recs work (top + 1) _ recs' work' top' popped v;
            kept = v.kept ∙ g.kept;
            fewer = omega (arith, draining-less, g.fewer);
            recs-length = a ∙ g.recs-length;
            work-length = b ∙ g.work-length;
          }

  pub drained : (recs work : List ℕ) (top : ℕ) → Draining by n slots recs₀ work₀ top₀ recs work top → 8 * n ≤ top
      → Drained by n slots recs₀ (pending n work₀ top₀) recs work
  drained recs work top g h =
      let e : top ≡ 8 * n = omega (arith, g.ready.state.high) in
      let z : 8 * n - top ≡ 0 = omega arith in
      let none : pending n work top ≡ [] = ap (λ (k : ℕ). take k (drop top work)) z in
      record {
        followed =
            record {
              same = λ more d. ap (λ (l : List ℕ). end_from by n slots recs (l ++ more)) (sym none) ∙ g.same more d;
              ready = subst (λ (t : ℕ). Ready by n recs slots work t) e g.ready;
              kept = g.kept;
            };
        fewer = subst (λ (l : List ℕ). steps_from by n slots recs l ≤ steps_from by n slots recs₀ (pending n work₀ top₀)) none g.fewer;
      }

-- ---- starts, one after the other

pub none-pending : (n : ℕ) (work : List ℕ) → pending n work (8 * n) ≡ []
none-pending n work = let z : 8 * n - 8 * n ≡ 0 = omega arith in ap (λ (k : ℕ). take k (drop (8 * n) work)) z

module _ (by : Way) (n : ℕ) (slots recs work : List ℕ) (r : Ready by n recs slots work (8 * n)) where
  -- one object visited, and what is then pending
  pub followed-visit : (o : ℕ) → Obj n o → (recs₁ work₁ : List ℕ) (top₁ : ℕ)
      → Moved n slots recs work (8 * n) (visit (walked_heap by n recs slots) o) recs₁ work₁ top₁ → (recs₂ work₂ : List ℕ)
      → Drained by n slots recs₁ (pending n work₁ top₁) recs₂ work₂ → Followed by n slots recs (o ∷ []) recs₂ work₂
  followed-visit o io recs₁ work₁ top₁ v recs₂ work₂ d =
      record {
        same = λ more h.
            d.followed.same more h
            ∙ end-visit by n slots recs work (8 * n) o r.state r.listing io recs₁ work₁ top₁ v more h
            ∙ ap (λ (l : List ℕ). end_from by n slots recs (o ∷ (l ++ more))) (none-pending n work);
        ready = d.followed.ready;
        kept = d.followed.kept ∙ v.kept;
      }

  -- no start
  pub followed-none : (from : List ℕ) → from ≡ [] → Followed by n slots recs from recs work
  followed-none from e = record { same = λ more h. rw e refl; ready = r; kept = refl }

pub followed-as : (by : Way) (n : ℕ) (slots recs from from' recs' work' : List ℕ) → from' ≡ from → Followed by n slots recs from recs' work'
    → Followed by n slots recs from' recs' work'
followed-as by n slots recs from from' recs' work' e f = rw e f

-- some starts, then others
pub followed_then : (by : Way) (n : ℕ) (slots recs a b recs₁ work₁ recs₂ work₂ : List ℕ) → Objects n b
    → Followed by n slots recs a recs₁ work₁ → Followed by n slots recs₁ b recs₂ work₂ → Followed by n slots recs (a ++ b) recs₂ work₂
followed_then by n slots recs a b recs₁ work₁ recs₂ work₂ ob f g =
    record {
      same = λ more h.
          g.same more h
          ∙ f.same (b ++ more) (objects-append n b more ob h)
          ∙ ap (end_from by n slots recs) (sym (append_assoc a b more));
      ready = g.ready;
      kept = g.kept ∙ f.kept;
    }

-- ---- the roots by index

pub roots-next : (roots : List ℕ) (i : ℕ) → i < length roots → pointers (take (i + 1) roots) ≡ pointers (take i roots) ++ pointers (get_or roots i 0 ∷ [])
roots-next roots i l =
    let t : i + 1 ≡ suc i = omega arith in
    ap (λ (k : ℕ). pointers (take k roots)) t ∙ ap pointers (take-suc roots i 0 l) ∙ pointers-append (take i roots) (get_or roots i 0 ∷ [])

-- ---- the lowest postponed object

-- the lowest postponed object, 0 for none
abbrev pub lowest_postponed : ℕ → List ℕ → ℕ
lowest_postponed n recs = lowest (flags_of n recs postponed) n

-- the lowest postponed object was taken up, and what it leads to was visited
record Retaken (by : Way) (n : ℕ) (slots recs recs' work' : List ℕ) : Type 0 where
  same : end_from by n slots recs' [] ≡ end_from by n slots recs []
  ready : Ready by n recs' slots work' (8 * n)
  kept : unflagged n recs' ≡ unflagged n recs
  less : steps_from by n slots recs' [] < steps_from by n slots recs []

module _ (by : Way) (n : ℕ) (slots recs work : List ℕ) (r : Ready by n recs slots work (8 * n)) where
  abbrev here : Walk
  here = walk_at n recs []

  calm : Safe (walked_heap by n recs slots) here
  calm = record { todo-in = λ x m. absurd (Memᴰ.not-nil m) }

  lowest-there : (x : ℕ) → ((i : ℕ) → get_or work i 0 < 2 ^ 32) → x ≡ P.lowest n work → x ≡ lowest_postponed n recs
  lowest-there x fit e = e ∙ lowest-is n work r.state.sized.room.most fit (flags_of n recs postponed) r.state.mapped (flag-object n recs postponed)

  module _ (o : ℕ) (is : o ≡ lowest_postponed n recs) (some : 1 ≤ o) where
    found : Obj n o × (flags_of n recs postponed o ≡ true)
    found =
        let e : lowest_postponed n recs ≡ suc (o - 1) = omega arith in
        subst (λ (x : ℕ). Obj n x × (flags_of n recs postponed x ≡ true)) (sym is) (lowest-passes (flags_of n recs postponed) n (o - 1) e)

    lowest-object : Obj n o
    lowest-object = found.0

    module _
        (recs₁ work₁ : List ℕ)
        (top₁ : ℕ)
        (v : Moved n slots recs work (8 * n) (T.take (walked_heap by n recs slots) o) recs₁ work₁ top₁)
      where
        ready-taken : Ready by n recs₁ slots work₁ top₁
        ready-taken = ready_moved by n slots recs work (8 * n) _ recs₁ work₁ top₁ r v

        stepped : step (walked_heap by n recs slots) here ≡ walk_at n recs₁ (pending n work₁ top₁)
        unfolding step step_by view
        stepped =
            ap (λ (x : ℕ). T.take (walked_heap by n recs slots) x here) (sym is)
            ∙ ap (λ (l : List ℕ). T.take (walked_heap by n recs slots) o (walk_at n recs l)) (sym (ap (λ (l : List ℕ). l ++ []) (none-pending n work)))
            ∙ v.same []
            ∙ ap (walk_at n recs₁) (append-nil (pending n work₁ top₁))

        falls : needed (walked_heap by n recs slots) (step (walked_heap by n recs slots) here) < needed (walked_heap by n recs slots) here
        unfolding view
        falls = at (step_falls (walked_heap by n recs slots) (walked-ranged by n recs slots r.listing) here calm)
          where
            at : Ended (walked_heap by n recs slots) here ⊎ Falls (walked_heap by n recs slots) here (step (walked_heap by n recs slots) here)
                → needed (walked_heap by n recs slots) (step (walked_heap by n recs slots) here) < needed (walked_heap by n recs slots) here
            at (inl e) = absurd (true≢false (sym found.1 ∙ e.1 o found.0))
            at (inr f) = f.0

        retaken : (recs₂ work₂ : List ℕ) → Drained by n slots recs₁ (pending n work₁ top₁) recs₂ work₂ → Retaken by n slots recs recs₂ work₂
        retaken recs₂ work₂ d =
            let long = r.state.sized.room.recs-long in
            record {
              same =
                  d.followed.same [] (objects-none n)
                  ∙ ap (end_from by n slots recs₁) (append-nil (pending n work₁ top₁))
                  ∙ end_same by n slots recs recs₁ long v.kept (pending n work₁ top₁)
                  ∙ ap (finish (walked_heap by n recs slots)) (sym stepped)
                  ∙ finish-step (walked_heap by n recs slots) (walked-ranged by n recs slots r.listing) here calm;
              ready = d.followed.ready;
              kept = d.followed.kept ∙ v.kept;
              less =
                  omega (
                    arith,
                    d.fewer,
                    falls,
                    steps-same by n slots recs recs₁ long v.kept (pending n work₁ top₁),
                    ap (needed (walked_heap by n recs slots)) stepped,
                  );
            }

-- the loop that takes them up
pub record Retaking (by : Way) (n : ℕ) (slots recs₀ work₀ recs work : List ℕ) (o : ℕ) : Type 0 where
  pub same : end_from by n slots recs [] ≡ end_from by n slots recs₀ []
  pub ready : Ready by n recs slots work (8 * n)
  pub kept : unflagged n recs ≡ unflagged n recs₀
  pub lowest-now : o ≡ lowest_postponed n recs
  pub recs-length : length recs ≡ length recs₀
  pub work-length : length work ≡ length work₀

module _ (by : Way) (n : ℕ) (slots recs₀ work₀ : List ℕ) where
  pub retaking-here : (o : ℕ) → Ready by n recs₀ slots work₀ (8 * n) → ((i : ℕ) → get_or work₀ i 0 < 2 ^ 32) → o ≡ P.lowest n work₀ → Retaking by n slots recs₀ work₀ recs₀ work₀ o
  retaking-here o r f l =
      record { same = refl; ready = r; kept = refl; lowest-now = lowest-there by n slots recs₀ work₀ r o f l; recs-length = refl; work-length = refl }

  module _ (recs work : List ℕ) (o : ℕ) (g : Retaking by n slots recs₀ work₀ recs work o) (some : 1 ≤ o) where
    pub retaking-object : Obj n o
    retaking-object = lowest-object by n slots recs work g.ready o g.lowest-now some

    module _
        (recs₁ work₁ : List ℕ)
        (top₁ : ℕ)
        (v : Moved n slots recs work (8 * n) (T.take (walked_heap by n recs slots) o) recs₁ work₁ top₁)
      where
        pub retaking-ready : Ready by n recs₁ slots work₁ top₁
        retaking-ready = ready-taken by n slots recs work g.ready o g.lowest-now some recs₁ work₁ top₁ v

        module _ (recs₂ work₂ : List ℕ) (d : Drained by n slots recs₁ (pending n work₁ top₁) recs₂ work₂) where
          turn : Retaken by n slots recs recs₂ work₂
          turn = retaken by n slots recs work g.ready o g.lowest-now some recs₁ work₁ top₁ v recs₂ work₂ d

          pub retaking-less : steps_from by n slots recs₂ [] < steps_from by n slots recs []
          retaking-less = turn.less

          pub retaking-on : (o' : ℕ) → ((i : ℕ) → get_or work₂ i 0 < 2 ^ 32) → o' ≡ P.lowest n work₂ → length recs₂ ≡ length recs → length work₂ ≡ length work
              → Retaking by n slots recs₀ work₀ recs₂ work₂ o'
          retaking-on o' f l a b =
              record {
                same = turn.same ∙ g.same;
                ready = turn.ready;
                kept = turn.kept ∙ g.kept;
                lowest-now = lowest-there by n slots recs₂ work₂ turn.ready o' f l;
                recs-length = a ∙ g.recs-length;
                work-length = b ∙ g.work-length;
              }

  pub retaking-done : (recs work : List ℕ) (o : ℕ) → Retaking by n slots recs₀ work₀ recs work o → o ≡ 0 → Finished by n slots recs₀ recs
  unfolding view
  retaking-done recs work o g e =
      record {
        same =
            sym (finish-ended (walked_heap by n recs slots) (walk_at n recs []) (refl, lowest-none (flags_of n recs postponed) n (sym g.lowest-now ∙ e)))
            ∙ g.same;
        kept = g.kept;
      }
