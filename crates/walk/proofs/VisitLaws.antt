-- The out members of a cluster through its links, and the visits by their cases.
-- Assumes nothing.
use Prim.Native.Nat.{ℕ, zero, suc, ◌-◌, ◌/◌, ◌%◌, ◌<◌, ◌≤◌}
use mathlib.Core.Path.{◌≡◌, refl, sym, ap, ◌∙◌, subst}
use mathlib.Core.Logic.{◌≢◌}
use mathlib.Core.Bool.{Bool, true, false, not, cond, ◌||◌, ◌&&◌, true≢false, false≢true}
use mathlib.Core.List.{List, [], ◌∷◌, ◌++◌}
use native.Mathlib.Omega.{arith}
use borrow.Author.Tests.{eqb-true, eq-eqb, ne_eqb}
use lib.Dec.{eqb}
use lib.ListN.{length}
use lib.ListN as L
use Rattle.layout.specs.Limits.{sink_max, within}
use Rattle.records.specs.Record.{is_out, cluster}
use Rattle.graph.specs.Numbers.{Obj}
use Rattle.graph.specs.Heap.{Heap}
use Rattle.graph.specs.Clusters.{sinks_at}
use Rattle.graph.specs.Invariant.{Listed}
use Rattle.graph.specs.Trace.{marked, postponed, reached, Flags, Walk, scan, postpone, unpostpone, arrive, scan_if, scan_all, scan_outs, visit_by, visit, take_by, take}
use Rattle.graph.proofs.AnalysisInv.{and_split}
use Rattle.graph.proofs.FlagLaws.{postponed≢marked, set_flag-apart}
use Rattle.rules.specs.Buffers.{rec_of}
use Rattle.rules.specs.View.{view, listing, heap_in, set_word}
use Rattle.rules.proofs.BoolLaws.{or_split}
use Rattle.links.specs.Links.{linked_at, top_member, next_member, link_word}
use Rattle.links.proofs.MemberOrder.{top-le, top_in, next-is}
use Rattle.sweep.specs.Sweep.{unflagged}
use Rattle.postponed.specs.Postponed as P
use Rattle.walk.specs.Marks.{flags_of, put_mark}
use Rattle.walk.specs.State.{Way, heap_for, walked_heap, walk_at, pending, link_at, Linked, State, Listing, Ready, Moved}
use Rattle.walk.proofs.MarkLaws.{flags-put, cluster-same, out-same, view-same}
use Rattle.walk.proofs.MoveLaws.{moved-arrive, moved-postpone, moved-unpostpone, moved_none, moved_then, moved_as}

-- ---- the links

-- the link words tell the same while nothing but flags changes
link-words : (n : ℕ) (recs recs' : List ℕ) → n ≤ length recs → unflagged n recs' ≡ unflagged n recs → (x : ℕ) → link_word n (linked_at true n recs') x ≡ link_word n (linked_at true n recs) x
link-words n recs recs' long e x =
    λ i. link_word n (λ y. cond (not (out-same n recs recs' long e y i)) 0 (cluster-same n recs recs' long e y i)) x

linked-moved : (by : Bool) (n : ℕ) (slots recs work : List ℕ) (top : ℕ) (f : Walk → Walk) (recs' work' : List ℕ) (top' : ℕ) → n ≤ length recs
    → Linked by n recs work → Moved n slots recs work top f recs' work' top' → Linked by n recs' work'
linked-moved by n slots recs work top f recs' work' top' long l v =
    record { links = λ e x b. v.links x b ∙ l.links e x b ∙ sym (link-words n recs recs' long v.kept x) }

-- so do the list and the sets
listing-kept : (by : Way) (n : ℕ) (slots recs recs' : List ℕ) → n ≤ length recs → unflagged n recs' ≡ unflagged n recs → Listing by n recs slots
    → Listing by n recs' slots
listing-kept by n slots recs recs' long e g =
    let same : view n recs slots ≡ view n recs' slots = sym (view-same n recs recs' long e slots) in
    record {
      places = g.places;
      heads = g.heads;
      listed = subst (λ (H : Heap). Listed (listing (L.take sink_max by.list) H)) same g.listed;
      exact = λ h b. g.exact h b ∙ ap (λ (H : Heap). set_word (listing (L.take sink_max by.list) H) h) same;
    }

pub ready_moved : (by : Way) (n : ℕ) (slots recs work : List ℕ) (top : ℕ) (f : Walk → Walk) (recs' work' : List ℕ) (top' : ℕ)
    → Ready by n recs slots work top → Moved n slots recs work top f recs' work' top' → Ready by n recs' slots work' top'
ready_moved by n slots recs work top f recs' work' top' r v =
    let long = r.state.sized.room.recs-long in
    record {
      state = v.state;
      linked = linked-moved by.clustered n slots recs work top f recs' work' top' long r.linked v;
      listing = listing-kept by n slots recs recs' long v.kept r.listing;
    }

next-less : (n : ℕ) (cl : ℕ → ℕ) (x : ℕ) → 1 ≤ x → next_member n cl x < x
unfolding next_member
next-less n cl x p = go (within 1 n (cl x))
  where
    go : (b : Bool) → cond b (top_member cl (cl x) (x - 1)) 0 < x
    go true = omega (arith, top-le cl (cl x) (x - 1))
    go false = omega arith

-- what the two parts of a link word tell
module _ (n : ℕ) (recs work : List ℕ) (most : n ≤ 4095) (l : Linked true n recs work) (x : ℕ) (b : Obj n x) where
  pub link-top : link_at n work x / 4096 % 4096 ≡ top_member (linked_at true n recs) x n
  unfolding link_word
  link-top = omega (arith, l.links refl x b, next-less n (linked_at true n recs) x b.0, top-le (linked_at true n recs) x n)

  pub link-next : (h : ℕ) → Obj n h → linked_at true n recs x ≡ h → link_at n work x % 4096 ≡ top_member (linked_at true n recs) h (x - 1)
  unfolding link_word
  link-next h ih e = omega (arith, l.links refl x b, next-is n (linked_at true n recs) x h e ih.0 ih.1, top-le (linked_at true n recs) h (x - 1))

-- ---- the out members of a cluster

-- the cluster of an out member, 0 for the other objects
abbrev outs : Heap → ℕ → ℕ
outs H = λ x. cond (not (H.out x)) 0 (H.cluster x)

outs-member : (o : Bool) (c h : ℕ) → h ≢ 0 → cond (not o) 0 c ≡ h → (o ≡ true) × (c ≡ h)
outs-member true c h p e = (refl, e)
outs-member false c h p e = absurd (p (sym e))

-- from k down, the scan of the out members begins at the highest of them
pub outs-top : (H : Heap) (h : ℕ) → h ≢ 0 → (k : ℕ) (w : Walk) → scan_outs H h k w ≡ scan_outs H h (top_member (outs H) h k) w
unfolding scan_outs top_member scan_if
outs-top H h p zero w = refl
outs-top H h p (suc k) w = go (H.out (suc k)) (eqb (H.cluster (suc k)) h) refl refl (λ v. outs-top H h p k v)
  where
    go : (a b : Bool) → H.out (suc k) ≡ a → eqb (H.cluster (suc k)) h ≡ b
        → ((v : Walk) → scan_outs H h k v ≡ scan_outs H h (top_member (outs H) h k) v)
        → scan_outs H h (suc k) w ≡ scan_outs H h (cond (eqb (outs H (suc k)) h) (suc k) (top_member (outs H) h k)) w
    go true true ea eb ih =
        let q : eqb (outs H (suc k)) h ≡ true = rw ea eb in
        ap (λ (t : Bool). scan_outs H h (cond t (suc k) (top_member (outs H) h k)) w) (sym q)
    go true false ea eb ih = rw (ea, eb) (ih w)
    go false b ea eb ih = rw (ea, ne_eqb 0 h (λ z. p (sym z))) (ih w)

-- one turn of it, at a member
outs-turn : (H : Heap) (h x k : ℕ) (w : Walk) → x ≡ suc k → H.cluster x ≡ h
    → scan_outs H h x w ≡ scan_outs H h k (scan_if H (H.out x) true (w.flags marked x) x w)
unfolding scan_outs
outs-turn H h x k w e c = rw e (go (eq-eqb (H.cluster (suc k)) h (rw e at c)))
  where
    go : eqb (H.cluster (suc k)) h ≡ true
        → scan_outs H h k (scan_if H (H.out (suc k)) (eqb (H.cluster (suc k)) h) (w.flags marked (suc k)) (suc k) w)
        ≡ scan_outs H h k (scan_if H (H.out (suc k)) true (w.flags marked (suc k)) (suc k) w)
    go y = rw y refl

-- the list says nothing of what a scan does
module _ (l : List ℕ) (H : Heap) where
  if-listed : (a b m : Bool) (o : ℕ) (w : Walk) → scan_if (listing l H) a b m o w ≡ scan_if H a b m o w
  unfolding scan_if scan
  if-listed true true false o w = refl
  if-listed true true true o w = refl
  if-listed true false m o w = refl
  if-listed false b m o w = refl

  all_listed : (ys : List ℕ) (w : Walk) → scan_all (listing l H) ys w ≡ scan_all H ys w
  unfolding scan_all
  all_listed [] w = refl
  all_listed (y ∷ ys) w = all_listed ys _ ∙ ap (scan_all H ys) (if-listed true true (w.flags marked y) y w)

  outs-listed : (h k : ℕ) (w : Walk) → scan_outs (listing l H) h k w ≡ scan_outs H h k w
  unfolding scan_outs
  outs-listed h zero w = refl
  outs-listed h (suc k) w = outs-listed h k _ ∙ ap (scan_outs H h k) (if-listed (H.out (suc k)) (eqb (H.cluster (suc k)) h) (w.flags marked (suc k)) (suc k) w)

-- From x on, the scan of the out members of h's cluster ends as it does from the start of the loop.
pub record Sweeping (n : ℕ) (slots recs₀ work₀ : List ℕ) (top₀ h : ℕ) (recs work : List ℕ) (top x : ℕ) : Type 0 where
  pub same : (more : List ℕ) → scan_outs (view n recs₀ slots) h x (walk_at n recs (pending n work top ++ more))
      ≡ scan_outs (view n recs₀ slots) h n (walk_at n recs₀ (pending n work₀ top₀ ++ more))
  pub state : State n recs slots work top
  pub kept : unflagged n recs ≡ unflagged n recs₀
  pub links : (y : ℕ) → Obj n y → link_at n work y ≡ link_at n work₀ y
  pub within : x ≤ n
  pub member : 1 ≤ x → linked_at true n recs₀ x ≡ h
  pub recs-length : length recs ≡ length recs₀
  pub work-length : length work ≡ length work₀

-- the highest member is 0 or a member
top-member : (cl : ℕ → ℕ) (h k x : ℕ) → x ≡ top_member cl h k → (x ≤ k) × (1 ≤ x → cl x ≡ h)
top-member cl h k x e = (omega (arith, top-le cl h k), λ l. rw e (top_in cl h k (λ z. absurd (omega arith))))

module _ (n : ℕ) (slots recs₀ work₀ : List ℕ) (top₀ h : ℕ) (s₀ : State n recs₀ slots work₀ top₀) (l₀ : Linked true n recs₀ work₀) (ih : Obj n h) where
  abbrev H : Heap
  H = view n recs₀ slots

  long : n ≤ length recs₀
  long = s₀.sized.room.recs-long

  some-head : h ≢ 0
  some-head e = absurd (omega (arith, ih.0, e))

  pub sweeping-here : (x : ℕ) → x ≡ link_at n work₀ h / 4096 % 4096 → Sweeping n slots recs₀ work₀ top₀ h recs₀ work₀ top₀ x
  unfolding view
  sweeping-here x e =
      let q : x ≡ top_member (linked_at true n recs₀) h n = e ∙ link-top n recs₀ work₀ s₀.sized.room.most l₀ h ih in
      let t = top-member (linked_at true n recs₀) h n x q in
      record {
        same = λ more. rw q (sym (outs-top H h some-head n (walk_at n recs₀ (pending n work₀ top₀ ++ more))));
        state = s₀;
        kept = refl;
        links = λ y b. refl;
        within = t.0;
        member = t.1;
        recs-length = refl;
        work-length = refl;
      }

  module _ (recs work : List ℕ) (top x : ℕ) (g : Sweeping n slots recs₀ work₀ top₀ h recs work top x) (some : 1 ≤ x) where
    abbrev Step : List ℕ → List ℕ → ℕ → Type 0
    Step recs' work' top' = Moved n slots recs work top (scan_if (view n recs slots) true true (flags_of n recs marked x) x) recs' work' top'

    next_here : (recs' work' : List ℕ) (top' x' : ℕ) → Step recs' work' top' → x' ≡ link_at n work' x % 4096 → x' ≡ top_member (linked_at true n recs₀) h (x - 1)
    next_here recs' work' top' x' v e =
        e ∙ ap (λ (y : ℕ). y % 4096) (v.links x (some, g.within) ∙ g.links x (some, g.within))
        ∙ link-next n recs₀ work₀ s₀.sized.room.most l₀ x (some, g.within) h ih (g.member some)

    pub sweeping-less : (recs' work' : List ℕ) (top' x' : ℕ) → Step recs' work' top' → x' ≡ link_at n work' x % 4096 → x' < x
    sweeping-less recs' work' top' x' v e = omega (arith, next_here recs' work' top' x' v e, top-le (linked_at true n recs₀) h (x - 1))

    pub sweeping-on : (recs' work' : List ℕ) (top' x' : ℕ) → Step recs' work' top' → x' ≡ link_at n work' x % 4096 → length recs' ≡ length recs → length work' ≡ length work
        → Sweeping n slots recs₀ work₀ top₀ h recs' work' top' x'
    unfolding view
    sweeping-on recs' work' top' x' v e lr lw =
        let q = next_here recs' work' top' x' v e in
        let t = top-member (linked_at true n recs₀) h (x - 1) x' q in
        record {
          same = λ more.
              ap (scan_outs H h x') (sym (v.same more))
              ∙ turned more (x - 1) (omega arith) q (outs-member (is_out (rec_of n recs₀ x)) (cluster (rec_of n recs₀ x)) h some-head (g.member some))
              ∙ g.same more;
          state = v.state;
          kept = v.kept ∙ g.kept;
          links = λ y b. v.links y b ∙ g.links y b;
          within = omega arith;
          member = t.1;
          recs-length = lr ∙ g.recs-length;
          work-length = lw ∙ g.work-length;
        }
      where
        same_heap : view n recs slots ≡ view n recs₀ slots
        same_heap = view-same n recs₀ recs long g.kept slots

        -- one turn of the definition
        turned : (more : List ℕ) (k : ℕ) → x ≡ suc k → x' ≡ top_member (linked_at true n recs₀) h k → (is_out (rec_of n recs₀ x) ≡ true) × (cluster (rec_of n recs₀ x) ≡ h)
            → scan_outs H h x' (scan_if (view n recs slots) true true (flags_of n recs marked x) x (walk_at n recs (pending n work top ++ more)))
            ≡ scan_outs H h x (walk_at n recs (pending n work top ++ more))
        turned more k ex q c =
            let w : Walk = walk_at n recs (pending n work top ++ more) in
            ap (λ (G : Heap). scan_outs H h x' (scan_if G true true (flags_of n recs marked x) x w)) same_heap
            ∙ ap (λ (b : Bool). scan_outs H h x' (scan_if H b true (flags_of n recs marked x) x w)) (sym c.0)
            ∙ ap (λ (y : ℕ). scan_outs H h y (scan_if H (H.out x) true (flags_of n recs marked x) x w)) q
            ∙ sym (outs-top H h some-head k (scan_if H (H.out x) true (flags_of n recs marked x) x w))
            ∙ sym (outs-turn H h x k w ex c.1)

  pub sweeping-done : (recs work : List ℕ) (top x : ℕ) → Sweeping n slots recs₀ work₀ top₀ h recs work top x → x ≡ 0
      → Moved n slots recs₀ work₀ top₀ (scan_outs (view n recs₀ slots) h n) recs work top
  unfolding scan_outs
  sweeping-done recs work top x g e =
      record { same = λ more. sym (g.same more) ∙ at more; state = g.state; kept = g.kept; links = g.links }
    where
      at : (more : List ℕ) → scan_outs (view n recs₀ slots) h x (walk_at n recs (pending n work top ++ more)) ≡ walk_at n recs (pending n work top ++ more)
      at more = rw e refl

-- ---- the visit by its cases

module _ (n : ℕ) (recs slots work : List ℕ) (top : ℕ) (s : State n recs slots work top) (o : ℕ) (io : Obj n o) where
  abbrev G : Heap
  G = view n recs slots

  pub passed-scan_if : flags_of n recs marked o ≡ true → Moved n slots recs work top (scan_if (view n recs slots) true true (flags_of n recs marked o) o) recs work top
  unfolding scan_if
  passed-scan_if e = moved_none n slots recs work top _ (λ todo. rw e refl) s

  pub taken-scan_if : flags_of n recs marked o ≡ false → (recs' work' : List ℕ) (top' : ℕ) → Moved n slots recs work top (scan (view n recs slots) o) recs' work' top'
      → Moved n slots recs work top (scan_if (view n recs slots) true true (flags_of n recs marked o) o) recs' work' top'
  unfolding scan_if
  taken-scan_if e recs' work' top' v = moved_as n slots recs work top _ _ recs' work' top' (λ todo. rw e refl) v

  -- ---- a head

  module _ (list : List ℕ) where
    pub head_passed : flags_of n recs reached o ≡ true
        → Moved n slots recs work top (visit_by (heap_in n recs slots list) false true (flags_of n recs marked o) (flags_of n recs reached o) o) recs work top
    unfolding visit_by
    head_passed e = moved_none n slots recs work top _ (λ todo. rw e refl) s

    -- its sinks were scanned: then it is marked as reached, and its out members are scanned
    module _ (recs₁ work₁ : List ℕ) (top₁ : ℕ) (a : Moved n slots recs work top (scan_all (view n recs slots) (sinks_at (heap_in n recs slots list) o)) recs₁ work₁ top₁) where
      arrived : Moved n slots recs₁ work₁ top₁ (arrive (view n recs₁ slots) o) (put_mark reached o true recs₁) work₁ top₁
      arrived = moved-arrive n recs₁ slots work₁ top₁ a.state o io

      pub state-reached : State n (put_mark reached o true recs₁) slots work₁ top₁
      state-reached = arrived.state

      pub linked-reached : Linked true n recs work → Linked true n (put_mark reached o true recs₁) work₁
      linked-reached l =
          linked-moved true n slots recs₁ work₁ top₁ _ _ work₁ top₁ a.state.sized.room.recs-long
          (linked-moved true n slots recs work top _ recs₁ work₁ top₁ s.sized.room.recs-long l a) arrived

      pub head-reached : flags_of n recs reached o ≡ false → (recs' work' : List ℕ) (top' : ℕ)
          → Moved n slots (put_mark reached o true recs₁) work₁ top₁ (scan_outs (view n (put_mark reached o true recs₁) slots) o n) recs' work' top'
          → Moved n slots recs work top (visit_by (heap_in n recs slots list) false true (flags_of n recs marked o) (flags_of n recs reached o) o) recs' work' top'
      unfolding visit_by view arrive
      head-reached e recs' work' top' v =
          let v' : Moved n slots (put_mark reached o true recs₁) work₁ top₁ (scan_outs (view n recs slots) o n) recs' work' top'
          = subst (λ (H : Heap). Moved n slots (put_mark reached o true recs₁) work₁ top₁ (scan_outs H o n) recs' work' top')
          (view-same n recs (put_mark reached o true recs₁) s.sized.room.recs-long (arrived.kept ∙ a.kept) slots) v in
          moved_as n slots recs work top _ _ recs' work' top'
          (λ todo.
          ap (λ (b : Bool). visit_by (heap_in n recs slots list) false true (flags_of n recs marked o) b o (walk_at n recs todo)) e
          ∙ outs-listed (L.take sink_max list) (view n recs slots) o n _
          ∙ ap (λ (w : Walk). scan_outs (view n recs slots) o n (arrive (view n recs slots) o w))
          (all_listed (L.take sink_max list) (view n recs slots) (sinks_at (heap_in n recs slots list) o) (walk_at n recs todo)))
          (moved_then n slots recs work top (λ w. arrive (view n recs slots) o (scan_all (view n recs slots) (sinks_at (heap_in n recs slots list) o) w)) (scan_outs (view n recs slots) o n) _ _ _ recs' work' top'
          (moved_then n slots recs work top (scan_all (view n recs slots) (sinks_at (heap_in n recs slots list) o)) (arrive (view n recs slots) o) _ _ _ _ _ _ a arrived) v')

  -- ---- another member

  abbrev member-visit : List ℕ → Walk → Walk
  member-visit list = visit_by (heap_in n recs slots list) false false (flags_of n recs marked o) (flags_of n recs reached (cluster (rec_of n recs o))) o

  abbrev waits-not : Bool
  waits-not = flags_of n recs marked o || flags_of n recs reached (cluster (rec_of n recs o))

  pub member_settled : (list : List ℕ) (t : Bool) → t ≡ waits-not → t ≡ true → Moved n slots recs work top (member-visit list) recs work top
  unfolding visit_by
  member_settled list t is e = moved_none n slots recs work top _ (λ todo. at (flags_of n recs marked o) (flags_of n recs reached (cluster (rec_of n recs o))) (sym is ∙ e) (walk_at n recs todo)) s
    where
      at : (a b : Bool) → (a || b) ≡ true → (w : Walk) → visit_by (heap_in n recs slots list) false false a b o w ≡ w
      at true b q w = refl
      at false true q w = refl
      at false false q w = absurd (true≢false (sym q))

  pub member-later : (list : List ℕ) (t : Bool) → t ≡ waits-not → t ≡ false → (work' : List ℕ) → work' ≡ P.put n o true work → length work' ≡ length work
      → Moved n slots recs work top (member-visit list) (put_mark postponed o true recs) work' top
  unfolding visit_by postpone
  member-later list t is e work' p q =
      moved_as n slots recs work top _ _ _ work' top
      (λ todo. at (flags_of n recs marked o) (flags_of n recs reached (cluster (rec_of n recs o))) (sym is ∙ e) (walk_at n recs todo))
      (moved-postpone n recs slots work top s o io work' p q)
    where
      at : (a b : Bool) → (a || b) ≡ false → (w : Walk) → visit_by (heap_in n recs slots list) false false a b o w ≡ postpone (view n recs slots) o w
      at true b q w = absurd (true≢false q)
      at false true q w = absurd (true≢false q)
      at false false q w = refl

-- ---- a visit where clusters are walked or not

-- a plain walk sees no clusters
pub plain-none : (by : Bool) (c : ℕ) → not by ≡ true → cond by c 0 ≡ 0
plain-none false c e = refl
plain-none true c e = absurd (false≢true e)

-- only a heap with clusters has one that is not 0
by-true : (by : Bool) (c : ℕ) → cond by c 0 ≢ 0 → by ≡ true
by-true true c h = refl
by-true false c h = absurd (h refl)

module _ (by : Way) (n : ℕ) (recs slots work : List ℕ) (top : ℕ) (o : ℕ) (c : ℕ) (is : c ≡ cond by.clustered (cluster (rec_of n recs o)) 0) where
  -- an object of no cluster
  free-is : (b m r : Bool) (w : Walk) → visit_by (walked_heap by n recs slots) true b m r o w ≡ scan_if (view n recs slots) true true m o w
  unfolding visit_by scan_if scan
  free-is b true r w = refl
  free-is b false r w = refl

  pub visit-free : c ≡ 0 → (recs' work' : List ℕ) (top' : ℕ)
      → Moved n slots recs work top (scan_if (view n recs slots) true true (flags_of n recs marked o) o) recs' work' top'
      → Moved n slots recs work top (visit (walked_heap by n recs slots) o) recs' work' top'
  unfolding visit view
  visit-free e recs' work' top' v =
      moved_as n slots recs work top _ _ recs' work' top'
      (λ todo. rw (eq-eqb (cond by.clustered (cluster (rec_of n recs o)) 0) 0 (sym is ∙ e))
      (free-is (eqb (cond by.clustered (cluster (rec_of n recs o)) 0) o) (flags_of n recs marked o) (flags_of n recs reached (cond by.clustered (cluster (rec_of n recs o)) 0)) (walk_at n recs todo))) v

  module _ (some : c ≢ 0) where
    pub walks-clusters : by.clustered ≡ true
    walks-clusters = by-true by.clustered (cluster (rec_of n recs o)) (λ e. some (is ∙ e))

    pub visit-head : c ≡ o → (recs' work' : List ℕ) (top' : ℕ)
        → Moved n slots recs work top (visit_by (heap_in n recs slots by.list) false true (flags_of n recs marked o) (flags_of n recs reached o) o) recs' work' top'
        → Moved n slots recs work top (visit (walked_heap by n recs slots) o) recs' work' top'
    unfolding visit view
    visit-head e recs' work' top' v =
        let k : cluster (rec_of n recs o) ≡ o = sym (ap (λ (b : Bool). cond b (cluster (rec_of n recs o)) 0) walks-clusters) ∙ sym is ∙ e in
        moved_as n slots recs work top _ _ recs' work' top'
        (λ todo. rw (walks-clusters, ne_eqb (cluster (rec_of n recs o)) 0 (λ z. some (e ∙ sym k ∙ z)), k, eq-eqb o o refl) refl) v

    pub visit-member : c ≢ o → (recs' work' : List ℕ) (top' : ℕ)
        → Moved n slots recs work top
        (visit_by (heap_in n recs slots by.list) false false (flags_of n recs marked o) (flags_of n recs reached (cluster (rec_of n recs o))) o) recs' work' top'
        → Moved n slots recs work top (visit (walked_heap by n recs slots) o) recs' work' top'
    unfolding visit view
    visit-member d recs' work' top' v =
        let k : c ≡ cluster (rec_of n recs o) = is ∙ ap (λ (b : Bool). cond b (cluster (rec_of n recs o)) 0) walks-clusters in
        moved_as n slots recs work top _ _ recs' work' top'
        (λ todo. rw (walks-clusters, ne_eqb (cluster (rec_of n recs o)) 0 (λ z. some (k ∙ z)), ne_eqb (cluster (rec_of n recs o)) o (λ z. d (k ∙ z))) refl) v

-- ---- a visit that does nothing

pub none-and : (x : ℕ) (b : Bool) → (eqb x 0 && b) ≡ true → (x ≡ 0) × (b ≡ true)
none-and x b e = let d = and_split (eqb x 0) b e in (eqb-true x 0 d.0, d.1)

-- ---- the lowest postponed object

scan-seen : (by : Way) (H : Heap) (o : ℕ) (w : Walk) → scan (heap_for by H) o w ≡ scan H o w
unfolding scan
scan-seen by H o w = refl

take-is : (H : Heap) (o : ℕ) (w : Walk) → 1 ≤ o
    → take H o w ≡ take_by H (w.flags marked o) (w.flags reached (H.cluster o)) o (unpostpone H o w)
unfolding take
take-is H zero w h = absurd (omega arith)
take-is H (suc m) w h = refl

module _
    (by : Way)
    (n : ℕ)
    (recs slots work : List ℕ)
    (top : ℕ)
    (s : State n recs slots work top)
    (o : ℕ)
    (io : Obj n o)
    (work₁ : List ℕ)
    (p : work₁ ≡ P.put n o false work)
    (e₁ : length work₁ ≡ length work)
  where
    abbrev settled : Bool
    settled = flags_of n recs marked o || flags_of n recs reached (cond by.clustered (cluster (rec_of n recs o)) 0)

    pub take-dropped : (t : Bool) → t ≡ settled → t ≡ true → Moved n slots recs work top (take (walked_heap by n recs slots) o) (put_mark postponed o false recs) work₁ top
    unfolding take_by unpostpone view
    take-dropped t is e =
        moved_as n slots recs work top (unpostpone (view n recs slots) o) _ _ _ _
        (λ todo.
        take-is (walked_heap by n recs slots) o (walk_at n recs todo) io.0
        ∙ at (flags_of n recs marked o) (flags_of n recs reached (cond by.clustered (cluster (rec_of n recs o)) 0)) (sym is ∙ e) todo)
        (moved-unpostpone n recs slots work top s o io work₁ p e₁)
      where
        at : (a b : Bool) → (a || b) ≡ true → (todo : List ℕ)
            → take_by (walked_heap by n recs slots) a b o (unpostpone (walked_heap by n recs slots) o (walk_at n recs todo)) ≡ unpostpone (view n recs slots) o (walk_at n recs todo)
        at true b q todo = refl
        at false true q todo = refl
        at false false q todo = absurd (true≢false (sym q))

    pub state-taken : State n (put_mark postponed o false recs) slots work₁ top
    state-taken = (moved-unpostpone n recs slots work top s o io work₁ p e₁).state

    pub still-unmarked : (t : Bool) → t ≡ settled → t ≡ false → flags_of n (put_mark postponed o false recs) marked o ≡ false
    still-unmarked t is e =
        ap (λ (t : Flags). t marked o) (flags-put n recs postponed o false s.sized.room.recs-long io)
        ∙ set_flag-apart (flags_of n recs) postponed o false marked o postponed≢marked
        ∙ (or_split (flags_of n recs marked o) (flags_of n recs reached (cond by.clustered (cluster (rec_of n recs o)) 0)) (sym is ∙ e)).0

    pub take-scanned : (t : Bool) → t ≡ settled → t ≡ false → (recs' work' : List ℕ) (top' : ℕ)
        → Moved n slots (put_mark postponed o false recs) work₁ top (scan (view n (put_mark postponed o false recs) slots) o) recs' work' top'
        → Moved n slots recs work top (take (walked_heap by n recs slots) o) recs' work' top'
    unfolding take_by unpostpone view
    take-scanned t is e recs' work' top' v =
        let a = moved-unpostpone n recs slots work top s o io work₁ p e₁ in
        let v' : Moved n slots (put_mark postponed o false recs) work₁ top (scan (view n recs slots) o) recs' work' top'
        = subst (λ (H : Heap). Moved n slots (put_mark postponed o false recs) work₁ top (scan H o) recs' work' top')
        (view-same n recs (put_mark postponed o false recs) s.sized.room.recs-long a.kept slots) v in
        moved_as n slots recs work top (λ w. scan (view n recs slots) o (unpostpone (view n recs slots) o w)) _ _ _ _
        (λ todo.
        take-is (walked_heap by n recs slots) o (walk_at n recs todo) io.0
        ∙ at (flags_of n recs marked o) (flags_of n recs reached (cond by.clustered (cluster (rec_of n recs o)) 0)) (sym is ∙ e) todo)
        (moved_then n slots recs work top (unpostpone (view n recs slots) o) (scan (view n recs slots) o) _ _ _ recs' work' top' a v')
      where
        at : (a b : Bool) → (a || b) ≡ false → (todo : List ℕ)
            → take_by (walked_heap by n recs slots) a b o (unpostpone (walked_heap by n recs slots) o (walk_at n recs todo))
            ≡ scan (view n recs slots) o (unpostpone (view n recs slots) o (walk_at n recs todo))
        at true b q todo = absurd (true≢false q)
        at false true q todo = absurd (true≢false q)
        at false false q todo = scan-seen by (view n recs slots) o (unpostpone (view n recs slots) o (walk_at n recs todo))
