-- What the analysis leaves.
-- Assumes nothing.
use Prim.Native.Nat.{ℕ, ◌≤◌}
use mathlib.Core.Path.{◌≡◌, refl, sym, ap, ◌∙◌, subst}
use mathlib.Core.Bool.{Bool, true, false, not, cond, ◌&&◌, ◌||◌, or-true, true≢false, false≢true}
use mathlib.Core.List.Memᴰ
use mathlib.Core.List.{List, [], ◌∷◌, ◌++◌, Memᴰ, cons≢nil}
use mathlib.Core.Logic.{◌≢◌, ◌⊎◌, inl, inr}
use native.Mathlib.Decide.{ℕ_discrete}
use native.Mathlib.Omega.{arith}
use lib.Dec.{eqb}
use borrow.Author.Tests.{eq-eqb, ne_eqb, eqb-true}
use Rattle.graph.specs.Numbers.{Obj, upd, bit, sum, count, gather}
use Rattle.graph.specs.Heap.{Heap, pointers, targets, Reach, start, along}
use Rattle.graph.specs.Clusters.{size, out_bit, sinks_at}
use Rattle.graph.specs.Analysis.{Item, Work, items, bars, Visit, skip, older, alone, join, head, visits_of_cluster, pushed, seen_by, cl_by, act, begin, finish, walked, Rule, is_new, new_head, over, stays, out_loss_of, left_clusters, analyse}
use Rattle.graph.specs.Invariant.{Connected, Ready, Inv, All}
use Rattle.graph.proofs.NumberLaws.{upd_same, upd_other, bit_le, count-le, sum-swap, sum-single, sum_mono, sum-le, gather-from, gather-in, in_left, in_right}
use Rattle.graph.proofs.Paths.{connected-keep, keep-in, keep-was}
use Rattle.graph.proofs.OutLaws.{out_bit-same}
use Rattle.graph.proofs.MemberLaws.{no-out, pointer_word, pointer-nonzero}
use Rattle.graph.proofs.SinkLaws.{sinks_in_lem}
use Rattle.graph.proofs.AnalysisInv.{Facts, all_append, all-items, all_first, all_rest, and_split}
use Rattle.graph.proofs.AnalysisEnds.{begin-inv, finish-inv, finish-ends, finish-keeps, older-same}
use Rattle.graph.proofs.State.{clustered, Good, good-ready}

-- the walk from these starts when it is over; its clusters are `walked`
abbrev pub ended : Heap → ℕ → List ℕ → Work
ended H limit from = finish H limit (begin H from)

module _ (H : Heap) (limit : ℕ) (from : List ℕ) (R : Ready H) (p : 1 ≤ limit) (h : (k : ℕ) → Memᴰ k from → k ≤ H.n) where
  start-inv : Inv H limit (begin H from)
  start-inv = begin-inv H limit from R h

  -- the invariant at the end of the walk
  pub ended-inv : Inv H limit (ended H limit from)
  ended-inv = finish-inv H limit R p (begin H from) start-inv

module _ (P : Rule) (H : Heap) (limit : ℕ) (from : List ℕ) (R : Ready H) (p : 1 ≤ limit) (h : (k : ℕ) → Memᴰ k from → k ≤ H.n) where
  walked-inv : Inv H limit (ended H limit from)
  walked-inv = ended-inv H limit from R p h

  pub left-connected : Connected H.kids H.cluster → Connected H.kids (left_clusters P H limit from)
  unfolding left_clusters walked
  left-connected k = connected-keep H.kids _ _ (walked-inv.conn k)

  -- an older cluster stays
  stays-older : (c : ℕ) → H.cluster c ≢ 0 → stays P H (walked H limit from) c ≡ true
  unfolding stays is_new
  stays-older c q = rw (ne_eqb (H.cluster c) 0 q) refl

  -- the members of older clusters keep their number
  pub left-older : (x : ℕ) → H.cluster x ≢ 0 → left_clusters P H limit from x ≡ H.cluster x
  unfolding left_clusters walked
  left-older x q =
      keep-in _ _ (H.cluster x) x (walked-inv.kept x q)
      (stays-older (H.cluster x) (λ e. q (sym (R.heads x q) ∙ e)))

  -- who was in no cluster is now in none or in a new one
  pub left-new : (x : ℕ) → H.cluster x ≡ 0 → left_clusters P H limit from x ≢ 0 → H.cluster (left_clusters P H limit from x) ≡ 0
  unfolding left_clusters walked
  left-new x e q =
      let t = keep-was _ _ _ x refl q in
      rw (← t.0) (walked-inv.fresh x e (λ j. q (sym t.0 ∙ j)))

  -- so an older cluster has the members that it had
  pub left-members : (c : ℕ) → H.cluster c ≢ 0 → (x : ℕ) → eqb (H.cluster x) c ≡ eqb (left_clusters P H limit from x) c
  left-members c q x = go (ℕ_discrete (H.cluster x) 0)
    where
      nz : c ≢ 0
      nz e = q (ap H.cluster e ∙ R.zero-none)

      go : Dec (H.cluster x ≡ 0) → eqb (H.cluster x) c ≡ eqb (left_clusters P H limit from x) c
      go (yes e) =
          ne_eqb (H.cluster x) c (λ j. nz (sym j ∙ e))
          ∙ sym (ne_eqb (left_clusters P H limit from x) c (λ j. q (ap H.cluster (sym j) ∙ left-new x e (λ k. nz (sym j ∙ k)))))
      go (no e) = rw (left-older x e) refl

  -- written objects and sinks join nothing
  pub left-barred : (x : ℕ) → bars H x ≡ true → H.cluster x ≡ 0 → left_clusters P H limit from x ≡ 0
  unfolding left_clusters walked
  left-barred x e f = go (ℕ_discrete (left_clusters P H limit from x) 0)
    where
      go : Dec (left_clusters P H limit from x ≡ 0) → left_clusters P H limit from x ≡ 0
      go (yes j) = j
      go (no j) = absurd (j (sym (keep-was _ _ _ x refl j).0 ∙ walked-inv.barred x e ∙ f))

  -- the out bits of older members are as they were
  pub left_out : ((x : ℕ) → H.out x ≡ out_bit H.kids H.sink H.cluster x) → (x : ℕ) → H.cluster x ≢ 0
      → out_bit H.kids H.sink (left_clusters P H limit from) x ≡ H.out x
  left_out e x q =
      sym (e x ∙ out_bit-same H.kids H.kids H.sink H.cluster (left_clusters P H limit from) x refl (sym (left-older x q))
      (left-members (H.cluster x) (λ j. q (sym (R.heads x q) ∙ j))))

  left-was : (x : ℕ) → left_clusters P H limit from x ≢ 0 → walked H limit from x ≢ 0
  unfolding left_clusters
  left-was x q j = q (sym (keep-was _ _ _ x refl q).0 ∙ j)

  pub left-zero : left_clusters P H limit from 0 ≡ 0
  unfolding walked
  left-zero = go (ℕ_discrete (left_clusters P H limit from 0) 0)
    where
      go : Dec (left_clusters P H limit from 0 ≡ 0) → left_clusters P H limit from 0 ≡ 0
      go (yes j) = j
      go (no j) = absurd (left-was 0 j walked-inv.zero-none)

  pub left-range : (x : ℕ) → left_clusters P H limit from x ≢ 0 → x ≤ H.n
  unfolding walked
  left-range x q = walked-inv.range x (left-was x q)

-- ---- counting

-- the members of all clusters are together at most n
pub sizes-le : (n : ℕ) (cl : ℕ → ℕ) → sum n (λ h. size n cl h) ≤ n
unfolding size count
sizes-le n cl =
    let a = sum-swap n n (λ h x. bit (eqb (cl x) h)) in
    let b = sum-le n (λ x. sum n (λ h. bit (eqb (cl x) h))) (λ x p q. one x) in
    omega arith
  where
    one : (x : ℕ) → sum n (λ h. bit (eqb (cl x) h)) ≤ 1
    one x =
        let a = sum-single n (cl x) (λ h. bit (eqb (cl x) h)) (λ h i. rw (ne_eqb (cl x) h (λ j. i (sym j))) refl) in
        let b = bit_le (eqb (cl x) (cl x)) in
        omega arith

pub out_loss-le : (P : Rule) (H : Heap) (cl : ℕ → ℕ) → out_loss_of P H cl ≤ H.n
unfolding out_loss_of
out_loss-le P H cl =
    let a = sum_mono H.n (λ h. cond (new_head P H cl h && over P H cl h) (size H.n cl h) 0) (λ h. size H.n cl h)
    (λ h p q. part (new_head P H cl h && over P H cl h) (size H.n cl h)) in
    let b = sizes-le H.n cl in
    omega arith
  where
    part : (b : Bool) (k : ℕ) → cond b k 0 ≤ k
    part true k = omega arith
    part false k = omega arith

-- ---- the analysis leaves a good heap

pub analyse-good : (P : Rule) (H : Heap) (limit : ℕ) (from : List ℕ) (loss : ℕ) → Good H loss → 1 ≤ limit
    → ((k : ℕ) → Memᴰ k from → k ≤ H.n) → Good (analyse P H limit from).heap 0
unfolding analyse clustered bars
analyse-good P H limit from loss G p h = record {
  conn = left-connected P H limit from (good-ready G) p h G.conn;
  zero-none = left-zero P H limit from (good-ready G) p h;
  closed = G.closed;
  range = left-range P H limit from (good-ready G) p h;
  sinks = λ x e. left-barred P H limit from (good-ready G) p h x (ap (λ b. H.written x || b) e ∙ or-true (H.written x)) (G.sinks x e);
  exact = λ x. refl;
  listed_in = G.listed_in;
  listed-all = G.listed-all;
  sink-none = G.sink-none;
  losses = let a = count-le H.n (λ x. not (eqb (left_clusters P H limit from x) 0)) in omega arith;
}

-- ---- what the walk meets

-- after a visit its object is seen, unless it is 0
seen_by-here : (H : Heap) (limit : ℕ) (seen : ℕ → Bool) (cl : ℕ → ℕ) (o c : ℕ) (v : Visit) → Facts H limit seen cl o c v
    → (o ≡ 0) ⊎ (seen_by seen cl o v o ≡ true)
unfolding seen_by
seen_by-here H limit seen cl o c skip f = f
seen_by-here H limit seen cl o c older f = inr (rw (eq-eqb (cl o) (cl o) refl) refl)
seen_by-here H limit seen cl o c alone f = inr (upd_same seen o true)
seen_by-here H limit seen cl o c join f = inr (upd_same seen o true)
seen_by-here H limit seen cl o c head f = inr (upd_same seen o true)

upd-true : (seen : ℕ → Bool) (o x : ℕ) → seen x ≡ true → upd seen o true x ≡ true
upd-true seen o x e = go (ℕ_discrete x o)
  where
    go : Dec (x ≡ o) → upd seen o true x ≡ true
    go (yes i) = rw i (upd_same seen o true)
    go (no i) = upd_other seen o x true i ∙ e

seen_by-keeps : (seen : ℕ → Bool) (cl : ℕ → ℕ) (o x : ℕ) (v : Visit) → seen x ≡ true → seen_by seen cl o v x ≡ true
unfolding seen_by
seen_by-keeps seen cl o x skip e = e
seen_by-keeps seen cl o x older e = rw e (or-true (eqb (cl x) (cl o)))
seen_by-keeps seen cl o x alone e = upd-true seen o x e
seen_by-keeps seen cl o x join e = upd-true seen o x e
seen_by-keeps seen cl o x head e = upd-true seen o x e

-- only o is new among the objects seen
upd-new : (seen : ℕ → Bool) (o x : ℕ) → seen x ≡ false → upd seen o true x ≡ true → x ≡ o
upd-new seen o x e f = go (ℕ_discrete x o)
  where
    go : Dec (x ≡ o) → x ≡ o
    go (yes i) = i
    go (no i) = absurd (false≢true (sym (upd_other seen o x true i ∙ e) ∙ f))

or_new : (a b : Bool) → b ≡ false → (a || b) ≡ true → a ≡ true
or_new true b e f = refl
or_new false b e f = absurd (false≢true (sym e ∙ f))

-- ---- who gets a cluster satisfies U, if the starts do and the walk leads from U only to U

module _ (H : Heap) (limit : ℕ) (R : Ready H) (p : 1 ≤ limit) (U : ℕ → Type 0)
    (kids-in : (x y : ℕ) → U x → Memᴰ y (H.kids x) → y ≢ 0 → U y)
    (outs-in : (o x : ℕ) → U o → H.cluster o ≢ 0 → H.cluster x ≡ H.cluster o → H.out x ≡ true → U x)
    (held_in : (o y : ℕ) → U o → H.cluster o ≢ 0 → Memᴰ y (sinks_at H (H.cluster o)) → U y) where
  record Met (w : Work) : Type 0 where
    visits : All (λ j. j.obj ≢ 0 → U j.obj) w.todo
    changed : (x : ℕ) → (w.cl x ≡ H.cluster x) ⊎ U x

  changed-upd : (cl : ℕ → ℕ) (o v : ℕ) → U o → ((x : ℕ) → (cl x ≡ H.cluster x) ⊎ U x) → (x : ℕ) → (upd cl o v x ≡ H.cluster x) ⊎ U x
  changed-upd cl o v u h x = go (ℕ_discrete x o) (h x)
    where
      go : Dec (x ≡ o) → (cl x ≡ H.cluster x) ⊎ U x → (upd cl o v x ≡ H.cluster x) ⊎ U x
      go (yes i) r = inr (subst U (sym i) u)
      go (no i) (inl e) = inl (upd_other cl o x v i ∙ e)
      go (no i) (inr q) = inr q

  met-act : (seen : ℕ → Bool) (cl : ℕ → ℕ) (i : Item) (rest : List Item) → Inv H limit (record { todo = i ∷ rest; seen = seen; cl = cl })
      → Met (record { todo = i ∷ rest; seen = seen; cl = cl }) → (v : Visit) → Facts H limit seen cl i.obj i.passed v
      → Met (act H seen cl i.obj i.passed rest v)
  unfolding act pushed cl_by visits_of_cluster
  met-act seen cl i rest I M skip f = record { visits = all_rest M.visits; changed = M.changed }
  met-act seen cl i rest I M older f =
      record {
        visits = all_append (all-items 0 _ (λ k m. either k (Memᴰ.append_cases _ m))) (all_rest M.visits);
        changed = M.changed;
      }
    where
      from_out : (k : ℕ) → (x : ℕ) × Obj H.n x × ((eqb (cl x) (cl i.obj) && H.out x) ≡ true) × Memᴰ k (H.kids x) → k ≢ 0 → U k
      from_out k t nz =
          let x = t.0 in
          let s = and_split (eqb (cl x) (cl i.obj)) (H.out x) t.2 in
          let r = older-same H limit R (record { todo = i ∷ rest; seen = seen; cl = cl }) I i.obj x f.1 f.2
          (eqb-true (cl x) (cl i.obj) s.0) in
          kids-in x k (outs-in i.obj x (all_first M.visits f.0) (λ j. r.0 (r.1 ∙ j)) r.1 s.1) t.3 nz

      was : H.cluster i.obj ≡ cl i.obj
      was = sym (I.unseen i.obj f.1)

      either : (k : ℕ)
          → Memᴰ k (gather H.n (λ x. eqb (cl x) (cl i.obj) && H.out x) H.kids) ⊎ Memᴰ k (sinks_at H (cl i.obj))
          → k ≢ 0 → U k
      either k (inl m) nz = from_out k (gather-from H.n (λ x. eqb (cl x) (cl i.obj) && H.out x) H.kids k m) nz
      either k (inr m) nz =
          held_in i.obj k (all_first M.visits f.0) (λ j. f.2 (sym was ∙ j)) (subst (λ (c : ℕ). Memᴰ k (sinks_at H c)) (sym was) m)
  met-act seen cl i rest I M alone f =
      record { visits = all_append (all-items 0 _ (λ k m nz. kids-in i.obj k (all_first M.visits f.0) m nz)) (all_rest M.visits); changed = M.changed }
  met-act seen cl i rest I M join f =
      let u = all_first M.visits f.0.nonzero in
      record {
        visits = all_append (all-items i.passed _ (λ k m nz. kids-in i.obj k u m nz)) (all_rest M.visits);
        changed = changed-upd cl i.obj i.passed u M.changed;
      }
  met-act seen cl i rest I M head f =
      let u = all_first M.visits f.nonzero in
      record {
        visits = all_append (all-items i.obj _ (λ k m nz. kids-in i.obj k u m nz)) (all_rest M.visits);
        changed = changed-upd cl i.obj i.obj u M.changed;
      }

  pub walked-met : (from : List ℕ) → ((k : ℕ) → Memᴰ k from → k ≤ H.n) → ((k : ℕ) → Memᴰ k from → k ≢ 0 → U k)
      → (x : ℕ) → (walked H limit from x ≡ H.cluster x) ⊎ U x
  unfolding walked begin
  walked-met from h r x =
      (finish-keeps H limit R p Met met-act (begin H from) (begin-inv H limit from R h)
      (record { visits = all-items 0 _ r; changed = λ y. inl refl })).changed x

-- ---- what is seen when the walk is over

-- y is to be visited
data Waits (y : ℕ) : List Item → Type 0 where
  next : {i : Item} {l : List Item} → y ≡ i.obj → Waits y (i ∷ l)
  later : {i : Item} {l : List Item} → Waits y l → Waits y (i ∷ l)

waits-right : {y : ℕ} (l m : List Item) → Waits y m → Waits y (l ++ m)
waits-right [] m a = a
waits-right (i ∷ l) m a = later (waits-right l m a)

waits-left : {y : ℕ} (l m : List Item) → Waits y l → Waits y (l ++ m)
waits-left {y = y} [] m x' = elim x' [ ]
waits-left (i ∷ l) m (next e) = next e
waits-left (i ∷ l) m (later a) = later (waits-left l m a)

waits-items : {y : ℕ} (c : ℕ) (l : List ℕ) → Memᴰ y l → Waits y (items c l)
unfolding items
waits-items {y = y} c [] x' = elim x' [ ]
waits-items c (x ∷ l) (Memᴰ.head e) = next e
waits-items c (x ∷ l) (Memᴰ.tail m) = later (waits-items c l m)

-- y is no object, or seen, or to be visited
data Due (y : ℕ) (w : Work) : Type 0 where
  nothing : y ≡ 0 → Due y w
  met : w.seen y ≡ true → Due y w
  waits : Waits y w.todo → Due y w

module _ (H : Heap) (limit : ℕ) (R : Ready H) (p : 1 ≤ limit) (from : List ℕ) where
  record Handled (w : Work) : Type 0 where
    begun : (y : ℕ) → Memᴰ y from → Due y w
    own : (x y : ℕ) → w.seen x ≡ true → H.cluster x ≡ 0 → Memᴰ y (H.kids x) → Due y w
    outs : (x y : ℕ) → w.seen x ≡ true → H.cluster x ≢ 0 → H.out x ≡ true → Memᴰ y (H.kids x) → Due y w
    held : (x y : ℕ) → w.seen x ≡ true → H.cluster x ≢ 0 → Memᴰ y (sinks_at H (H.cluster x)) → Due y w

  due-act : (seen : ℕ → Bool) (cl : ℕ → ℕ) (i : Item) (rest : List Item) (v : Visit) → Facts H limit seen cl i.obj i.passed v → (y : ℕ)
      → Due y (record { todo = i ∷ rest; seen = seen; cl = cl }) → Due y (act H seen cl i.obj i.passed rest v)
  unfolding act
  due-act seen cl i rest v f y (nothing e) = nothing e
  due-act seen cl i rest v f y (met e) = met (seen_by-keeps seen cl i.obj y v e)
  due-act seen cl i rest v f y (waits (next e)) = go (seen_by-here H limit seen cl i.obj i.passed v f)
    where
      go : (i.obj ≡ 0) ⊎ (seen_by seen cl i.obj v i.obj ≡ true) → Due y (act H seen cl i.obj i.passed rest v)
      go (inl z) = nothing (e ∙ z)
      go (inr s) = met (ap (seen_by seen cl i.obj v) e ∙ s)
  due-act seen cl i rest v f y (waits (later a)) = waits (waits-right (pushed H cl i.obj i.passed v) rest a)

  -- the pointers of an object of no older cluster that is seen from now on
  own-act : (seen : ℕ → Bool) (cl : ℕ → ℕ) (i : Item) (rest : List Item) → Inv H limit (record { todo = i ∷ rest; seen = seen; cl = cl })
      → (v : Visit) → Facts H limit seen cl i.obj i.passed v → (x y : ℕ) → seen x ≡ false → seen_by seen cl i.obj v x ≡ true
      → H.cluster x ≡ 0 → Memᴰ y (H.kids x) → Waits y (pushed H cl i.obj i.passed v ++ rest)
  unfolding seen_by pushed
  own-act seen cl i rest I skip f x y e s z m = absurd (false≢true (sym e ∙ s))
  own-act seen cl i rest I older f x y e s z m =
      absurd ((older-same H limit R (record { todo = i ∷ rest; seen = seen; cl = cl }) I i.obj x f.1 f.2
      (eqb-true (cl x) (cl i.obj) (or_new (eqb (cl x) (cl i.obj)) (seen x) e s))).0 z)
  own-act seen cl i rest I alone f x y e s z m =
      waits-left _ rest (waits-items 0 (H.kids i.obj) (subst (λ (k : ℕ). Memᴰ y (H.kids k)) (upd-new seen i.obj x e s) m))
  own-act seen cl i rest I join f x y e s z m =
      waits-left _ rest (waits-items i.passed (H.kids i.obj) (subst (λ (k : ℕ). Memᴰ y (H.kids k)) (upd-new seen i.obj x e s) m))
  own-act seen cl i rest I head f x y e s z m =
      waits-left _ rest (waits-items i.obj (H.kids i.obj) (subst (λ (k : ℕ). Memᴰ y (H.kids k)) (upd-new seen i.obj x e s) m))

  -- those of an out member of an older cluster
  outs-act : (seen : ℕ → Bool) (cl : ℕ → ℕ) (i : Item) (rest : List Item) → Inv H limit (record { todo = i ∷ rest; seen = seen; cl = cl })
      → (v : Visit) → Facts H limit seen cl i.obj i.passed v → (x y : ℕ) → seen x ≡ false → seen_by seen cl i.obj v x ≡ true
      → H.cluster x ≢ 0 → H.out x ≡ true → Memᴰ y (H.kids x) → Waits y (pushed H cl i.obj i.passed v ++ rest)
  unfolding seen_by pushed visits_of_cluster
  outs-act seen cl i rest I skip f x y e s z o m = absurd (false≢true (sym e ∙ s))
  outs-act seen cl i rest I older f x y e s z o m =
      waits-left _ rest (waits-items 0 _ (in_left y _ _ (gather-in H.n (λ k. eqb (cl k) (cl i.obj) && H.out k) H.kids x y
      (nonzero x z, R.range x z) (rw (or_new (eqb (cl x) (cl i.obj)) (seen x) e s, o) refl) m)))
    where
      nonzero : (k : ℕ) → H.cluster k ≢ 0 → 1 ≤ k
      nonzero k q = let i : k ≢ 0 = λ j. q (ap H.cluster j ∙ R.zero-none) in omega (arith, i)
  outs-act seen cl i rest I alone f x y e s z o m = absurd (z (ap H.cluster (upd-new seen i.obj x e s) ∙ sym (I.unseen i.obj f.1) ∙ f.2))
  outs-act seen cl i rest I join f x y e s z o m =
      absurd (z (ap H.cluster (upd-new seen i.obj x e s) ∙ sym (I.unseen i.obj f.0.unseen) ∙ f.0.none))
  outs-act seen cl i rest I head f x y e s z o m =
      absurd (z (ap H.cluster (upd-new seen i.obj x e s) ∙ sym (I.unseen i.obj f.unseen) ∙ f.none))

  -- the sinks of an older cluster
  held-act : (seen : ℕ → Bool) (cl : ℕ → ℕ) (i : Item) (rest : List Item) → Inv H limit (record { todo = i ∷ rest; seen = seen; cl = cl })
      → (v : Visit) → Facts H limit seen cl i.obj i.passed v → (x y : ℕ) → seen x ≡ false → seen_by seen cl i.obj v x ≡ true
      → H.cluster x ≢ 0 → Memᴰ y (sinks_at H (H.cluster x)) → Waits y (pushed H cl i.obj i.passed v ++ rest)
  unfolding seen_by pushed visits_of_cluster
  held-act seen cl i rest I skip f x y e s z m = absurd (false≢true (sym e ∙ s))
  held-act seen cl i rest I older f x y e s z m =
      waits-left _ rest (waits-items 0 _ (in_right y (gather H.n (λ k. eqb (cl k) (cl i.obj) && H.out k) H.kids) _
      (subst (λ (c : ℕ). Memᴰ y (sinks_at H c)) (sym (I.unseen x e) ∙ eqb-true (cl x) (cl i.obj) (or_new (eqb (cl x) (cl i.obj)) (seen x) e s)) m)))
  held-act seen cl i rest I alone f x y e s z m = absurd (z (ap H.cluster (upd-new seen i.obj x e s) ∙ sym (I.unseen i.obj f.1) ∙ f.2))
  held-act seen cl i rest I join f x y e s z m =
      absurd (z (ap H.cluster (upd-new seen i.obj x e s) ∙ sym (I.unseen i.obj f.0.unseen) ∙ f.0.none))
  held-act seen cl i rest I head f x y e s z m =
      absurd (z (ap H.cluster (upd-new seen i.obj x e s) ∙ sym (I.unseen i.obj f.unseen) ∙ f.none))

  handled-act : (seen : ℕ → Bool) (cl : ℕ → ℕ) (i : Item) (rest : List Item) → Inv H limit (record { todo = i ∷ rest; seen = seen; cl = cl })
      → Handled (record { todo = i ∷ rest; seen = seen; cl = cl }) → (v : Visit) → Facts H limit seen cl i.obj i.passed v
      → Handled (act H seen cl i.obj i.passed rest v)
  unfolding act
  handled-act seen cl i rest I F v f =
      record {
        begun = λ y m. due-act seen cl i rest v f y (F.begun y m);
        own = λ x y s z m. own' x y s z m (seen x) refl;
        outs = λ x y s z o m. outs' x y s z o m (seen x) refl;
        held = λ x y s z m. held' x y s z m (seen x) refl;
      }
    where
      own' : (x y : ℕ) → seen_by seen cl i.obj v x ≡ true → H.cluster x ≡ 0 → Memᴰ y (H.kids x) → (b : Bool) → seen x ≡ b
          → Due y (act H seen cl i.obj i.passed rest v)
      own' x y s z m true e = due-act seen cl i rest v f y (F.own x y e z m)
      own' x y s z m false e = waits (own-act seen cl i rest I v f x y e s z m)

      outs' : (x y : ℕ) → seen_by seen cl i.obj v x ≡ true → H.cluster x ≢ 0 → H.out x ≡ true → Memᴰ y (H.kids x) → (b : Bool) → seen x ≡ b
          → Due y (act H seen cl i.obj i.passed rest v)
      outs' x y s z o m true e = due-act seen cl i rest v f y (F.outs x y e z o m)
      outs' x y s z o m false e = waits (outs-act seen cl i rest I v f x y e s z o m)

      held' : (x y : ℕ) → seen_by seen cl i.obj v x ≡ true → H.cluster x ≢ 0 → Memᴰ y (sinks_at H (H.cluster x)) → (b : Bool) → seen x ≡ b
          → Due y (act H seen cl i.obj i.passed rest v)
      held' x y s z m true e = due-act seen cl i rest v f y (F.held x y e z m)
      held' x y s z m false e = waits (held-act seen cl i rest I v f x y e s z m)

-- what is seen, may join and is in no older cluster has a cluster
abbrev Placed : Heap → (ℕ → Bool) → (ℕ → ℕ) → Type 0
Placed H seen cl = (x : ℕ) → seen x ≡ true → bars H x ≡ false → H.cluster x ≡ 0 → cl x ≢ 0

placed-upd : (H : Heap) (seen : ℕ → Bool) (cl : ℕ → ℕ) (o v : ℕ) → v ≢ 0 → Placed H seen cl → Placed H (upd seen o true) (upd cl o v)
placed-upd H seen cl o v nz P x s b z = go (ℕ_discrete x o)
  where
    go : Dec (x ≡ o) → upd cl o v x ≢ 0
    go (yes i) j = nz (sym (upd_same cl o v) ∙ ap (upd cl o v) (sym i) ∙ j)
    go (no i) j = P x (sym (upd_other seen o x true i) ∙ s) b z (sym (upd_other cl o x v i) ∙ j)

placed-act : (H : Heap) (limit : ℕ) (seen : ℕ → Bool) (cl : ℕ → ℕ) (i : Item) → Placed H seen cl → (v : Visit)
    → Facts H limit seen cl i.obj i.passed v → Placed H (seen_by seen cl i.obj v) (cl_by cl i.obj i.passed v)
unfolding seen_by cl_by
placed-act H limit seen cl i P skip f = P
placed-act H limit seen cl i P older f = λ x s b z. go x b z (seen x) refl s
  where
    go : (x : ℕ) → bars H x ≡ false → H.cluster x ≡ 0 → (a : Bool) → seen x ≡ a → (eqb (cl x) (cl i.obj) || a) ≡ true → cl x ≢ 0
    go x b z true e s = P x e b z
    go x b z false e s = λ j. f.2 (sym (eqb-true (cl x) (cl i.obj) (or_new (eqb (cl x) (cl i.obj)) false refl s)) ∙ j)
placed-act H limit seen cl i P alone f = λ x s b z. go x s b z (ℕ_discrete x i.obj)
  where
    go : (x : ℕ) → upd seen i.obj true x ≡ true → bars H x ≡ false → H.cluster x ≡ 0 → Dec (x ≡ i.obj) → cl x ≢ 0
    go x s b z (yes j) = absurd (true≢false (sym f.3 ∙ ap (bars H) (sym j) ∙ b))
    go x s b z (no j) = P x (sym (upd_other seen i.obj x true j) ∙ s) b z
placed-act H limit seen cl i P join f = placed-upd H seen cl i.obj i.passed f.1 P
placed-act H limit seen cl i P head f = placed-upd H seen cl i.obj i.obj f.nonzero P

-- at the end nothing is to be visited
due-seen : (y : ℕ) (w : Work) → w.todo ≡ [] → Due y w → y ≢ 0 → w.seen y ≡ true
due-seen y w e (nothing z) nz = absurd (nz z)
due-seen y w e (met s) nz = s
due-seen y w e (waits a) nz = absurd (none w.todo e a)
  where
    none : (l : List Item) → l ≡ [] → Waits y l → ⊥
    none [] e a = elim a [ ]
    none (i ∷ l) e a = cons≢nil e

module _ (H : Heap) (limit : ℕ) (from : List ℕ) (R : Ready H) (p : 1 ≤ limit) (h : (k : ℕ) → Memᴰ k from → k ≤ H.n) where
  started : Inv H limit (begin H from)
  started = start-inv H limit from R p h

  handled : Handled H limit R p from (ended H limit from)
  unfolding begin
  handled =
      finish-keeps H limit R p (Handled H limit R p from) (handled-act H limit R p from) (begin H from) started
      (record {
        begun = λ y m. waits (waits-items 0 from m);
        own = λ x y s z m. absurd (false≢true s);
        outs = λ x y s z o m. absurd (false≢true s);
        held = λ x y s z m. absurd (false≢true s);
      })

  end-due : (y : ℕ) → Due y (ended H limit from) → y ≢ 0 → (ended H limit from).seen y ≡ true
  end-due y d nz = due-seen y (ended H limit from) (finish-ends H limit R p (begin H from) started) d nz

  -- each start is seen
  pub seen_start : (y : ℕ) → Memᴰ y from → y ≢ 0 → (ended H limit from).seen y ≡ true
  seen_start y m nz = end-due y (handled.begun y m) nz

  -- what an object that is seen and in no older cluster points at
  pub seen-kid : (x y : ℕ) → (ended H limit from).seen x ≡ true → H.cluster x ≡ 0 → Memᴰ y (H.kids x) → y ≢ 0 → (ended H limit from).seen y ≡ true
  seen-kid x y s z m nz = end-due y (handled.own x y s z m) nz

  -- what an out member of an older cluster that is seen points at
  pub seen-out : (x y : ℕ) → (ended H limit from).seen x ≡ true → H.cluster x ≢ 0 → H.out x ≡ true → Memᴰ y (H.kids x) → y ≢ 0
      → (ended H limit from).seen y ≡ true
  seen-out x y s z o m nz = end-due y (handled.outs x y s z o m) nz

  -- the sinks of an older cluster that is seen
  pub seen-held : (x y : ℕ) → (ended H limit from).seen x ≡ true → H.cluster x ≢ 0 → Memᴰ y (sinks_at H (H.cluster x)) → y ≢ 0
      → (ended H limit from).seen y ≡ true
  seen-held x y s z m nz = end-due y (handled.held x y s z m) nz

  -- of an older cluster all members are seen, or none
  pub seen-whole : (x y : ℕ) → H.cluster x ≢ 0 → H.cluster x ≡ H.cluster y → (ended H limit from).seen x ≡ (ended H limit from).seen y
  seen-whole x y = (ended-inv H limit from R p h).whole x y

  -- so every reachable object is seen, if the out bits are exact and every sink is listed
  pub seen-reach : ((x : ℕ) → H.out x ≡ out_bit H.kids H.sink H.cluster x) → ((y : ℕ) → H.sink y ≡ true → Memᴰ y H.listed) → (x : ℕ)
      → Reach (targets H) (pointers from) x → (ended H limit from).seen x ≡ true
  seen-reach e l x (start m) = seen_start x (pointer_word from x m) (pointer-nonzero from x m)
  seen-reach e l y (along {x} r m) =
      go (seen-reach e l x r) (pointer_word (H.kids x) y m) (pointer-nonzero (H.kids x) y m) (ℕ_discrete (H.cluster x) 0) (H.out x) refl
    where
      go : (ended H limit from).seen x ≡ true → Memᴰ y (H.kids x) → y ≢ 0 → Dec (H.cluster x ≡ 0) → (b : Bool) → H.out x ≡ b
          → (ended H limit from).seen y ≡ true
      go s k nz (yes z) b o = seen-kid x y s z k nz
      go s k nz (no z) true o = seen-out x y s z o k nz
      go s k nz (no z) false o = inside (no-out H.kids H.sink H.cluster x y z (sym (e x) ∙ o) k nz)
        where
          inside : (H.sink y ≡ true) ⊎ (H.cluster y ≡ H.cluster x) → (ended H limit from).seen y ≡ true
          inside (inl i) =
              seen-held x y s z (sinks_in_lem H (H.cluster x) y x (l y i) nz
              (low x (λ q. z (ap H.cluster q ∙ R.zero-none)), R.range x z) refl k) nz
            where
              low : (x : ℕ) → x ≢ 0 → 1 ≤ x
              low x q = omega (arith, q)
          inside (inr i) = sym (seen-whole x y z (sym i)) ∙ s

  -- an object that is seen, may join and is in no older cluster is in one when the walk is over
  pub placed : (x : ℕ) → (ended H limit from).seen x ≡ true → bars H x ≡ false → H.cluster x ≡ 0 → walked H limit from x ≢ 0
  unfolding walked begin act
  placed x =
      finish-keeps H limit R p (λ w. Placed H w.seen w.cl) (λ seen cl i rest I P v f. placed-act H limit seen cl i P v f) (begin H from) started
      (λ y s b z. absurd (false≢true s)) x
