-- Each step of the walk keeps its invariant, in every heap whose pointers are in range.
-- Assumes nothing.
use Prim.Native.Nat.{ℕ, zero, suc, ◌≤◌}
use mathlib.Core.Path.{◌≡◌, refl, sym, subst, ◌∙◌}
use mathlib.Core.Bool.{Bool, true, false, true≢false}
use mathlib.Core.List.Memᴰ
use mathlib.Core.List.{List, [], ◌∷◌, Memᴰ}
use mathlib.Core.Logic.{◌≢◌, ◌⊎◌, inl, inr}
use native.Mathlib.Nat.{le-suc_iff}
use native.Mathlib.Omega.{arith}
use lib.Dec.{eqb}
use borrow.Author.Tests.{eqb-true, eqb-false}
use Rattle.graph.specs.Numbers.{Obj, lowest}
use Rattle.graph.specs.Heap.{Heap}
use Rattle.graph.specs.Run as Run
use Rattle.graph.specs.Trace.{Flag, marked, postponed, reached, Walk, no_flags, scan, postpone, unpostpone, arrive, scan_if, scan_all, scan_outs}
use Rattle.graph.specs.Trace.{visit_by, visit, take_by, take, step_by, step, begin, needed, finish, traced}
use Rattle.graph.specs.Clusters.{sinks_at}
use Rattle.graph.proofs.NumberLaws.{count_none}
use Rattle.graph.proofs.SinkLaws.{sink-plain}
use Rattle.graph.proofs.RunLaws.{run-keeps}
use Rattle.graph.proofs.LowestLaws.{lowest-passes}
use Rattle.graph.proofs.FlagLaws.{postponed≢marked, postponed≢reached, set_flag-same, set_flag-apart, Is, set_keeps}
use Rattle.graph.proofs.TraceSafe.{Ranged, StartsIn, Safe, safe-begin, safe-rest, safe-step}
use Rattle.graph.proofs.TraceInv.{None, Upto, Handled, Inv, change, pop, inv-scan, inv-postpone, inv-arrive, inv-unpostpone}

module _ (H : Heap) (from : List ℕ) (R : Ranged H) where
  open H use {n, cluster, out}

  -- suc k is looked at, of the members of h's cluster
  narrow : (D : ℕ → Type 0) (w : Walk) (h k : ℕ) → Inv H from D (Upto cluster h (suc k)) w
      → (cluster (suc k) ≡ h → out (suc k) ≡ true → Is w.flags marked (suc k))
      → Inv H from D (Upto cluster h k) w
  narrow D w h k v f =
      change H from D (Upto cluster h (suc k)) D (Upto cluster h k) w v (λ x d. inr (inr d)) (λ x b e y. at x e y.0 (le-suc_iff.0 y.1))
    where
      at : (x : ℕ) → out x ≡ true → cluster x ≡ h → (x ≤ k) ⊎ (x ≡ suc k) → Upto cluster h k x ⊎ Is w.flags marked x
      at x e c (inl l) = inl (c, l)
      at x e c (inr q) = inr (subst (λ z. Is w.flags marked z) (sym q) (f (subst (λ z. cluster z ≡ h) q c) (subst (λ z. out z ≡ true) q e)))

  inv-scan_if : (D : ℕ → Type 0) (w : Walk) (h k : ℕ) (a c m : Bool) → out (suc k) ≡ a → eqb (cluster (suc k)) h ≡ c → w.flags marked (suc k) ≡ m
      → suc k ≤ n → Is w.flags reached h → Inv H from D (Upto cluster h (suc k)) w
      → Inv H from D (Upto cluster h k) (scan_if H a c m (suc k) w) × Is (scan_if H a c m (suc k) w).flags reached h
  unfolding scan_if scan
  inv-scan_if D w h k true true false ea ec em le i v =
      let c : cluster (suc k) ≡ h = eqb-true (cluster (suc k)) h ec in (
        narrow D (scan H (suc k) w) h k
            (inv-scan H from D (Upto cluster h (suc k)) w (suc k) v (omega arith) em (λ q. subst (λ x. Is w.flags reached x) (sym c ∙ q) i))
            (λ _ _. set_flag-same w.flags marked (suc k) true),
        set_keeps w.flags marked (suc k) reached h i,
      )
  inv-scan_if D w h k true true true ea ec em le i v = (narrow D w h k v (λ _ _. em), i)
  inv-scan_if D w h k true false m ea ec em le i v = (narrow D w h k v (λ c _. absurd (eqb-false (cluster (suc k)) h ec c)), i)
  inv-scan_if D w h k false c m ea ec em le i v = (narrow D w h k v (λ _ x. absurd (true≢false (sym x ∙ ea))), i)

  inv-scan_outs : (D : ℕ → Type 0) (h k : ℕ) (w : Walk) → k ≤ n → Is w.flags reached h → Inv H from D (Upto cluster h k) w
      → Inv H from D (Upto cluster h 0) (scan_outs H h k w) × Is (scan_outs H h k w).flags reached h
  unfolding scan_outs
  inv-scan_outs D h zero w le i v = (v, i)
  inv-scan_outs D h (suc k) w le i v =
      let t = inv-scan_if D w h k (out (suc k)) (eqb (cluster (suc k)) h) (w.flags marked (suc k)) refl refl refl le i v in
      inv-scan_outs D h k (scan_if H (out (suc k)) (eqb (cluster (suc k)) h) (w.flags marked (suc k)) (suc k) w) (omega arith) t.1 t.0

  -- a list of objects in no cluster is scanned: each is marked then, and no flag is lost
  inv-scan_all : (D O : ℕ → Type 0) (l : List ℕ) (w : Walk) → ((y : ℕ) → Memᴰ y l → Obj n y × (cluster y ≡ 0)) → Inv H from D O w
      → Inv H from D O (scan_all H l w) × ((y : ℕ) → Memᴰ y l → Is (scan_all H l w).flags marked y)
      × ((f : Flag) (x : ℕ) → Is w.flags f x → Is (scan_all H l w).flags f x)
  unfolding scan_all
  inv-scan_all D O [] w h v = (v, (λ y m. absurd (Memᴰ.not-nil m)), λ f x i. i)
  inv-scan_all D O (y ∷ l) w h v =
      let p = h y (Memᴰ.head refl) in
      let t = one (w.flags marked y) refl p.0 p.1 in
      let u = inv-scan_all D O l (scan_if H true true (w.flags marked y) y w) (λ z m. h z (Memᴰ.tail m)) t.0 in
      (u.0, (λ z m. each z m t.1 u.1 u.2), λ f x i. u.2 f x (t.2 f x i))
    where
      one : (b : Bool) → w.flags marked y ≡ b → Obj n y → cluster y ≡ 0
          → Inv H from D O (scan_if H true true b y w) × Is (scan_if H true true b y w).flags marked y
          × ((f : Flag) (x : ℕ) → Is w.flags f x → Is (scan_if H true true b y w).flags f x)
      one true e b z = unfold scan_if in (v, e, λ f x i. i)
      one false e b z = unfold scan_if in (
        inv-scan H from D O w y v b e (λ q. absurd (omega (arith, b.0, sym q ∙ z))),
        unfold scan in (set_flag-same w.flags marked y true),
        λ f x i. unfold scan in (set_keeps w.flags marked y f x i),
      )

      each : (z : ℕ) → Memᴰ z (y ∷ l) → Is (scan_if H true true (w.flags marked y) y w).flags marked y
          → ((z : ℕ) → Memᴰ z l → Is (scan_all H l (scan_if H true true (w.flags marked y) y w)).flags marked z)
          → ((f : Flag) (x : ℕ) → Is (scan_if H true true (w.flags marked y) y w).flags f x
          → Is (scan_all H l (scan_if H true true (w.flags marked y) y w)).flags f x)
          → Is (scan_all H l (scan_if H true true (w.flags marked y) y w)).flags marked z
      each z (Memᴰ.head e) i a k = k marked z (subst (λ x. Is (scan_if H true true (w.flags marked y) y w).flags marked x) (sym e) i)
      each z (Memᴰ.tail m) i a k = a z m

  -- the object taken is handled
  close : (w : Walk) (o : ℕ) → Inv H from (λ x. x ≡ o) None w → Handled H w.flags o → Inv H from None None w
  close w o v h =
      change H from (λ x. x ≡ o) None None None w v (λ x e. inl (subst (λ z. Handled H w.flags z) (sym e) h)) (λ x b e z. absurd z)

  -- a head's visit: its sinks are scanned, the cluster is reached, and its out members are scanned
  inv-head : (w : Walk) (o : ℕ) → cluster o ≡ o → Obj n o → Inv H from (λ x. x ≡ o) None w
      → Inv H from None None (scan_outs H o n (arrive H o (scan_all H (sinks_at H o) w)))
  inv-head w o e b v =
      let u = scan_all H (sinks_at H o) w in
      let a = inv-scan_all (λ x. x ≡ o) None (sinks_at H o) w (λ y m. sink-plain H R.listed_in o y m) v in
      let w' = scan_outs H o n (arrive H o u) in
      let i : Is (arrive H o u).flags reached o = unfold arrive in (set_flag-same u.flags reached o true) in
      let t = inv-scan_outs (λ x. x ≡ o) o n (arrive H o u) (omega arith) i (inv-arrive H from (λ x. x ≡ o) u o a.0 a.1) in
      let z = change H from (λ x. x ≡ o) (Upto cluster o 0) (λ x. x ≡ o) None w' t.0 (λ x d. inr (inr d)) (λ x c q y. absurd (omega arith)) in
      close w' o z (inl (inr (λ q. absurd (omega arith), subst (λ x. Is w'.flags reached x) (sym e) t.1)))

  inv-visit_by : (w : Walk) (o : ℕ) (z h m r : Bool) → eqb (cluster o) 0 ≡ z → eqb (cluster o) o ≡ h → w.flags marked o ≡ m
      → w.flags reached (cluster o) ≡ r
      → Obj n o → Inv H from (λ x. x ≡ o) None w → Inv H from None None (visit_by H z h m r o w)
  unfolding visit_by
  inv-visit_by w o true h true r ez eh em er b v = close w o v (inl (inl em))
  inv-visit_by w o true h false r ez eh em er b v =
      let z : cluster o ≡ 0 = eqb-true (cluster o) 0 ez in
      close (scan H o w) o (inv-scan H from (λ x. x ≡ o) None w o v b em (λ q. absurd (omega arith)))
      (inl (inl (unfold scan in (set_flag-same w.flags marked o true))))
  inv-visit_by w o false true m true ez eh em er b v = close w o v (inl (inr (eqb-false (cluster o) 0 ez, er)))
  inv-visit_by w o false true m false ez eh em er b v = inv-head w o (eqb-true (cluster o) o eh) b v
  inv-visit_by w o false false true r ez eh em er b v = close w o v (inl (inl em))
  inv-visit_by w o false false false true ez eh em er b v = close w o v (inl (inr (eqb-false (cluster o) 0 ez, er)))
  inv-visit_by w o false false false false ez eh em er b v =
      close (postpone H o w) o (inv-postpone H from (λ x. x ≡ o) None w o v (eqb-false (cluster o) 0 ez, eqb-false (cluster o) o eh))
      (inr (unfold postpone in (set_flag-same w.flags postponed o true)))

  inv-visit : (w : Walk) (o : ℕ) → Obj n o → Inv H from (λ x. x ≡ o) None w → Inv H from None None (visit H o w)
  unfolding visit
  inv-visit w o b v =
      inv-visit_by w o (eqb (cluster o) 0) (eqb (cluster o) o) (w.flags marked o) (w.flags reached (cluster o)) refl refl refl refl b v

  -- the tests are made before the flag is cleared, which they do not read
  inv-take_by : (w : Walk) (o : ℕ) (m r : Bool) → w.flags marked o ≡ m → w.flags reached (cluster o) ≡ r → Obj n o → Is w.flags postponed o
      → Inv H from None None w
      → Inv H from None None (take_by H m r o (unpostpone H o w))
  unfolding take_by
  inv-take_by w o m r em er b i v = go m r em er
    where
      w' : Walk
      w' = unpostpone H o w

      u : Inv H from (λ x. x ≡ o) None w'
      u = inv-unpostpone H from w o v

      h : (cluster o ≢ 0) × (cluster o ≢ o)
      h = v.later-member o i

      same : (g : Flag) (x : ℕ) → postponed ≢ g → w'.flags g x ≡ w.flags g x
      same g x ne = unfold unpostpone in (set_flag-apart w.flags postponed o false g x ne)

      go : (m r : Bool) → w.flags marked o ≡ m → w.flags reached (cluster o) ≡ r → Inv H from None None (take_by H m r o w')
      go true r em er = close w' o u (inl (inl (same marked o postponed≢marked ∙ em)))
      go false true em er = close w' o u (inl (inr (h.0, same reached (cluster o) postponed≢reached ∙ er)))
      go false false em er =
          close (scan H o w') o (inv-scan H from (λ x. x ≡ o) None w' o u b (same marked o postponed≢marked ∙ em) (λ q. absurd (h.1 q)))
          (inl (inl (unfold scan in (set_flag-same w'.flags marked o true))))

  inv-take : (w : Walk) (o : ℕ) → ((m : ℕ) → o ≡ suc m → Obj n o × Is w.flags postponed o) → Inv H from None None w
      → Inv H from None None (take H o w)
  unfolding take
  inv-take w zero h v = v
  inv-take w (suc m) h v =
      let t = h m refl in inv-take_by w (suc m) (w.flags marked (suc m)) (w.flags reached (cluster (suc m))) refl refl t.0 t.1 v

  inv-step_by : (l : List ℕ) (w : Walk) → w.todo ≡ l → Safe H w → Inv H from None None w → Inv H from None None (step_by H l w)
  unfolding step_by
  inv-step_by [] w e s v = inv-take w (lowest (λ x. w.flags postponed x) n) (λ m q. lowest-passes (λ x. w.flags postponed x) n m q) v
  inv-step_by (o ∷ r) w e s v = inv-visit _ o (safe-rest H w o r e s).0 (pop H from w o r e v)

  pub inv-step : (w : Walk) → Safe H w → Inv H from None None w → Inv H from None None (step H w)
  unfolding step
  inv-step w s v = inv-step_by w.todo w refl s v

  pub inv-begin : Inv H from None None (begin H from)
  unfolding begin no_flags
  inv-begin =
      record {
        later-member = λ x i. absurd (true≢false (sym i));
        starts-seen = λ x m. inr (inl m);
        targets-seen = λ x y i m. absurd (true≢false (sym i));
        outs-marked = λ x b i e. absurd (true≢false (sym i));
        sinks-marked = λ h y i m. absurd (true≢false (sym i));
        heads = λ x i e. absurd (true≢false (sym i));
        counted = sym (count_none n (λ x. false) (λ x b. refl));
      }

  module _ (si : StartsIn H from) where
    -- at every step
    pub run-inv : (k : ℕ) → Safe H (Run.run (step H) k (begin H from)) × Inv H from None None (Run.run (step H) k (begin H from))
    run-inv k =
        run-keeps (step H) (λ w. Safe H w × Inv H from None None w) (λ w t. (safe-step H R w t.0, inv-step w t.0 t.1))
        k (begin H from) (safe-begin H from si, inv-begin)

    pub traced-inv : Inv H from None None (traced H from)
    unfolding traced finish Run.finish
    traced-inv = (run-inv (needed H (begin H from))).1
