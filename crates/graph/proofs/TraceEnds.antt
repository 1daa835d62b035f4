-- The walk ends, in every heap whose pointers are in range: the number that falls at each step, and the bound of the list of visits.
-- Assumes nothing.
use Prim.Native.Nat.{ℕ, zero, suc, ◌≤◌, ◌<◌}
use mathlib.Core.Path.{◌≡◌, refl, sym, ap, subst, ◌∙◌}
use mathlib.Core.Bool.{Bool, true, false}
use mathlib.Core.List.{List, [], ◌∷◌, Memᴰ}
use mathlib.Core.Logic.{◌⊎◌, inl, inr}
use native.Mathlib.Omega.{arith}
use lib.Dec.{eqb}
use lib.ListN.{length, length-append}
use Rattle.graph.specs.Numbers.{Obj, count, lowest}
use Rattle.graph.specs.Heap.{Heap, targets}
use Rattle.graph.specs.Clusters.{sinks_at}
use Rattle.graph.specs.Trace.{marked, postponed, reached, Walk, scan, postpone, unpostpone, arrive, scan_if, scan_all, scan_outs}
use Rattle.graph.specs.Trace.{visit_by, visit, take_by, take, step_by, step, begin, weight, needed, finish, traced}
use Rattle.graph.proofs.RunLaws as RunLaws
use Rattle.graph.proofs.SinkLaws.{sink-plain}
use Rattle.graph.proofs.LowestLaws.{lowest-passes, lowest-none, none-lowest}
use Rattle.graph.proofs.FlagLaws.{marked≢postponed, reached≢marked, reached≢postponed, postponed≢marked, Is, set_flag-apart, rest}
use Rattle.graph.proofs.FlagLaws.{rest-set, rest-other, count-grow, count-clear, count-other}
use Rattle.graph.proofs.TraceSafe.{Ranged, StartsIn, Safe, safe-begin, safe-rest, safe-step}

module _ (H : Heap) where
  open H use {n, cluster, out}

  -- nothing is to be visited and nothing is postponed
  abbrev pub Ended : Walk → Type 0
  Ended w = (w.todo ≡ []) × ((x : ℕ) → Obj n x → w.flags postponed x ≡ false)

  -- how many objects are postponed
  unfoldable pub later : Walk → ℕ
  later w = count n (λ x. w.flags postponed x)

  -- ---- what each move does to the two numbers

  weight-scan : (w : Walk) (o : ℕ) → Obj n o → w.flags marked o ≡ false → (weight H (scan H o w) ≡ weight H w) × (later (scan H o w) ≡ later w)
  unfolding weight later scan rest
  weight-scan w o b e = (
    omega (arith, length-append (targets H o) w.todo, rest-set n w.flags marked o (λ x. length (targets H x)) b e),
    count-other n w.flags marked o true postponed marked≢postponed,
  )

  weight-arrive : (w : Walk) (o : ℕ) → (weight H (arrive H o w) ≡ weight H w) × (later (arrive H o w) ≡ later w)
  unfolding weight later arrive rest
  weight-arrive w o = (
    omega (arith, rest-other n w.flags reached o true marked (λ x. length (targets H x)) reached≢marked),
    count-other n w.flags reached o true postponed reached≢postponed,
  )

  weight-postpone : (w : Walk) (o : ℕ) → Obj n o → (weight H (postpone H o w) ≡ weight H w) × (later (postpone H o w) ≤ suc (later w))
  unfolding weight later postpone rest
  weight-postpone w o b = (
    omega (arith, rest-other n w.flags postponed o true marked (λ x. length (targets H x)) postponed≢marked),
    count-grow n w.flags postponed o b,
  )

  weight-unpostpone : (w : Walk) (o : ℕ) → Obj n o → Is w.flags postponed o
      → (weight H (unpostpone H o w) ≡ weight H w) × (suc (later (unpostpone H o w)) ≡ later w)
  unfolding weight later unpostpone rest
  weight-unpostpone w o b i = (
    omega (arith, rest-other n w.flags postponed o false marked (λ x. length (targets H x)) postponed≢marked),
    count-clear n w.flags postponed o b i,
  )

  weight-scan_if : (w : Walk) (o : ℕ) (a c m : Bool) → w.flags marked o ≡ m → Obj n o
      → (weight H (scan_if H a c m o w) ≡ weight H w) × (later (scan_if H a c m o w) ≡ later w)
  unfolding scan_if
  weight-scan_if w o true true false e b = weight-scan w o b e
  weight-scan_if w o true true true e b = (refl, refl)
  weight-scan_if w o true false m e b = (refl, refl)
  weight-scan_if w o false c m e b = (refl, refl)

  weight-scan_all : (l : List ℕ) (w : Walk) → ((y : ℕ) → Memᴰ y l → Obj n y)
      → (weight H (scan_all H l w) ≡ weight H w) × (later (scan_all H l w) ≡ later w)
  unfolding scan_all
  weight-scan_all [] w h = (refl, refl)
  weight-scan_all (y ∷ l) w h =
      let t = weight-scan_if w y true true (w.flags marked y) refl (h y (Memᴰ.head refl)) in
      let u = weight-scan_all l (scan_if H true true (w.flags marked y) y w) (λ z m. h z (Memᴰ.tail m)) in
      (u.0 ∙ t.0, u.1 ∙ t.1)

  weight-scan_outs : (h k : ℕ) (w : Walk) → k ≤ n → (weight H (scan_outs H h k w) ≡ weight H w) × (later (scan_outs H h k w) ≡ later w)
  unfolding scan_outs
  weight-scan_outs h zero w le = (refl, refl)
  weight-scan_outs h (suc k) w le =
      let t = weight-scan_if w (suc k) (out (suc k)) (eqb (cluster (suc k)) h) (w.flags marked (suc k)) refl (omega arith) in
      let u = weight-scan_outs h k (scan_if H (out (suc k)) (eqb (cluster (suc k)) h) (w.flags marked (suc k)) (suc k) w) (omega arith) in
      (u.0 ∙ t.0, u.1 ∙ t.1)

  -- a visit leaves the weight, and postpones at most one object
  weight-visit_by : Ranged H → (w : Walk) (o : ℕ) (z h m r : Bool) → w.flags marked o ≡ m → Obj n o
      → (weight H (visit_by H z h m r o w) ≡ weight H w) × (later (visit_by H z h m r o w) ≤ suc (later w))
  unfolding visit_by
  weight-visit_by R w o true h true r e b = (refl, omega arith)
  weight-visit_by R w o true h false r e b = let t = weight-scan w o b e in (t.0, omega arith)
  weight-visit_by R w o false true m true e b = (refl, omega arith)
  weight-visit_by R w o false true m false e b =
      let a = weight-scan_all (sinks_at H o) w (λ y q. (sink-plain H R.listed_in o y q).0) in
      let t = weight-arrive (scan_all H (sinks_at H o) w) o in
      let u = weight-scan_outs o n (arrive H o (scan_all H (sinks_at H o) w)) (omega arith) in
      (u.0 ∙ t.0 ∙ a.0, omega arith)
  weight-visit_by R w o false false true r e b = (refl, omega arith)
  weight-visit_by R w o false false false true e b = (refl, omega arith)
  weight-visit_by R w o false false false false e b = weight-postpone w o b

  weight-take_by : (w : Walk) (o : ℕ) (m r : Bool) → w.flags marked o ≡ m → Obj n o
      → (weight H (take_by H m r o w) ≡ weight H w) × (later (take_by H m r o w) ≡ later w)
  unfolding take_by
  weight-take_by w o true r e b = (refl, refl)
  weight-take_by w o false true e b = (refl, refl)
  weight-take_by w o false false e b = weight-scan w o b e

  -- the marks are as before when o is no longer postponed
  marks_stay : (w : Walk) (o : ℕ) → (unpostpone H o w).flags marked o ≡ w.flags marked o
  unfolding unpostpone
  marks_stay w o = set_flag-apart w.flags postponed o false marked o postponed≢marked

  weight-take : (w : Walk) (m : ℕ) → Obj n (suc m) → Is w.flags postponed (suc m)
      → (weight H (take H (suc m) w) ≡ weight H w) × (suc (later (take H (suc m) w)) ≡ later w)
  unfolding take
  weight-take w m b i =
      let t = weight-unpostpone w (suc m) b i in
      let u = weight-take_by (unpostpone H (suc m) w) (suc m) (w.flags marked (suc m)) (w.flags reached (cluster (suc m))) (marks_stay w (suc m)) b in
      (u.0 ∙ t.0, ap suc u.1 ∙ t.1)

  -- ---- a step takes `needed` down and the weight not up

  abbrev pub Falls : Walk → Walk → Type 0
  Falls w w' = (needed H w' < needed H w) × (weight H w' ≤ weight H w)

  pub take-falls : (w : Walk) (m : ℕ) → Obj n (suc m) → Is w.flags postponed (suc m) → Falls w (take H (suc m) w)
  unfolding needed later
  take-falls w m b i = let t = weight-take w m b i in (omega arith, omega arith)

  pub visit-falls : Ranged H → (w : Walk) (o : ℕ) (r : List ℕ) → w.todo ≡ o ∷ r → Obj n o
      → Falls w (visit H o (record { flags = w.flags; todo = r; scanned = w.scanned }))
  unfolding visit needed weight later
  visit-falls R w o r e b =
      let w' : Walk = record { flags = w.flags; todo = r; scanned = w.scanned } in
      let t = weight-visit_by R w' o (eqb (cluster o) 0) (eqb (cluster o) o) (w.flags marked o) (w.flags reached (cluster o)) refl b in
      let x : length w.todo ≡ suc (length r) = ap length e in
      (omega arith, omega arith)

  falls-step_by : Ranged H → (l : List ℕ) (w : Walk) → w.todo ≡ l → Safe H w → Ended w ⊎ Falls w (step_by H l w)
  unfolding step_by
  falls-step_by R [] w e v = go (lowest (λ x. w.flags postponed x) n) refl
    where
      go : (m : ℕ) → lowest (λ x. w.flags postponed x) n ≡ m → Ended w ⊎ Falls w (take H m w)
      go zero q = inl (e, lowest-none (λ x. w.flags postponed x) n q)
      go (suc m) q =
          let t = lowest-passes (λ x. w.flags postponed x) n m q in
          inr (take-falls w m (subst (λ z. Obj n z) q t.0) (subst (λ z. Is w.flags postponed z) q t.1))
  falls-step_by R (o ∷ r) w e v = inr (visit-falls R w o r e (safe-rest H w o r e v).0)

  -- a walk that has not ended comes nearer to its end
  pub step_falls : Ranged H → (w : Walk) → Safe H w → Ended w ⊎ Falls w (step H w)
  unfolding step
  step_falls R w v = falls-step_by R w.todo w refl v

  needed-falls : Ranged H → (w : Walk) → Safe H w → Ended w ⊎ (needed H (step H w) < needed H w)
  needed-falls R w v = go (step_falls R w v)
    where
      go : Ended w ⊎ Falls w (step H w) → Ended w ⊎ (needed H (step H w) < needed H w)
      go (inl end) = inl end
      go (inr f) = inr f.0

  ended-step_by : (l : List ℕ) (w : Walk) → l ≡ [] → Ended w → step_by H l w ≡ w
  unfolding step_by take
  ended-step_by l w e end = rw (e, none-lowest (λ x. w.flags postponed x) n end.1) refl

  -- an ended walk stands still
  pub ended-step : (w : Walk) → Ended w → step H w ≡ w
  unfolding step
  ended-step w end = ended-step_by w.todo w end.0 end

  -- an ended walk is its own end
  pub finish-ended : (w : Walk) → Ended w → finish H w ≡ w
  unfolding finish
  finish-ended =
      RunLaws.finish-done (step H) (needed H) Ended Ended (λ w end. subst (λ x. Ended x) (sym (ended-step w end)) end) ended-step
      (λ w end. inl end)

  module _ (R : Ranged H) where
    pub finish-ends : (w : Walk) → Safe H w → Ended (finish H w)
    unfolding finish
    finish-ends = RunLaws.finish-ends (step H) (needed H) (Safe H) Ended (safe-step H R) ended-step (needed-falls R)

    -- a step leaves the end of the walk as it is: what a loop that makes the steps keeps
    pub finish-step : (w : Walk) → Safe H w → finish H (step H w) ≡ finish H w
    unfolding finish
    finish-step = RunLaws.finish-step (step H) (needed H) (Safe H) Ended (safe-step H R) ended-step (needed-falls R)

  pub traced-ends : Ranged H → (from : List ℕ) → StartsIn H from → Ended (traced H from)
  unfolding traced
  traced-ends R from si = finish-ends R (begin H from) (safe-begin H from si)
