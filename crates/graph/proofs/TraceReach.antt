-- Nothing is kept that is not reachable along pointers and from a head to its members; where clusters are connected, along pointers alone.
-- Assumes nothing.
use Prim.Native.Nat.{ℕ, zero, suc, ◌≤◌}
use mathlib.Core.Path.{◌≡◌, refl, sym, subst, ◌∙◌}
use mathlib.Core.Bool.{Bool, true, false, true≢false}
use mathlib.Core.List.Memᴰ
use mathlib.Core.List.{List, [], ◌∷◌, Memᴰ}
use mathlib.Core.Logic.{◌≢◌, ◌⊎◌, inl, inr}
use native.Mathlib.Omega.{arith}
use lib.Dec.{eqb}
use borrow.Author.Tests.{eqb-true, eq-eqb}
use Rattle.graph.specs.Numbers.{Obj, lowest, gather}
use Rattle.graph.specs.Heap.{Heap, pointers, targets, with_members, Reach, start, along}
use Rattle.graph.specs.Run as Run
use Rattle.graph.specs.Trace.{Flag, marked, postponed, reached, Flags, set_flag, Walk, no_flags, scan, postpone, unpostpone, arrive}
use Rattle.graph.specs.Trace.{scan_if, scan_all, scan_outs, visit_by, visit, take_by, take, step_by, step, begin, needed, finish, traced}
use Rattle.graph.specs.Clusters.{sinks_at}
use Rattle.graph.specs.Invariant.{Connected}
use Rattle.graph.proofs.NumberLaws.{in_left, in_right, in-gather}
use Rattle.graph.proofs.RunLaws.{run-keeps}
use Rattle.graph.proofs.LowestLaws.{lowest-passes}
use Rattle.graph.proofs.FlagLaws.{Is, set_cases, clear-cases}
use Rattle.graph.proofs.ReachLaws.{reach-all}
use Rattle.graph.proofs.MemberLaws.{word-pointer, pointer-nonzero, member_of, reach-member}
use Rattle.graph.proofs.SinkLaws.{sinks-from}
use Rattle.graph.proofs.TraceInv.{Kept}

module _ (H : Heap) (from : List ℕ) where
  open H use {n, cluster, out}

  abbrev Live : ℕ → Type 0
  Live x = Reach (with_members H) (pointers from) x

  -- what is to be visited is reachable, and so is every object with a flag
  pub record Justified (w : Walk) : Type 0 where
    pub todo-reach : (x : ℕ) → Memᴰ x w.todo → Live x
    pub flag-reach : (f : Flag) (x : ℕ) → Is w.flags f x → Live x

  -- a flag is set at a reachable object
  flag-set : (s : Flags) (f : Flag) (o : ℕ) → Live o → ((g : Flag) (x : ℕ) → Is s g x → Live x) → (g : Flag) (x : ℕ)
      → Is (set_flag s f o true) g x → Live x
  flag-set s f o r h g x i = go (set_cases s f o g x i)
    where
      go : ((o ≡ x) × (f ≡ g)) ⊎ Is s g x → Live x
      go (inl (e, _)) = subst (λ z. Live z) e r
      go (inr j) = h g x j

  just-scan : (w : Walk) (o : ℕ) → Live o → Justified w → Justified (scan H o w)
  unfolding scan
  just-scan w o r v =
      record { todo-reach = λ x m. at x (Memᴰ.append_cases (targets H o) m); flag-reach = flag-set w.flags marked o r v.flag-reach }
    where
      at : (x : ℕ) → Memᴰ x (targets H o) ⊎ Memᴰ x w.todo → Live x
      at x (inl m) = along r (in_left x (targets H o) _ m)
      at x (inr m) = v.todo-reach x m

  just-postpone : (w : Walk) (o : ℕ) → Live o → Justified w → Justified (postpone H o w)
  unfolding postpone
  just-postpone w o r v = record { todo-reach = v.todo-reach; flag-reach = flag-set w.flags postponed o r v.flag-reach }

  just-arrive : (w : Walk) (o : ℕ) → Live o → Justified w → Justified (arrive H o w)
  unfolding arrive
  just-arrive w o r v = record { todo-reach = v.todo-reach; flag-reach = flag-set w.flags reached o r v.flag-reach }

  just-unpostpone : (w : Walk) (o : ℕ) → Justified w → Justified (unpostpone H o w)
  unfolding unpostpone
  just-unpostpone w o v =
      record { todo-reach = v.todo-reach; flag-reach = λ g x i. v.flag-reach g x (clear-cases w.flags postponed o g x i) }

  pub member-live : (x h : ℕ) → Obj n x → cluster x ≡ h → Live h → Live x
  member-live x h b e r =
      along r (in_right x (targets H h) _ (in-gather n (λ y. eqb (cluster y) h) x b (eq-eqb (cluster x) h e)))

  just-scan_if : (a c m : Bool) (h o : ℕ) (w : Walk) → eqb (cluster o) h ≡ c → Obj n o → Live h → Justified w → Justified (scan_if H a c m o w)
  unfolding scan_if
  just-scan_if true true false h o w e b r v = just-scan w o (member-live o h b (eqb-true (cluster o) h e) r) v
  just-scan_if true true true h o w e b r v = v
  just-scan_if true false m h o w e b r v = v
  just-scan_if false c m h o w e b r v = v

  just-scan_all : (l : List ℕ) (w : Walk) → ((y : ℕ) → Memᴰ y l → Live y) → Justified w → Justified (scan_all H l w)
  unfolding scan_all
  just-scan_all [] w h v = v
  just-scan_all (y ∷ l) w h v = just-scan_all l _ (λ z m. h z (Memᴰ.tail m)) (one (w.flags marked y))
    where
      one : (b : Bool) → Justified (scan_if H true true b y w)
      one true = unfold scan_if in v
      one false = unfold scan_if in (just-scan w y (h y (Memᴰ.head refl)) v)

  -- a sink of the set at a reachable head is reachable, through the member that points at it
  sink-live : (h y : ℕ) → Live h → Memᴰ y (sinks_at H h) → Live y
  sink-live h y r m =
      let t = sinks-from H h y m in
      let x = t.2.0 in
      along (member-live x h t.2.1 t.2.2 r) (in_left y (targets H x) _ (word-pointer (H.kids x) y t.1 t.2.3))

  just-scan_outs : (h k : ℕ) (w : Walk) → k ≤ n → Live h → Justified w → Justified (scan_outs H h k w)
  unfolding scan_outs
  just-scan_outs h zero w le r v = v
  just-scan_outs h (suc k) w le r v =
      just-scan_outs h k _ (omega arith) r
      (just-scan_if (out (suc k)) (eqb (cluster (suc k)) h) (w.flags marked (suc k)) h (suc k) w refl (omega arith) r v)

  just-visit_by : (z h m r : Bool) (o : ℕ) (w : Walk) → Live o → Justified w
      → Justified (visit_by H z h m r o w)
  unfolding visit_by
  just-visit_by true h true r o w l v = v
  just-visit_by true h false r o w l v = just-scan w o l v
  just-visit_by false true m true o w l v = v
  just-visit_by false true m false o w l v =
      just-scan_outs o n (arrive H o (scan_all H (sinks_at H o) w)) (omega arith) l
      (just-arrive (scan_all H (sinks_at H o) w) o l (just-scan_all (sinks_at H o) w (λ y m. sink-live o y l m) v))
  just-visit_by false false true r o w l v = v
  just-visit_by false false false true o w l v = v
  just-visit_by false false false false o w l v = just-postpone w o l v

  just-take_by : (m r : Bool) (o : ℕ) (w : Walk) → Live o → Justified w → Justified (take_by H m r o w)
  unfolding take_by
  just-take_by true r o w l v = v
  just-take_by false true o w l v = v
  just-take_by false false o w l v = just-scan w o l v

  just-take : (o : ℕ) (w : Walk) → ((m : ℕ) → o ≡ suc m → Is w.flags postponed o) → Justified w → Justified (take H o w)
  unfolding take
  just-take zero w h v = v
  just-take (suc m) w h v =
      just-take_by (w.flags marked (suc m)) (w.flags reached (cluster (suc m))) (suc m) (unpostpone H (suc m) w)
      (v.flag-reach postponed (suc m) (h m refl)) (just-unpostpone w (suc m) v)

  just-step_by : (l : List ℕ) (w : Walk) → w.todo ≡ l → Justified w → Justified (step_by H l w)
  unfolding step_by visit
  just-step_by [] w e v = just-take (lowest (λ x. w.flags postponed x) n) w (λ m q. (lowest-passes (λ x. w.flags postponed x) n m q).1) v
  just-step_by (o ∷ r) w e v =
      just-visit_by (eqb (cluster o) 0) (eqb (cluster o) o) (w.flags marked o) (w.flags reached (cluster o)) o
      (record { flags = w.flags; todo = r; scanned = w.scanned })
      (v.todo-reach o (subst (λ l. Memᴰ o l) (sym e) (Memᴰ.head refl)))
      (record { todo-reach = λ x m. v.todo-reach x (subst (λ l. Memᴰ x l) (sym e) (Memᴰ.tail m)); flag-reach = v.flag-reach })

  just-step : (w : Walk) → Justified w → Justified (step H w)
  unfolding step
  just-step w v = just-step_by w.todo w refl v

  just-begin : Justified (begin H from)
  unfolding begin no_flags
  just-begin = record { todo-reach = λ x m. start m; flag-reach = λ f x i. absurd (true≢false (sym i)) }

  pub traced-justified : Justified (traced H from)
  unfolding traced finish Run.finish
  traced-justified = run-keeps (step H) Justified just-step (needed H (begin H from)) (begin H from) just-begin

  -- what is kept is so reachable
  pub kept-reach : (x : ℕ) → Obj n x → Kept H (traced H from).flags x → Live x
  kept-reach x b (inl i) = traced-justified.flag-reach marked x i
  kept-reach x b (inr (nz, i)) = member-live x (cluster x) b refl (traced-justified.flag-reach reached (cluster x) i)

  -- and along pointers alone, where clusters are connected
  pub connected-reach : cluster 0 ≡ 0 → Connected H.kids cluster → {x : ℕ} → Live x → Reach (targets H) (pointers from) x
  connected-reach zero-none con r =
      (reach-all (with_members H) (pointers from) (λ x. (x ≢ 0) × Reach (targets H) (pointers from) x) (λ x m. (pointer-nonzero from x m, start m))
      (λ x y t m. next x y t (Memᴰ.append_cases (targets H x) m)) r).1
    where
      next : (x y : ℕ) → (x ≢ 0) × Reach (targets H) (pointers from) x
          → Memᴰ y (targets H x) ⊎ Memᴰ y (gather n (λ z. eqb (cluster z) x) (λ z. z ∷ []))
          → (y ≢ 0) × Reach (targets H) (pointers from) y
      next x y t (inl m) = (pointer-nonzero (H.kids x) y m, along t.1 m)
      next x y t (inr m) =
          let e : cluster y ≡ x = (member_of n cluster x y m).1 in
          let c : cluster y ≢ 0 = λ z. t.0 (sym e ∙ z) in
          (λ z. c (rw z zero-none), reach-member H cluster (pointers from) con zero-none y c (subst (λ z. Reach (targets H) (pointers from) z) (sym e) t.1))
