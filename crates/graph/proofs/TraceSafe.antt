-- In every heap whose pointers are in range, what is to be visited stays in range: clusters need be neither connected nor truly marked.
-- Assumes nothing.
use Prim.Native.Nat.{ℕ, zero, suc, ◌≤◌}
use mathlib.Core.Path.{◌≡◌, refl, sym, subst}
use mathlib.Core.Bool.{Bool, true, false}
use mathlib.Core.List.Memᴰ
use mathlib.Core.List.{List, [], ◌∷◌, Memᴰ}
use mathlib.Core.Logic.{◌⊎◌, inl, inr}
use native.Mathlib.Omega.{arith}
use lib.Dec.{eqb}
use Rattle.graph.specs.Numbers.{Obj, lowest}
use Rattle.graph.specs.Heap.{Heap, pointers, targets}
use Rattle.graph.specs.Trace.{marked, postponed, reached, Walk, scan, postpone, unpostpone, arrive, scan_if, scan_all, scan_outs, visit_by, visit}
use Rattle.graph.specs.Trace.{take_by, take, step_by, step, begin}
use Rattle.graph.specs.Clusters.{sinks_at}
use Rattle.graph.specs.Invariant.{Listed}
use Rattle.graph.proofs.MemberLaws.{pointer_word, pointer-nonzero}
use Rattle.graph.proofs.SinkLaws.{sink-plain}
use Rattle.graph.proofs.LowestLaws.{lowest-passes}

-- the pointers of objects are in range, and so are the listed sinks, which have no cluster
pub record Ranged (H : Heap) : Type 0 where
  pub targets-in : (x y : ℕ) → Obj H.n x → Memᴰ y (targets H x) → Obj H.n y
  pub listed_in : Listed H

-- as they are if no word points above n
pub words-ranged : (H : Heap) → ((x y : ℕ) → Memᴰ y (H.kids x) → y ≤ H.n) → Listed H → Ranged H
words-ranged H h l = record {
  targets-in = λ x y b m. (omega (arith, pointer-nonzero (H.kids x) y m), h x y (pointer_word (H.kids x) y m));
  listed_in = l;
}

-- so are the starts
abbrev pub StartsIn : Heap → List ℕ → Type 0
StartsIn H from = (x : ℕ) → Memᴰ x (pointers from) → Obj H.n x

-- what is to be visited is in range
pub record Safe (H : Heap) (w : Walk) : Type 0 where
  pub todo-in : (x : ℕ) → Memᴰ x w.todo → Obj H.n x

module _ (H : Heap) where
  open H use {n, cluster, out}

  pub safe-begin : (from : List ℕ) → StartsIn H from → Safe H (begin H from)
  unfolding begin
  safe-begin from h = record { todo-in = h }

  -- the walk without the visit that it makes next
  pub safe-rest : (w : Walk) (o : ℕ) (r : List ℕ) → w.todo ≡ o ∷ r → Safe H w
      → Obj n o × Safe H (record { flags = w.flags; todo = r; scanned = w.scanned })
  safe-rest w o r e v = (
    v.todo-in o (subst (λ l. Memᴰ o l) (sym e) (Memᴰ.head refl)),
    record { todo-in = λ x m. v.todo-in x (subst (λ l. Memᴰ x l) (sym e) (Memᴰ.tail m)) },
  )

  module _ (R : Ranged H) where
    pub safe-scan : (w : Walk) (o : ℕ) → Obj n o → Safe H w → Safe H (scan H o w)
    unfolding scan
    safe-scan w o b v = record { todo-in = λ x m. at x (Memᴰ.append_cases (targets H o) m) }
      where
        at : (x : ℕ) → Memᴰ x (targets H o) ⊎ Memᴰ x w.todo → Obj n x
        at x (inl m) = R.targets-in o x b m
        at x (inr m) = v.todo-in x m

    safe-scan_if : (a c m : Bool) (o : ℕ) (w : Walk) → Obj n o → Safe H w → Safe H (scan_if H a c m o w)
    unfolding scan_if
    safe-scan_if true true false o w b v = safe-scan w o b v
    safe-scan_if true true true o w b v = v
    safe-scan_if true false m o w b v = v
    safe-scan_if false c m o w b v = v

    pub safe-scan_all : (l : List ℕ) (w : Walk) → ((y : ℕ) → Memᴰ y l → Obj n y) → Safe H w → Safe H (scan_all H l w)
    unfolding scan_all
    safe-scan_all [] w h v = v
    safe-scan_all (y ∷ l) w h v =
        safe-scan_all l _ (λ z m. h z (Memᴰ.tail m)) (safe-scan_if true true (w.flags marked y) y w (h y (Memᴰ.head refl)) v)

    pub safe-scan_outs : (h k : ℕ) (w : Walk) → k ≤ n → Safe H w → Safe H (scan_outs H h k w)
    unfolding scan_outs
    safe-scan_outs h zero w le v = v
    safe-scan_outs h (suc k) w le v =
        safe-scan_outs h k _ (omega arith)
        (safe-scan_if (out (suc k)) (eqb (cluster (suc k)) h) (w.flags marked (suc k)) (suc k) w (omega arith) v)

    safe-visit_by : (z h m r : Bool) (o : ℕ) (w : Walk) → Obj n o → Safe H w → Safe H (visit_by H z h m r o w)
    unfolding visit_by arrive postpone
    safe-visit_by true h true r o w b v = v
    safe-visit_by true h false r o w b v = safe-scan w o b v
    safe-visit_by false true m true o w b v = v
    safe-visit_by false true m false o w b v =
        let u = safe-scan_all (sinks_at H o) w (λ y m. (sink-plain H R.listed_in o y m).0) v in
        safe-scan_outs o n (arrive H o (scan_all H (sinks_at H o) w)) (omega arith) (record { todo-in = u.todo-in })
    safe-visit_by false false true r o w b v = v
    safe-visit_by false false false true o w b v = v
    safe-visit_by false false false false o w b v = record { todo-in = v.todo-in }

    pub safe-visit : (w : Walk) (o : ℕ) → Obj n o → Safe H w → Safe H (visit H o w)
    unfolding visit
    safe-visit w o b v = safe-visit_by (eqb (cluster o) 0) (eqb (cluster o) o) (w.flags marked o) (w.flags reached (cluster o)) o w b v

    safe-take_by : (m r : Bool) (o : ℕ) (w : Walk) → Obj n o → Safe H w → Safe H (take_by H m r o w)
    unfolding take_by
    safe-take_by true r o w b v = v
    safe-take_by false true o w b v = v
    safe-take_by false false o w b v = safe-scan w o b v

    pub safe-take : (w : Walk) (o : ℕ) → ((m : ℕ) → o ≡ suc m → Obj n o) → Safe H w → Safe H (take H o w)
    unfolding take unpostpone
    safe-take w zero h v = v
    safe-take w (suc m) h v =
        safe-take_by (w.flags marked (suc m)) (w.flags reached (cluster (suc m))) (suc m) (unpostpone H (suc m) w) (h m refl)
        (record { todo-in = v.todo-in })

    safe-step_by : (l : List ℕ) (w : Walk) → w.todo ≡ l → Safe H w → Safe H (step_by H l w)
    unfolding step_by
    safe-step_by [] w e v = safe-take w (lowest (λ x. w.flags postponed x) n) (λ m q. (lowest-passes (λ x. w.flags postponed x) n m q).0) v
    safe-step_by (o ∷ r) w e v = let t = safe-rest w o r e v in safe-visit _ o t.0 t.1

    pub safe-step : (w : Walk) → Safe H w → Safe H (step H w)
    unfolding step
    safe-step w v = safe-step_by w.todo w refl v
