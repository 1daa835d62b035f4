-- What a collection keeps: the starts, with an object all that it points at, and with a head its members. The clusters need not be connected for that.
-- Assumes nothing.
use Prim.Native.Nat.{ℕ, ◌≤◌}
use mathlib.Core.Path.{◌≡◌, refl, sym, subst, ◌∙◌}
use mathlib.Core.Bool.{Bool, true, false, true≢false, ◌||◌, ◌&&◌, not, or-true, or-false}
use mathlib.Core.List.Memᴰ
use mathlib.Core.List.{List, [], ◌∷◌, Memᴰ}
use mathlib.Core.Logic.{◌≢◌, ◌⊎◌, inl, inr, ◌↔◌}
use native.Mathlib.Omega.{arith}
use lib.Dec.{eqb}
use borrow.Author.Tests.{eqb-false, eq-eqb, ne_eqb}
use Rattle.graph.specs.Numbers.{Obj, count, gather}
use Rattle.graph.specs.Heap.{Heap, pointers, targets, with_members, Reach}
use Rattle.graph.specs.Clusters.{out_bit, sinks_at}
use Rattle.graph.specs.Trace.{marked, reached, Flags, Walk, traced, keeps}
use Rattle.graph.specs.Invariant.{Heads}
use Rattle.graph.proofs.NumberLaws.{count-within, count-ext}
use Rattle.graph.proofs.MemberLaws.{pointer_word, pointer-nonzero, member_of, no-out}
use Rattle.graph.proofs.SinkLaws.{sinks_in_lem}
use Rattle.graph.proofs.ReachLaws.{reach-all}
use Rattle.graph.proofs.FlagLaws.{Is}
use Rattle.graph.proofs.TraceSafe.{Ranged, StartsIn}
use Rattle.graph.proofs.TraceInv.{None, Kept, Seen, Inv}
use Rattle.graph.proofs.TraceSteps.{traced-inv}
use Rattle.graph.proofs.TraceEnds.{Ended, traced-ends}

module _ (H : Heap) where
  open H use {n, kids, sink, cluster, out}

  -- ---- the test of what is kept

  kept_by : (a z b : Bool) (s : Flags) (x : ℕ) → s marked x ≡ a → eqb (cluster x) 0 ≡ z → s reached (cluster x) ≡ b → (a || (not z && b)) ≡ true
      → Kept H s x
  kept_by true z b s x ea ez eb e = inl ea
  kept_by false true b s x ea ez eb e = absurd (true≢false (sym e))
  kept_by false false true s x ea ez eb e = inr (eqb-false (cluster x) 0 ez, eb)
  kept_by false false false s x ea ez eb e = absurd (true≢false (sym e))

  pub keeps→kept : (s : Flags) (x : ℕ) → keeps H s x ≡ true → Kept H s x
  unfolding keeps
  keeps→kept s x e = kept_by (s marked x) (eqb (cluster x) 0) (s reached (cluster x)) s x refl refl refl e

  pub kept→keeps : (s : Flags) (x : ℕ) → Kept H s x → keeps H s x ≡ true
  unfolding keeps
  kept→keeps s x (inl i) = rw i refl
  kept→keeps s x (inr (nz, i)) = rw (i, ne_eqb (cluster x) 0 nz) (or-true (s marked x))

  -- outside clusters the kept are the marked
  pub keeps-plain : (s : Flags) (x : ℕ) → cluster x ≡ 0 → keeps H s x ≡ s marked x
  unfolding keeps
  keeps-plain s x e = rw (eq-eqb (cluster x) 0 e) (or-false (s marked x))

  -- ---- what holds at the end in every heap whose pointers are in range

  pub record Finished (w : Walk) : Type 0 where
    pub ended : Ended H w
    -- the objects scanned are the marked ones, and no more than the kept
    pub scanned-is : w.scanned ≡ count n (λ x. w.flags marked x)
    pub scanned-le : w.scanned ≤ count n (λ x. keeps H w.flags x)
    -- a cluster is reached exactly if its head is kept, and then each member is kept
    pub head-kept : (h : ℕ) → Obj n h → cluster h ≡ h → (keeps H w.flags h ≡ true) ↔ Is w.flags reached h
    pub member-kept : (x : ℕ) → cluster x ≢ 0 → Is w.flags reached (cluster x) → keeps H w.flags x ≡ true
    -- where nothing is clustered, the kept are the marked, and each was scanned
    pub plain : ((x : ℕ) → Obj n x → cluster x ≡ 0)
        → ((x : ℕ) → Obj n x → keeps H w.flags x ≡ w.flags marked x) × (w.scanned ≡ count n (λ x. keeps H w.flags x))

  module _ (from : List ℕ) (w : Walk) (v : Inv H from None None w) (end : Ended H w) where
    inv-finished : Finished w
    inv-finished =
        record {
          ended = end;
          scanned-is = v.counted;
          scanned-le = omega (arith, v.counted, count-within n (w.flags marked) (keeps H w.flags) (λ x b i. kept→keeps w.flags x (inl i)));
          head-kept = λ h b e. (λ k. head h e (keeps→kept w.flags h k), λ i. kept→keeps w.flags h (whole h b e i));
          member-kept = λ x nz i. kept→keeps w.flags x (inr (nz, i));
          plain = λ h. (unclustered h, v.counted ∙ sym (count-ext n (λ x. keeps H w.flags x) (λ x. w.flags marked x) (unclustered h)));
        }
      where
        head : (h : ℕ) → cluster h ≡ h → Kept H w.flags h → Is w.flags reached h
        head h e (inl i) = v.heads h i e
        head h e (inr (nz, i)) = subst (λ x. Is w.flags reached x) e i

        whole : (h : ℕ) → Obj n h → cluster h ≡ h → Is w.flags reached h → Kept H w.flags h
        whole h b e i = inr (λ z. absurd (omega arith), subst (λ x. Is w.flags reached x) (sym e) i)

        unclustered : ((x : ℕ) → Obj n x → cluster x ≡ 0) → (x : ℕ) → Obj n x → keeps H w.flags x ≡ w.flags marked x
        unclustered h x b = keeps-plain w.flags x (h x b)

    seen-kept : (x : ℕ) → Obj n x → Seen H None w x → Kept H w.flags x
    seen-kept x b (inl (inl k)) = k
    seen-kept x b (inl (inr i)) = absurd (true≢false (sym i ∙ end.1 x b))
    seen-kept x b (inr (inl m)) = absurd (Memᴰ.not-nil (subst (λ l. Memᴰ x l) end.0 m))
    seen-kept x b (inr (inr d)) = absurd d

  pub traced-finished : Ranged H → (from : List ℕ) → StartsIn H from → Finished (traced H from)
  traced-finished R from si = inv-finished from (traced H from) (traced-inv H from R si) (traced-ends H R from si)

  -- ---- kept is closed under pointers

  -- a pointer of a member without the out bit stays in the cluster or leads to a sink of its head's set
  abbrev pub Quiet : Type 0
  Quiet =
      (x y : ℕ) → Obj n x → cluster x ≢ 0 → out x ≡ false → Memᴰ y (targets H x) → (cluster y ≡ cluster x) ⊎ Memᴰ y (sinks_at H (cluster x))

  -- so it does where out bits are exact and every sink is listed
  pub exact-quiet : ((x : ℕ) → Obj n x → out x ≡ out_bit kids sink cluster x) → ((y : ℕ) → sink y ≡ true → Memᴰ y H.listed) → Quiet
  exact-quiet exact all x y b nz e m =
      go (no-out kids sink cluster x y nz (sym (exact x b) ∙ e) (pointer_word (kids x) y m) (pointer-nonzero (kids x) y m))
    where
      go : (sink y ≡ true) ⊎ (cluster y ≡ cluster x) → (cluster y ≡ cluster x) ⊎ Memᴰ y (sinks_at H (cluster x))
      go (inl s) =
          inr (sinks_in_lem H (cluster x) y x (all y s) (pointer-nonzero (kids x) y m) b refl (pointer_word (kids x) y m))
      go (inr q) = inl q

  module _ (R : Ranged H) (from : List ℕ) (si : StartsIn H from) where
    pub start-kept : (x : ℕ) → Memᴰ x (pointers from) → keeps H (traced H from).flags x ≡ true
    start-kept x m =
        let v = traced-inv H from R si in
        kept→keeps (traced H from).flags x (seen-kept from (traced H from) v (traced-ends H R from si) x (si x m) (v.starts-seen x m))

    module _ (Q : Quiet) where
      pub kept-closed : (x y : ℕ) → Obj n x → keeps H (traced H from).flags x ≡ true → Memᴰ y (targets H x)
          → keeps H (traced H from).flags y ≡ true
      kept-closed x y b k m = go (keeps→kept s x k)
        where
          s : Flags
          s = (traced H from).flags

          v : Inv H from None None (traced H from)
          v = traced-inv H from R si

          by-mark : Is s marked x → keeps H s y ≡ true
          by-mark i = kept→keeps s y (seen-kept from (traced H from) v (traced-ends H R from si) y (R.targets-in x y b m) (v.targets-seen x y i m))

          out-member : ⊥ ⊎ Is s marked x → keeps H s y ≡ true
          out-member (inl z) = absurd z
          out-member (inr i) = by-mark i

          quietly : cluster x ≢ 0 → Is s reached (cluster x) → (cluster y ≡ cluster x) ⊎ Memᴰ y (sinks_at H (cluster x)) → keeps H s y ≡ true
          quietly nz i (inl e) = kept→keeps s y (inr (λ z. nz (sym e ∙ z), subst (λ z. Is s reached z) (sym e) i))
          quietly nz i (inr q) = kept→keeps s y (inl (v.sinks-marked (cluster x) y i q))

          by_out : (o : Bool) → out x ≡ o → cluster x ≢ 0 → Is s reached (cluster x) → keeps H s y ≡ true
          by_out true e nz i = out-member (v.outs-marked x b i e)
          by_out false e nz i = quietly nz i (Q x y b nz e m)

          go : Kept H s x → keeps H s y ≡ true
          go (inl i) = by-mark i
          go (inr (nz, i)) = by_out (out x) refl nz i

      -- with a head its members are kept, so all that is reachable is
      pub reach-kept : Heads cluster → {x : ℕ} → Reach (with_members H) (pointers from) x → keeps H (traced H from).flags x ≡ true
      reach-kept heads r =
          (reach-all (with_members H) (pointers from) (λ x. Obj n x × (keeps H (traced H from).flags x ≡ true)) (λ x m. (si x m, start-kept x m))
          (λ x y t m. next x y t (Memᴰ.append_cases (targets H x) m)) r).1
        where
          next : (x y : ℕ) → Obj n x × (keeps H (traced H from).flags x ≡ true)
              → Memᴰ y (targets H x) ⊎ Memᴰ y (gather n (λ z. eqb (cluster z) x) (λ z. z ∷ []))
              → Obj n y × (keeps H (traced H from).flags y ≡ true)
          next x y t (inl m) = (R.targets-in x y t.0 m, kept-closed x y t.0 t.1 m)
          next x y t (inr m) =
              let g = member_of n cluster x y m in
              let c : cluster y ≢ 0 = λ z. absurd (omega (arith, t.0.0, g.1, z)) in
              let f = traced-finished R from si in
              let i = (f.head-kept x t.0 (subst (λ z. cluster z ≡ z) g.1 (heads y c))).0 t.1 in
              (g.0, f.member-kept y c (subst (λ z. Is (traced H from).flags reached z) (sym g.1) i))
