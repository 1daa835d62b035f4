-- What the walks need of the heap that well-formed buffers hold.
-- Assumes nothing.
use Prim.Native.Nat.{ℕ, ◌≤◌}
use mathlib.Core.Path.{◌≡◌, refl, sym, ap, ◌∙◌, subst}
use mathlib.Core.Bool.{true, false≢true}
use mathlib.Core.List.{List, map, Memᴰ}
use mathlib.Core.Logic.{◌≢◌, ◌⊎◌, inl, inr}
use native.Mathlib.Omega.{arith}
use lib.ListN.{take}
use Rattle.layout.specs.Limits.{object_max, sink_max, width_max}
use Rattle.layout.specs.Field.{field, flag}
use Rattle.layout.specs.Word.{is_immediate}
use Rattle.layout.proofs.WordLaws.{immediate-bounds}
use Rattle.records.specs.Record.{is_sink, width, cluster}
use Rattle.records.proofs.RecordLaws.{Legal}
use Rattle.graph.specs.Heap.{targets}
use Rattle.graph.specs.Clusters.{out_bit}
use Rattle.graph.specs.Invariant.{Listed, Ready}
use Rattle.graph.proofs.MemberLaws.{pointer_word, pointer-nonzero}
use Rattle.graph.proofs.ReachLaws.{starts-ranged}
use Rattle.graph.proofs.TraceSafe.{Ranged, StartsIn}
use Rattle.rules.specs.Buffers.{rec_of, used_words}
use Rattle.rules.specs.View.{target, view, heap_in, exact_out}
use Rattle.rules.proofs.ListedLaws.{Lists}
use Rattle.rules.proofs.ListLaws.{rec_of-range, map_of}
use Rattle.rules.proofs.ViewLaws.{target-word, targets-low, view-ranged, view-ready}
use Rattle.rules.proofs.WellFormedLaws.{Names, Sane}

module _ {n r : ℕ} {recs slots roots : List ℕ} (S : Sane n r recs slots roots) where
  -- what a legal record has and 0 has too
  by-fit : (P : ℕ → Type 0) (x : ℕ) → P 0 → (Legal n (rec_of n recs x) → P (rec_of n recs x)) → P (rec_of n recs x)
  by-fit P x z h = go (S.fit x)
    where
      go : (rec_of n recs x ≡ 0) ⊎ Legal n (rec_of n recs x) → P (rec_of n recs x)
      go (inl e) = subst P (sym e) z
      go (inr L) = h L

  pub sane-width : (x : ℕ) → width (rec_of n recs x) ≤ width_max
  unfolding field
  sane-width x = by-fit (λ v. width v ≤ width_max) x (omega arith) (λ L. L.narrow)

  pub sane-low : (x : ℕ) → cluster (rec_of n recs x) ≤ n
  unfolding field
  sane-low x = by-fit (λ v. cluster v ≤ n) x (omega arith) (λ L. L.low)

  pub sane-sinks : (x : ℕ) → (view n recs slots).sink x ≡ true → (view n recs slots).cluster x ≡ 0
  unfolding view flag field
  sane-sinks x = by-fit (λ v. is_sink v ≡ true → cluster v ≡ 0) x (λ e. refl) (λ L. L.sinkless)

  pub sane-exact : (x : ℕ) → (view n recs slots).out x ≡ out_bit (view n recs slots).kids (view n recs slots).sink (view n recs slots).cluster x
  unfolding view exact_out
  sane-exact x = S.exact x

  -- a pointer leads to an object in use
  pub sane-targets : n ≤ object_max → (x y : ℕ) → Memᴰ y (targets (view n recs slots) x) → Names n recs y
  unfolding view
  sane-targets b x y m =
      let k = pointer_word (map (target n) (used_words n recs slots x)) y m in
      let z = pointer-nonzero (map (target n) (used_words n recs slots x)) y m in
      let t = map_of (target n) (used_words n recs slots x) y k in
      let e : y ≡ t.0 = t.2 ∙ target-word n t.0 (λ q. z (t.2 ∙ q)) in
      rw e (go t.0 (λ q. z (e ∙ q)) (rw (← e) (targets-low n (used_words n recs slots x) y k)) (S.named x t.0 t.1))
    where
      go : (w : ℕ) → w ≢ 0 → w ≤ n → (w ≡ 0) ⊎ ((is_immediate w ≡ true) ⊎ Names n recs w) → Names n recs w
      go w h l (inl e) = absurd (h e)
      go w h l (inr (inl g)) = absurd (omega (arith, b, (immediate-bounds w g).0))
      go w h l (inr (inr N)) = N

  -- a root is at most n
  pub sane-roots : (w : ℕ) → Memᴰ w (take r roots) → w ≤ n
  sane-roots w m = go (S.rooted w m)
    where
      go : (w ≡ 0) ⊎ Names n recs w → w ≤ n
      go (inl e) = omega arith
      go (inr N) = N.high

  pub sane-starts : StartsIn (view n recs slots) (take r roots)
  sane-starts = starts-ranged (view n recs slots) (take r roots) (unfold view in sane-roots)

  -- with the list of sinks that the rules ask for
  module _ (list : List ℕ) (L : Lists n (λ x. is_sink (rec_of n recs x)) (take sink_max list)) where
    pub sane-listed : Listed (heap_in n recs slots list)
    sane-listed y m nz =
        let t = L.from y m nz in
        (unfold view in t.0.1, sane-sinks y (unfold view in t.1))

    pub sane-ranged : Ranged (heap_in n recs slots list)
    sane-ranged = view-ranged n recs slots list sane-listed

    pub sane-ready : Ready (heap_in n recs slots list)
    sane-ready = view-ready n recs slots list sane-listed (unfold view in S.heads)

    -- every sink of the heap has a place
    pub sane-every : (y : ℕ) → (view n recs slots).sink y ≡ true → Memᴰ y (take sink_max list)
    unfolding view flag field
    sane-every y e =
        let b = rec_of-range n recs y (λ z. false≢true (sym (ap is_sink z) ∙ e)) in
        L.all y b e
