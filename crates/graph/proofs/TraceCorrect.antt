-- A collection keeps what is reachable along pointers and from heads to members; where clusters are connected, and in a plain one, along pointers alone.
-- Assumes nothing.
use Prim.Native.Nat.{ℕ, ◌≤◌}
use mathlib.Core.Path.{◌≡◌, refl, sym}
use mathlib.Core.Bool.{Bool, true, false}
use mathlib.Core.List.{List, Memᴰ}
use mathlib.Core.Logic.{◌↔◌}
use Rattle.graph.specs.Numbers.{Obj, count}
use Rattle.graph.specs.Heap.{Heap, pointers, targets, with_members, Reach}
use Rattle.graph.specs.Clusters.{out_bit}
use Rattle.graph.specs.Trace.{Walk, traced, keeps, unclustered}
use Rattle.graph.specs.Invariant.{Connected, Heads, Listed}
use Rattle.graph.proofs.NumberLaws.{in_left}
use Rattle.graph.proofs.Paths.{connected-head}
use Rattle.graph.proofs.ReachLaws.{starts-ranged, reach-mono}
use Rattle.graph.proofs.TraceSafe.{Ranged, StartsIn, words-ranged}
use Rattle.graph.proofs.TraceKeep.{keeps→kept, Finished, traced-finished, Quiet, exact-quiet, reach-kept}
use Rattle.graph.proofs.TraceReach.{kept-reach, connected-reach}

-- what a collection from these starts rests on
pub record Sound (H : Heap) (from : List ℕ) : Type 0 where
  pub starts-in : StartsIn H from
  pub targets-in : Ranged H
  pub quiet : Quiet H
  pub heads : Heads H.cluster

-- it follows from what holds of a heap between calls, with the starts in range
pub sound-starts : (H : Heap) (from : List ℕ) → Heads H.cluster
    → ((x y : ℕ) → Memᴰ y (H.kids x) → y ≤ H.n)
    → ((x : ℕ) → Obj H.n x → H.out x ≡ out_bit H.kids H.sink H.cluster x) → ((x : ℕ) → Memᴰ x from → x ≤ H.n)
    → Listed H → ((y : ℕ) → H.sink y ≡ true → Memᴰ y H.listed)
    → Sound H from
sound-starts H from heads closed exact rooted in_list all =
    record {
      starts-in = starts-ranged H from rooted;
      targets-in = words-ranged H closed in_list;
      quiet = exact-quiet H exact all;
      heads = heads;
    }

-- what is proved of the end of its walk
pub record Collected (H : Heap) (from : List ℕ) (w : Walk) : Type 0 where
  pub finished : Finished H w
  pub kept-is : (x : ℕ) → Obj H.n x → (keeps H w.flags x ≡ true) ↔ Reach (with_members H) (pointers from) x

-- a collection keeps exactly what is so reachable from the starts
pub traced-correct : (H : Heap) (from : List ℕ) → Sound H from → Collected H from (traced H from)
traced-correct H from S =
    record {
      finished = traced-finished H S.targets-in from S.starts-in;
      kept-is = λ x b. (
        λ k. kept-reach H from x b (keeps→kept H (traced H from).flags x k),
        λ r. reach-kept H S.targets-in from S.starts-in S.quiet S.heads r,
      );
    }

-- ---- along pointers alone

-- where clusters are connected, members add nothing
pub connected-same : (H : Heap) (from : List ℕ) → H.cluster 0 ≡ 0 → Connected H.kids H.cluster → (x : ℕ)
    → Reach (with_members H) (pointers from) x ↔ Reach (targets H) (pointers from) x
connected-same H from zero-none con x = (
  λ r. connected-reach H from zero-none con r,
  λ r. reach-mono (targets H) (with_members H) (pointers from) (pointers from) (λ y m. m) (λ y z m. in_left z (targets H y) _ m) r,
)

-- the plain collection asks nothing of clusters
unconnected : (H : Heap) → Connected H.kids (λ x. 0)
unfolding Connected
unconnected H y c e nz = absurd (nz (sym e))

plain-sound : (H : Heap) (from : List ℕ) → StartsIn H from → Ranged H → Sound (unclustered H) from
plain-sound H from si R =
    record {
      starts-in = si;
      targets-in = record { targets-in = R.targets-in; listed_in = λ y m nz. ((R.listed_in y m nz).0, refl) };
      quiet = λ x y b nz. absurd (nz refl);
      heads = connected-head H.kids (λ x. 0) (unconnected H);
    }

-- what is proved of the end of its walk
pub record PlainCollected (H : Heap) (from : List ℕ) (w : Walk) : Type 0 where
  pub scans : w.scanned ≡ count H.n (λ x. keeps (unclustered H) w.flags x)
  pub kept-is : (x : ℕ) → Obj H.n x → (keeps (unclustered H) w.flags x ≡ true) ↔ Reach (targets H) (pointers from) x

-- it keeps exactly what pointers reach, and scans each of these
pub plain-correct : (H : Heap) (from : List ℕ) → StartsIn H from → Ranged H → PlainCollected H from (traced (unclustered H) from)
plain-correct H from si R =
    let c = traced-correct (unclustered H) from (plain-sound H from si R) in
    let r = connected-same (unclustered H) from refl (unconnected H) in
    record {
      scans = (c.finished.plain (λ x b. refl)).1;
      kept-is = λ x b. (λ k. (r x).0 ((c.kept-is x b).0 k), λ l. (c.kept-is x b).1 ((r x).1 l));
    }

-- two tests that pass together are equal
pub same_test : (a b : Bool) → (a ≡ true → b ≡ true) → (b ≡ true → a ≡ true) → a ≡ b
same_test true b f g = sym (f refl)
same_test false true f g = g refl
same_test false false f g = refl
