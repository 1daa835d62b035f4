-- What holds of the heap between calls.
-- Assumes nothing.
use Prim.Native.Nat.{ℕ, ◌+◌, ◌≤◌}
use mathlib.Core.Path.{◌≡◌, ap}
use mathlib.Core.Bool.{Bool, true, not}
use mathlib.Core.List.{Memᴰ}
use mathlib.Core.Logic.{◌≢◌}
use lib.Dec.{eqb}
use borrow.Author.Tests.{eqb-false, ne_eqb, not-true}
use Rattle.graph.specs.Numbers.{count}
use Rattle.graph.specs.Heap.{Heap}
use Rattle.graph.specs.Clusters.{keep, out_bit}
use Rattle.graph.specs.Invariant.{Connected, Ready}
use Rattle.graph.proofs.NumberLaws.{count-within}
use Rattle.graph.proofs.Paths.{connected-head, keep-zero}

-- the members of all clusters
unfoldable pub clustered : Heap → ℕ
clustered H = count H.n (λ x. not (eqb (H.cluster x) 0))

-- who has a cluster after some are dissolved had one
pub keep-fewer : (n : ℕ) (q : ℕ → Bool) (cl : ℕ → ℕ) → count n (λ x. not (eqb (keep q cl x) 0)) ≤ count n (λ x. not (eqb (cl x) 0))
keep-fewer n q cl = count-within n _ _ (λ x b e. ap not (ne_eqb (cl x) 0 (λ j. eqb-false (keep q cl x) 0 (not-true _ e) (keep-zero q cl x j))))

-- Clusters are connected (so each has its head as a member), pointers and members are in range, sinks have no cluster and are what is
-- listed, out bits are exact; and `loss` members dissolved since the last analysis and those still in clusters are together at most n.
pub record Good (H : Heap) (loss : ℕ) : Type 0 where
  pub conn : Connected H.kids H.cluster
  pub zero-none : H.cluster 0 ≡ 0
  pub closed : (x y : ℕ) → Memᴰ y (H.kids x) → y ≤ H.n
  pub range : (x : ℕ) → H.cluster x ≢ 0 → x ≤ H.n
  pub sinks : (x : ℕ) → H.sink x ≡ true → H.cluster x ≡ 0
  pub exact : (x : ℕ) → H.out x ≡ out_bit H.kids H.sink H.cluster x
  pub listed_in : (y : ℕ) → Memᴰ y H.listed → y ≢ 0 → (y ≤ H.n) × (H.sink y ≡ true)
  pub listed-all : (y : ℕ) → H.sink y ≡ true → Memᴰ y H.listed
  pub sink-none : H.sink 0 ≢ true
  pub losses : loss + clustered H ≤ H.n

pub good-ready : {H : Heap} {loss : ℕ} → Good H loss → Ready H
good-ready {H} G = record {
  heads = connected-head H.kids H.cluster G.conn;
  zero-none = G.zero-none;
  closed = G.closed;
  range = G.range;
  listed_in = λ y m nz. let t = G.listed_in y m nz in (t.0, G.sinks y t.1);
}
