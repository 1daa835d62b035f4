-- The walk with a table of the new clusters' sizes, as code keeps it: a step reads one entry and changes one.
-- Assumes nothing.
use Prim.Native.Nat.{ℕ, ◌+◌}
use mathlib.Core.Path.{◌≡◌, refl, sym, ap, ◌∙◌}
use mathlib.Core.Bool.{Bool, not, ◌&&◌, ◌||◌}
use mathlib.Core.List.{List, ◌∷◌}
use mathlib.Core.Logic.{◌≢◌}
use native.Mathlib.Decide.{ℕ_discrete}
use native.Mathlib.Omega.{arith}
use lib.Dec.{leb, eqb}
use borrow.Author.Tests.{eq-eqb}
use Rattle.graph.specs.Numbers.{upd}
use Rattle.graph.specs.Heap.{Heap}
use Rattle.graph.specs.Clusters.{size}
use Rattle.graph.specs.Analysis.{Item, bars, pick, kind, Visit, skip, older, alone, join, head, cl_by}
use Rattle.graph.specs.Invariant.{Ready, Inv, Sizes}
use Rattle.graph.proofs.NumberLaws.{upd_same, upd_other}
use Rattle.graph.proofs.AnalysisInv.{Facts, all_first, in-range, size-more, size-other, size_none}

pub sizes_begin : (H : Heap) → Ready H → Sizes H H.cluster (λ c. 0)
unfolding Sizes
sizes_begin H R c p e = sym (size_none H H.cluster c R.heads e p)

-- the entry that a visit changes
unfoldable pub table_by : (ℕ → ℕ) → ℕ → ℕ → Visit → ℕ → ℕ
table_by table o c skip = table
table_by table o c older = table
table_by table o c alone = table
table_by table o c join = upd table c (table c + 1)
table_by table o c head = upd table o 1

module _ (H : Heap) (limit : ℕ) (R : Ready H) (seen : ℕ → Bool) (cl : ℕ → ℕ) (i : Item) (rest : List Item)
    (I : Inv H limit (record { todo = i ∷ rest; seen = seen; cl = cl })) (table : ℕ → ℕ) (T : Sizes H cl table) where
  -- o, of no cluster, gets the number v, and v's entry the size that v then has
  sizes-upd : (v k : ℕ) → cl i.obj ≡ 0 → i.obj ≢ 0 → v ≢ 0 → k ≡ size H.n cl v + 1 → Sizes H (upd cl i.obj v) (upd table v k)
  unfolding Sizes
  sizes-upd v k e p q s c r f = go (ℕ_discrete c v)
    where
      go : Dec (c ≡ v) → upd table v k c ≡ size H.n (upd cl i.obj v) c
      go (yes j) = rw (j, upd_same table v k) (s ∙ sym (size-more H.n cl i.obj v e q p (in-range H limit R seen cl i rest I)))
      go (no j) = upd_other table v c k j ∙ T c r f ∙ sym (size-other H.n cl i.obj v c e r j)

  pub sizes-act : (k : Visit) → Facts H limit seen cl i.obj i.passed k
      → Sizes H (cl_by cl i.obj i.passed k) (table_by table i.obj i.passed k)
  unfolding cl_by table_by Sizes
  sizes-act skip f = T
  sizes-act older f = T
  sizes-act alone f = T
  sizes-act join f =
      let g = ((all_first I.visits).from f.1).3 in
      sizes-upd i.passed (table i.passed + 1) f.0.none f.0.nonzero f.1 (ap (λ z. z + 1) (T i.passed f.1 g))
  sizes-act head f =
      sizes-upd i.obj 1 f.none f.nonzero f.nonzero
      (let a = size_none H cl i.obj I.heads f.none f.nonzero in omega arith)

  -- so what a visit does can be told by the table
  pub kind-table : kind H limit seen cl i.obj i.passed
      ≡ pick (eqb i.obj 0 || seen i.obj) (not (eqb (cl i.obj) 0)) (bars H i.obj)
      (not (eqb i.passed 0) && leb (table i.passed + 1) limit)
  unfolding kind Sizes
  kind-table =
      ap (pick (eqb i.obj 0 || seen i.obj) (not (eqb (cl i.obj) 0)) (bars H i.obj)) (go (ℕ_discrete i.passed 0))
    where
      go : Dec (i.passed ≡ 0)
          → (not (eqb i.passed 0) && leb (size H.n cl i.passed + 1) limit) ≡ (not (eqb i.passed 0) && leb (table i.passed + 1) limit)
      go (yes e) = rw (eq-eqb i.passed 0 e) refl
      go (no e) = rw (T i.passed e ((all_first I.visits).from e).3) refl
