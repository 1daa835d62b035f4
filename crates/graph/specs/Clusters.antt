-- Clusters: their members, the pointers that leave them, the sinks that they point at, and what is left when some are dissolved.
use Rattle.std.specs.Prelude.{ℕ, ◌+◌, Bool, not, cond, ◌&&◌, List, [], ◌∷◌, ltb, eqb}
use Rattle.graph.specs.Numbers.{bit, sum, count, has, some, only}
use Rattle.graph.specs.Heap.{Heap}

-- the number of members of cluster c
unfoldable pub size : ℕ → (ℕ → ℕ) → ℕ → ℕ
size n cl c = count n (λ x. eqb (cl x) c)

-- the clusters that pass the test, the others dissolved
unfoldable pub keep : (ℕ → Bool) → (ℕ → ℕ) → ℕ → ℕ
keep t cl x = cond (t (cl x)) (cl x) 0

-- every cluster but c
unfoldable pub others : ℕ → ℕ → Bool
others c d = not (eqb d c)

-- y is an object outside cluster c, and no sink
unfoldable pub leaves : (ℕ → Bool) → (ℕ → ℕ) → ℕ → ℕ → Bool
leaves sink cl c y = not (eqb y 0) && (not (sink y) && not (eqb (cl y) c))

-- how many of the words point at such an object
unfoldable pub out_count : (ℕ → Bool) → (ℕ → ℕ) → ℕ → List ℕ → ℕ
out_count sink cl c [] = 0
out_count sink cl c (y ∷ l) = bit (leaves sink cl c y) + out_count sink cl c l

-- out ("The heap"): x is a member and one of its pointers leaves the cluster for no sink
unfoldable pub out_bit : (ℕ → List ℕ) → (ℕ → Bool) → (ℕ → ℕ) → ℕ → Bool
out_bit kids sink cl x = not (eqb (cl x) 0) && ltb 0 (out_count sink cl (cl x) (kids x))

-- the out pointers of cluster c, slots counted ("Analysis": p)
unfoldable pub outs_of : ℕ → (ℕ → List ℕ) → (ℕ → Bool) → (ℕ → ℕ) → ℕ → ℕ
outs_of n kids sink cl c = sum n (λ x. cond (eqb (cl x) c) (out_count sink cl c (kids x)) 0)

-- a member of cluster c points at y
unfoldable pub pointed : Heap → ℕ → ℕ → Bool
pointed H c y = some H.n (λ x. eqb (H.cluster x) c && has y (H.kids x))

-- y is in the set of cluster c: it is no empty place, and a member points at it
unfoldable pub in_set : Heap → ℕ → ℕ → Bool
in_set H c y = not (eqb y 0) && pointed H c y

-- the sinks that members of cluster c point at, by place ("The heap": the set at head c)
unfoldable pub sinks_at : Heap → ℕ → List ℕ
sinks_at H c = only (in_set H c) H.listed
