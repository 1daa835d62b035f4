-- What the walk of the analysis keeps at each step. Contracts of the crate `analyse` speak of it; no demand rests on it.
use Rattle.std.specs.Prelude.{ℕ, ◌≤◌, ◌≡◌, Bool, true, false, cond, ◌≢◌, length}
use mathlib.Core.List.{List, [], ◌∷◌, Memᴰ}
use Rattle.graph.specs.Numbers.{sum}
use Rattle.graph.specs.Heap.{Heap}
use Rattle.graph.specs.Clusters.{size}
use Rattle.graph.specs.Analysis.{Item, Work, bars}

-- a path from h to y by the pointers `kids`, all of whose objects are in P
pub data Path (kids : ℕ → List ℕ) (P : ℕ → Type 0) (h : ℕ) : ℕ → Type 0 where
  here : {y : ℕ} → y ≡ h → P y → Path kids P h y
  step : {x y : ℕ} → Path kids P h x → Memᴰ y (kids x) → P y → Path kids P h y

-- each member has a path from its head that stays inside the cluster; so the head carries its own number
unfoldable pub Connected : (ℕ → List ℕ) → (ℕ → ℕ) → Type 0
Connected kids cl = (y c : ℕ) → cl y ≡ c → c ≢ 0 → Path kids (λ x. cl x ≡ c) c y

-- the head of every cluster is a member of it
abbrev pub Heads : (ℕ → ℕ) → Type 0
Heads cl = (y : ℕ) → cl y ≢ 0 → cl (cl y) ≡ cl y

-- every visit of a list has P
pub data All (P : Item → Type 0) : List Item → Type 0 where
  none : All P []
  both : {i : Item} {l : List Item} → P i → All P l → All P (i ∷ l)

-- a visit to make: an object in range, and where a cluster is passed, that is a new one, with a member that points at the object
pub record Ok (H : Heap) (cl : ℕ → ℕ) (i : Item) : Type 0 where
  pub fits : i.obj ≤ H.n
  pub from : i.passed ≢ 0 → (x : ℕ) × (cl x ≡ i.passed) × Memᴰ i.obj (H.kids x) × (H.cluster i.passed ≡ 0)

-- every listed sink is an object in no cluster
abbrev pub Listed : Heap → Type 0
Listed H = (y : ℕ) → Memᴰ y H.listed → y ≢ 0 → (y ≤ H.n) × (H.cluster y ≡ 0)

-- What the check for damage makes sure of, as far as the walk needs it. That clusters are connected is not among it: no call checks that.
pub record Ready (H : Heap) : Type 0 where
  pub heads : Heads H.cluster
  pub zero-none : H.cluster 0 ≡ 0
  pub closed : (x y : ℕ) → Memᴰ y (H.kids x) → y ≤ H.n
  pub range : (x : ℕ) → H.cluster x ≢ 0 → x ≤ H.n
  pub listed_in : Listed H

-- what holds before each visit: older clusters stay as they are and are seen whole, written objects and sinks join nothing, a new cluster
-- has at most the limit, and connected clusters stay connected
pub record Inv (H : Heap) (limit : ℕ) (w : Work) : Type 0 where
  pub conn : Connected H.kids H.cluster → Connected H.kids w.cl
  pub heads : Heads w.cl
  pub visits : All (Ok H w.cl) w.todo
  pub unseen : (x : ℕ) → w.seen x ≡ false → w.cl x ≡ H.cluster x
  pub whole : (x y : ℕ) → H.cluster x ≢ 0 → H.cluster x ≡ H.cluster y → w.seen x ≡ w.seen y
  pub kept : (x : ℕ) → H.cluster x ≢ 0 → w.cl x ≡ H.cluster x
  pub fresh : (x : ℕ) → H.cluster x ≡ 0 → w.cl x ≢ 0 → H.cluster (w.cl x) ≡ 0
  pub barred : (x : ℕ) → bars H x ≡ true → w.cl x ≡ H.cluster x
  pub zero-none : w.cl 0 ≡ 0
  pub range : (x : ℕ) → w.cl x ≢ 0 → x ≤ H.n
  pub small : (c : ℕ) → c ≢ 0 → H.cluster c ≡ 0 → size H.n w.cl c ≤ limit

-- the table holds the size of each cluster that is not older
unfoldable pub Sizes : Heap → (ℕ → ℕ) → (ℕ → ℕ) → Type 0
Sizes H cl table = (c : ℕ) → c ≢ 0 → H.cluster c ≡ 0 → table c ≡ size H.n cl c

-- the slots of the objects that are not seen: the room that they will take
unfoldable pub unseen_slots : Heap → (ℕ → Bool) → ℕ
unseen_slots H seen = sum H.n (λ x. cond (seen x) 0 (length (H.kids x)))
