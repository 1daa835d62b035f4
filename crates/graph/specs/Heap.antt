-- The heap ("The heap"): objects 1 to n, their pointers, and what the calls know of each.
use Rattle.std.specs.Prelude.{ℕ, Bool, cond, eqb}
use mathlib.Core.List.{List, [], ◌∷◌, ◌++◌, Memᴰ}
use Rattle.graph.specs.Numbers.{gather}

-- kids: an object's used slots in order, each the number that its word points at or 0 for no pointer; a free object has none.
-- listed: the sinks by place, 0 for an empty place.
-- cluster: the head of the object's cluster, 0 for none. out is the term of "The heap": see `out_bit`. written: stored into since the last analysis.
pub record Heap : Type 0 where
  pub n : ℕ
  pub kids : ℕ → List ℕ
  pub sink : ℕ → Bool
  pub listed : List ℕ
  pub written : ℕ → Bool
  pub cluster : ℕ → ℕ
  pub out : ℕ → Bool

-- the pointers in a list of words
unfoldable pub pointers : List ℕ → List ℕ
pointers [] = []
pointers (w ∷ l) = cond (eqb w 0) (pointers l) (w ∷ pointers l)

-- the pointers of an object, by slot
abbrev pub targets : Heap → ℕ → List ℕ
targets H x = pointers (H.kids x)

-- the pointers of an object, and the members of the cluster that it heads
abbrev pub with_members : Heap → ℕ → List ℕ
with_members H x = targets H x ++ gather H.n (λ y. eqb (H.cluster y) x) (λ y. y ∷ [])

-- the object can be reached along pointers from one of the starts
pub data Reach (next : ℕ → List ℕ) (from : List ℕ) : ℕ → Type 0 where
  start : {x : ℕ} → Memᴰ x from → Reach next from x
  along : {x y : ℕ} → Reach next from x → Memᴰ y (next x) → Reach next from y
