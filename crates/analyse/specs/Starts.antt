-- The walk from a list of starts, one after the other: what is asked of the heap, and what is left.
use Rattle.std.specs.Prelude.{ℕ, ◌≤◌}
use mathlib.Core.List.{List, ◌++◌, Memᴰ}
use Rattle.graph.specs.Analysis.{begin, finish}
use Rattle.graph.specs.Invariant.{Heads, Listed}
use Rattle.rules.specs.View.{heap_in}
use Rattle.table.specs.Room.{Sized}
use Rattle.table.specs.Clusters.{cluster_of}
use Rattle.analyse.specs.Memory.{stack_end}
use Rattle.analyse.specs.Called.{Sets, Walking, Walked}

-- every start is an object or 0
abbrev pub Fit : ℕ → List ℕ → Type 0
Fit n from = (k : ℕ) → Memᴰ k from → k ≤ n

-- What the walk from these starts asks of the heap and the work words.
pub record Formable (n limit : ℕ) (recs slots list sets work from : List ℕ) : Type 0 where
  pub sized : Sized n recs slots work
  pub known : Sets n recs slots list sets
  pub limits : (1 ≤ limit) × (limit ≤ 4095)
  pub heads : Heads (cluster_of n recs)
  pub listed : Listed (heap_in n recs slots list)
  pub fit : Fit n from

-- The walk from these starts is made to its end.
pub record From (n : ℕ) (recs slots list sets : List ℕ) (limit : ℕ) (from work : List ℕ) : Type 0 where
  pub fit : Fit n from
  pub walked : Walked n recs slots list sets limit (begin (heap_in n recs slots list) from) work

-- The walk goes on from the starts b: where it was made from any a before, it is made from a and then b.
pub record GoesOn (n : ℕ) (recs slots list sets : List ℕ) (limit : ℕ) (b work work' : List ℕ) : Type 0 where
  pub walking : Walking n recs slots list sets limit work' (stack_end n)
  pub after : (a : List ℕ) → From n recs slots list sets limit a work → From n recs slots list sets limit (a ++ b) work'

-- the clusters when the walk from these starts is over
abbrev pub formed_from : ℕ → List ℕ → List ℕ → List ℕ → ℕ → List ℕ → ℕ → ℕ
formed_from n recs slots list limit from = (finish (heap_in n recs slots list) limit (begin (heap_in n recs slots list) from)).cl
