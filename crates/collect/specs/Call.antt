-- The kind of a collection, and what its walk tells.
use Rattle.std.specs.Prelude.{ℕ, Bool, true, false, List}
use Rattle.rules.specs.View.{heap_in}
use Rattle.rules.specs.Collect.{Kind, plainly, by_clusters, Marking, trace}

-- the kind of a collection that walks clusters, or does not
abbrev pub kind_of : Bool → Kind
kind_of true = by_clusters
kind_of false = plainly

-- what the walk of the definition tells
abbrev pub walked : Bool → ℕ → List ℕ → List ℕ → List ℕ → List ℕ → Marking
walked by n from recs slots list = trace (kind_of by) (heap_in n recs slots list) from
