-- `table::clusters::dissolve` is the pass over the records. Assumes nothing.
use mathlib.Core.Path.{◌≡◌}
use Rattle.rules.specs.Buffers.{each_from}
use Rattle.table.specs.Clusters.{dissolved_record}
use Rattle.table.proofs.PartLaws.{left_of}
use Rattle.table.proofs.clusters.dissolve.Given as goal

-- what is left to do comes to the same
abbrev pub invariant-loop-r : goal.invariant-loop-r
invariant-loop-r l = left_of 1 (λ x w. dissolved_record l.c w) l.end l.r-index l.r-items ≡ each_from 1 l.end (λ x w. dissolved_record l.c w) l.initial.r-items
