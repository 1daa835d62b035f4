-- `sweep::clear_marks` is a pass over the records. Assumes nothing.
use mathlib.Core.Path.{◌≡◌}
use Rattle.rules.specs.Buffers.{each_from}
use Rattle.table.proofs.PartLaws.{left_of}
use Rattle.sweep.specs.Sweep.{unflagged_record}
use Rattle.sweep.proofs.clear_marks.Given as goal

-- what is left to do comes to the same
abbrev pub invariant-loop-r : goal.invariant-loop-r
invariant-loop-r l = left_of 1 (λ x w. unflagged_record w) l.end l.r-index l.r-items ≡ each_from 1 l.end (λ x w. unflagged_record w) l.initial.r-items
