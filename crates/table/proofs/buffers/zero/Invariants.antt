-- `table::buffers::zero` sets word after word to 0. Assumes nothing.
use mathlib.Core.Path.{◌≡◌}
use Rattle.rules.specs.Buffers.{each_from}
use Rattle.table.proofs.PartLaws.{left_of}
use Rattle.table.proofs.buffers.zero.Given as goal

-- what is left to set comes to the same
abbrev pub invariant-loop-w : goal.invariant-loop-w
invariant-loop-w g l =
    let z = g.T.Word.ZERO in
    left_of 0 (λ i w. z) l.end l.w-index l.w-items ≡ each_from 0 l.end (λ i w. z) l.initial.w-items
