-- `sweep::freed::fill_map` is a pass over the words of the map. Assumes nothing.
use mathlib.Core.Path.{◌≡◌}
use Rattle.bitmap.specs.Bits.{word_of}
use Rattle.rules.specs.Buffers.{each_from}
use Rattle.table.proofs.PartLaws.{left_of}
use Rattle.sweep.specs.Sweep.{freed_at}
use Rattle.sweep.proofs.freed.fill_map.Given as goal

-- what is left to do comes to the same
abbrev pub invariant-loop-j : goal.invariant-loop-j
invariant-loop-j l = left_of 0 (λ x w. word_of (freed_at l.n l.records) x) l.k l.j l.w-items ≡ each_from 0 l.k (λ x w. word_of (freed_at l.n l.records) x) l.initial.w-items
