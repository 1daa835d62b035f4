-- `sweep::freed::empty_places` is a pass over the places. Assumes nothing.
use mathlib.Core.Path.{◌≡◌}
use mathlib.Core.Bool.{cond}
use Rattle.bitmap.specs.Bits.{holds}
use Rattle.rules.specs.Buffers.{each_from}
use Rattle.table.proofs.PartLaws.{left_of}
use Rattle.sweep.proofs.freed.empty_places.Given as goal

-- what is left to do comes to the same
abbrev pub invariant-loop-y : goal.invariant-loop-y
invariant-loop-y l = left_of 0 (λ k y. cond (holds y l.map) 0 y) l.end l.y-index l.y-items ≡ each_from 0 l.end (λ k y. cond (holds y l.map) 0 y) l.initial.y-items
