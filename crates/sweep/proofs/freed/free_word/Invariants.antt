-- `sweep::freed::free_word` goes from set bit to set bit. Assumes nothing.
use Prim.Native.Nat.{◌<◌, ◌^◌}
use Rattle.sweep.specs.Sweep.{clear_record, clear_slots}
use Rattle.sweep.proofs.FreedLaws.{Freeing}
use Rattle.sweep.proofs.freed.free_word.Given as goal

abbrev pub invariant-loop-rest : goal.invariant-loop-rest
invariant-loop-rest l = Freeing clear_record l.base l.word l.initial.records l.records l.rest × Freeing clear_slots l.base l.word l.initial.slots l.slots l.rest × (l.rest < 2 ^ 64)

abbrev pub decreases-loop-rest : goal.decreases-loop-rest
decreases-loop-rest l = l.rest
