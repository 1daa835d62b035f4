-- `sweep::freed::free_all` goes from word to word. Assumes nothing.
use Rattle.sweep.specs.Sweep.{clear_record, clear_slots}
use Rattle.sweep.proofs.FreedLaws.{Mapping}
use Rattle.sweep.proofs.freed.free_all.Given as goal

abbrev pub invariant-loop-j : goal.invariant-loop-j
invariant-loop-j l = Mapping clear_record l.map l.initial.records l.records l.j × Mapping clear_slots l.map l.initial.slots l.slots l.j
