-- `sweep::mark_members` is a pass over the records that leaves what it reads of them. Assumes nothing.
use Rattle.records.specs.Record.{is_reached}
use Rattle.sweep.specs.Sweep.{member_marked}
use Rattle.sweep.proofs.PassingLaws.{InPlace}
use Rattle.sweep.proofs.mark_members.Given as goal

abbrev pub invariant-loop-i : goal.invariant-loop-i
invariant-loop-i l = InPlace is_reached (member_marked l.n) l.n l.initial.records l.records l.i
