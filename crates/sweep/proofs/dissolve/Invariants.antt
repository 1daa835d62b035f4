-- `sweep::dissolve` is a pass over the records that leaves what it reads of them. Assumes nothing.
use Rattle.records.specs.Record.{is_marked}
use Rattle.rules.specs.Sweep.{kept_record}
use Rattle.sweep.specs.Sweep.{marked_at}
use Rattle.sweep.proofs.PassingLaws.{InPlace}
use Rattle.sweep.proofs.dissolve.Given as goal

abbrev pub invariant-loop-i : goal.invariant-loop-i
invariant-loop-i l = InPlace is_marked (λ recs. kept_record (marked_at l.n recs)) l.n l.initial.records l.records l.i
