-- `sweep::freed::clear_record` meets its contract. Assumes nothing.
use native.Mathlib.Omega.{arith}
use Rattle.sweep.proofs.FreedLaws.{clear_none, clear_in, clear-past}
use Rattle.sweep.proofs.freed.clear_record.Goals as goal
use Rattle.sweep.proofs.freed.clear_record.Goals.{else-x-ne0-via-then-x-ne0+else-x-records, else-x-ne0-via-else-x-ne0}

pub returns-then-x-records : goal.returns-then-x-records
returns-then-x-records c = clear_in _ _ c.if-x-ne0.true

pub returns-else-x-ne0 : goal.returns-else-x-ne0
returns-else-x-ne0 c =
    elim c.else-x-ne0.branch [
      | else-x-ne0-via-then-x-ne0+else-x-records w ↦ clear-past _ _ w.if-x-ne0.true (omega arith)
      | else-x-ne0-via-else-x-ne0 w ↦ clear_none _ _ w.if-x-ne0.false
    ]
