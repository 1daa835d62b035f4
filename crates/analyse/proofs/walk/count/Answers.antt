-- `count` meets its contract. Assumes nothing.
use Rattle.analyse.proofs.MemoryLaws.{count_fits, counted, not-counted}
use Rattle.analyse.proofs.walk.count.Goals as goal

pub overflow_add-work-then-e-ne0 : goal.overflow_add-work-then-e-ne0
overflow_add-work-then-e-ne0 c = record { fits = count_fits _ _ _ c.if-e-ne0.true c.requires.2 c.requires.3 }

pub returns-then-e-ne0 : goal.returns-then-e-ne0
returns-then-e-ne0 c = counted _ _ _ c.if-e-ne0.true c.requires.2 c.requires.1

pub returns-else-e-ne0 : goal.returns-else-e-ne0
returns-else-e-ne0 c = not-counted _ _ _ c.if-e-ne0.false
