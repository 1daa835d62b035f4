-- `used_count` meets its contract. Assumes nothing.
use Prim.Native.Nat.{◌-◌}
use Rattle.analyse.proofs.LimitLaws.{Used}
use Rattle.analyse.proofs.limit.used_count.Given as goal

abbrev pub invariant-loop-x : goal.invariant-loop-x
invariant-loop-x l = Used l.n l.records (l.x - 1) l.total
