-- `settle` meets its contract. Assumes nothing.
use Prim.Native.Nat.{◌-◌}
use Rattle.analyse.proofs.SettleLaws.{Settling}
use Rattle.analyse.proofs.judge.settle.Given as goal

abbrev pub invariant-loop-x : goal.invariant-loop-x
invariant-loop-x l = Settling l.n l.t l.initial.records l.work l.records (l.x - 1) l.loss l.clusters l.members
