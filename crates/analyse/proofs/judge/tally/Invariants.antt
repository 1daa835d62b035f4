-- `tally` meets its contract. Assumes nothing.
use Prim.Native.Nat.{◌-◌}
use Rattle.analyse.proofs.JudgeLaws.{Counting}
use Rattle.analyse.proofs.judge.tally.Given as goal

abbrev pub invariant-loop-x : goal.invariant-loop-x
invariant-loop-x l = Counting l.n l.records l.slots l.initial.work l.work (l.x - 1)
