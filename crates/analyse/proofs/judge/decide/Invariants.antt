-- `decide` meets its contract. Assumes nothing.
use Prim.Native.Nat.{◌-◌}
use Rattle.analyse.specs.Filling.{Filling}
use Rattle.analyse.specs.Judge.{left_word}
use Rattle.analyse.proofs.judge.decide.Given as goal

abbrev pub invariant-loop-x : goal.invariant-loop-x
invariant-loop-x l = Filling l.n l.n (left_word l.n l.t l.records l.slots l.initial.work) l.initial.work l.work (l.x - 1)
