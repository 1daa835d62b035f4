-- `outs` meets its contract. Assumes nothing.
use Rattle.analyse.proofs.JudgeLaws.{So}
use Rattle.analyse.proofs.judge.outs.Given as goal

abbrev pub invariant-loop-j : goal.invariant-loop-j
invariant-loop-j l = So l.n l.records l.slots l.work l.c l.from l.w l.j l.total
