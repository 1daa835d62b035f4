-- `push_kids` meets its contract. Assumes nothing.
use lib.ListN.{drop}
use Rattle.analyse.proofs.PushLaws.{Pushing}
use Rattle.analyse.proofs.walk.push_kids.Given as goal

abbrev pub invariant-loop-j : goal.invariant-loop-j
invariant-loop-j l = Pushing l.heap.n l.c (drop l.from l.heap.slots.now) l.w l.initial.work l.top l.work l.j l.at
