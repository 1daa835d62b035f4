-- `push_pointers` meets its contract. The loop's invariant, `Pushing`: from here down it ends with the same words.
use lib.ListN.{drop}
use Rattle.walk.proofs.PendingLaws.{Pushing}
use Rattle.walk.proofs.scan.push_pointers.Given as goal

abbrev pub invariant-loop-j : goal.invariant-loop-j
invariant-loop-j l = Pushing l.n (drop l.from l.slots) l.k l.initial.work l.top l.work l.at l.j
