-- `loads::bodies::words_end` tests four words at a time, then the others. Assumes nothing.
use Rattle.loads.specs.Bodies.{passes}
use Rattle.loads.proofs.WordLaws.{Halfway}
use Rattle.loads.proofs.bodies.words_end.Given as goal

abbrev pub invariant-loop : goal.invariant-loop
invariant-loop l = Halfway (passes l.immediates l.n l.words) l.from l.k l.body l.at l.counter
