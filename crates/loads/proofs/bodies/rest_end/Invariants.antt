-- `loads::bodies::rest_end` tests word after word. Assumes nothing.
use Rattle.loads.specs.Bodies.{passes}
use Rattle.loads.proofs.WordLaws.{Testing}
use Rattle.loads.proofs.bodies.rest_end.Given as goal

abbrev pub invariant-loop : goal.invariant-loop
invariant-loop l = Testing (passes l.immediates l.n l.words) l.from l.k l.body l.at l.counter
