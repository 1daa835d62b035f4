-- `lowest` meets its contract. The loop's invariant: from word k of the summary on the search ends as it does from the first.
use mathlib.Core.Path.{◌≡◌}
use Prim.Native.Nat.{◌-◌}
use Rattle.postponed.specs.Postponed as P
use Rattle.postponed.specs.Postponed.{lowest_from}
use Rattle.postponed.proofs.lowest.Given as goal

abbrev pub invariant-loop-k : goal.invariant-loop-k
invariant-loop-k l = lowest_from l.n l.work l.k (4 - l.k) ≡ P.lowest l.n l.work
