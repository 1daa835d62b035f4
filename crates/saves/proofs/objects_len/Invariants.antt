-- `saves::objects_len` is the length of the objects' body. Invariant: the total so far is the length of the objects passed. Assumes nothing.
use mathlib.Core.Path.{◌≡◌}
use Rattle.saves.specs.Saves.{objects_len}
use Rattle.saves.proofs.objects_len.Given as goal

abbrev pub invariant-loop-r : goal.invariant-loop-r
invariant-loop-r l = l.total ≡ objects_len l.n l.records l.r-index
