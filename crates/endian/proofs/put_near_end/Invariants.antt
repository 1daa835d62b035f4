-- `endian::put_near_end` stores the bytes that have a place. Invariant: the bytes that are left, stored, give what was to be stored. Assumes nothing.
use mathlib.Core.Path.{◌≡◌}
use lib.ListN.{drop}
use lib.Seq.{sets}
use Rattle.endian.proofs.put_near_end.Given as goal

abbrev pub invariant-loop-k : goal.invariant-loop-k
invariant-loop-k g l = sets l.out l.k (drop l.k l.value) ≡ sets l.initial.out 0 l.initial.value
