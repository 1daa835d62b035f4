-- `endian::near_end` reads the bytes that are there. Invariant: the bytes so far, 0 for those past the end, and zeros. Assumes nothing.
use mathlib.Core.Path.{◌≡◌}
use mathlib.Core.List.{◌++◌}
use Prim.Native.Nat.{◌-◌}
use lib.ListN.{take, replicate}
use Rattle.endian.proofs.near_end.Given as goal

abbrev pub invariant-loop-k : goal.invariant-loop-k
invariant-loop-k g l = l.all ≡ take l.k (l.rest ++ replicate g.row.K 0) ++ replicate (g.row.K - l.k) 0
