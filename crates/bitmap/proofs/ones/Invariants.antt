-- `bitmap::ones` has counted the words below i. Assumes nothing.
use mathlib.Core.Path.{◌≡◌}
use lib.ListN.{length, take}
use Rattle.bitmap.specs.Bits.{numbers_in}
use Rattle.bitmap.proofs.ones.Given as goal

abbrev pub invariant-loop-i : goal.invariant-loop-i
invariant-loop-i l = l.n ≡ length (numbers_in 0 (take l.i l.map))
