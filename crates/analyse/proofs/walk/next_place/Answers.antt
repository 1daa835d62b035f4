-- `next_place` meets its contract. Assumes nothing.
use Prim.Native.Nat.{◌/◌, ◌^◌}
use native.Mathlib.Omega.{arith}
use lib.Count.{trailing_le}
use Rattle.analyse.proofs.walk.next_place.Goals as goal

pub overflow_add-result : goal.overflow_add-result
overflow_add-result c = let a = c.args in record { fits = omega (arith, c.requires, c.lowest_bit.ensures, trailing_le 64 (a.set / 2 ^ a.p)) }
