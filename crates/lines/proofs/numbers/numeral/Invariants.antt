-- `lines::numbers::numeral` reads a digit at a time; a value that is too large is kept at the bound. Assumes nothing.
use Prim.Native.Nat.{◌≤◌, ◌^◌}
use mathlib.Core.Path.{◌≡◌}
use lib.ListN.{drop}
use Rattle.lines.specs.Numeral.{digits, numeral_of}
use Rattle.lines.proofs.numbers.numeral.Given as goal

abbrev pub invariant-loop-b : goal.invariant-loop-b
invariant-loop-b l = (l.v ≤ 2 ^ 32) × (digits l.base l.v (drop l.b-index l.digits) ≡ numeral_of l.base l.digits)
