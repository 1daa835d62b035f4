-- `lines::parse::numbers`: the numbers that are left decide as all of them do. Assumes nothing.
use Prim.Native.Nat.{◌-◌}
use mathlib.Core.Path.{◌≡◌}
use Rattle.lines.specs.Line.{numbers_from}
use Rattle.lines.proofs.parse.numbers.Given as goal

abbrev pub invariant-loop-k : goal.invariant-loop-k
invariant-loop-k l = numbers_from (l.k-end - l.k) l.k l.c l.line l.at ≡ numbers_from l.k-end 0 l.initial.c l.line l.from
