-- `heap::allocate::first_free` tries object after object. Assumes nothing.
use mathlib.Core.Path.{◌≡◌}
use Prim.Native.Nat.{suc, ◌-◌}
use Rattle.records.specs.Record.{free}
use Rattle.rules.specs.Buffers.{rec_of, numbers}
use Rattle.rules.specs.Allocate.{first_of}
use Rattle.heap.proofs.allocate.first_free.Given as goal

-- the search from here finds the same
abbrev pub invariant-loop-i : goal.invariant-loop-i
invariant-loop-i l =
    first_of (λ y. free (rec_of l.n l.records y)) (numbers (suc l.i) (l.to - l.i)) ≡ first_of (λ y. free (rec_of l.n l.records y)) (numbers (suc l.from) (l.to - l.from))
