-- `sweep::freed::freed_word` makes the word from its highest bit down. Assumes nothing.
use Prim.Native.Nat.{◌≤◌, ◌+◌, ◌-◌, ◌*◌}
use mathlib.Core.Path.{◌≡◌}
use Rattle.bitmap.specs.Bits.{bits_of}
use Rattle.sweep.specs.Sweep.{freed_at}
use Rattle.sweep.proofs.freed.freed_word.Given as goal

abbrev pub invariant-loop-b : goal.invariant-loop-b
invariant-loop-b l = (l.b ≤ 64) × (l.word ≡ bits_of (freed_at l.n l.records) (64 * l.j + l.b) (64 - l.b))
