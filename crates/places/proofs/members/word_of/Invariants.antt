-- `places::members::word_of` makes the word from its highest bit down. Assumes nothing.
use Prim.Native.Nat.{◌+◌, ◌-◌, ◌≤◌}
use mathlib.Core.Path.{◌≡◌}
use Rattle.bitmap.specs.Bits.{bits_of}
use Rattle.places.specs.Places.{in_place}
use Rattle.places.proofs.members.word_of.Given as goal

abbrev pub invariant-loop-b : goal.invariant-loop-b
invariant-loop-b l = (l.b ≤ 64) × (l.word ≡ bits_of (in_place l.sinks l.seen) (0 + l.b) (64 - l.b))
