-- `saves::write_sinks` fills the body of kind 0x8001. Invariant: the sinks in the places passed are stored. Assumes nothing.
use Prim.Native.Nat.{◌*◌}
use mathlib.Core.Path.{◌≡◌}
use lib.ListN.{length, take}
use lib.Seq.{sets}
use Rattle.endian.specs.Bytes.{bytes_of}
use Rattle.saves.proofs.SaveLaws.{first_sinks}
use Rattle.saves.proofs.write_sinks.Given as goal

abbrev pub invariant-loop-y : goal.invariant-loop-y
invariant-loop-y l = (l.at ≡ 2 * length (first_sinks (take 64 l.sinks) l.y-index)) × (l.body ≡ sets l.initial.body 0 (bytes_of 2 (first_sinks (take 64 l.sinks) l.y-index)))
