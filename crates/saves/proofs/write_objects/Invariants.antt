-- `saves::write_objects` fills the body of kind 2. Invariant: the objects passed are stored, and `at` is their length. Assumes nothing.
use mathlib.Core.Path.{◌≡◌}
use lib.Seq.{sets}
use Rattle.saves.specs.Saves.{objects_len, objects_to}
use Rattle.saves.proofs.write_objects.Given as goal

abbrev pub invariant-loop-i : goal.invariant-loop-i
invariant-loop-i l = (l.at ≡ objects_len l.n l.records l.i) × (l.body ≡ sets l.initial.body 0 (objects_to l.n l.records l.slots l.i))
