-- `wellformed::objects_ok`: the inner loop keeps what is left of an object's words, the outer one that all objects before passed. Assumes nothing.
use mathlib.Core.Path.{◌≡◌}
use mathlib.Core.Bool.{true}
use Rattle.rules.specs.Buffers.{all_to}
use Rattle.wellformed.specs.Check.{object_ok}
use Rattle.wellformed.proofs.CheckLaws.{Seen}
use Rattle.wellformed.proofs.objects_ok.Given as goal

abbrev pub invariant-loop-k : goal.invariant-loop-k
invariant-loop-k l = (l.ok ≡ true) × Seen l.n l.records l.slots l.i l.width l.c l.k l.leaving

abbrev pub invariant-check : goal.invariant-check
invariant-check l = (l.ok ≡ true) × (all_to l.i (object_ok l.n l.records l.slots) ≡ true)
