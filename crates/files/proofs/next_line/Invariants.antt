-- `files::next_line` looks, and reads on while no line is found. Assumes nothing.
use Rattle.std.proofs.Common.{◌≡◌}
use Rattle.files.specs.declared.Source.{Source}
use Rattle.files.specs.declared.State.TheVariants.{More}
use Rattle.files.specs.Reading.{Found}
use Rattle.files.proofs.next_line.Given as goal

-- what holds of the first answer holds of the last one, and where the first one was enough, it is the last
abbrev pub invariant-loop : goal.invariant-loop
invariant-loop g l =
    ((s : Source) → Found s l.initial.t → Found s l.t) × ((l.initial.t.state ≡ More → ⊥) → (l.t ≡ l.initial.t) × (l.input ≡ l.initial.input))
