-- What the steps of a declaration leave in the records, and the place of the new sink.
use Rattle.std.specs.Prelude.{ℕ, ◌==◌, List, take, Option, position}
use Rattle.layout.specs.Limits.{sink_max}
use Rattle.records.specs.Record.{with_out}
use Rattle.rules.specs.Buffers.{each_record}
use Rattle.rules.specs.View.{view, exact_out}

-- every out bit exact; all other bits stay
unfoldable pub made_exact : ℕ → List ℕ → List ℕ → List ℕ
made_exact n slots recs = each_record n (λ x r. with_out (exact_out (view n recs slots) x) r) recs

-- the first empty one of the 64 places
abbrev pub first_empty : List ℕ → Option ℕ
first_empty list = position (λ y. y == 0) (take sink_max list)
