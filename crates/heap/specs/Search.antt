-- What a search of the records answers.
use Rattle.std.specs.Prelude.{ℕ, zero, suc, Option, Some, None}

-- the object with that number: none for 0
abbrev pub object : ℕ → Option ℕ
object zero = None
object (suc k) = Some (suc k)
