-- Some words of a buffer set to 0.
use Rattle.std.specs.Prelude.{ℕ, ◌-◌, List, ◌++◌, take, drop}
use Rattle.rules.specs.Buffers.{zeros}

-- the words from place a up to place b become 0
unfoldable pub cleared : ℕ → ℕ → List ℕ → List ℕ
cleared a b l = take a l ++ zeros (b - a) (drop a l)
