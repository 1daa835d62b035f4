-- A field of a word: so many bits from a given bit on, by division and remainder.
use Rattle.std.specs.Prelude.{Bool, true, false, ℕ, ◌+◌, ◌*◌, ◌/◌, ◌%◌, ◌^◌, eqb}

-- the field of w bits from bit p
unfoldable pub field : ℕ → ℕ → ℕ → ℕ
field p w r = r / 2 ^ p % 2 ^ w

-- r with v, modulo the field's width, in the field of w bits from bit p: the bits above it, then v, then those below
unfoldable pub put : ℕ → ℕ → ℕ → ℕ → ℕ
put p w v r = (r / 2 ^ (w + p) * 2 ^ w + v % 2 ^ w) * 2 ^ p + r % 2 ^ p

-- whether bit p is set
unfoldable pub flag : ℕ → ℕ → Bool
flag p r = eqb (field p 1 r) 1

-- 1 for true
unfoldable pub digit : Bool → ℕ
digit true = 1
digit false = 0

-- r with bit p set, or clear
unfoldable pub put_flag : ℕ → Bool → ℕ → ℕ
put_flag p b r = put p 1 (digit b) r
