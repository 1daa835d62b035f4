-- Numbers of a line: decimal, hexadecimal after 0x or 0X, or `nil` for 0; each less than 2^32.
use Rattle.std.specs.Prelude.{ℕ, ◌+◌, ◌*◌, ◌-◌, ◌^◌, Bool, true, false, cond, ◌&&◌, ◌||◌, List, [], ◌∷◌, eqb, leb, ltb, get_or, drop, Result, Ok, Err}
use Rattle.lines.specs.Text.{bytes}
use Rattle.lines.specs.Word.{same_bytes}
use Rattle.lines.specs.declared.kinds.Problem.{Problem}
use Rattle.lines.specs.declared.kinds.Problem.TheVariants.{NoNumber, LargeNumber}

-- a ≤ x ≤ b
unfoldable pub between : ℕ → ℕ → ℕ → Bool
between a b x = leb a x && leb x b

-- the value of '0' to '9', 'a' to 'f', 'A' to 'F'; 16 for any other byte
unfoldable pub digit_of : ℕ → ℕ
digit_of b =
    cond (between 48 57 b) (b - 48)
    (cond (between 97 102 b) (b - 87)
    (cond (between 65 70 b) (b - 55) 16))

-- the digits that are left, after digits whose value is v
unfoldable pub digits : ℕ → ℕ → List ℕ → Result ℕ Problem
digits base v [] = cond (ltb v (2 ^ 32)) (Ok v) (Err LargeNumber)
digits base v (b ∷ s) = elim (ltb (digit_of b) base) [ true ↦ digits base (v * base + digit_of b) s | false ↦ Err NoNumber ]

-- one digit or more
unfoldable pub numeral_of : ℕ → List ℕ → Result ℕ Problem
numeral_of base [] = Err NoNumber
numeral_of base (b ∷ s) = digits base 0 (b ∷ s)

-- begins with 0x or 0X
unfoldable pub is_hex : List ℕ → Bool
is_hex w = eqb (get_or w 0 0) 48 && (eqb (get_or w 1 0) 120 || eqb (get_or w 1 0) 88)

-- the number that a word says
unfoldable pub value_of : List ℕ → Result ℕ Problem
value_of w = cond (same_bytes w (bytes "nil")) (Ok 0) (cond (is_hex w) (numeral_of 16 (drop 2 w)) (numeral_of 10 w))
