-- Sets of numbers as bits of words of 64 bits ("The heap", freed map): each word has 64 numbers, the lowest in bit 0.
use Rattle.std.specs.Prelude.{List, [], ◌∷◌, ◌++◌, Bool, true, cond, ℕ, zero, suc, ◌+◌, ◌*◌, ◌/◌, ◌%◌, get_or, set}
use Rattle.layout.specs.Field.{flag, put_flag}
use Rattle.layout.specs.Limits.{object_max, map_len}

-- the words of the longest map that a heap has
abbrev pub map_max : ℕ
map_max = map_len object_max

-- whether number i is in the set; a number past the end is not
abbrev pub holds : ℕ → List ℕ → Bool
holds i words = flag (i % 64) (get_or words (i / 64) 0)

-- the set with number i besides; a number past the end is not put
abbrev pub put_bit : ℕ → List ℕ → List ℕ
put_bit i words = set words (i / 64) (put_flag (i % 64) true (get_or words (i / 64) 0))

-- b in front of l where the digit d is 1
abbrev pub cons_if : ℕ → ℕ → List ℕ → List ℕ
cons_if zero b l = l
cons_if (suc d) b l = b ∷ l

-- the set bits among the k lowest of a word, from the lowest up, where the lowest bit counts as b
unfoldable pub set_bits : ℕ → ℕ → ℕ → List ℕ
set_bits zero w b = []
set_bits (suc k) w b = cons_if (w % 2) b (set_bits k (w / 2) (suc b))

-- the numbers in a set whose first word starts at b, from the lowest up
unfoldable pub numbers_in : ℕ → List ℕ → List ℕ
numbers_in b [] = []
numbers_in b (w ∷ words) = set_bits 64 w b ++ numbers_in (b + 64) words

-- the word of k bits whose bit j is set where the number b + j passes the test
unfoldable pub bits_of : (ℕ → Bool) → ℕ → ℕ → ℕ
bits_of t b zero = 0
bits_of t b (suc k) = cond (t b) 1 0 + 2 * bits_of t (suc b) k

-- word j of the set of the numbers that pass the test
unfoldable pub word_of : (ℕ → Bool) → ℕ → ℕ
word_of t j = bits_of t (64 * j) 64
