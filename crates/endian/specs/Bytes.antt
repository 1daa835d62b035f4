-- Numbers as bytes, the lowest first ("Saves": little-endian).
use Rattle.std.specs.Prelude.{ℕ, zero, suc, ◌+◌, ◌*◌, ◌/◌, ◌%◌, ◌<◌, take, drop}
use mathlib.Core.List.{List, [], ◌∷◌, ◌++◌, Memᴰ}

-- each number of the list is a byte
abbrev pub Octets : List ℕ → Type 0
Octets l = (v : ℕ) → Memᴰ v l → v < 256

-- the k lowest bytes of v
unfoldable pub bytes : ℕ → ℕ → List ℕ
bytes zero v = []
bytes (suc k) v = v % 256 ∷ bytes k (v / 256)

-- the number that these bytes are
unfoldable pub number : List ℕ → ℕ
number [] = 0
number (b ∷ l) = b + 256 * number l

-- the number in the k bytes from place i on; past the end bytes count as 0
unfoldable pub number_at : ℕ → ℕ → List ℕ → ℕ
number_at k i l = number (take k (drop i l))

-- numbers, k bytes each
unfoldable pub bytes_of : ℕ → List ℕ → List ℕ
bytes_of k [] = []
bytes_of k (v ∷ l) = bytes k v ++ bytes_of k l

-- words, four bytes each
abbrev pub word_bytes : List ℕ → List ℕ
word_bytes l = bytes_of 4 l
