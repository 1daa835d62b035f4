-- The set of postponed objects in the work words from 9 n on: a bit for each number, 32 to a word; and after these words the summary, a bit
-- for each of them that is not 0.
use Rattle.std.specs.Prelude.{ℕ, zero, suc, ◌+◌, ◌*◌, ◌/◌, ◌%◌, ◌≤◌, ◌<◌, ◌≡◌, Bool, false, not, cond, List, eqb, get_or, set}
use Rattle.std.specs.Int.Count.{count_trailing_zeros}
use Rattle.layout.specs.Field.{flag, put_flag}

-- bit i of the words from `base` on; past the end it is clear
unfoldable pub bit_at : List ℕ → ℕ → ℕ → Bool
bit_at work base i = flag (i % 32) (get_or work (base + i / 32) 0)

-- bit i becomes v; past the end nothing changes
unfoldable pub put_bit : List ℕ → ℕ → ℕ → Bool → List ℕ
put_bit work base i v = set work (base + i / 32) (put_flag (i % 32) v (get_or work (base + i / 32) 0))

-- where the summary begins
abbrev pub sum_at : ℕ → ℕ
sum_at n = 9 * n + (n / 32 + 1)

-- whether word j of the set has a number in it
abbrev pub some_in : ℕ → List ℕ → ℕ → Bool
some_in n work j = not (eqb (get_or work (9 * n + j) 0) 0)

-- x is in the set where v is true and not where it is false; the summary tells of its word
unfoldable pub put : ℕ → ℕ → Bool → List ℕ → List ℕ
put n x v work = let w = put_bit work (9 * n) x v in put_bit w (sum_at n) (x / 32) (some_in n w (x / 32))

-- the lowest number in word j
abbrev pub lowest_in : ℕ → List ℕ → ℕ → ℕ
lowest_in n work j = 32 * j + count_trailing_zeros 32 (get_or work (9 * n + j) 0)

-- the lowest number in the words that m words of the summary, from the k-th on, tell of; 0 where these are 0
unfoldable pub lowest_from : ℕ → List ℕ → ℕ → ℕ → ℕ
lowest_from n work k zero = 0
lowest_from n work k (suc m) =
    let w = get_or work (sum_at n + k) 0 in cond (eqb w 0) (lowest_from n work (suc k) m) (lowest_in n work (32 * k + count_trailing_zeros 32 w))

-- the lowest number in the set, 0 for none; four words are the summary of 4,095 numbers
abbrev pub lowest : ℕ → List ℕ → ℕ
lowest n work = lowest_from n work 0 4

-- the set has exactly the numbers up to n that pass the test, and the summary fits
pub record Mapped (n : ℕ) (t : ℕ → Bool) (work : List ℕ) : Type 0 where
  pub bits : (i : ℕ) → i / 32 ≤ n / 32 → bit_at work (9 * n) i ≡ t i
  pub sums : (j : ℕ) → j ≤ n / 32 → bit_at work (sum_at n) j ≡ some_in n work j
  pub over : (j : ℕ) → n / 32 < j → j / 32 < 4 → bit_at work (sum_at n) j ≡ false
