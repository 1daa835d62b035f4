-- Numbers put into sets one after the other, the places of listed numbers, and the bits of all sets as one map.
use Rattle.std.specs.Prelude.{ℕ, suc, ◌+◌, ◌-◌, ◌*◌, ◌≤◌, ◌≡◌, Bool, true, not, cond, ◌&&◌, ◌||◌, List, [], ◌∷◌, map, eqb, get_or, take, set}
use Rattle.layout.specs.Limits.{sink_max}
use Rattle.layout.specs.Word.{is_nil, is_pointer}
use Rattle.records.specs.Record.{is_sink}
use Rattle.bitmap.specs.Bits.{holds, put_bit}
use Rattle.graph.specs.Numbers.{has}
use Rattle.rules.specs.Buffers.{rec_of, used_words, all_of}
use Rattle.rules.specs.View.{target}
use Rattle.rules.specs.WellFormed.{once}
use Rattle.table.specs.Clusters.{cluster_of}

-- ---- numbers put into a set

-- each number of a list put into a set
unfoldable pub put_all : List ℕ → List ℕ → List ℕ
put_all [] words = words
put_all (y ∷ l) words = put_all l (put_bit y words)

-- the pointers of object x, 0 for a word that is none
unfoldable pub kids_of : ℕ → List ℕ → List ℕ → ℕ → List ℕ
kids_of n recs slots x = map (target n) (used_words n recs slots x)

-- ---- the list

-- the answer of the test of the places, and the set after it
pub record Tested (n : ℕ) (recs l : List ℕ) (b : Bool) (seen : List ℕ) : Type 0 where
  pub answer : b ≡ all_of (λ y. is_nil y || (is_pointer n y && is_sink (rec_of n recs y))) l && once l
  pub seen-is : b ≡ true → (z : ℕ) → z ≤ n → holds z seen ≡ has z l

-- place k is not empty, and its number is in the set
unfoldable pub in_place : List ℕ → List ℕ → ℕ → Bool
in_place list seen k = not (eqb (get_or list k 0) 0) && holds (get_or list k 0) seen

-- a list in which each number is in its last place alone
unfoldable pub latest : List ℕ → List ℕ
latest [] = []
latest (y ∷ l) = cond (has y l) 0 y ∷ latest l

-- the 64 places so
unfoldable pub last_places : List ℕ → List ℕ
last_places list = latest (take sink_max list)

-- ---- all sets

-- the places with those of a list besides, the first of which is k + 1
unfoldable pub placed : ℕ → List ℕ → List ℕ → List ℕ
placed k [] place = place
placed k (y ∷ l) place = placed (suc k) l (set place y (suc k))

-- the bits of pointers that have a place, in the set at head c, where all sets are one map
unfoldable pub place_bits : List ℕ → ℕ → List ℕ → List ℕ
place_bits place c [] = []
place_bits place c (y ∷ l) =
    cond (eqb (get_or place y 0) 0) (place_bits place c l) ((64 * (c - 1) + (get_or place y 0 - 1)) ∷ place_bits place c l)

-- object x carries the number of an object as its cluster
unfoldable pub is_member : ℕ → List ℕ → ℕ → Bool
is_member n recs x = is_pointer n (cluster_of n recs x)

-- the bits of its pointers
unfoldable pub object_bits : ℕ → List ℕ → List ℕ → List ℕ → ℕ → List ℕ
object_bits n recs slots place x = place_bits place (cluster_of n recs x) (kids_of n recs slots x)
