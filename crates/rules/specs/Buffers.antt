-- The lent buffers as lists of words ("The heap"): object i has record i - 1 and the slots from 8 (i - 1) on.
use Rattle.std.specs.Prelude.{ℕ, zero, suc, ◌+◌, ◌*◌, ◌/◌, Bool, true, ◌&&◌, ◌||◌, List, [], ◌∷◌, ltb, length, get_or, take, drop}
use Rattle.layout.specs.Limits.{width_max, sink_max, slots_len}
use Rattle.records.specs.Record.{width}

-- refusal 2 of one slice: it has fewer than k words
unfoldable pub short : ℕ → List ℕ → Bool
short k l = ltb (length l) k

-- one of the five slices that a heap has is too short for n objects and r roots
unfoldable pub short_heap : ℕ → ℕ → List ℕ → List ℕ → List ℕ → List ℕ → List ℕ → Bool
short_heap n r recs slots roots list sets =
    short n recs || short (slots_len n) slots || short r roots || short sink_max list || short n sets

-- ---- reading

-- the record of object x, 0 for 0 and above n
unfoldable pub rec_of : ℕ → List ℕ → ℕ → ℕ
rec_of n recs zero = 0
rec_of n recs (suc i) = get_or (take n recs) i 0

-- the eight words of object i
unfoldable pub eight : List ℕ → ℕ → List ℕ
eight slots zero = []
eight slots (suc i) = take width_max (drop (width_max * i) slots)

-- those of them that are used, by slot
unfoldable pub used_words : ℕ → List ℕ → List ℕ → ℕ → List ℕ
used_words n recs slots i = take (width (rec_of n recs i)) (eight slots i)

-- those that are not
unfoldable pub other_words : ℕ → List ℕ → List ℕ → ℕ → List ℕ
other_words n recs slots i = drop (width (rec_of n recs i)) (eight slots i)

-- every word passes
unfoldable pub all_of : (ℕ → Bool) → List ℕ → Bool
all_of t [] = true
all_of t (w ∷ l) = t w && all_of t l

-- every number from 1 to n passes
unfoldable pub all_to : ℕ → (ℕ → Bool) → Bool
all_to zero t = true
all_to (suc n) t = all_to n t && t (suc n)

-- the numbers a, a + 1, .., k of them
unfoldable pub numbers : ℕ → ℕ → List ℕ
numbers a zero = []
numbers a (suc k) = a ∷ numbers (suc a) k

-- ---- changing

-- each of the first k elements becomes f of its number, counted from i, and of itself; those after them stay
unfoldable pub each_from : {A : Type 0} → ℕ → ℕ → (ℕ → A → A) → List A → List A
each_from i zero f l = l
each_from i (suc k) f [] = []
each_from i (suc k) f (w ∷ l) = f i w ∷ each_from (suc i) k f l

-- the records, by object
unfoldable pub each_record : ℕ → (ℕ → ℕ → ℕ) → List ℕ → List ℕ
each_record n f recs = each_from 1 n f recs

-- the slots, by the object whose they are
unfoldable pub each_slot : ℕ → (ℕ → ℕ → ℕ) → List ℕ → List ℕ
each_slot n f slots = each_from 0 (slots_len n) (λ j w. f (j / width_max + 1) w) slots

-- the first k words become 0
unfoldable pub zeros : ℕ → List ℕ → List ℕ
zeros k l = each_from 0 k (λ i w. 0) l
