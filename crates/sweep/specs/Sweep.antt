-- What a walk leaves in the records, and the sweep by it: the mark of a record says that its object is kept.
use Rattle.std.specs.Prelude.{ℕ, zero, suc, ◌+◌, ◌*◌, ◌≡◌, Bool, true, false, not, cond, ◌&&◌, ◌≢◌, List, [], ◌∷◌, eqb, leb, set}
use Rattle.layout.specs.Limits.{object_max, width_max, sink_max, slots_len, map_len}
use Rattle.records.specs.Record.{is_marked, is_reached, with_marked, with_postponed, with_reached, cluster}
use Rattle.graph.specs.Numbers.{Obj, count}
use Rattle.bitmap.specs.Bits.{holds}
use Rattle.rules.specs.Buffers.{short, rec_of, each_from, each_record}
use Rattle.rules.specs.View.{heap_in, exact_sets}
use Rattle.rules.specs.Sweep.{Swept, freed, sweep}
use Rattle.places.specs.Places.{last_places}
use Rattle.table.specs.Cleared.{cleared}

-- a record without the three flags of a walk, bits 4 to 6
unfoldable pub unflagged_record : ℕ → ℕ
unflagged_record r = with_reached false (with_postponed false (with_marked false r))

module _ (n : ℕ) (recs : List ℕ) where
  -- the records without the flags
  unfoldable pub unflagged : List ℕ
  unflagged = each_record n (λ x r. unflagged_record r) recs

  -- the mark of object x
  unfoldable pub marked_at : ℕ → Bool
  marked_at x = is_marked (rec_of n recs x)

  -- how many objects are marked
  unfoldable pub marked_count : ℕ
  marked_count = count n marked_at

  -- ---- the members of the reached clusters

  -- a record, marked if its cluster's head is reached
  unfoldable pub member_marked : ℕ → ℕ
  member_marked r = cond (not (eqb (cluster r) 0) && is_reached (rec_of n recs (cluster r))) (with_marked true r) r

  -- the records with the members of every reached cluster marked
  unfoldable pub members_marked : List ℕ
  members_marked = each_record n (λ x r. member_marked r) recs

  -- ---- the sweep

  -- in use and not marked
  abbrev pub freed_at : ℕ → Bool
  freed_at = freed n recs marked_at

  -- the sweep that keeps the marked, of objects and of heads
  abbrev pub by_marks : List ℕ → List ℕ → List ℕ → List ℕ → Swept
  by_marks slots list sets map = sweep n unflagged slots list sets map marked_at marked_at

  -- the sets of what it leaves: those of the sweep, but a number that is in the list twice counts in its last place
  abbrev pub sets_by_marks : List ℕ → List ℕ → List ℕ → List ℕ → List ℕ
  sets_by_marks slots list sets map =
      let s = by_marks slots list sets map in exact_sets (heap_in n s.records s.slots (last_places s.sinks)) sets

  -- where this fails nothing is swept
  unfoldable pub fits : List ℕ → List ℕ → Bool
  fits slots map = leb n object_max && (not (short n recs) && (not (short (slots_len n) slots) && not (short (map_len n) map)))

-- what a sweep leaves, and how many it freed
pub record AfterSweep (n : ℕ) (recs slots list sets map recs' slots' list' sets' map' : List ℕ) (k : ℕ) : Type 0 where
  pub records : recs' ≡ cond (fits n recs slots map) (by_marks n recs slots list sets map).records recs
  pub slot_words : slots' ≡ cond (fits n recs slots map) (by_marks n recs slots list sets map).slots slots
  pub sinks : list' ≡ cond (fits n recs slots map) (by_marks n recs slots list sets map).sinks list
  pub set_words : sets' ≡ cond (fits n recs slots map) (sets_by_marks n recs slots list sets map) sets
  pub map_words : map' ≡ cond (fits n recs slots map) (by_marks n recs slots list sets map).map map
  pub freed : k ≡ cond (fits n recs slots map) (by_marks n recs slots list sets map).freed 0

-- the marks in recs say which objects of the heap in recs₀ are kept and, of its clusters, whose heads are reached
pub record Marked (n : ℕ) (recs₀ recs : List ℕ) (kept heads : ℕ → Bool) : Type 0 where
  pub same : unflagged n recs ≡ recs₀
  pub kept-is : (x : ℕ) → Obj n x → kept x ≡ marked_at n recs x
  pub heads-is : (x : ℕ) → Obj n x → cluster (rec_of n recs₀ x) ≢ 0 → heads (cluster (rec_of n recs₀ x)) ≡ marked_at n recs (cluster (rec_of n recs₀ x))

-- ---- one freed object after the other

-- f of the first number, then of the next, and so on
unfoldable pub in_turn : (ℕ → List ℕ → List ℕ) → List ℕ → List ℕ → List ℕ
in_turn f [] s = s
in_turn f (x ∷ l) s = in_turn f l (f x s)

-- the record of object x becomes 0
unfoldable pub clear_record : ℕ → List ℕ → List ℕ
clear_record zero recs = recs
clear_record (suc i) recs = set recs i 0

-- the eight slots of object x become 0
unfoldable pub clear_slots : ℕ → List ℕ → List ℕ
clear_slots zero slots = slots
clear_slots (suc i) slots = cleared (width_max * i) (width_max * i + width_max) slots

-- the places of the list whose numbers are in the set become empty
unfoldable pub emptied : List ℕ → List ℕ → List ℕ
emptied map list = each_from 0 sink_max (λ k y. cond (holds y map) 0 y) list
