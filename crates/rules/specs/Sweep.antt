-- The sweep ("Collection"), after whatever walk told who is kept and which clusters' heads were reached.
use Rattle.std.specs.Prelude.{ℕ, Bool, not, cond, ◌&&◌, ◌||◌, List, eqb}
use Rattle.layout.specs.Limits.{sink_max, map_len}
use Rattle.records.specs.Record.{in_use, cluster, loose}
use Rattle.bitmap.specs.Bits.{word_of}
use Rattle.graph.specs.Numbers.{count}
use Rattle.rules.specs.Buffers.{rec_of, each_from, each_record, each_slot}
use Rattle.rules.specs.View.{heap_in, exact_sets}

-- the record of a kept object: without cluster and out where the head was not reached
unfoldable pub kept_record : (ℕ → Bool) → ℕ → ℕ
kept_record heads r = cond (eqb (cluster r) 0 || heads (cluster r)) r (loose r)

module _ (n : ℕ) (recs : List ℕ) (kept : ℕ → Bool) where
  -- freed are the objects in use that are not kept
  unfoldable pub freed : ℕ → Bool
  freed x = in_use (rec_of n recs x) && not (kept x)

  -- a record after the sweep: 0 if freed
  unfoldable pub swept_record : (ℕ → Bool) → ℕ → ℕ → ℕ
  swept_record heads x r = cond (freed x) 0 (kept_record heads r)

  -- the records after it
  unfoldable pub swept_records : (ℕ → Bool) → List ℕ
  swept_records heads = each_record n (swept_record heads) recs

  -- the words of the freed are 0
  unfoldable pub swept_slots : List ℕ → List ℕ
  swept_slots slots = each_slot n (λ x w. cond (freed x) 0 w) slots

  -- the place of a freed sink is empty
  unfoldable pub swept_sinks : List ℕ → List ℕ
  swept_sinks list = each_from 0 sink_max (λ k y. cond (freed y) 0 y) list

-- what a sweep counts, and the buffers after it
pub record Swept : Type 0 where
  pub freed : ℕ
  pub kept : ℕ
  pub records : List ℕ
  pub slots : List ℕ
  pub sinks : List ℕ
  pub sets : List ℕ
  pub map : List ℕ

-- the sweep: what belongs to the freed is cleared, every set made exact, and the map holds the freed
unfoldable pub sweep : ℕ → List ℕ → List ℕ → List ℕ → List ℕ → List ℕ → (ℕ → Bool) → (ℕ → Bool) → Swept
sweep n recs slots list sets map kept heads = record {
  freed = count n (freed n recs kept);
  kept = count n kept;
  records = swept_records n recs kept heads;
  slots = swept_slots n recs kept slots;
  sinks = swept_sinks n recs kept list;
  sets = exact_sets (heap_in n (swept_records n recs kept heads) (swept_slots n recs kept slots) (swept_sinks n recs kept list)) sets;
  map = each_from 0 (map_len n) (λ j w. word_of (freed n recs kept) j) map;
}
