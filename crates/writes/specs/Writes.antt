-- What the functions of a write are held to.
use Rattle.std.specs.Prelude.{ℕ, ◌+◌, ◌-◌, ◌*◌, ◌≤◌, ◌<◌, ◌≡◌, ◌≢◌, Bool, true, false, not, cond, ◌&&◌, List, [], ◌∷◌, ◌++◌, eqb, leb, length, set, Result}
use Rattle.layout.specs.declared.answers.Control.{Control}
use Rattle.layout.specs.Limits.{width_max, sink_max}
use Rattle.records.specs.Record.{width, legal, with_written}
use Rattle.layout.specs.Word.{is_pointer, legal_word}
use Rattle.layout.specs.declared.refusals.Refusal.{Refusal}
use Rattle.layout.specs.ControlRecord.{with_write_loss}
use Rattle.layout.specs.Refusal.{Test, refusal_of, first}
use Rattle.graph.specs.Heap.{Heap}
use Rattle.graph.specs.Writes.{dissolves, store_by}
use Rattle.rules.specs.Buffers.{short, rec_of}
use Rattle.rules.specs.View.{target, view, heap_in, set_word, encoded}
use Rattle.table.specs.Named.{named_tests}
use Rattle.table.specs.Room.{Room}
use Rattle.table.specs.Clusters.{cluster_of, members_of}

-- the tests of the word that is to be stored
unfoldable pub word_tests : ℕ → ℕ → List ℕ → List Test
word_tests n w recs = (6, not (legal_word n w)) ∷ (23, is_pointer n w && not (legal n (rec_of n recs w))) ∷ []

-- how many objects the sets have room for, none where the list of sinks is too short
unfoldable pub others_of : List ℕ → List ℕ → ℕ
others_of list sets = cond (short sink_max list) 0 (length sets)

-- the tests of a write but the last, where the other lent slices have room for so many objects: the object's, the slot's, the word's
unfoldable pub front_tests : Control → ℕ → ℕ → ℕ → List ℕ → List ℕ → ℕ → List Test
front_tests c i k w recs slots others = named_tests c i recs slots others ++ ((5, leb (width (rec_of c.n recs i)) k) ∷ word_tests c.n w recs)

-- slot k of object i is in the buffers of a heap of n objects
pub record Slot (n i k : ℕ) (recs slots : List ℕ) : Type 0 where
  pub room : Room n recs slots
  pub low : 1 ≤ i
  pub high : i ≤ n
  pub used : k < width (rec_of n recs i)
  pub narrow : width (rec_of n recs i) ≤ width_max

-- the sets with the one at head h as the heap has it; there is none at 0
unfoldable pub with_set : Heap → ℕ → List ℕ → List ℕ
with_set H h sets = cond (eqb h 0) sets (set sets (h - 1) (set_word H h))

-- the sets after the store, where it dissolves the object's cluster and where it does not
unfoldable pub sets_by : Bool → ℕ → ℕ → ℕ → ℕ → List ℕ → List ℕ → List ℕ → List ℕ → List ℕ
sets_by d n i k w recs slots list sets = with_set (store_by d (heap_in n recs slots list) i k (target n w)) (cluster_of n recs i) sets

-- what an attempt at a write answers and leaves: a refusal, 63 where the object is not in cluster h, or the word stored
pub data Attempted (c : Control) (i k w : ℕ) (recs slots : List ℕ) (others h a : ℕ) (rs ss : List ℕ) : Type 0 where
  refuses : a ≡ first (front_tests c i k w recs slots others) → a ≢ 0 → rs ≡ recs → ss ≡ slots → Attempted c i k w recs slots others h a rs ss
  passes : 0 ≡ first (front_tests c i k w recs slots others) → cluster_of c.n recs i ≢ h → a ≡ 63 → rs ≡ recs → ss ≡ slots
      → Attempted c i k w recs slots others h a rs ss
  stores : 0 ≡ first (front_tests c i k w recs slots others) → cluster_of c.n recs i ≡ h → a ≡ 0
      → rs ≡ set recs (i - 1) (with_written true (rec_of c.n recs i)) → ss ≡ set slots (width_max * (i - 1) + k) w
      → Attempted c i k w recs slots others h a rs ss

-- what a store to a member answers and leaves: the word stored, with the cluster or without it and its loss counted, or a loss too large
pub data Settled (c : Control) (i k w : ℕ) (recs slots list sets : List ℕ) (a : Result Unit Refusal) (rs ss ts : List ℕ) (d : Control) : Type 0 where
  keeps : false ≡ dissolves (view c.n recs slots) i k (target c.n w) → 0 ≡ refusal_of a
      → rs ≡ encoded (store_by false (view c.n recs slots) i k (target c.n w)) recs → ss ≡ set slots (width_max * (i - 1) + k) w
      → ts ≡ sets_by false c.n i k w recs slots list sets → d ≡ c → Settled c i k w recs slots list sets a rs ss ts d
  overflows : true ≡ dissolves (view c.n recs slots) i k (target c.n w)
      → (l : ℕ) → l ≡ c.write_loss + members_of c.n recs (cluster_of c.n recs i) → c.n < l → 25 ≡ refusal_of a → rs ≡ recs → ss ≡ slots → ts ≡ sets
      → d ≡ c → Settled c i k w recs slots list sets a rs ss ts d
  breaks : true ≡ dissolves (view c.n recs slots) i k (target c.n w)
      → (l : ℕ) → l ≡ c.write_loss + members_of c.n recs (cluster_of c.n recs i) → l ≤ c.n → 0 ≡ refusal_of a
      → rs ≡ encoded (store_by true (view c.n recs slots) i k (target c.n w)) recs → ss ≡ set slots (width_max * (i - 1) + k) w
      → ts ≡ sets_by true c.n i k w recs slots list sets → d ≡ with_write_loss l c → Settled c i k w recs slots list sets a rs ss ts d
