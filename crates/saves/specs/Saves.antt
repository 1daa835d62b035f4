-- What the writers of an image ask and leave ("Saves").
use Rattle.std.specs.Prelude.{ℕ, zero, suc, ◌+◌, ◌*◌, ◌≤◌, ◌<◌, ◌≡◌, cond, List, [], length, take, drop, Result, Ok, Err}
use Rattle.std.proofs.lemmas.List.Edits.{sets}
use Rattle.layout.specs.declared.answers.Control.{Control}
use Rattle.layout.specs.declared.answers.Saved.{Saved}
use Rattle.layout.specs.declared.refusals.Refusal.{Refusal}
use Rattle.layout.specs.Refusal.{number}
use Rattle.layout.specs.Limits.{object_max, root_max, width_max, sink_max}
use Rattle.records.specs.Record.{in_use, is_sink, width}
use Rattle.graph.specs.Numbers.{sum}
use Rattle.graph.specs.Heap.{pointers}
use Rattle.rules.specs.Buffers.{rec_of, used_words}
use Rattle.rules.specs.Image.{front_len, head_len, object_bytes, objects_body}
use Rattle.table.specs.Room.{Room}

-- the bytes that an object takes, by its record
unfoldable pub record_len : ℕ → ℕ
record_len r = cond (in_use r) (head_len + 4 * width r) 0

-- the bytes that the objects 1 to k take
unfoldable pub objects_len : ℕ → List ℕ → ℕ → ℕ
objects_len n recs k = sum k (λ x. record_len (rec_of n recs x))

-- the bytes of the objects 1 to k
unfoldable pub objects_to : ℕ → List ℕ → List ℕ → ℕ → List ℕ
objects_to n recs slots k = objects_body k (λ x. in_use (rec_of n recs x)) (λ x. is_sink (rec_of n recs x)) (used_words n recs slots)

-- the bytes of object i + 1, by its record
unfoldable pub object_at : ℕ → ℕ → List ℕ → List ℕ
object_at i r slots = cond (in_use r) (object_bytes (i + 1) (is_sink r) (take (width r) (drop (width_max * i) slots))) []

-- the bytes of the chunk that lists k sinks: none where there are no sinks
unfoldable pub sinks_len : ℕ → ℕ
sinks_len zero = 0
sinks_len (suc k) = front_len + 2 * suc k

-- there are records and slots for n objects, and no object is wider than its slots
pub record Writable (n : ℕ) (recs slots : List ℕ) : Type 0 where
  pub room : Room n recs slots
  pub widths : (x : ℕ) → width (rec_of n recs x) ≤ width_max

-- the slots of object i + 1 are there, and so is the place of its bytes
pub record ObjectRoom (i r : ℕ) (slots body : List ℕ) (at : ℕ) : Type 0 where
  pub most : i < object_max
  pub narrow : width r ≤ width_max
  pub slots-long : width_max * i + width_max ≤ length slots
  pub body-long : at + record_len r ≤ length body

-- its bytes are put, and e is the place after them
pub record ObjectPut (i r : ℕ) (slots body : List ℕ) (at : ℕ) (body' : List ℕ) (e : ℕ) : Type 0 where
  pub stored : body' ≡ sets body at (object_at i r slots)
  pub after : e ≡ at + record_len r

-- what is known when the image is written: the heap is one, its objects take len bytes, and its list has k sinks
pub record Savable (c : Control) (len k : ℕ) (recs slots roots list : List ℕ) : Type 0 where
  pub heap : Writable c.n recs slots
  pub few : c.r ≤ root_max
  pub roots-long : c.r ≤ length roots
  pub len_is : len ≡ objects_len c.n recs c.n
  pub list-long : sink_max ≤ length list
  pub listed : k ≡ length (pointers (take sink_max list))

-- what save answers: the length of the image, or the refusal's number
abbrev pub answer_of : Control → Result ℕ Refusal → Saved
answer_of c (Ok k) = record { refusal = 0; length = k; control = c }
answer_of c (Err e) = record { refusal = number e; length = 0; control = c }
