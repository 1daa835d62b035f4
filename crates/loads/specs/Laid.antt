-- What the stores of load ask and leave.
use Rattle.std.specs.Prelude.{ℕ, zero, suc, ◌+◌, ◌/◌, ◌%◌, ◌≤◌, ◌≡◌, Bool, true, false, cond, ◌&&◌, List, [], ◌∷◌, eqb, ltb, length, drop, set, Option, MatchOption, Result, Ok, Err}
use Rattle.layout.specs.Limits.{object_max, width_max, sink_max, slots_len}
use Rattle.layout.specs.declared.answers.Control.{Control}
use Rattle.layout.specs.declared.answers.Done.{Done}
use Rattle.layout.specs.declared.refusals.Refusal.{Refusal}
use Rattle.layout.specs.ControlRecord.{no_control}
use Rattle.layout.specs.Refusal.{number, first}
use Rattle.records.specs.Record.{new_record, with_sink}
use Rattle.graph.specs.Numbers.{count, gather}
use Rattle.rules.specs.Image.{body_of, past, cut, listed, saved_width, saved_sink, saved_as_sink, saved_word, sinks_ok}
use Rattle.rules.specs.Load.{objects, image_n, image_r, image_tests, sinks_before}
use Rattle.loads.specs.Bodies.{shape_ok}
use Rattle.loads.specs.Chunks.{Chunk}

-- the k words from place `base` on become f 0, f 1, ..
unfoldable pub laid : ℕ → ℕ → (ℕ → ℕ) → List ℕ → List ℕ
laid base zero f l = l
laid base (suc k) f l = set (laid base k f l) (base + k) (f k)

-- the record of object x of a body; r where it is not listed
unfoldable pub record_or : List ℕ → ℕ → ℕ → ℕ
record_or body x r = cond (listed body x) (with_sink (eqb (saved_sink body x) 1) (new_record (saved_width body x))) r

-- slot j of the objects of a body; w where it is not used
unfoldable pub slot_or : List ℕ → ℕ → ℕ → ℕ
slot_or body j w =
    cond (listed body (j / width_max + 1) && ltb (j % width_max) (saved_width body (j / width_max + 1)))
    (saved_word body (j / width_max + 1) (j % width_max))
    w

-- the objects of a body that keeps the layout have room
pub record Roomy (n : ℕ) (body recs slots : List ℕ) : Type 0 where
  pub shape : shape_ok n body ≡ true
  pub most : n ≤ object_max
  pub records-room : n ≤ length recs
  pub slots-room : slots_len n ≤ length slots

-- ---- sinks

-- the numbers of 1 to n that pass a test
abbrev pub singles : ℕ → (ℕ → Bool) → List ℕ
singles n t = gather n t (λ x. x ∷ [])

-- the objects of a body that keeps the layout, whose sinks have places
pub record Listable (n : ℕ) (body list : List ℕ) : Type 0 where
  pub shape : shape_ok n body ≡ true
  pub places : count n (saved_as_sink body) ≤ length list

-- the image is not refused, and the chunks behind the third start at a place
pub record Tail (image : List ℕ) (from : ℕ) : Type 0 where
  pub none : first (image_tests image) ≡ 0
  pub low : 3 ≤ from
  pub inside : from ≤ length image
  pub here : past 3 image ≡ drop from image

-- a chunk of sinks that passed is at place e, and its body is that of the chunks before chunk t
pub record Found (image : List ℕ) (t e : ℕ) : Type 0 where
  pub inside : e ≤ length image
  pub whole : cut (drop e image) ≡ false
  pub body : body_of (drop e image) ≡ sinks_before image t
  pub right : sinks_ok (image_n image) (saved_as_sink (objects image)) (sinks_before image t) ≡ true

-- where the chunk of sinks of the image is, if it has one
abbrev pub SinksAt : List ℕ → Option ℕ → Type 0
SinksAt image e = MatchOption e (sinks_before image (suc (length image)) ≡ []) (Found image (suc (length image)))

-- the image is not refused, and its chunks are at places
pub record Placed (n : ℕ) (image : List ℕ) (second third tail : ℕ) : Type 0 where
  pub is-n : n ≡ image_n image
  pub here : past 1 image ≡ drop second image
  pub chunk : Chunk image second third
  pub behind : Tail image tail

-- ---- all

-- the image is not refused, and its heap has room
pub record Accepted (n r : ℕ) (image recs slots roots list sets : List ℕ) : Type 0 where
  pub none : first (image_tests image) ≡ 0
  pub is-n : n ≡ image_n image
  pub is-r : r ≡ image_r image
  pub records-room : n ≤ length recs
  pub slots-room : slots_len n ≤ length slots
  pub roots-room : r ≤ length roots
  pub sinks-room : sink_max ≤ length list
  pub sets-room : n ≤ length sets

-- what load answers: the control record, or the refusal's number
abbrev pub answer_of : Result Control Refusal → Done
answer_of (Ok c) = record { refusal = 0; control = c }
answer_of (Err e) = record { refusal = number e; control = no_control }
