-- The image of a heap ("Saves"): chunks, each the length of its body, its kind and its body.
use Rattle.std.specs.Prelude.{ℕ, zero, suc, ◌+◌, ◌-◌, ◌*◌, ◌/◌, ◌%◌, Bool, false, not, ◌&&◌, ◌||◌, cond, List, [], ◌∷◌, ◌++◌, map, eqb, leb, ltb, length, get_or, take, drop}
use Rattle.layout.specs.Field.{digit}
use Rattle.layout.specs.Limits.{width_max}
use Rattle.layout.specs.ControlRecord.{bad_sizes}
use Rattle.layout.specs.Word.{is_nil, is_pointer, is_immediate}
use Rattle.endian.specs.Bytes.{bytes, number_at, bytes_of, word_bytes}
use Rattle.graph.specs.Numbers.{has, gather}
use Rattle.rules.specs.Buffers.{all_of, all_to, numbers}
use Rattle.rules.specs.WellFormed.{lists}

-- the bytes of a chunk before its body: length and kind
abbrev pub front_len : ℕ
front_len = 6

-- the bytes of an object before its words: number, width, sink
abbrev pub head_len : ℕ
head_len = 4

-- the kind of the chunk of sinks
abbrev pub sinks_kind : ℕ
sinks_kind = 0x8001

-- ---- writing

-- length of the body, kind, body
unfoldable pub chunk : ℕ → List ℕ → List ℕ
chunk kind body = bytes 4 (length body) ++ bytes 2 kind ++ body

-- the body of kind 1: version, n, r, last
unfoldable pub sizes_body : ℕ → ℕ → ℕ → List ℕ
sizes_body n r last = bytes 2 1 ++ bytes 2 n ++ bytes 2 r ++ bytes 2 last

-- an object in the body of kind 2: number, width, sink, words
unfoldable pub object_bytes : ℕ → Bool → List ℕ → List ℕ
object_bytes x sink words = bytes 2 x ++ (length words ∷ digit sink ∷ word_bytes words)

-- the body of kind 2: each object in use, by number
unfoldable pub objects_body : ℕ → (ℕ → Bool) → (ℕ → Bool) → (ℕ → List ℕ) → List ℕ
objects_body n used sink words = gather n used (λ x. object_bytes x (sink x) (words x))

-- the three chunks that every image has; the body of kind 3 is the roots
unfoldable pub image : ℕ → ℕ → (ℕ → Bool) → (ℕ → Bool) → (ℕ → List ℕ) → List ℕ → List ℕ
image n last used sink words roots =
    chunk 1 (sizes_body n (length roots) last) ++ chunk 2 (objects_body n used sink words) ++ chunk 3 (word_bytes roots)

-- the chunk of sinks behind them, in this order; a heap without sinks has none
unfoldable pub sinks_chunk : List ℕ → List ℕ
sinks_chunk [] = []
sinks_chunk (y ∷ l) = chunk sinks_kind (bytes_of 2 (y ∷ l))

-- ---- reading, of the bytes from a chunk on

-- the length of its body
unfoldable pub body_len : List ℕ → ℕ
body_len b = number_at 4 0 b

-- its kind
unfoldable pub kind_of : List ℕ → ℕ
kind_of b = number_at 2 4 b

-- its body
unfoldable pub body_of : List ℕ → List ℕ
body_of b = take (body_len b) (drop front_len b)

-- the bytes after t chunks
unfoldable pub past : ℕ → List ℕ → List ℕ
past zero b = b
past (suc t) b = past t (drop (front_len + body_len b) b)

-- refusal 26 of a chunk: it ends past the input
unfoldable pub cut : List ℕ → Bool
cut b = ltb (length b) front_len || ltb (length b - front_len) (body_len b)

-- ---- reading, of a body of kind 1

-- n
unfoldable pub saved_n : List ℕ → ℕ
saved_n body = number_at 2 2 body

-- r
unfoldable pub saved_r : List ℕ → ℕ
saved_r body = number_at 2 4 body

-- last
unfoldable pub saved_last : List ℕ → ℕ
saved_last body = number_at 2 6 body

-- it is eight bytes of version 1, with sizes in range and last at most n
unfoldable pub sizes_ok : List ℕ → Bool
sizes_ok body =
    eqb (length body) 8 && eqb (number_at 2 0 body) 1 && not (bad_sizes (saved_n body) (saved_r body)) && leb (saved_last body) (saved_n body)

-- ---- reading, of a body of kind 2: the numbers 1 to n are met in their order, so that the bytes left after number x are a function of x

-- object x stands in front of these bytes
unfoldable pub leads : ℕ → List ℕ → Bool
leads x b = leb head_len (length b) && eqb (number_at 2 0 b) x

-- the bytes that the object in front takes
unfoldable pub object_len : List ℕ → ℕ
object_len b = head_len + 4 * get_or b 2 0

module _ (body : List ℕ) where
  -- the bytes left when the objects up to x are read
  unfoldable pub left : ℕ → List ℕ
  left zero = body
  left (suc x) = cond (leads (suc x) (left x)) (drop (object_len (left x)) (left x)) (left x)

  -- object x is listed
  unfoldable pub listed : ℕ → Bool
  listed zero = false
  listed (suc x) = leads (suc x) (left x)

  -- the bytes from object x on
  unfoldable pub from : ℕ → List ℕ
  from zero = []
  from (suc x) = left x

  -- its width
  unfoldable pub saved_width : ℕ → ℕ
  saved_width x = get_or (from x) 2 0

  -- its sink byte
  unfoldable pub saved_sink : ℕ → ℕ
  saved_sink x = get_or (from x) 3 0

  -- object x is listed as a sink
  unfoldable pub saved_as_sink : ℕ → Bool
  saved_as_sink x = listed x && eqb (saved_sink x) 1

  -- its word k
  unfoldable pub saved_word : ℕ → ℕ → ℕ
  saved_word x k = number_at 4 (head_len + 4 * k) (from x)

  -- its words
  unfoldable pub saved_words : ℕ → List ℕ
  saved_words x = map (saved_word x) (numbers 0 (saved_width x))

  -- width and sink byte of a listed object are in range, and its words are there
  unfoldable pub shaped : ℕ → Bool
  shaped x = not (listed x) || (leb (saved_width x) width_max && leb (saved_sink x) 1 && leb (object_len (from x)) (length (from x)))

  -- the word names a listed object
  unfoldable pub names_listed : ℕ → ℕ → Bool
  names_listed n w = is_pointer n w && listed w

  -- each word of a listed object is nil, an immediate, or names a listed object
  unfoldable pub words_ok : ℕ → ℕ → Bool
  words_ok n x = not (listed x) || all_of (λ w. is_nil w || is_immediate w || names_listed n w) (saved_words x)

  -- the listed objects of 1 to n keep this layout and take all the bytes, and their words are legal
  unfoldable pub objects_ok : ℕ → Bool
  objects_ok n = all_to n shaped && eqb (length (left n)) 0 && all_to n (words_ok n)

-- ---- reading, of a body of kind 3

-- root j
unfoldable pub saved_root : List ℕ → ℕ → ℕ
saved_root body j = number_at 4 (4 * j) body

-- it is r roots, each nil or the number of an object that the body before lists
unfoldable pub roots_ok : ℕ → ℕ → List ℕ → List ℕ → Bool
roots_ok n r objects body =
    eqb (length body) (4 * r) && all_of (λ w. is_nil w || names_listed objects n w) (map (saved_root body) (numbers 0 r))

-- ---- reading, of a body of kind 0x8001

-- the numbers in it, two bytes each
unfoldable pub saved_list : List ℕ → List ℕ
saved_list body = map (λ k. number_at 2 (2 * k) body) (numbers 0 (length body / 2))

-- it has whole numbers, at least one, and they are the sinks of 1 to n, each once
unfoldable pub sinks_ok : ℕ → (ℕ → Bool) → List ℕ → Bool
sinks_ok n sink body =
    not (eqb (length body) 0) && eqb (length body % 2) 0 && not (has 0 (saved_list body)) && lists n sink (saved_list body)
