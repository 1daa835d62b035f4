-- The plain heap ("The plain heap"): no bits, no clusters, no buffers.
use Rattle.std.specs.Prelude.{ℕ, zero, suc, ◌-◌, Bool, true, false, not, cond, ◌&&◌, ◌||◌, List, [], ◌∷◌, ◌++◌, map, leb, ltb, eqb, length, get_or, set, replicate}
use Rattle.layout.specs.Limits.{width_max, sink_max, map_len}
use Rattle.layout.specs.Word.{is_nil, is_pointer, legal_word}
use Rattle.bitmap.specs.Bits.{word_of}
use Rattle.layout.specs.Refusal.{Test, outcome}
use Rattle.graph.specs.Numbers.{has, count, gather, lowest}
use Rattle.graph.specs.Rounds.{rounds}
use Rattle.rules.specs.Buffers.{each_from, numbers}
use Rattle.rules.specs.Calls.{Call, allocate, allocate_in_place, read, show, write, write_in_place, set_root, declare_sink, collect, analyse, save, load, Answer, gave, got_word, got_words, did, swept, saved_as}
use Rattle.rules.specs.Image.{image, sinks_chunk, listed, saved_sink, saved_words, saved_root, saved_last}
use Rattle.rules.specs.Load.{input_tests, sizes, objects, root_words, image_n, image_r}

-- free, or an object: its words, as many as its width, and whether it is a sink
pub data Cell : Type 0 where
  vacant : Cell
  object : (words : List ℕ) (sink : Bool) → Cell

-- number i is in place i - 1 of the n cells
pub record Plain : Type 0 where
  pub last : ℕ
  pub roots : List ℕ
  pub cells : List Cell

-- the plain heap at first
unfoldable pub plain_created : ℕ → ℕ → Plain
plain_created n r = record { last = 0; roots = replicate r 0; cells = replicate n vacant }

-- the number is free
unfoldable pub is_free : Cell → Bool
is_free vacant = true
is_free (object words sink) = false

-- the words of its object, none for a free number
unfoldable pub words_in : Cell → List ℕ
words_in vacant = []
words_in (object words sink) = words

-- its object is a sink
unfoldable pub is_sink : Cell → Bool
is_sink vacant = false
is_sink (object words sink) = sink

-- the cell of number i; 0 and numbers past the end are free
unfoldable pub cell_at : List Cell → ℕ → Cell
cell_at cells zero = vacant
cell_at cells (suc i) = get_or cells i vacant

module _ (P : Plain) where
  -- ---- what can be reached along pointers

  -- n
  abbrev pub plain_size : ℕ
  plain_size = length P.cells

  -- the words of number x
  unfoldable pub plain_words : ℕ → List ℕ
  plain_words x = words_in (cell_at P.cells x)

  -- what is kept: a path from a root need pass no object twice, so n rounds find all
  unfoldable pub kept_numbers : List ℕ
  kept_numbers = rounds plain_size plain_words plain_size P.roots

  -- number x is a sink
  unfoldable pub plain_sink : ℕ → Bool
  plain_sink x = is_sink (cell_at P.cells x)

  -- the sinks, by number
  unfoldable pub plain_sinks : List ℕ
  plain_sinks = gather plain_size plain_sink (λ x. x ∷ [])

  -- ---- tests

  -- the number that allocate gives: the lowest free one past last, else the lowest up to last; 0 where none is free
  unfoldable pub plain_given : ℕ
  plain_given =
      let i = lowest (λ x. ltb P.last x && is_free (cell_at P.cells x)) plain_size in
      cond (eqb i 0) (lowest (λ x. is_free (cell_at P.cells x)) P.last) i

  -- the tests of a named object
  unfoldable pub object_tests : ℕ → List Test
  object_tests i = (4, not (is_pointer plain_size i)) ∷ (22, is_free (cell_at P.cells i)) ∷ []

  -- and those of a slot of it
  unfoldable pub slot_tests : ℕ → ℕ → List Test
  slot_tests i k = object_tests i ++ ((5, leb (length (plain_words i)) k) ∷ [])

  -- the word names a free number
  unfoldable pub names_free : ℕ → Bool
  names_free w = is_pointer plain_size w && is_free (cell_at P.cells w)

  -- ---- effects

  -- another cell for number i
  unfoldable pub with_cell : ℕ → Cell → Plain
  with_cell i cell = record { last = P.last; roots = P.roots; cells = set P.cells (i - 1) cell }

  -- the cells with all but the listed numbers free
  unfoldable pub plain_swept : List ℕ → List Cell
  plain_swept l = each_from 1 plain_size (λ x cell. cond (has x l) cell vacant) P.cells

  -- the objects that are then freed
  unfoldable pub plain_freed : List ℕ → ℕ → Bool
  plain_freed l x = not (is_free (cell_at P.cells x)) && not (has x l)

  -- the words of their map
  unfoldable pub plain_map : List ℕ → List ℕ
  plain_map l = map (word_of (plain_freed l)) (numbers 0 (map_len plain_size))

-- the three chunks of its image ("Saves")
unfoldable pub plain_chunks : Plain → List ℕ
plain_chunks P = image (plain_size P) P.last (λ x. not (is_free (cell_at P.cells x))) (plain_sink P) (plain_words P) P.roots

-- its image with the sinks in this order
unfoldable pub plain_image : Plain → List ℕ → List ℕ
plain_image P sinks = plain_chunks P ++ sinks_chunk sinks

-- number x of an image
unfoldable pub cell_from : List ℕ → ℕ → Cell
cell_from b x = cond (listed (objects b) x) (object (saved_words (objects b) x) (eqb (saved_sink (objects b) x) 1)) vacant

-- the plain heap that an image holds
unfoldable pub plain_loaded : List ℕ → Plain
plain_loaded b =
    record {
      last = saved_last (sizes b);
      roots = map (saved_root (root_words b)) (numbers 0 (image_r b));
      cells = map (cell_from b) (numbers 1 (image_n b));
    }

-- what a call answers (nothing, for an analysis), and the heap after it
pub record Played (A : Type 0) : Type 0 where
  pub answers : List Answer
  pub after : A

-- one answer, and the heap after it
unfoldable pub answer : {A : Type 0} → Answer → A → Played A
answer a s = record { answers = a ∷ []; after = s }

-- allocate, in either form
abbrev pub plain_allocate : ℕ → Plain → Played Plain
plain_allocate width P =
    outcome ((3, ltb width_max width) ∷ (24, eqb (plain_given P) 0) ∷ [])
    (let i = plain_given P in answer (gave 0 i) (record { last = i; roots = P.roots; cells = set P.cells (i - 1) (object (replicate width 0) false) }))
    (λ m. answer (gave m 0) P)

-- write, in either form
abbrev pub plain_write : ℕ → ℕ → ℕ → Plain → Played Plain
plain_write i k w P =
    outcome (slot_tests P i k ++ ((6, not (legal_word (plain_size P) w)) ∷ (23, names_free P w) ∷ []))
    (answer (did 0) (with_cell P i (object (set (plain_words P i) k w) (is_sink (cell_at P.cells i)))))
    (λ m. answer (did m) P)

-- each call of the game; an analysis does nothing
unfoldable pub plain_step : Call → Plain → Played Plain
plain_step (allocate width) P = plain_allocate width P
plain_step (allocate_in_place width) P = plain_allocate width P
plain_step (read i k) P = outcome (slot_tests P i k) (answer (got_word 0 (get_or (plain_words P i) k 0)) P) (λ m. answer (got_word m 0) P)
plain_step (show i) P = outcome (object_tests P i) (answer (got_words 0 (plain_words P i)) P) (λ m. answer (got_words m []) P)
plain_step (write i k w) P = plain_write i k w P
plain_step (write_in_place i k w) P = plain_write i k w P
plain_step (set_root j w) P =
    outcome ((7, leb (length P.roots) j) ∷ (6, not (is_nil w || is_pointer (plain_size P) w)) ∷ (23, names_free P w) ∷ [])
    (answer (did 0) (record { last = P.last; roots = set P.roots j w; cells = P.cells }))
    (λ m. answer (did m) P)
plain_step (declare_sink i) P =
    outcome (object_tests P i ++ ((29, not (plain_sink P i) && leb sink_max (length (plain_sinks P))) ∷ []))
    (answer (did 0) (with_cell P i (object (plain_words P i) true)))
    (λ m. answer (did m) P)
plain_step (collect kind work map) P =
    let l = kept_numbers P in
    answer (swept 0 (count (plain_size P) (plain_freed P l)) (count (plain_size P) (λ x. has x l)) (plain_map P l))
    (record { last = P.last; roots = P.roots; cells = plain_swept P l })
plain_step (analyse work) P = record { answers = []; after = P }
plain_step (save out) P =
    let b = plain_image P (plain_sinks P) in
    outcome ((2, ltb (length out) (length b)) ∷ []) (answer (saved_as 0 (length b)) P) (λ m. answer (saved_as m 0) P)
plain_step (load t b recs slots roots list sets) P = outcome (input_tests t b) (answer (did 0) (plain_loaded b)) (λ m. answer (did m) P)

-- the eight slots of a cell: its words, filled up with 0
unfoldable pub eight_of : Cell → List ℕ
eight_of cell = words_in cell ++ replicate (8 - length (words_in cell)) 0

-- those of all cells, one after the other
unfoldable pub plain_slots : List Cell → List ℕ
plain_slots [] = []
plain_slots (cell ∷ l) = eight_of cell ++ plain_slots l
