-- Load ("Saves"): the heap of an image, with no clusters.
use Rattle.std.specs.Prelude.{ℕ, zero, suc, ◌+◌, ◌/◌, ◌%◌, Bool, false, not, ◌&&◌, ◌||◌, cond, List, [], ◌∷◌, ◌++◌, eqb, leb, ltb, length, get_or}
use Rattle.layout.specs.declared.answers.Done.{Done}
use Rattle.layout.specs.declared.answers.Tuning.{Tuning}
use Rattle.layout.specs.Limits.{width_max, sink_max, slots_len, within}
use Rattle.layout.specs.ControlRecord.{bad_tuning, new_control, no_control, with_last}
use Rattle.layout.specs.Refusal.{Test, outcome}
use Rattle.records.specs.Record.{new_record, with_sink}
use Rattle.graph.specs.Numbers.{count, gather}
use Rattle.rules.specs.Buffers.{short_heap, each_from, each_record, zeros}
use Rattle.rules.specs.Image.{sinks_kind, body_of, kind_of, past, cut, saved_n, saved_r, saved_last, sizes_ok, listed, saved_width, saved_sink, saved_as_sink, saved_word, objects_ok, saved_root, roots_ok, saved_list, sinks_ok}

-- what load answers and leaves
pub record Outcome : Type 0 where
  pub answer : Done
  pub records : List ℕ
  pub slots : List ℕ
  pub roots : List ℕ
  pub sinks : List ℕ
  pub sets : List ℕ

-- an answer and the buffers after the call, as an outcome
abbrev pub gives : Done → List ℕ → List ℕ → List ℕ → List ℕ → List ℕ → Outcome
gives a recs slots roots list sets = record { answer = a; records = recs; slots = slots; roots = roots; sinks = list; sets = sets }

-- a kind that has its place among the first three chunks
unfoldable pub known : ℕ → Bool
known k = within 1 3 k

-- a kind that may be behind them: all but that of the sinks are passed over
unfoldable pub passed : ℕ → Bool
passed k = leb 0x8000 k

-- a known kind, or one from 0x8000 up, that is out of place in chunk t, counted from 0
unfoldable pub misplaced : ℕ → ℕ → Bool
misplaced t k = (known k && not (eqb k (suc t))) || (passed k && ltb t 3)

module _ (image : List ℕ) where
  -- the bodies of the first three chunks
  abbrev pub sizes : List ℕ
  sizes = body_of image

  -- that of kind 2
  abbrev pub objects : List ℕ
  objects = body_of (past 1 image)

  -- that of kind 3
  abbrev pub root_words : List ℕ
  root_words = body_of (past 2 image)

  -- n
  abbrev pub image_n : ℕ
  image_n = saved_n sizes

  -- r
  abbrev pub image_r : ℕ
  image_r = saved_r sizes

  -- the body of chunk t, of the first three, breaks the layout or is no heap, as with more than 64 sinks
  unfoldable pub bad_body : ℕ → Bool
  bad_body zero = not (sizes_ok sizes)
  bad_body (suc zero) = not (objects_ok objects image_n) || ltb sink_max (count image_n (saved_as_sink objects))
  bad_body (suc (suc zero)) = not (roots_ok image_n image_r objects root_words)
  bad_body (suc (suc (suc t))) = false

  -- the body of the chunk of sinks among the chunks 3 to t - 1; no bytes where there is none
  unfoldable pub sinks_before : ℕ → List ℕ
  sinks_before zero = []
  sinks_before (suc t) = cond (leb 3 t && eqb (kind_of (past t image)) sinks_kind) (body_of (past t image)) (sinks_before t)

  -- chunk t, of sinks, is a second one, or its body is not the sinks
  unfoldable pub bad_sinks : ℕ → Bool
  bad_sinks t = not (eqb (length (sinks_before t)) 0) || not (sinks_ok image_n (saved_as_sink objects) (body_of (past t image)))

  -- the tests of the chunks from chunk t on, in number order at each; f is at least the number of chunks left
  unfoldable pub chunk_tests : ℕ → ℕ → List Test
  chunk_tests zero t = []
  chunk_tests (suc f) t =
      let b = past t image in
      cond (eqb (length b) 0) ((26, ltb t 3) ∷ [])
      ((26, cut b)
      ∷ (27, misplaced t (kind_of b) || (known (kind_of b) && bad_body t) || (eqb (kind_of b) sinks_kind && bad_sinks t)) ∷ (28, not (known (kind_of b)) && not (passed (kind_of b)))
      ∷ chunk_tests f (suc t))

  -- those of the whole image
  unfoldable pub image_tests : List Test
  image_tests = chunk_tests (suc (length image)) 0

  -- the record of object x: in use with its width and sink bit alone, or free
  unfoldable pub loaded_record : ℕ → ℕ
  loaded_record x = cond (listed objects x) (with_sink (eqb (saved_sink objects x) 1) (new_record (saved_width objects x))) 0

  -- its word k; 0 where it has none
  unfoldable pub loaded_word : ℕ → ℕ → ℕ
  loaded_word x k = cond (listed objects x && ltb k (saved_width objects x)) (saved_word objects x k) 0

  -- the sinks: as their chunk lists them, and without one by number
  unfoldable pub loaded_sinks : List ℕ
  loaded_sinks =
      let b = sinks_before (suc (length image)) in
      cond (eqb (length b) 0) (gather image_n (saved_as_sink objects) (λ x. x ∷ [])) (saved_list b)

-- the tests of what it is given: the numbers of the analysis come first
unfoldable pub input_tests : Tuning → List ℕ → List Test
input_tests t image = (30, bad_tuning t) ∷ image_tests image

module _ (t : Tuning) (image recs slots roots list sets : List ℕ) where
  abbrev n : ℕ
  n = image_n image

  abbrev r : ℕ
  r = image_r image

  -- its tests in their order: slices that are too short come last
  unfoldable pub load_tests : List Test
  load_tests = input_tests t image ++ ((2, short_heap n r recs slots roots list sets) ∷ [])

  -- limit and losses are 0; refused, it gives a control record of zeros
  unfoldable pub load : Outcome
  load =
      outcome load_tests
      (gives (record { refusal = 0; control = with_last (saved_last (sizes image)) (new_control n r t) })
      (each_record n (λ x w. loaded_record image x) recs)
      (each_from 0 (slots_len n) (λ j w. loaded_word image (j / width_max + 1) (j % width_max)) slots)
      (each_from 0 r (λ j w. saved_root (root_words image) j) roots)
      (each_from 0 sink_max (λ k y. get_or (loaded_sinks image) k 0) list)
      (zeros n sets))
      (λ k. gives (record { refusal = k; control = no_control }) recs slots roots list sets)
