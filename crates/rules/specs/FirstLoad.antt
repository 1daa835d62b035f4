-- The loader of the first builds, which knows no chunk of sinks: they still have it, and images of later builds may be handed to them.
use Rattle.std.specs.Prelude.{ℕ, zero, suc, ◌+◌, ◌*◌, ◌/◌, ◌%◌, Bool, false, not, ◌&&◌, ◌||◌, cond, List, [], ◌∷◌, ◌++◌, eqb, leb, ltb, length}
use Rattle.layout.specs.declared.answers.Done.{Done}
use Rattle.layout.specs.Limits.{within}
use Rattle.layout.specs.ControlRecord.{tuning_of, new_control, no_control, with_last}
use Rattle.layout.specs.Refusal.{Test, outcome}
use Rattle.records.specs.Record.{new_record, with_sink}
use Rattle.endian.specs.Bytes.{number_at}
use Rattle.rules.specs.Buffers.{short, each_from, each_record}
use Rattle.rules.specs.Image.{body_of, kind_of, past, cut, saved_n, saved_r, saved_last, listed, saved_width, saved_sink, saved_word, objects_ok, saved_root, roots_ok}

-- what load answers and leaves
pub record Outcome : Type 0 where
  pub answer : Done
  pub records : List ℕ
  pub slots : List ℕ
  pub roots : List ℕ

-- an answer and the buffers after the call, as an outcome
abbrev pub gives : Done → List ℕ → List ℕ → List ℕ → Outcome
gives a recs slots roots = record { answer = a; records = recs; slots = slots; roots = roots }

-- the body of kind 1 by its own numbers: eight bytes of version 1, n from 1 to 4,095, r from 1 to 64, last at most n
unfoldable pub sizes_ok : List ℕ → Bool
sizes_ok body =
    eqb (length body) 8 && eqb (number_at 2 0 body) 1 && within 1 4095 (saved_n body) && within 1 64 (saved_r body) && leb (saved_last body) (saved_n body)

-- a kind that has its place among the first three chunks
unfoldable pub known : ℕ → Bool
known k = within 1 3 k

-- a kind that is passed over behind them
unfoldable pub passed : ℕ → Bool
passed k = leb 0x8000 k

-- a known kind, or one from 0x8000 up, that is out of place in chunk t, counted from 0
unfoldable pub misplaced : ℕ → ℕ → Bool
misplaced t k = (known k && not (eqb k (suc t))) || (passed k && ltb t 3)

module _ (image : List ℕ) where
  -- the bodies of the first three chunks
  abbrev pub sizes : List ℕ
  sizes = body_of image

  -- that of kind 2
  abbrev pub objects : List ℕ
  objects = body_of (past 1 image)

  -- that of kind 3
  abbrev pub root_words : List ℕ
  root_words = body_of (past 2 image)

  -- n
  abbrev pub image_n : ℕ
  image_n = saved_n sizes

  -- r
  abbrev pub image_r : ℕ
  image_r = saved_r sizes

  -- the body of chunk t breaks the layout or is no heap; behind the third any will do
  unfoldable pub bad_body : ℕ → Bool
  bad_body zero = not (sizes_ok sizes)
  bad_body (suc zero) = not (objects_ok objects image_n)
  bad_body (suc (suc zero)) = not (roots_ok image_n image_r objects root_words)
  bad_body (suc (suc (suc t))) = false

  -- the tests of the chunks from chunk t on, in number order at each; f is at least the number of chunks left
  unfoldable pub chunk_tests : ℕ → ℕ → List Test
  chunk_tests zero t = []
  chunk_tests (suc f) t =
      let b = past t image in
      cond (eqb (length b) 0) ((26, ltb t 3) ∷ [])
      ((26, cut b) ∷ (27, misplaced t (kind_of b) || (known (kind_of b) && bad_body t)) ∷ (28, not (known (kind_of b)) && not (passed (kind_of b)))
      ∷ chunk_tests f (suc t))

  -- those of the whole image
  unfoldable pub image_tests : List Test
  image_tests = chunk_tests (suc (length image)) 0

  -- the record of object x: in use with its width and sink bit alone, or free
  unfoldable pub loaded_record : ℕ → ℕ
  loaded_record x = cond (listed objects x) (with_sink (eqb (saved_sink objects x) 1) (new_record (saved_width objects x))) 0

  -- its word k; 0 where it has none
  unfoldable pub loaded_word : ℕ → ℕ → ℕ
  loaded_word x k = cond (listed objects x && ltb k (saved_width objects x)) (saved_word objects x k) 0

  module _ (recs slots roots : List ℕ) where
    -- its tests in their order: slices that are too short come last
    unfoldable pub load_tests : List Test
    load_tests = image_tests ++ ((2, short image_n recs || short (8 * image_n) slots || short image_r roots) ∷ [])

    -- limit and losses are 0; refused, it gives a control record of zeros
    unfoldable pub load : Outcome
    load =
        outcome load_tests
        (gives (record { refusal = 0; control = with_last (saved_last sizes) (new_control image_n image_r (tuning_of 0 0 0)) })
        (each_record image_n (λ x r. loaded_record x) recs)
        (each_from 0 (8 * image_n) (λ j w. loaded_word (j / 8 + 1) (j % 8)) slots)
        (each_from 0 image_r (λ j w. saved_root root_words j) roots))
        (λ k. gives (record { refusal = k; control = no_control }) recs slots roots)
