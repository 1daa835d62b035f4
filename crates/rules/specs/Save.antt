-- Save ("Saves"): the heap as an image.
use Rattle.std.specs.Prelude.{ℕ, not, List, [], ◌∷◌, ◌++◌, length, take, drop}
use Rattle.layout.specs.declared.answers.Control.{Control}
use Rattle.layout.specs.declared.answers.Saved.{Saved}
use Rattle.layout.specs.Limits.{sink_max}
use Rattle.layout.specs.ControlRecord.{bad_control}
use Rattle.layout.specs.Refusal.{Test, outcome}
use Rattle.records.specs.Record.{in_use, is_sink}
use Rattle.graph.specs.Heap.{pointers}
use Rattle.rules.specs.Buffers.{short, short_heap, rec_of, used_words}
use Rattle.rules.specs.WellFormed.{well_formed}
use Rattle.rules.specs.Image.{image, sinks_chunk}

-- what save answers and leaves
pub record Outcome : Type 0 where
  pub answer : Saved
  pub image : List ℕ

-- an answer and the bytes after the call, as an outcome
abbrev pub gives : Saved → List ℕ → Outcome
gives a out = record { answer = a; image = out }

-- the three chunks of the heap that the buffers hold
unfoldable pub heap_chunks : Control → List ℕ → List ℕ → List ℕ → List ℕ
heap_chunks c recs slots roots =
    image c.n c.last (λ x. in_use (rec_of c.n recs x)) (λ x. is_sink (rec_of c.n recs x)) (used_words c.n recs slots) (take c.r roots)

-- its image: these, and its sinks in the order of the list, empty places passed over
unfoldable pub heap_image : Control → List ℕ → List ℕ → List ℕ → List ℕ → List ℕ
heap_image c recs slots roots list = heap_chunks c recs slots roots ++ sinks_chunk (pointers (take sink_max list))

module _ (c : Control) (recs slots roots list sets out : List ℕ) where
  -- its tests in their order: too little space comes last
  unfoldable pub save_tests : List Test
  save_tests =
      (20, bad_control c) ∷ (2, short_heap c.n c.r recs slots roots list sets)
      ∷ (21, not (well_formed c recs slots roots list sets)) ∷ (2, short (length (heap_image c recs slots roots list)) out) ∷ []

  -- the image is put at the front of the bytes, and no byte past it changes
  unfoldable pub save : Outcome
  save =
      outcome save_tests
      (let b = heap_image c recs slots roots list in gives (record { refusal = 0; length = length b; control = c }) (b ++ drop (length b) out))
      (λ k. gives (record { refusal = k; length = 0; control = c }) out)
