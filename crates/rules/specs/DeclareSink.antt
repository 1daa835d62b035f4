-- Declare sink ("Writes and sinks"): the object is listed, its cluster dissolved, and every out bit and set made exact. For an object that is a sink already
-- nothing changes.
use Rattle.std.specs.Prelude.{ℕ, not, ◌&&◌, cond, List, [], ◌∷◌, ◌++◌, take, drop}
use Rattle.layout.specs.declared.answers.Control.{Control}
use Rattle.layout.specs.declared.answers.Done.{Done}
use Rattle.layout.specs.Limits.{sink_max}
use Rattle.records.specs.Record.{is_sink, free}
use Rattle.layout.specs.Word.{is_pointer}
use Rattle.layout.specs.ControlRecord.{bad_control}
use Rattle.layout.specs.Refusal.{Test, outcome}
use Rattle.graph.specs.Numbers.{has}
use Rattle.graph.specs.Heap.{Heap}
use Rattle.graph.specs.Writes.{declare}
use Rattle.rules.specs.Buffers.{short_heap, rec_of}
use Rattle.rules.specs.View.{heap_in, exact_sets, encoded}
use Rattle.rules.specs.WellFormed.{well_formed}

-- what declare sink answers and leaves
pub record Outcome : Type 0 where
  pub answer : Done
  pub records : List ℕ
  pub sinks : List ℕ
  pub sets : List ℕ

-- an answer and the buffers after the call, as an outcome
abbrev pub gives : Done → List ℕ → List ℕ → List ℕ → Outcome
gives a recs list sets = record { answer = a; records = recs; sinks = list; sets = sets }

module _ (c : Control) (i : ℕ) (recs slots roots list sets : List ℕ) where
  -- its tests in their order ("From the state"): 29 for a new sink that finds no empty place
  unfoldable pub declare_tests : List Test
  declare_tests =
      (20, bad_control c) ∷ (2, short_heap c.n c.r recs slots roots list sets) ∷ (4, not (is_pointer c.n i))
      ∷ (21, not (well_formed c recs slots roots list sets)) ∷ (22, free (rec_of c.n recs i))
      ∷ (29, not (is_sink (rec_of c.n recs i)) && not (has 0 (take sink_max list))) ∷ []

  -- the heap with the new sink
  abbrev pub after : Heap
  after = declare (heap_in c.n recs slots list) i

  -- the outcome ("Writes and sinks")
  unfoldable pub declare_sink : Outcome
  declare_sink =
      outcome declare_tests
      (cond (is_sink (rec_of c.n recs i)) (gives (record { refusal = 0; control = c }) recs list sets)
      (gives (record { refusal = 0; control = c }) (encoded after recs) (after.listed ++ drop sink_max list) (exact_sets after sets)))
      (λ m. gives (record { refusal = m; control = c }) recs list sets)
