-- Write ("Writes and sinks"): a word is stored, the object's cluster dissolved or its out bit made exact, and the set at its head made exact.
use Rattle.std.specs.Prelude.{ℕ, ◌+◌, ◌*◌, ◌-◌, not, cond, ◌&&◌, ◌||◌, List, [], ◌∷◌, eqb, leb, ltb, set}
use Rattle.layout.specs.declared.answers.Control.{Control}
use Rattle.layout.specs.declared.answers.Done.{Done}
use Rattle.layout.specs.Limits.{width_max, sink_max, slots_len}
use Rattle.records.specs.Record.{width, free, legal, damaged}
use Rattle.layout.specs.Word.{is_pointer, legal_word}
use Rattle.layout.specs.ControlRecord.{bad_control, with_write_loss}
use Rattle.layout.specs.Refusal.{Test, outcome}
use Rattle.graph.specs.Heap.{Heap}
use Rattle.graph.specs.Writes.{store, loss_of}
use Rattle.rules.specs.Buffers.{short, rec_of}
use Rattle.rules.specs.View.{target, heap_in, set_word, encoded}

-- what write answers and leaves
pub record Outcome : Type 0 where
  pub answer : Done
  pub records : List ℕ
  pub slots : List ℕ
  pub sets : List ℕ

-- an answer and the buffers after the call, as an outcome
abbrev pub gives : Done → List ℕ → List ℕ → List ℕ → Outcome
gives a recs slots sets = record { answer = a; records = recs; slots = slots; sets = sets }

-- what the form answers and leaves that is lent the control record
pub record OutcomeInPlace : Type 0 where
  pub refusal : ℕ
  pub control : Control
  pub records : List ℕ
  pub slots : List ℕ
  pub sets : List ℕ

-- an answer, the control record and the buffers after the call, as an outcome
abbrev pub gives_in_place : ℕ → Control → List ℕ → List ℕ → List ℕ → OutcomeInPlace
gives_in_place k c recs slots sets = record { refusal = k; control = c; records = recs; slots = slots; sets = sets }

module _ (c : Control) (i k w : ℕ) (recs slots list sets : List ℕ) where
  -- the heap before the write
  abbrev pub before : Heap
  before = heap_in c.n recs slots list

  -- the heap after it
  abbrev pub after : Heap
  after = store before i k (target c.n w)

  -- the set at the object's head becomes exact, by the list as it is; a cluster that is dissolved has no member left
  unfoldable pub sets_after : List ℕ
  sets_after = let h = before.cluster i in cond (eqb h 0) sets (set sets (h - 1) (set_word after h))

  -- write loss after it
  unfoldable pub loss_after : ℕ
  loss_after = c.write_loss + loss_of before i k (target c.n w)

  -- its tests in their order ("From the state")
  unfoldable pub write_tests : List Test
  write_tests =
      (20, bad_control c) ∷ (2, short c.n recs || short (slots_len c.n) slots || short sink_max list || short c.n sets) ∷ (4, not (is_pointer c.n i))
      ∷ (21, damaged c.n (rec_of c.n recs i)) ∷ (22, free (rec_of c.n recs i)) ∷ (5, leb (width (rec_of c.n recs i)) k)
      ∷ (6, not (legal_word c.n w)) ∷ (23, is_pointer c.n w && not (legal c.n (rec_of c.n recs w))) ∷ (25, ltb c.n loss_after) ∷ []

  -- the outcome ("Writes and sinks")
  unfoldable pub write : Outcome
  write =
      outcome write_tests
      (gives (record { refusal = 0; control = with_write_loss loss_after c })
      (encoded after recs)
      (set slots (width_max * (i - 1) + k) w)
      sets_after)
      (λ m. gives (record { refusal = m; control = c }) recs slots sets)

  -- the form that is lent the control record leaves there what the other answers
  unfoldable pub write_in_place : OutcomeInPlace
  write_in_place = let o = write in gives_in_place o.answer.refusal o.answer.control o.records o.slots o.sets
