-- Set root ("The heap"): a root becomes nil or names an object.
use Rattle.std.specs.Prelude.{ℕ, not, ◌&&◌, ◌||◌, List, [], ◌∷◌, leb, set}
use Rattle.layout.specs.declared.answers.Control.{Control}
use Rattle.layout.specs.declared.answers.Done.{Done}
use Rattle.records.specs.Record.{legal}
use Rattle.layout.specs.Word.{is_nil, is_pointer}
use Rattle.layout.specs.ControlRecord.{bad_control}
use Rattle.layout.specs.Refusal.{Test, outcome}
use Rattle.rules.specs.Buffers.{short, rec_of}

-- what set root answers and leaves
pub record Outcome : Type 0 where
  pub answer : Done
  pub roots : List ℕ

-- an answer and the roots after the call, as an outcome
abbrev pub gives : Done → List ℕ → Outcome
gives a roots = record { answer = a; roots = roots }

module _ (c : Control) (j w : ℕ) (recs roots : List ℕ) where
  -- its tests in their order ("From the state")
  unfoldable pub set_root_tests : List Test
  set_root_tests =
      (20, bad_control c) ∷ (2, short c.n recs || short c.r roots) ∷ (7, leb c.r j) ∷ (6, not (is_nil w || is_pointer c.n w))
      ∷ (23, is_pointer c.n w && not (legal c.n (rec_of c.n recs w))) ∷ []

  -- the outcome ("The heap")
  unfoldable pub set_root : Outcome
  set_root =
      outcome set_root_tests
      (gives (record { refusal = 0; control = c }) (set roots j w))
      (λ m. gives (record { refusal = m; control = c }) roots)
