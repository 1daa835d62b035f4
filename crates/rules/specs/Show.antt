-- Show ("The heap"): the used slots of an object, and where they are in the caller's buffer.
use Rattle.std.specs.Prelude.{ℕ, ◌*◌, ◌-◌, not, ◌||◌, List, [], ◌∷◌}
use Rattle.layout.specs.declared.answers.Control.{Control}
use Rattle.layout.specs.declared.answers.Part.{Part}
use Rattle.layout.specs.Limits.{width_max, slots_len}
use Rattle.records.specs.Record.{width, free, damaged}
use Rattle.layout.specs.Word.{is_pointer}
use Rattle.layout.specs.ControlRecord.{bad_control}
use Rattle.layout.specs.Refusal.{Test, outcome}
use Rattle.rules.specs.Buffers.{short, rec_of, used_words}

-- the part's place in the slots, and its words
pub record Outcome : Type 0 where
  pub answer : Part
  pub words : List ℕ

module _ (c : Control) (i : ℕ) (recs slots : List ℕ) where
  -- its tests in their order ("From the state")
  unfoldable pub show_tests : List Test
  show_tests =
      (20, bad_control c) ∷ (2, short c.n recs || short (slots_len c.n) slots) ∷ (4, not (is_pointer c.n i))
      ∷ (21, damaged c.n (rec_of c.n recs i)) ∷ (22, free (rec_of c.n recs i)) ∷ []

  -- the outcome ("The heap")
  unfoldable pub show : Outcome
  show =
      outcome show_tests
      (record {
        answer = record { refusal = 0; start = width_max * (i - 1); length = width (rec_of c.n recs i); control = c };
        words = used_words c.n recs slots i;
      })
      (λ m. record { answer = record { refusal = m; start = 0; length = 0; control = c }; words = [] })
