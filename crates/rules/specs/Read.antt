-- Read ("The heap"): a word of an object, whatever it is.
use Rattle.std.specs.Prelude.{ℕ, not, ◌||◌, List, [], ◌∷◌, leb, get_or}
use Rattle.layout.specs.declared.answers.Control.{Control}
use Rattle.layout.specs.declared.answers.WordRead.{WordRead}
use Rattle.layout.specs.Limits.{slots_len}
use Rattle.records.specs.Record.{width, free, damaged}
use Rattle.layout.specs.Word.{is_pointer}
use Rattle.layout.specs.ControlRecord.{bad_control}
use Rattle.layout.specs.Refusal.{Test, outcome}
use Rattle.rules.specs.Buffers.{short, rec_of, used_words}

module _ (c : Control) (i k : ℕ) (recs slots : List ℕ) where
  -- its tests in their order ("From the state")
  unfoldable pub read_tests : List Test
  read_tests =
      (20, bad_control c) ∷ (2, short c.n recs || short (slots_len c.n) slots) ∷ (4, not (is_pointer c.n i))
      ∷ (21, damaged c.n (rec_of c.n recs i)) ∷ (22, free (rec_of c.n recs i)) ∷ (5, leb (width (rec_of c.n recs i)) k) ∷ []

  -- the answer ("The heap")
  unfoldable pub read : WordRead
  read =
      outcome read_tests
      (record { refusal = 0; word = get_or (used_words c.n recs slots i) k 0; control = c })
      (λ m. record { refusal = m; word = 0; control = c })
