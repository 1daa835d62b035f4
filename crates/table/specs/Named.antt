-- The tests that every call on a named object begins with.
use Rattle.std.specs.Prelude.{ℕ, not, ◌||◌, List, [], ◌∷◌, ltb}
use Rattle.layout.specs.declared.answers.Control.{Control}
use Rattle.layout.specs.Limits.{slots_len}
use Rattle.records.specs.Record.{free, damaged}
use Rattle.layout.specs.Word.{is_pointer}
use Rattle.layout.specs.ControlRecord.{bad_control}
use Rattle.layout.specs.Refusal.{Test}
use Rattle.rules.specs.Buffers.{short, rec_of}

-- those of show, where the other lent slices have room for so many objects: too few is too short, too
unfoldable pub named_tests : Control → ℕ → List ℕ → List ℕ → ℕ → List Test
named_tests c i recs slots others =
    (20, bad_control c) ∷ (2, short c.n recs || short (slots_len c.n) slots || ltb others c.n) ∷ (4, not (is_pointer c.n i))
    ∷ (21, damaged c.n (rec_of c.n recs i)) ∷ (22, free (rec_of c.n recs i)) ∷ []
