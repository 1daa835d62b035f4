-- The plain heap that a heap of buffers is.
use Rattle.std.specs.Prelude.{ℕ, cond, List, map, take}
use Rattle.records.specs.Record as R
use Rattle.rules.specs.Buffers.{rec_of, numbers, used_words}
use Rattle.rules.specs.Plain.{Cell, vacant, object, Plain}
use Rattle.rules.specs.Steps.{State}

-- the cell of object x
unfoldable pub cell_of : ℕ → List ℕ → List ℕ → ℕ → Cell
cell_of n recs slots x = cond (R.free (rec_of n recs x)) vacant (object (used_words n recs slots x) (R.is_sink (rec_of n recs x)))

-- the cells of all objects, by number
unfoldable pub cells_of : ℕ → List ℕ → List ℕ → List Cell
cells_of n recs slots = map (cell_of n recs slots) (numbers 1 n)

-- the plain heap of a state
abbrev pub plain_of : State → Plain
plain_of s = record {
  last = s.control.last;
  roots = take s.control.r s.roots;
  cells = cells_of s.control.n s.records s.slots;
}
