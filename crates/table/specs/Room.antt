-- The lent words suffice for n objects.
use Rattle.std.specs.Prelude.{ℕ, ◌+◌, ◌*◌, ◌/◌, ◌≤◌, ◌≡◌, true, false, min, List, length}
use Rattle.layout.specs.Limits.{object_max, root_max, width_max, sink_max}
use Rattle.layout.specs.ControlRecord.{bad_control}
use Rattle.layout.specs.declared.answers.Control.{Control}
use Rattle.records.specs.Record.{width}
use Rattle.rules.specs.Buffers.{rec_of}
use Rattle.rules.specs.WellFormed.{well_formed}

-- for how many objects a words of records and b of slots suffice ("The heap")
unfoldable pub object_room : ℕ → ℕ → ℕ
object_room a b = min a (b / width_max)

-- and these with the other lent slices
unfoldable pub room_of : ℕ → ℕ → ℕ → ℕ
room_of a b others = min (object_room a b) others

-- there are records and slots for n objects
pub record Room (n : ℕ) (recs slots : List ℕ) : Type 0 where
  pub most : n ≤ object_max
  pub recs-long : n ≤ length recs
  pub slots-long : width_max * n ≤ length slots

-- and work words for a walk over them, and no object is wider than its slots
pub record Sized (n : ℕ) (recs slots work : List ℕ) : Type 0 where
  pub room : Room n recs slots
  pub work-long : 10 * n + root_max ≤ length work
  pub widths : (x : ℕ) → width (rec_of n recs x) ≤ width_max

-- what is known of the arguments of a call that walks the heap when no test refuses
pub record Accepted (c : Control) (recs slots roots list sets work : List ℕ) : Type 0 where
  pub control : bad_control c ≡ false
  pub room : Room c.n recs slots
  pub roots-long : c.r ≤ length roots
  pub sinks-long : sink_max ≤ length list
  pub sets-long : c.n ≤ length sets
  pub work-long : 10 * c.n + root_max ≤ length work
  pub formed : well_formed c recs slots roots list sets ≡ true
