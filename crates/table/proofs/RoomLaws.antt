-- What it says that the slices are long enough. Assumes nothing.
use Prim.Native.Nat.{ℕ, ◌*◌, ◌≤◌}
use mathlib.Core.Path.{◌≡◌}
use mathlib.Core.Bool.{false}
use mathlib.Core.List.{List}
use lib.ListN.{length}
use borrow.Author.Tests.{ltb-false}
use Rattle.layout.specs.Limits.{object_max, sink_max, slots_len}
use Rattle.layout.proofs.BoolLaws.{or_split}
use Rattle.rules.specs.Buffers.{short, short_heap}
use Rattle.table.specs.Room.{Room}

-- each slice has the words that it needs
pub record Long (n r : ℕ) (recs slots roots list sets : List ℕ) : Type 0 where
  pub recs-long : n ≤ length recs
  pub slots-long : 8 * n ≤ length slots
  pub roots-long : r ≤ length roots
  pub sinks-long : sink_max ≤ length list
  pub sets-long : n ≤ length sets

module _ (n r : ℕ) (recs slots roots list sets : List ℕ) (e : short_heap n r recs slots roots list sets ≡ false) where
  pub heap-long : Long n r recs slots roots list sets
  unfolding short_heap short slots_len
  heap-long =
      let a = or_split _ _ e in
      let b = or_split _ _ a.0 in
      let d = or_split _ _ b.0 in
      let f = or_split _ _ d.0 in
      record {
        recs-long = ltb-false _ _ f.0;
        slots-long = ltb-false _ _ f.1;
        roots-long = ltb-false _ _ d.1;
        sinks-long = ltb-false _ _ b.1;
        sets-long = ltb-false _ _ a.1;
      }

  pub room_of_lem : n ≤ object_max → Room n recs slots
  room_of_lem l = record { most = l; recs-long = heap-long.recs-long; slots-long = heap-long.slots-long }
