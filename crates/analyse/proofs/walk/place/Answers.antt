-- `place` meets its contract. Assumes nothing.
use Prim.Native.Nat.{◌+◌, ◌*◌}
use native.Mathlib.Omega.{arith}
use mathlib.Core.Path.{refl, ◌∙◌}
use lib.ListN.{length-set}
use Rattle.analyse.proofs.SlotLaws.{resized}
use Rattle.analyse.proofs.PlaceLaws.{place-fits, place-done}
use Rattle.analyse.proofs.walk.place.Goals as goal

pub record_at-requires : goal.record_at-requires
record_at-requires c = (c.requires.le_o.0, c.requires.le_o.1, c.requires.sized.room.recs-long)

pub choose-e-requires : goal.choose-e-requires
choose-e-requires c = (omega (arith, c.requires.sized.work-long), c.requires.le_o.2, c.requires.sized.room.most)

pub count-requires : goal.count-requires
count-requires c =
    (c.requires.sized.room.most, c.requires.sized.work-long, place-fits _ _ _ _ _ _ c.requires.le_o.1 _ c.record_at.ensures _ c.choose-e.ensures c.requires.le_o.2, c.requires.by_index _)

pub overflow_add-work : goal.overflow_add-work
overflow_add-work c = record { fits = omega (arith, c.requires.sized.room.most, place-fits _ _ _ _ _ _ c.requires.le_o.1 _ c.record_at.ensures _ c.choose-e.ensures c.requires.le_o.2) }

pub push_kids-requires : goal.push_kids-requires
push_kids-requires c =
    let a = c.args in
    record {
      sized = resized c.requires.sized (length-set c.count.new.work (9 * a.heap.n + a.o) (c.choose-e.result + 4096) ∙ c.count.auto.work);
      le_x = (c.requires.le_o.0, c.requires.le_o.1, place-fits _ _ _ _ _ _ c.requires.le_o.1 _ c.record_at.ensures _ c.choose-e.ensures c.requires.le_o.2, c.requires.le_o.3, c.requires.le_o.4);
    }

pub returns : goal.returns
returns c =
    place-done _ _ _ _ _ _ c.requires.le_o.1 _ c.record_at.ensures _ c.choose-e.ensures _ c.requires.sized c.requires.le_o.0 _ _ _ _ _ c.count.auto.work c.count.ensures refl c.push_kids.ensures.0 c.push_kids.ensures.1
