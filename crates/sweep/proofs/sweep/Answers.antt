-- `sweep::sweep` does its passes in turn. Assumes nothing.
use mathlib.Core.Path.{ap}
use Prim.Native.Nat.{ℕ}
use native.Mathlib.Omega.{arith}
use lib.ListN.{take, length-take}
use Rattle.sweep.proofs.FreedLaws.{map-most}
use Rattle.sweep.proofs.SweptLaws.{refused, too_many, few-records, few-slots, few_words, swept}
use Rattle.sweep.proofs.sweep.Goals as goal
use Rattle.sweep.proofs.sweep.Goals.{then-n-gt-OBJECT_MAX-via-then-n-gt-OBJECT_MAX, then-n-gt-OBJECT_MAX-via-else-n-gt-OBJECT_MAX+then-records-n, then-n-gt-OBJECT_MAX-via-else-n-gt-OBJECT_MAX+else-records-n+then-slots-slots_len, then-n-gt-OBJECT_MAX-via-else-n-gt-OBJECT_MAX+else-records-n+else-slots-slots_len+then-map-k}

pub returns-then-n-gt-OBJECT_MAX : goal.returns-then-n-gt-OBJECT_MAX
returns-then-n-gt-OBJECT_MAX c =
    refused _ _ _ _ _ _
    (elim c.then-n-gt-OBJECT_MAX.branch [
      | then-n-gt-OBJECT_MAX-via-then-n-gt-OBJECT_MAX w ↦ too_many _ _ _ _ w.if-n-gt-OBJECT_MAX.true
      | then-n-gt-OBJECT_MAX-via-else-n-gt-OBJECT_MAX+then-records-n w ↦ few-records _ _ _ _ w.if-n-gt-OBJECT_MAX.false w.if-records-n.true
      | then-n-gt-OBJECT_MAX-via-else-n-gt-OBJECT_MAX+else-records-n+then-slots-slots_len w ↦ few-slots _ _ _ _ w.if-n-gt-OBJECT_MAX.false w.if-records-n.false (omega (arith, w.slots_len.ensures, w.if-slots-slots_len.true))
      | then-n-gt-OBJECT_MAX-via-else-n-gt-OBJECT_MAX+else-records-n+else-slots-slots_len+then-map-k w ↦ few_words _ _ _ _ w.if-n-gt-OBJECT_MAX.false w.if-records-n.false (omega (arith, w.slots_len.ensures, w.if-slots-slots_len.false)) (omega (arith, c.map_len-k.ensures, w.if-map-k.true))
    ])

pub free_all-requires : goal.free_all-requires
free_all-requires c = omega (arith, length-take c.map_len-k.result c.fill_map.new.map, c.map_len-k.ensures, map-most c.args.n c.if-n-gt-OBJECT_MAX.false)

pub returns : goal.returns
returns c =
    let m = c.fill_map in
    let k = c.map_len-k in
    swept _ _ _ _ c.if-n-gt-OBJECT_MAX.false c.if-records-n.false (omega (arith, c.slots_len.ensures, c.if-slots-slots_len.false)) (omega (arith, k.ensures, c.if-map-k.false))
    _ _ _ _ _ _ _ _ _ _ _ m.ensures (ap (λ (j : ℕ). take j m.new.map) k.ensures) c.ones-freed.ensures c.dissolve.ensures c.free_all.ensures.records_after c.free_all.ensures.slots_after
    c.empty_places.ensures c.clear_marks.ensures c.fill_sets.ensures
