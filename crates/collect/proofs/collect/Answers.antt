-- `collect::collect` walks, counts, marks the reached clusters and sweeps. Assumes nothing.
use mathlib.Core.Path.{refl}
use Rattle.layout.proofs.RefusalLaws.{numbered}
use Rattle.collect.proofs.CollectLaws.{refused, collected}
use Rattle.collect.proofs.collect.Goals as goal

pub returns-in-Err : goal.returns-in-Err
returns-in-Err c =
    rw c.from.ensures
    (refused c.args.by _ _ _ _ _ _ _ c.args.map.now _ c.map_len.ensures _ _ _ c.in-Err.ensures (numbered c.in-Err.e))

pub returns : goal.returns
returns c =
    collected c.args.by _ _ _ _ _ _ _ c.args.map.now _ c.map_len.ensures _ _ _ c.in_default.ensures refl
    _ c.count_marked-scanned.ensures _ c.mark_reached.ensures c.mark_reached.auto.records _ c.count_kept-kept.ensures _ _ _ _ _ _ c.sweep-freed.ensures
