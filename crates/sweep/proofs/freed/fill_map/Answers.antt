-- `sweep::freed::fill_map` is a pass over the words of the map. Assumes nothing.
use Prim.Native.Nat.{◌+◌}
use mathlib.Core.Path.{◌≡◌, ap, ◌∙◌}
use native.Mathlib.Omega.{arith}
use lib.ListN.{length-take}
use Rattle.layout.specs.Limits.{map_len}
use Rattle.bitmap.specs.Bits.{word_of}
use Rattle.table.proofs.PartLaws.{part-begin, part-turn, part-end}
use Rattle.sweep.specs.Sweep.{freed_at}
use Rattle.sweep.proofs.FreedLaws.{map-most}
use Rattle.sweep.proofs.freed.fill_map.Goals as goal

pub loop-j-init : goal.loop-j-init
loop-j-init c = part-begin 0 _ _ _

pub overflow_cast-j : goal.overflow_cast-j
overflow_cast-j c = omega (arith, c.map_len-k.ensures, map-most c.args.n c.requires.n_le_object_max, length-take c.map_len-k.result c.args.map.now)

pub freed_word-requires : goal.freed_word-requires
freed_word-requires c = omega (arith, c.map_len-k.ensures, map-most c.args.n c.requires.n_le_object_max, length-take c.map_len-k.result c.args.map.now)

pub loop-j-preserved : goal.loop-j-preserved
loop-j-preserved c =
    let l = c.loop-j in
    let n = length-take c.map_len-k.result c.args.map.now in
    let z : l.j ≡ 0 + l.j = omega arith in
    part-turn 0 (λ x w. word_of (freed_at c.args.n c.args.records.now) x) _ l.j _ _ 0 (omega arith) (omega arith) (c.freed_word.ensures ∙ ap (word_of _) z) ∙ l.invariant

pub returns : goal.returns
returns c =
    let l = c.loop-j in
    let k = c.map_len-k.ensures in
    part-end 0 _ (map_len c.args.n) c.map_len-k.result c.args.map.now (omega (arith, k, c.requires.n_in_bounds)) l.j _ l.auto.w-items c.loop-j-test.false l.invariant
