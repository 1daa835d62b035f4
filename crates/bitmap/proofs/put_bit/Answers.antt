-- `bitmap::put_bit` sets one bit of one word. Assumes nothing.
use native.Mathlib.Omega.{arith}
use mathlib.Core.Path.{ap, sym, ◌∙◌}
use Prim.Native.Nat.{◌/◌, ◌%◌}
use lib.Bits.{bit_or}
use lib.ListN.{get_or, set}
use Rattle.layout.proofs.FieldLaws.{or-flag, one_at}
use Rattle.bitmap.proofs.BitLaws.{put-past}
use Rattle.bitmap.proofs.put_bit.Goals as goal

pub returns-then-at-map : goal.returns-then-at-map
returns-then-at-map c =
    let a = c.args in
    let w = get_or a.map.now (a.i / 64) 0 in
    let p = a.i % 64 in
    ap (set a.map.now (a.i / 64)) (ap (bit_or w) (one_at 64 p (omega arith)) ∙ or-flag p w)

pub returns-else-at-map : goal.returns-else-at-map
returns-else-at-map c = let a = c.args in sym (put-past a.map.now a.i c.if-at-map.false)
