-- `with_bit` puts one bit. Assumes nothing.
use mathlib.Core.Path.{ap, ◌∙◌, sym}
use mathlib.Core.Bool.{Bool}
use Prim.Native.Nat.{ℕ, ◌%◌, ◌-◌, ◌^◌}
use native.Mathlib.Omega.{arith}
use lib.Bits.{bit_and, bit_or}
use Rattle.layout.specs.Field.{put_flag}
use Rattle.layout.proofs.FieldLaws.{or-flag, and-not-flag, one_at}
use Rattle.layout.proofs.bits.with_bit.Goals as goal

pub returns-then-on : goal.returns-then-on
returns-then-on c =
    let w = c.args.w in
    let p = c.args.p % 32 in
    ap (bit_or w) (one_at 32 p (omega arith)) ∙ or-flag p w ∙ ap (λ (b : Bool). put_flag p b w) (sym c.if-on.true)

pub returns-else-on : goal.returns-else-on
returns-else-on c =
    let w = c.args.w in
    let p = c.args.p % 32 in
    ap (λ (m : ℕ). bit_and w ((2 ^ 32 - 1) - m)) (one_at 32 p (omega arith))
    ∙ and-not-flag 32 p w (omega arith) c.ranges.w.fits
    ∙ ap (λ (b : Bool). put_flag p b w) (sym c.if-on.false)
