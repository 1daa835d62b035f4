-- `loads::bodies::take_bit` clears one bit. Assumes nothing.
use native.Mathlib.Omega.{arith}
use Prim.Native.Nat.{ℕ, ◌-◌, ◌/◌, ◌%◌, ◌^◌}
use mathlib.Core.Path.{ap, ◌∙◌}
use lib.Bits.{bit_and}
use lib.ListN.{get_or, set}
use Rattle.layout.proofs.FieldLaws.{and-not-flag, one_at}
use Rattle.loads.proofs.bodies.take_bit.Goals as goal

-- src/bodies.rt:222:1
pub returns : goal.returns
returns c =
    let a = c.args in
    let w = get_or a.sinks.now (a.x / 64) 0 in
    let p = a.x % 64 in
    ap (set a.sinks.now (a.x / 64)) (ap (λ (m : ℕ). bit_and w (2 ^ 64 - 1 - m)) (one_at 64 p (omega arith)) ∙ and-not-flag 64 p w (omega arith) (c.slice_known-1.given (a.x / 64)).fits)
