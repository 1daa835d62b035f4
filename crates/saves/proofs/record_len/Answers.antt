-- `saves::record_len` is what the object's bytes count. Assumes nothing.
use native.Mathlib.Omega.{arith}
use Prim.Native.Nat.{ℕ, ◌+◌, ◌*◌}
use mathlib.Core.Path.{sym, ap, ◌∙◌}
use Rattle.saves.proofs.SaveLaws.{width-bound, len-used, len-free}
use Rattle.saves.proofs.record_len.Goals as goal

pub overflow_mul-result : goal.overflow_mul-result
overflow_mul-result c = omega (arith, width-bound c.args.r)

pub overflow_add-result : goal.overflow_add-result
overflow_add-result c = omega (arith, width-bound c.args.r)

pub returns-then-in_use : goal.returns-then-in_use
returns-then-in_use c = ap (λ (m : ℕ). 4 + 4 * m) c.width_of.ensures ∙ len-used _ (sym c.in_use.ensures ∙ c.if-in_use.true)

pub returns-else-in_use : goal.returns-else-in_use
returns-else-in_use c = len-free _ (sym c.in_use.ensures ∙ c.if-in_use.false)
