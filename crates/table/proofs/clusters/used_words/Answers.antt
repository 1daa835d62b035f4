-- `table::clusters::used_words` cuts out the words of an object. Assumes nothing.
use Prim.Native.Nat.{ℕ, min}
use mathlib.Core.Path.{ap, ◌∙◌}
use native.Mathlib.Omega.{arith}
use Rattle.layout.specs.Limits.{slots_len}
use Rattle.table.proofs.ClusterLaws.{used-none, used-are, used-past}
use Rattle.table.proofs.clusters.used_words.Goals as goal

pub returns-then-x-eq0 : goal.returns-then-x-eq0
returns-then-x-eq0 c = used-none _ _ _ c.if-x-eq0.true

pub overflow_add-from : goal.overflow_add-from
unfolding slots_len
overflow_add-from c = omega (arith, c.slots_len-from.ensures, c.min-used.ensures)

pub returns-then-from-to : goal.returns-then-from-to
returns-then-from-to c =
    used-are _ _ _ c.if-x-eq0.false c.slots_len-from.result _ c.min-to.result c.slots_len-from.ensures
    (c.min-used.ensures ∙ ap (λ (w : ℕ). min w 8) c.width_of.ensures) c.min-to.ensures

pub returns-else-from-to : goal.returns-else-from-to
returns-else-from-to c =
    used-past _ _ _ c.slots_len-from.result _ c.min-to.result c.if-x-eq0.false c.slots_len-from.ensures
    (c.min-used.ensures ∙ ap (λ (w : ℕ). min w 8) c.width_of.ensures) c.min-to.ensures c.if-from-to.false
