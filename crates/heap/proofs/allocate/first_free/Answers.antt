-- `heap::allocate::first_free` tries object after object. Assumes nothing.
use mathlib.Core.Path.{◌≡◌, refl, ap, ◌∙◌}
use Prim.Native.Nat.{◌+◌}
use native.Mathlib.Omega.{arith}
use Rattle.heap.specs.Search.{object}
use Rattle.heap.proofs.AllocateLaws.{found, more, none, some-object}
use Rattle.heap.proofs.allocate.first_free.Goals as goal

pub loop-i-init : goal.loop-i-init
loop-i-init c = refl

pub returns-then-records-i-eq0 : goal.returns-then-records-i-eq0
returns-then-records-i-eq0 c =
    some-object (c.loop-i.i + 1) (λ (z : c.loop-i.i + 1 ≡ 0). omega arith)
    ∙ ap object (found _ _ c.requires.0 _ c.loop-i-test.true c.if-records-i-eq0.true ∙ c.loop-i.invariant)

pub loop-i-preserved : goal.loop-i-preserved
loop-i-preserved c =
    more _ _ c.requires.0 _ c.loop-i-test.true c.if-records-i-eq0.false ∙ c.loop-i.invariant

pub returns : goal.returns
returns c = ap object (none _ _ _ _ c.loop-i-test.false ∙ c.loop-i.invariant)
