-- `loads::lay::lay_numbers` puts the sinks among the objects. Assumes nothing.
use mathlib.Core.List.{List}
use Prim.Native.Nat.{ℕ, ◌<◌}
use lib.ListN.{length}
use Rattle.loads.specs.Bodies.{Fit}
use Rattle.loads.specs.Laid.{Listable}
use Rattle.loads.proofs.SinkPlaces.{Numbering, numbering_start, numbering-fit, numbering-room, numbering-turn, numbering-end}
use native.Mathlib.Omega.{arith}
use Rattle.loads.proofs.lay.lay_numbers.Goals as goal

-- what is known of the object at the loop's place
fit : {n to at : ℕ} {body sinks₀ sinks : List ℕ} (s : Numbering n body sinks₀ sinks to at) → Listable n body sinks₀ → at < length body → Fit n body s.last at
fit s ok more = numbering-fit _ _ _ _ _ _ s ok more

pub loop-at-init : goal.loop-at-init
loop-at-init c = numbering_start _ _ _

pub number_at-requires : goal.number_at-requires
number_at-requires c = (fit c.loop-at.invariant c.requires c.loop-at-test.true).head

pub head_byte-requires : goal.head_byte-requires
head_byte-requires c = ((fit c.loop-at.invariant c.requires c.loop-at-test.true).head, omega arith)

pub lay_number-to-requires : goal.lay_number-to-requires
lay_number-to-requires c =
    numbering-room _ _ _ _ _ _ c.loop-at.invariant c.requires c.loop-at-test.true _ c.head_byte.ensures

pub head_byte-requires-in-loop-at : goal.head_byte-requires-in-loop-at
head_byte-requires-in-loop-at c = ((fit c.loop-at.invariant c.requires c.loop-at-test.true).head, omega arith)

pub overflow_add-at-in-loop-at : goal.overflow_add-at-in-loop-at
overflow_add-at-in-loop-at c = omega (arith, (fit c.loop-at.invariant c.requires c.loop-at-test.true).whole, c.head_byte-in-loop-at.ensures)

pub loop-at-preserved : goal.loop-at-preserved
loop-at-preserved c =
    numbering-turn _ _ _ _ _ _ c.loop-at.invariant c.requires c.loop-at-test.true _ _ _ _ _
    c.number_at.ensures c.head_byte.ensures c.head_byte-in-loop-at.ensures c.lay_number-to.ensures.0 c.lay_number-to.ensures.1

pub returns : goal.returns
returns c = numbering-end _ _ _ _ _ _ c.loop-at.invariant c.loop-at-test.false
