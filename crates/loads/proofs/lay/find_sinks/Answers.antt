-- `loads::lay::find_sinks` goes from chunk to chunk. Assumes nothing.
use Rattle.std.proofs.Common.{rules}
use Rattle.loads.proofs.SinkPlaces.{seeking-start, seeking-whole, seeking-room, seeking-turn, seeking-end}
use native.Mathlib.Omega.{arith}
use Rattle.loads.proofs.lay.find_sinks.Goals as goal

pub loop-at-init : goal.loop-at-init
loop-at-init c = seeking-start _ _ c.requires

pub overflow_add-at : goal.overflow_add-at
overflow_add-at c = omega (arith, seeking-room _ _ _ c.loop-at.invariant c.loop-at-test.true)

pub end_of-at-requires : goal.end_of-at-requires
end_of-at-requires c = (c.loop-at.invariant.inside, seeking-whole _ _ _ c.loop-at.invariant c.loop-at-test.true)

pub loop-at-smaller : goal.loop-at-smaller
loop-at-smaller c = omega (arith, c.end_of-at.ensures.start)

pub loop-at-preserved : goal.loop-at-preserved
loop-at-preserved c = seeking-turn _ _ _ c.loop-at.invariant c.loop-at-test.true _ _ _ c.end_of-at.ensures c.get2.ensures (search rules)

pub returns : goal.returns
returns c = seeking-end _ _ _ c.loop-at.invariant c.loop-at-test.false
