-- `loads::lay::lay_list` puts number after number. Assumes nothing.
use mathlib.Core.Path.{◌∙◌}
use native.Mathlib.Omega.{arith}
use Rattle.loads.proofs.SinkPlaces.{listing_start, listing-turn, listing-end}
use Rattle.loads.proofs.lay.lay_list.Goals as goal

pub loop-i-init : goal.loop-i-init
loop-i-init c = listing_start _ _

pub loop-i-preserved : goal.loop-i-preserved
loop-i-preserved c = listing-turn _ _ _ _ _ c.loop-i.invariant c.get2.ensures

pub returns : goal.returns
returns c = let l = c.loop-i in l.invariant ∙ listing-end c.args.body.now c.args.sinks.now l.i (omega arith) c.loop-i-test.false
