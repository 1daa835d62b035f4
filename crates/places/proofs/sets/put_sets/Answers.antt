-- `places::sets::put_sets` goes object by object. Assumes nothing.
use native.Mathlib.Omega.{arith}
use mathlib.Core.Path.{◌≡◌}
use Rattle.places.proofs.PutLaws.{gather_none, gather-more}
use Rattle.places.proofs.sets.put_sets.Goals as goal

pub loop-i-init : goal.loop-i-init
loop-i-init c = gather_none _ _ _

pub loop-i-preserved : goal.loop-i-preserved
loop-i-preserved c = let l = c.loop-i in gather-more _ _ _ l.i _ _ l.invariant c.put_object.ensures

pub returns : goal.returns
returns c =
    let l = c.loop-i in
    let e : l.i ≡ c.args.n = omega arith in
    rw e at l.invariant
