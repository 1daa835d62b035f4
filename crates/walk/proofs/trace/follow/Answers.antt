-- `follow` meets its contract.
use Rattle.walk.proofs.VisitLaws.{ready_moved}
use Rattle.walk.proofs.EndLaws.{followed-visit}
use Rattle.walk.proofs.trace.follow.Goals as goal

pub drain-requires : goal.drain-requires
drain-requires c =
    let visit-call = c.visit-top in
    ready_moved _ _ _ _ _ _ _ _ _ _ c.requires.ready visit-call.ensures

pub returns : goal.returns
returns c =
    let visit-call = c.visit-top in
    let drain-call = c.drain in
    followed-visit _ _ _ _ _ c.requires.ready _ c.requires.obj _ _ _ visit-call.ensures _ _ drain-call.ensures
