-- `form_and_judge` meets its contract. Assumes nothing.
use Rattle.analyse.proofs.EndLaws.{judgeable, judged-walk}
use Rattle.analyse.proofs.BridgeLaws.{decide-may, settle-may, judged}
use Rattle.analyse.proofs.form_and_judge.Goals as goal

pub form-requires : goal.form-requires
form-requires c = c.requires

pub tally-requires : goal.tally-requires
tally-requires c = judgeable _ _ _ _ _ _ _ _ c.form.ensures

pub decide-requires : goal.decide-requires
decide-requires c = decide-may _ _ _ _ (judgeable _ _ _ _ _ _ _ _ c.form.ensures) _ c.tally.ensures

pub settle-requires : goal.settle-requires
settle-requires c = settle-may _ _ _ _ (judgeable _ _ _ _ _ _ _ _ c.form.ensures) _ c.tally.ensures _ _ c.decide.ensures

pub returns : goal.returns
returns c =
    let f = c.form.ensures in
    judged-walk _ _ _ _ _ _ _ _ f _ _ _ _ _ (judged _ _ _ _ (judgeable _ _ _ _ _ _ _ _ f) _ c.tally.ensures _ _ c.decide.ensures _ _ _ _ c.settle.ensures)
