-- `analyse` meets its contract. Assumes nothing.
use mathlib.Core.Path.{refl, ap, ◌∙◌}
use Rattle.layout.proofs.RefusalLaws.{numbered}
use Rattle.rules.specs.Analyse.{next_limit}
use Rattle.wellformed.proofs.CheckLaws.{accepted-part}
use Rattle.analyse.proofs.CallLaws.{refused, accepted, cap-fits, formable, outcome}
use Rattle.analyse.proofs.analyse.Goals as goal

pub returns-in-Err : goal.returns-in-Err
returns-in-Err c =
    rw c.from.ensures (refused _ _ _ _ _ _ _ _ c.work_len-cap.ensures _ c.in-Err.ensures (numbered c.in-Err.e))

pub used_count-requires : goal.used_count-requires
used_count-requires c = let a = (accepted _ _ _ _ _ _ c.args.work.now _ c.work_len-cap.ensures _ c.in_default.ensures refl) in (a.room.recs-long, a.room.most)

pub slice_bounds-form_and_judge-end : goal.slice_bounds-form_and_judge-end
slice_bounds-form_and_judge-end c = cap-fits _ _ _ _ _ _ _ (accepted _ _ _ _ _ _ c.args.work.now _ c.work_len-cap.ensures _ c.in_default.ensures refl) _ c.work_len-cap.ensures

pub form_and_judge-found-requires : goal.form_and_judge-found-requires
form_and_judge-found-requires c =
    let a = (accepted _ _ _ _ _ _ c.args.work.now _ c.work_len-cap.ensures _ c.in_default.ensures refl) in
    formable _ _ _ _ _ _ _ (accepted-part _ _ _ _ _ _ _ a _ c.work_len-cap.ensures) _ (c.next_limit-limit.ensures ∙ ap (next_limit c.args.c) c.used_count.ensures)

pub returns : goal.returns
returns c =
    outcome _ _ _ _ _ _ c.args.work.now _ c.work_len-cap.ensures _ c.in_default.ensures refl _ (c.next_limit-limit.ensures ∙ ap (next_limit c.args.c) c.used_count.ensures) _ _ c.form_and_judge-found.new.work _ _ _ _ c.form_and_judge-found.ensures c.fill_sets.ensures c.form_and_judge-found.auto.work c.zero.ensures _ c.with_analysis.ensures
