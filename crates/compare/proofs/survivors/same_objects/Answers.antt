-- `compare::survivors::same_objects` asks one by one. Assumes nothing.
use Rattle.std.proofs.Common.{◌∙◌, refl, arith, rules, ℕ}
use Rattle.std.proofs.lemmas.Iterator.{YieldsList-from_range}
use Rattle.std.proofs.lemmas.Iterator.Search.{all_from_yields_List}
use Rattle.compare.specs.Survivors.{same_object}
use Rattle.compare.proofs.DecideLaws.{every-range}
use Rattle.compare.proofs.survivors.same_objects.Goals as goal

pub returns : goal.returns
returns c =
    let x = c.args.x.now in
    let y = c.args.y.now in
    all_from_yields_List (λ (i : ℕ). same_object i x.records.now x.slots.now y.records.now y.slots.now) _ _ c.all.result c.all.ensures.ran (YieldsList-from_range 0 4095 4095 refl (omega arith)) (λ k b q h. search rules)
    ∙ every-range (λ (i : ℕ). same_object i x.records.now x.slots.now y.records.now y.slots.now) 4095 0
