-- `compare::survivors::same_roots` asks one by one. Assumes nothing.
use Rattle.std.proofs.Common.{◌∙◌, refl, arith, rules, ℕ}
use Rattle.std.proofs.lemmas.Iterator.{YieldsList-from_range}
use Rattle.std.proofs.lemmas.Iterator.Search.{all_from_yields_List}
use Rattle.compare.specs.Survivors.{same_root}
use Rattle.compare.proofs.DecideLaws.{every-range}
use Rattle.compare.proofs.survivors.same_roots.Goals as goal

pub returns : goal.returns
returns c =
    let x = c.args.x.now in
    let y = c.args.y.now in
    all_from_yields_List (λ (j : ℕ). same_root j x.root_count x.roots.now y.root_count y.roots.now) _ _ c.all.result c.all.ensures.ran (YieldsList-from_range 0 64 64 refl (omega arith)) (λ k b q h. search rules)
    ∙ every-range (λ (j : ℕ). same_root j x.root_count x.roots.now y.root_count y.roots.now) 64 0
