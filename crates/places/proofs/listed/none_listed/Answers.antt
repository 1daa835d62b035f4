-- `places::listed::none_listed` looks at each place. Assumes nothing.
use Rattle.std.proofs.Common.{◌∙◌, sym, rules}
use lib.Dec.{eqb}
use Rattle.std.proofs.lemmas.Iterator.{YieldsList-from_slice}
use Rattle.std.proofs.lemmas.Iterator.Search.{all_from_yields_List}
use Rattle.places.proofs.SeenLaws.{empty-all}
use Rattle.places.proofs.listed.none_listed.Goals as goal

pub returns : goal.returns
returns c =
    let e = all_from_yields_List (λ y. eqb y 0) _ _ c.all.result c.all.ensures.ran (YieldsList-from_slice c.places.result.now cc) (λ y b q k. search rules) in
    λ t. empty-all c.args.sinks.now (rw c.places.ensures at (sym e ∙ t))
