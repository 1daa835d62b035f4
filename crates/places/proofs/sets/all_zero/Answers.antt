-- `places::sets::all_zero` looks at word after word. Assumes nothing.
use Rattle.std.proofs.Common.{◌∙◌, rules}
use lib.Dec.{eqb}
use lib.ListN.{take}
use Rattle.std.proofs.lemmas.Iterator.{YieldsList-from_slice}
use Rattle.std.proofs.lemmas.Iterator.Search.{all_from_yields_List}
use Rattle.places.proofs.FillLaws.{words-all}
use Rattle.places.proofs.sets.all_zero.Goals as goal

pub returns : goal.returns
returns c =
    let a = c.args in
    all_from_yields_List (λ w. eqb w 0) _ _ c.all.result c.all.ensures.ran (YieldsList-from_slice (take a.n a.words.now) cc) (λ w b q k. search rules)
    ∙ words-all a.n (λ w. eqb w 0) a.words.now c.requires
