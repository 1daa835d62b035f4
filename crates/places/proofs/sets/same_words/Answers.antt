-- `places::sets::same_words` compares word by word. Assumes nothing.
use mathlib.Core.Path.{◌∙◌}
use lib.Dec.{eqb}
use Rattle.places.proofs.FillLaws.{words-both}
use Rattle.places.proofs.sets.same_words.Goals as goal

pub returns : goal.returns
returns c = c.eq.ensures ∙ words-both c.args.n eqb c.args.a.now c.args.b.now c.requires.n_in_bounds c.requires.n_in_bounds_2
