-- `places::sets::place_of` reads the place of the target. Assumes nothing.
use Rattle.std.proofs.Common.{◌≡◌, ◌∙◌, ap, rules, slice_index_or, ℕ}
use Rattle.places.proofs.sets.place_of.Goals as goal

pub returns : goal.returns
returns c =
    let e : c.unwrap_or.result ≡ slice_index_or c.args.place.now c.target_of.result 0 = search rules in
    e ∙ ap (λ (y : ℕ). slice_index_or c.args.place.now y 0) c.target_of.ensures
