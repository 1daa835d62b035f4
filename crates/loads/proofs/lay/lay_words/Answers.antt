-- `loads::lay::lay_words` stores four words, then the others. Assumes nothing.
use mathlib.Core.Path.{◌∙◌}
use Rattle.loads.proofs.LayLaws.{storing-four, storing-none, storing-room, storing-end}
use Rattle.loads.proofs.lay.lay_words.Goals.{then-k-gt3, else-k-gt3}
use Rattle.loads.proofs.lay.lay_words.Goals as goal

pub lay_rest-requires : goal.lay_rest-requires
lay_rest-requires c =
    let p = c.requires in
    storing-room _ _ _ _ _ _ _ _ _
    (elim c.if-k-gt3.branch [
      | then-k-gt3 w ↦ storing-four _ _ _ _ _ w.if-k-gt3.true _ _ _ _ (w.words-is ∙ w.lay_four.ensures) w.at-is w.to-is w.left-is
      | else-k-gt3 w ↦ storing-none _ _ _ _ _ _ _ _ _ w.words-is w.at-is w.to-is w.left-is
    ])
    p.0 p.1

pub returns : goal.returns
returns c =
    storing-end _ _ _ _ _ _ _ _ _
    (elim c.if-k-gt3.branch [
      | then-k-gt3 w ↦ storing-four _ _ _ _ _ w.if-k-gt3.true _ _ _ _ (w.words-is ∙ w.lay_four.ensures) w.at-is w.to-is w.left-is
      | else-k-gt3 w ↦ storing-none _ _ _ _ _ _ _ _ _ w.words-is w.at-is w.to-is w.left-is
    ])
    _ _ c.lay_rest.ensures
