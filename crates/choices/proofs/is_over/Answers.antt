-- `is_over` meets its contract. Assumes nothing.
use mathlib.Core.Path.{refl}
use Rattle.choices.specs.Choices.{over_by}
use Rattle.choices.proofs.ChoiceLaws.{product-fits}
use borrow.Author.Rules.{rules}
use Rattle.choices.proofs.is_over.Goals as goal

pub overflow_mul-result : goal.overflow_mul-result
overflow_mul-result c = record { fits = product-fits _ _ (search rules) (search rules) }

pub returns : goal.returns
unfolding over_by
returns c = rw (c.from.ensures, c.from-2.ensures, c.from-3.ensures) refl
