-- `loads::input_refusal` tests the tuning before the image. Assumes nothing.
use mathlib.Core.Path.{sym, ◌∙◌}
use Rattle.layout.proofs.RefusalLaws.{first_holds, first-fails}
use Rattle.rules.specs.Load.{input_tests}
use Rattle.loads.proofs.input_refusal.Goals as goal

pub returns-then-bad_tuning : goal.returns-then-bad_tuning
unfolding input_tests
returns-then-bad_tuning c = sym (first_holds 30 _ _ (sym c.bad_tuning.ensures ∙ c.if-bad_tuning.true))

pub returns : goal.returns
unfolding input_tests
returns c = c.image_refusal.ensures ∙ sym (first-fails 30 _ _ (sym c.bad_tuning.ensures ∙ c.if-bad_tuning.false))
