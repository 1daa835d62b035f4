-- `loads::bodies::words_end` tests four words at a time, then the others. Assumes nothing.
use mathlib.Core.Path.{sym}
use native.Mathlib.Omega.{arith}
use Rattle.loads.proofs.WordLaws.{halfway-start, halfway-stop, halfway-turn, halfway-end}
use Rattle.loads.proofs.bodies.words_end.Goals as goal

pub loop-init : goal.loop-init
loop-init c = halfway-start _ _ _ _

pub four_pass-requires : goal.four_pass-requires
four_pass-requires c = (c.requires.0, omega (arith, c.loop.invariant.place, c.requires.1))

pub returns-then-not-four_pass : goal.returns-then-not-four_pass
returns-then-not-four_pass c = halfway-stop _ _ _ _ _ _ c.loop.invariant c.loop-test.true (sym c.if-not-four_pass.ensures)

pub loop-preserved : goal.loop-preserved
loop-preserved c = halfway-turn _ _ _ _ _ _ c.loop.invariant c.loop-test.true (sym c.if-not-four_pass.ensures)

pub rest_end-requires : goal.rest_end-requires
rest_end-requires c = (c.requires.0, omega (arith, c.loop.invariant.place, c.requires.1))

pub returns : goal.returns
returns c = halfway-end _ _ _ _ _ _ c.loop.invariant (omega arith) c.loop-test.false _ c.rest_end.ensures
