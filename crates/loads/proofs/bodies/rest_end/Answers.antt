-- `loads::bodies::rest_end` tests word after word. Assumes nothing.
use mathlib.Core.Path.{◌≡◌, ap, sym, ◌∙◌}
use mathlib.Core.Bool.{Bool}
use mathlib.Core.List.{List}
use Prim.Native.Nat.{ℕ}
use native.Mathlib.Omega.{arith}
use Rattle.loads.specs.Bodies.{passes}
use Rattle.loads.proofs.WordLaws.{testing-start, testing-stop, testing-turn, testing-end}
use Rattle.loads.proofs.bodies.rest_end.Goals as goal

-- what the test said of a word that was read
as_read : (i : Bool) (n : ℕ) (words : List ℕ) {w v : ℕ} {a b : Bool} → a ≡ passes i n words w → w ≡ v → a ≡ b → passes i n words v ≡ b
as_read i n words is same e = ap (passes i n words) (sym same) ∙ sym is ∙ e

pub loop-init : goal.loop-init
loop-init c = testing-start _ _ _ _

pub word_at-requires : goal.word_at-requires
word_at-requires c = omega (arith, c.loop.invariant.place, c.requires.1)

pub returns-then-not-word_passes : goal.returns-then-not-word_passes
returns-then-not-word_passes c =
    testing-stop _ _ _ _ _ _ c.loop.invariant c.loop-test.true (as_read _ _ _ c.word_passes.ensures c.word_at.ensures c.if-not-word_passes.true)

pub loop-preserved : goal.loop-preserved
loop-preserved c =
    testing-turn _ _ _ _ _ _ c.loop.invariant c.loop-test.true (as_read _ _ _ c.word_passes.ensures c.word_at.ensures c.if-not-word_passes.false)

pub returns : goal.returns
returns c = testing-end _ _ _ _ _ _ c.loop.invariant (omega arith) c.loop-test.false
