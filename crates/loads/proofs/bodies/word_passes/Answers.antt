-- `loads::bodies::word_passes` tests one word. Assumes nothing.
use Prim.Native.Nat.{ℕ, ◌%◌}
use mathlib.Core.Path.{◌≡◌, ap, ◌∙◌}
use native.Mathlib.Omega.{arith}
use Rattle.bitmap.specs.Bits.{holds}
use Rattle.loads.proofs.WordLaws.{pass-plain, pass-above, pass-number}
use Rattle.loads.proofs.bodies.word_passes.Goals as goal

pub returns-then-word-immediates : goal.returns-then-word-immediates
returns-then-word-immediates c = pass-plain _ _ _ _ c.ranges.word.fits c.if-word-immediates.true

pub returns-then-n-word : goal.returns-then-n-word
returns-then-n-word c = pass-above _ _ _ _ c.ranges.word.fits c.if-word-immediates.false c.if-n-word.true

pub returns : goal.returns
returns c =
    let e : c.args.word % 4096 ≡ c.args.word = omega (arith, c.requires) in
    c.has_bit.ensures ∙ ap (λ (x : ℕ). holds x c.args.words.now) e ∙ pass-number _ _ _ _ c.ranges.word.fits c.if-word-immediates.false c.if-n-word.false
