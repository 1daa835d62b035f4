-- `loads::lay::lay_rest` stores word after word. Assumes nothing.
use mathlib.Core.Path.{◌≡◌, ap, ◌∙◌}
use Prim.Native.Nat.{ℕ, ◌+◌, ◌*◌}
use Rattle.endian.specs.Bytes.{number_at}
use Rattle.loads.specs.Laid.{laid}
use Rattle.loads.proofs.LayLaws.{laid_none, laid-turn}
use native.Mathlib.Omega.{arith}
use Rattle.loads.proofs.lay.lay_rest.Goals as goal

pub loop-i-init : goal.loop-i-init
loop-i-init c = (omega arith, laid_none _ _ _)

pub loop-i-preserved : goal.loop-i-preserved
loop-i-preserved c =
    let a = c.args in
    let l = c.loop-i in (
      omega (arith, l.invariant.0),
      laid-turn a.base l.i (λ i. number_at 4 (a.from + 4 * i) a.body.now) a.words.now l.words _ l.invariant.1
          (c.word_at.ensures ∙ ap (λ (k : ℕ). number_at 4 k a.body.now) l.invariant.0),
    )

pub returns : goal.returns
returns c =
    let a = c.args in
    let l = c.loop-i in
    let e : l.i ≡ a.k = omega arith in
    (omega (arith, l.invariant.0), l.invariant.1 ∙ ap (λ (j : ℕ). laid a.base j (λ i. number_at 4 (a.from + 4 * i) a.body.now) a.words.now) e)
