-- `sinks::make_exact` is the pass over the records. Assumes nothing.
use mathlib.Core.Path.{refl, ◌∙◌}
use native.Mathlib.Decide.{dec_le}
use native.Mathlib.Omega.{arith}
use lib.ListN.{length-set}
use Rattle.sinks.proofs.SinkLaws.{passed_none, passed-more, passed-past, passed-all}
use Rattle.sinks.proofs.make_exact.Goals as goal

pub loop-i-init : goal.loop-i-init
loop-i-init c = (refl, passed_none _ _ _)

pub loop-i-preserved : goal.loop-i-preserved
loop-i-preserved c =
    let l = c.loop-i in
    let i = c.loop-i-test.true in
    rw c.with_out.ensures (
      length-set l.records l.i _ ∙ l.invariant.0,
      passed-more _ _ _ _ _ l.invariant.1 (omega (arith, c.min-end.ensures)) (omega (arith, c.min-end.ensures, l.invariant.0)) _ c.exact_out-out.ensures,
    )

pub returns : goal.returns
returns c =
    let l = c.loop-i in
    elim (dec_le c.args.n l.i) [
      | yes p ↦ passed-all _ _ _ _ _ l.invariant.1 p
      | no p ↦ passed-past _ _ _ _ _ l.invariant.1 (omega (arith, p, c.min-end.ensures, c.loop-i-test.false, l.invariant.0))
    ]
