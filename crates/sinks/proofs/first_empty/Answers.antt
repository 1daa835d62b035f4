-- `sinks::first_empty` tries place after place. Assumes nothing.
use native.Mathlib.Omega.{arith}
use lib.ListN.{length-take}
use Rattle.layout.specs.Limits.{sink_max}
use Rattle.sinks.proofs.SinkLaws.{searched, searched-all}
use Rattle.sinks.proofs.first_empty.Goals as goal

pub returns-then-sinks-k-eq0 : goal.returns-then-sinks-k-eq0
returns-then-sinks-k-eq0 c =
    searched c.args.sinks.now c.loop-k.k c.loop-k.invariant
    (omega (arith, c.loop-k-test.true, c.min-k-end.ensures)) (omega (arith, c.loop-k-test.true, c.min-k-end.ensures)) c.if-sinks-k-eq0.true

pub returns : goal.returns
returns c =
    let n = length-take sink_max c.args.sinks.now in
    searched-all c.args.sinks.now c.loop-k.k c.loop-k.invariant (omega (arith, c.loop-k-test.false, c.min-k-end.ensures))
