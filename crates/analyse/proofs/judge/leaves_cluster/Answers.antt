-- `leaves_cluster` meets its contract. Assumes nothing.
use native.Mathlib.Omega.{arith}
use mathlib.Core.Path.{ap, ◌∙◌}
use Prim.Native.Nat.{ℕ, ◌%◌}
use Rattle.records.specs.Record.{is_sink}
use Rattle.analyse.proofs.JudgeLaws.{leaves_none, leaves-sink, leaves-test}
use Rattle.analyse.proofs.PushLaws.{target_fits}
use Rattle.analyse.proofs.judge.leaves_cluster.Goals as goal

pub returns-then-y-eq0 : goal.returns-then-y-eq0
returns-then-y-eq0 c = rw (← c.target_of-y.ensures) (leaves_none _ _ _ _ _ c.if-y-eq0.true)

pub record_at-requires : goal.record_at-requires
record_at-requires c = (omega (arith, c.if-y-eq0.false), target_fits _ _ _ c.target_of-y.ensures, c.requires.1)

pub returns-then-is_sink : goal.returns-then-is_sink
returns-then-is_sink c = rw (← c.target_of-y.ensures) (leaves-sink _ _ _ _ _ c.if-y-eq0.false _ (c.is_sink.ensures ∙ ap is_sink c.record_at.ensures) c.if-is_sink.true)

pub word_of-requires : goal.word_of-requires
word_of-requires c = (omega (arith, c.if-y-eq0.false), target_fits _ _ _ c.target_of-y.ensures, omega (arith, c.requires.2))

pub returns : goal.returns
returns c = rw (← c.target_of-y.ensures) (leaves-test _ _ _ _ _ c.if-y-eq0.false _ (c.is_sink.ensures ∙ ap is_sink c.record_at.ensures) c.if-is_sink.false _ (ap (λ (v : ℕ). v % 4096) c.word_of.ensures))
