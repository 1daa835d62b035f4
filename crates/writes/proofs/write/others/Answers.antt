-- `writes::write::others` meets its contract. Assumes nothing.
use mathlib.Core.Path.{refl}
use borrow.Author.Tests.{lt-ltb, le-ltb}
use Rattle.rules.specs.Buffers.{short}
use Rattle.writes.specs.Writes.{others_of}
use Rattle.writes.proofs.write.others.Goals as goal

pub returns-then-sinks : goal.returns-then-sinks
unfolding others_of short
returns-then-sinks c = rw (lt-ltb _ _ c.if-sinks.true) refl

pub returns : goal.returns
unfolding others_of short
returns c = rw (le-ltb _ _ c.if-sinks.false) refl
