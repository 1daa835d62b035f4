-- `loads::bodies::sinks_ok` takes number after number out of the set. Assumes nothing.
use mathlib.Core.Path.{sym}
use Rattle.loads.proofs.SinkLaws.{taking-no, taking-start, taking-stop, taking-inside, taking-turn, taking-ok, taking-empty}
use Rattle.loads.proofs.bodies.sinks_ok.Goals as goal

pub returns-then-k-body-clause-value : goal.returns-then-k-body-clause-value
returns-then-k-body-clause-value c = taking-no _ _ c.requires _ c.ones-k.ensures c.if-k-body.true

pub loop-i-init : goal.loop-i-init
loop-i-init c = taking-start _ _ c.requires _ c.ones-k.ensures c.if-k-body.false

pub returns-then-not-has_bit-clause-value : goal.returns-then-not-has_bit-clause-value
returns-then-not-has_bit-clause-value c =
    taking-stop _ _ c.requires _ _ _ c.loop-i.invariant c.loop-i-test.true _ c.get2-x.ensures (sym c.if-not-has_bit.ensures)

pub take_bit-requires : goal.take_bit-requires
take_bit-requires c = taking-inside _ _ c.requires _ _ _ c.loop-i.invariant c.loop-i-test.true _ c.get2-x.ensures (sym c.if-not-has_bit.ensures)

pub loop-i-preserved : goal.loop-i-preserved
loop-i-preserved c =
    rw c.take_bit.ensures
    (taking-turn _ _ c.requires _ _ _ c.loop-i.invariant c.loop-i-test.true _ c.get2-x.ensures (sym c.if-not-has_bit.ensures))

pub returns : goal.returns
returns c = let l = c.loop-i.invariant in record {
  value = taking-ok _ _ c.requires _ _ _ l c.loop-i-test.false;
  empty = λ e. taking-empty _ _ c.requires _ _ _ l c.loop-i-test.false;
}
