-- `writes::write::store_member` meets its contract: one case for each of its ends. Assumes nothing.
use mathlib.Core.Path.{refl}
use Rattle.layout.specs.ControlRecord.{with_write_loss}
use Rattle.writes.proofs.WriteLaws.{slot-there, losses, ends-kept, ends-broken, ends-full}
use Rattle.writes.proofs.write.store_member.Goals as goal

pub does_dissolve-requires : goal.does_dissolve-requires
does_dissolve-requires c = slot-there _ _ _ _ _ _ _ c.requires

pub store_staying-requires : goal.store_staying-requires
store_staying-requires c = slot-there _ _ _ _ _ _ _ c.requires

pub returns-then-not-does_dissolve : goal.returns-then-not-does_dissolve
returns-then-not-does_dissolve c =
    let e = c.store_staying.ensures in
    ends-kept _ _ _ _ _ _ _ _ _ c.does_dissolve.ensures c.if-not-does_dissolve.true-raw _ _ _ e.0 e.1 e.2

pub store_dissolving-requires : goal.store_dissolving-requires
store_dissolving-requires c = c.requires

pub loss_after-loss-requires : goal.loss_after-loss-requires
loss_after-loss-requires c = losses _ _ _ _ _ _ _ c.requires

pub returns-then-c-loss : goal.returns-then-c-loss
returns-then-c-loss c =
    ends-full _ _ _ _ _ _ _ _ _ c.does_dissolve.ensures c.if-not-does_dissolve.false-raw _ c.loss_after-loss.ensures c.if-c-loss.true

pub returns : goal.returns
unfolding with_write_loss
returns c =
    let e = c.store_dissolving.ensures in
    ends-broken _ _ _ _ _ _ _ _ _ c.does_dissolve.ensures c.if-not-does_dissolve.false-raw _ c.loss_after-loss.ensures c.if-c-loss.false
    _ _ _ e.0 e.1 e.2 _ refl
