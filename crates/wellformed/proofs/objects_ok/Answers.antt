-- `wellformed::objects_ok`: the inner loop keeps what is left of an object's words, the outer one that all objects before passed. Assumes nothing.
use mathlib.Core.Path.{refl, sym, ◌∙◌}
use Rattle.wellformed.proofs.CheckLaws.{seen_none, seen_more, seen-bad, seen-fine, seen-leave, bad-record, bad-head, bad-slot, bad-out, good-object}
use Rattle.wellformed.proofs.CheckLaws.{objects-none, objects-more, objects-all, objects-fail}
use native.Mathlib.Omega.{arith}
use Rattle.wellformed.proofs.objects_ok.Goals as goal
use Rattle.wellformed.proofs.objects_ok.Goals.{then-not-record_ok-via-then-not-record_ok, then-not-record_ok-via-else-not-record_ok+then-not-head_ok}

pub check-init : goal.check-init
check-init c = (refl, objects-none _ _ _)

pub loop-k-init : goal.loop-k-init
loop-k-init c = (c.check.invariant.0, seen_none _ _ _ _ _ _)

pub loop-k-preserved : goal.loop-k-preserved
loop-k-preserved c = (
  c.loop-k.invariant.0,
  seen_more _ _ _ _ _ _ c.requires c.check-test.true _ _ c.loop-k.invariant.1 c.loop-k-test.true _ refl _ c.member_leaves-leaving.ensures
      (sym c.if-not-slot_ok.ensures),
)

pub check-preserved : goal.check-preserved
check-preserved c =
    let R = c.requires in (
      c.loop-k.invariant.0,
      objects-more _ _ _ _ c.check.invariant.1
          (good-object _ _ _ _ c.check-test.true _ refl _ _ c.width_of-width.ensures c.cluster_of-c.ensures _
          (sym c.if-not-record_ok.ensures)
          (sym c.if-not-head_ok.ensures)
          (seen-fine _ _ _ _ _ _ R c.check-test.true _ _ c.loop-k.invariant.1 c.loop-k-test.false)
          (seen-leave _ _ _ _ _ _ R c.check-test.true _ _ c.loop-k.invariant.1 c.loop-k-test.false)
          (sym c.if-not-out_ok.ensures)),
    )

pub returns-after-check : goal.returns-after-check
returns-after-check c = c.check.invariant.0 ∙ objects-all _ _ _ _ (omega arith) c.check.invariant.1

pub returns-then-not-record_ok : goal.returns-then-not-record_ok
returns-then-not-record_ok c =
    objects-fail _ _ _ _ c.check-test.true
    (elim c.then-not-record_ok.branch [
      | then-not-record_ok-via-then-not-record_ok w ↦ bad-record _ _ _ _ c.check-test.true _ refl (sym w.if-not-record_ok.ensures)
      | then-not-record_ok-via-else-not-record_ok+then-not-head_ok w ↦ bad-head _ _ _ _ c.check-test.true _ refl (sym w.if-not-head_ok.ensures)
    ])

pub returns-then-not-slot_ok : goal.returns-then-not-slot_ok
returns-then-not-slot_ok c =
    objects-fail _ _ _ _ c.check-test.true
    (bad-slot _ _ _ _ c.check-test.true _ refl _ _ c.width_of-width.ensures c.cluster_of-c.ensures
    (seen-bad _ _ _ _ _ _ c.requires c.check-test.true _ _ c.loop-k.invariant.1 c.loop-k-test.true _ refl (sym c.if-not-slot_ok.ensures)))

pub returns-then-not-out_ok : goal.returns-then-not-out_ok
returns-then-not-out_ok c =
    objects-fail _ _ _ _ c.check-test.true
    (bad-out _ _ _ _ c.check-test.true _ refl _ _ c.width_of-width.ensures c.cluster_of-c.ensures _
    (seen-leave _ _ _ _ _ _ c.requires c.check-test.true _ _ c.loop-k.invariant.1 c.loop-k-test.false)
    (sym c.if-not-out_ok.ensures))
