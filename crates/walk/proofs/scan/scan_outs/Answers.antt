-- `scan_outs` meets its contract. The loop's invariant, `Sweeping`: from x on the scan of the out members ends as it does from the start.
use Prim.Native.Nat.{ℕ, ◌/◌, ◌%◌}
use mathlib.Core.Path.{ap, ◌∙◌}
use Rattle.walk.proofs.VisitLaws.{sweeping-here, sweeping-on, sweeping-less, sweeping-done}
use native.Mathlib.Omega.{arith}
use Rattle.walk.proofs.scan.scan_outs.Goals as goal

pub link_of-requires : goal.link_of-requires
link_of-requires c =
    (c.requires.obj, omega (arith, c.requires.state.sized.work-long))

pub loop-x-init : goal.loop-x-init
loop-x-init c =
    sweeping-here _ _ _ _ _ _ c.requires.state c.requires.linked c.requires.obj _ (c.top_member-x.ensures ∙ ap (λ (y : ℕ). y / 4096 % 4096) c.link_of.ensures)

pub scan_unmarked-at-requires : goal.scan_unmarked-at-requires
scan_unmarked-at-requires c =
    let l = c.loop-x in
    let g = l.invariant in record {
      state = g.state;
      obj = (omega arith, g.within);
    }

pub link_of-requires-in-loop-x : goal.link_of-requires-in-loop-x
link_of-requires-in-loop-x c =
    let l = c.loop-x in
    let g = l.invariant in
    ((omega arith, g.within), omega (arith, g.state.sized.work-long, c.scan_unmarked-at.auto.work))

pub loop-x-smaller : goal.loop-x-smaller
loop-x-smaller c =
    let l = c.loop-x in
    let scan-unmarked-call = c.scan_unmarked-at in
    sweeping-less _ _ _ _ _ _ c.requires.state c.requires.linked c.requires.obj _ _ _ _ l.invariant (omega arith) _ _ _ _ scan-unmarked-call.ensures
    (c.next_member-x.ensures ∙ ap (λ (y : ℕ). y % 4096) c.link_of-in-loop-x.ensures)

pub loop-x-preserved : goal.loop-x-preserved
loop-x-preserved c =
    let l = c.loop-x in
    sweeping-on _ _ _ _ _ _ c.requires.state c.requires.linked c.requires.obj _ _ _ _ l.invariant (omega arith) _ _ _ _ c.scan_unmarked-at.ensures
    (c.next_member-x.ensures ∙ ap (λ (y : ℕ). y % 4096) c.link_of-in-loop-x.ensures) c.scan_unmarked-at.auto.records c.scan_unmarked-at.auto.work

pub returns : goal.returns
returns c =
    sweeping-done _ _ _ _ _ _ c.requires.state c.requires.linked c.requires.obj _ _ _ _ c.loop-x.invariant c.loop-x-test.false
