-- `visit_pending` meets its contract.
use mathlib.Core.Path.{refl, sym, ◌∙◌}
use Rattle.walk.specs.State.{way_of}
use Rattle.walk.proofs.VisitLaws.{none-and, passed-scan_if, plain-none, visit-free}
use Rattle.walk.proofs.visit.visit_pending.Goals as goal

pub returns-then-is_scanned : goal.returns-then-is_scanned
returns-then-is_scanned c =
    let d = none-and _ _ (sym c.is_scanned.ensures ∙ c.if-is_scanned.true) in
    visit-free (way_of c.args.heap) _ _ _ _ _ _ _ refl d.0 _ _ _ (passed-scan_if _ _ _ _ _ c.requires.ready.state _ c.requires.obj d.1)

pub returns-then-not-heap : goal.returns-then-not-heap
returns-then-not-heap c =
    visit-free (way_of c.args.heap) _ _ _ _ _ _ _ refl (plain-none c.args.heap.by _ c.if-not-heap.true-raw) _ _ _ c.scan_unmarked.ensures
