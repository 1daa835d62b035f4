-- `put_states` meets its contract. Assumes nothing.
use mathlib.Core.Path.{◌≡◌, refl, ap, ◌∙◌}
use Prim.Native.Nat.{◌-◌}
use Rattle.records.specs.Record.{cluster}
use Rattle.analyse.proofs.FillLaws.{fill_start, fill-turn}
use native.Mathlib.Omega.{arith}
use Rattle.analyse.proofs.form.put_states.Goals as goal

pub loop-x-init : goal.loop-x-init
loop-x-init c = fill_start _ _ _ _

pub loop-x-preserved : goal.loop-x-preserved
loop-x-preserved c =
    fill-turn _ _ _ _ _ _ _ _ c.loop-x.invariant (omega arith) (omega (arith, c.loop-x-test.true)) (omega (arith, c.requires.1)) refl (c.cluster_of.ensures ∙ ap cluster c.record_at.ensures)

pub returns : goal.returns
returns c =
    let e : c.loop-x.x - 1 ≡ c.args.n = omega (arith, c.loop-x-test.false, c.loop-x.auto.x-end (omega arith)) in
    rw e at c.loop-x.invariant
