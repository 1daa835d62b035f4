-- `from_roots` meets its contract. Assumes nothing.
use mathlib.Core.Path.{◌≡◌}
use Rattle.analyse.proofs.WalkLaws.{taken_in}
use Rattle.analyse.proofs.StartLaws.{on_none, roots-more}
use native.Mathlib.Omega.{arith}
use Rattle.analyse.proofs.form.from_roots.Goals as goal

pub loop-j-init : goal.loop-j-init
loop-j-init c = on_none _ _ _ _ _ _ _ c.requires.0

pub start-requires : goal.start-requires
start-requires c =
    let p = c.requires in
    let more = c.loop-j-test.true in
    (c.loop-j.invariant.walking, p.2 _ (taken_in _ _ _ (omega (arith, p.1, more)) more))

pub loop-j-preserved : goal.loop-j-preserved
loop-j-preserved c =
    let l = c.loop-j in
    let more = c.loop-j-test.true in
    let a = c.args in
    roots-more _ _ _ _ _ _ a.roots.now l.j _ _ _ l.invariant c.start.ensures (omega (arith, c.requires.1, more))

pub returns : goal.returns
returns c =
    let l = c.loop-j in
    let e : l.j ≡ c.args.r = omega (arith, c.loop-j-test.false) in
    rw e at l.invariant
