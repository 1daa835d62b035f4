-- `start` meets its contract. Assumes nothing.
use mathlib.Core.Path.{refl, ◌∙◌}
use Rattle.analyse.proofs.WalkLaws.{start-visit, walk_end}
use Rattle.analyse.proofs.StartLaws.{on_one}
use Rattle.analyse.proofs.walk.start.Goals as goal

pub visit-top-requires : goal.visit-top-requires
visit-top-requires c = let s = c.requires in start-visit _ _ _ _ _ _ _ s.0 _ s.1

pub loop-top-init : goal.loop-top-init
loop-top-init c = (c.visit-top.ensures.walking, refl, refl)

pub next-top-requires : goal.next-top-requires
next-top-requires c = (c.loop-top.invariant.0, c.loop-top-test.true)

pub loop-top-smaller : goal.loop-top-smaller
loop-top-smaller c = c.next-top.ensures.less

pub loop-top-preserved : goal.loop-top-preserved
loop-top-preserved c =
    let g = c.loop-top.invariant in
    (c.next-top.ensures.walking, c.next-top.ensures.same ∙ g.1, c.next-top.auto.work ∙ g.2)

pub returns : goal.returns
returns c =
    let g = c.loop-top.invariant in
    on_one _ _ _ _ _ _ _ _ _ c.requires.1 (walk_end _ _ _ _ _ _ _ _ g.0 _ (g.1 ∙ c.visit-top.ensures.same) c.loop-top-test.false)
