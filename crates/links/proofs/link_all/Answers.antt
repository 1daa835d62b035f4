-- `link_all` meets its contract. Assumes nothing.
use Prim.Native.Nat.{◌-◌}
use mathlib.Core.Path.{◌≡◌, refl, ap, ◌∙◌}
use native.Mathlib.Omega.{arith}
use lib.ListN.{drop}
use Rattle.links.specs.Links.{linked_at}
use Rattle.links.proofs.LinkLaws.{none-linked, zeros-none, zeros-past, link_start, link-end}
use Rattle.links.proofs.link_all.Goals as goal

pub loop-x-init : goal.loop-x-init
loop-x-init c =
    let a = c.args in
    (omega arith, rw c.zero.ensures (link_start _ _ (linked_at a.outs a.n a.records.now) (none-linked a.outs a.n a.records.now) (zeros-none _ _ c.requires.2)), refl)

pub returns : goal.returns
returns c =
    let l = c.loop-x in
    let e : l.x - 1 ≡ c.args.n = omega arith in
    link-end _ _ _ _ (l.auto.work ∙ c.zero.auto.words) c.requires.2 (l.invariant.2 ∙ ap (drop c.args.n) c.zero.ensures ∙ zeros-past _ _ c.requires.2) (rw e at l.invariant.1)

pub returns-2 : goal.returns-2
returns-2 c =
    let l = c.loop-x in
    let e : l.x ≡ c.args.n = omega arith in
    link-end _ _ _ _ (c.link_one.auto.work ∙ l.auto.work ∙ c.zero.auto.words) c.requires.2
    (c.link_one.ensures.1 ∙ l.invariant.2 ∙ ap (drop c.args.n) c.zero.ensures ∙ zeros-past _ _ c.requires.2) (rw e at c.link_one.ensures.0)
