-- `link_one` meets its contract. Assumes nothing.
use lib.ListN.{length-set}
use mathlib.Core.Path.{refl}
use Rattle.links.proofs.LinkLaws.{link-low, link-index, link-sum, link-beyond, link-done, link-none}
use Rattle.links.proofs.link_one.Goals as goal

pub overflow_sub-j : goal.overflow_sub-j
overflow_sub-j c = link-low _ c.args.outs _ _ _ c.requires.n_bound.0 c.requires.n_bound.2 c.requires.n_bound.3 c.requires.n_bound.4 c.requires.linking _ c.linked_in-d.ensures _ c.within.ensures c.if-within.true

pub bounds-work-j : goal.bounds-work-j
bounds-work-j c = link-index _ c.args.outs _ _ _ c.requires.n_bound.0 c.requires.n_bound.2 c.requires.n_bound.3 c.requires.n_bound.4 c.requires.linking _ c.linked_in-d.ensures _ c.within.ensures c.if-within.true

pub overflow_add-work : goal.overflow_add-work
overflow_add-work c = record { fits = link-sum _ c.args.outs _ _ _ c.requires.n_bound.0 c.requires.n_bound.2 c.requires.n_bound.3 c.requires.n_bound.4 c.requires.linking _ c.linked_in-d.ensures _ c.within.ensures c.if-within.true }

pub bounds-work-j-then-within : goal.bounds-work-j-then-within
bounds-work-j-then-within c = simp length-set (link-index _ c.args.outs _ _ _ c.requires.n_bound.0 c.requires.n_bound.2 c.requires.n_bound.3 c.requires.n_bound.4 c.requires.linking _ c.linked_in-d.ensures _ c.within.ensures c.if-within.true)

pub bounds-work-j-then-within-2 : goal.bounds-work-j-then-within-2
bounds-work-j-then-within-2 c = simp length-set (link-index _ c.args.outs _ _ _ c.requires.n_bound.0 c.requires.n_bound.2 c.requires.n_bound.3 c.requires.n_bound.4 c.requires.linking _ c.linked_in-d.ensures _ c.within.ensures c.if-within.true)

pub returns-then-within : goal.returns-then-within
returns-then-within c = (link-done _ c.args.outs _ _ _ c.requires.n_bound.0 c.requires.n_bound.2 c.requires.n_bound.3 c.requires.n_bound.4 c.requires.linking _ c.linked_in-d.ensures _ c.within.ensures c.if-within.true, link-beyond _ c.args.outs _ _ _ c.requires.n_bound.0 c.requires.n_bound.2 c.requires.n_bound.3 c.requires.n_bound.4 c.requires.linking _ c.linked_in-d.ensures _ c.within.ensures c.if-within.true)

pub returns-else-within : goal.returns-else-within
returns-else-within c = (link-none _ c.args.outs _ _ _ c.requires.n_bound.0 c.requires.n_bound.2 c.requires.n_bound.3 c.requires.n_bound.4 c.requires.linking _ c.linked_in-d.ensures _ c.within.ensures c.if-within.false, refl)
