-- `next` meets its contract. Assumes nothing.
use native.Mathlib.Omega.{arith}
use Rattle.analyse.proofs.WalkLaws.{word-there, plain-visit, plain_done, head-low, head-there, place-fits, next_fits, sink-there, next-mark-may, marker-visit, marker-done}
use Rattle.analyse.proofs.walk.next.Goals as goal

pub bounds-work-top : goal.bounds-work-top
bounds-work-top c = let s = c.requires in word-there _ _ _ _ _ _ _ _ s.0 s.1

pub visit-requires : goal.visit-requires
visit-requires c = let s = c.requires in plain-visit _ _ _ _ _ _ _ _ s.0 s.1 c.if-w-lt-MARK.true

pub returns-then-w-lt-MARK : goal.returns-then-w-lt-MARK
returns-then-w-lt-MARK c = let s = c.requires in plain_done _ _ _ _ _ _ _ _ s.0 s.1 c.if-w-lt-MARK.true _ _ c.visit.ensures

pub overflow_sub-set : goal.overflow_sub-set
overflow_sub-set c = let s = c.requires in head-low _ _ _ _ _ _ _ _ s.0 s.1 c.if-w-lt-MARK.false

pub bounds-heap-x : goal.bounds-heap-x
bounds-heap-x c = let s = c.requires in head-there _ _ _ _ _ _ _ _ s.0 s.1 c.if-w-lt-MARK.false

pub next_place-k-requires : goal.next_place-k-requires
next_place-k-requires c = let s = c.requires in place-fits _ _ _ _ _ _ _ _ s.0 s.1 c.if-w-lt-MARK.false

pub overflow_shr-set : goal.overflow_shr-set
overflow_shr-set c = let s = c.requires in next_fits _ _ _ _ _ _ _ _ s.0 s.1 c.if-w-lt-MARK.false _ c.next_place-k.ensures

pub overflow_add-k : goal.overflow_add-k
overflow_add-k c = let s = c.requires in record { fits = omega (arith, next_fits _ _ _ _ _ _ _ _ s.0 s.1 c.if-w-lt-MARK.false _ c.next_place-k.ensures) }

pub mark-at-requires : goal.mark-at-requires
mark-at-requires c = let s = c.requires in next-mark-may _ _ _ _ _ _ _ _ s.0 s.1 c.if-w-lt-MARK.false _ c.next_place-k.ensures

pub bounds-heap-k : goal.bounds-heap-k
bounds-heap-k c = let s = c.requires in sink-there _ _ _ _ _ _ _ _ s.0 s.1 c.if-w-lt-MARK.false _ c.next_place-k.ensures

pub visit-requires-2 : goal.visit-requires-2
visit-requires-2 c =
    let s = c.requires in
    marker-visit _ _ _ _ _ _ _ _ s.0 s.1 c.if-w-lt-MARK.false _ c.next_place-k.ensures _ _ c.mark-at.auto.work c.mark-at.ensures.0 c.mark-at.ensures.1

pub returns : goal.returns
returns c =
    let s = c.requires in
    marker-done _ _ _ _ _ _ _ _ s.0 s.1 c.if-w-lt-MARK.false _ c.next_place-k.ensures _ _ c.mark-at.auto.work c.mark-at.ensures.0 c.mark-at.ensures.1 _ _ c.visit-2.ensures
