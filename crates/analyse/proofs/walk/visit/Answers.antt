-- `visit` meets its contract. Assumes nothing.
use mathlib.Core.Path.{refl}
use native.Mathlib.Omega.{arith}
use Rattle.analyse.proofs.VisitLaws.{object-fits, passed-fits, skip-none, skip-seen, older-set, mark-may, older-may, visit-older, placed-room, visit-placed}
use Rattle.analyse.proofs.walk.visit.Goals as goal

pub returns-then-o-eq0 : goal.returns-then-o-eq0
returns-then-o-eq0 c = skip-none _ _ _ _ _ _ _ _ _ _ c.requires c.if-o-eq0.true

pub word_of-s-requires : goal.word_of-s-requires
word_of-s-requires c = let x = c.requires in (omega (arith, c.if-o-eq0.false), object-fits _ _ _ _ _ _ _ _ _ _ x, omega (arith, x.ground.sized.work-long))

pub returns-then-s-ge4096 : goal.returns-then-s-ge4096
returns-then-s-ge4096 c = skip-seen _ _ _ _ _ _ _ _ _ _ c.requires _ c.word_of-s.ensures c.if-s-ge4096.true

pub bounds-heap-s : goal.bounds-heap-s
bounds-heap-s c = older-set _ _ _ _ _ _ _ _ _ _ c.requires c.if-o-eq0.false _ c.word_of-s.ensures c.if-s-ge4096.false c.if-s-ne0.true

pub mark-at-requires : goal.mark-at-requires
mark-at-requires c = mark-may _ _ _ _ _ _ _ _ _ _ c.requires c.if-o-eq0.false _ c.word_of-s.ensures c.if-s-ge4096.false c.if-s-ne0.true

pub older-requires : goal.older-requires
older-requires c =
    let t =
    older-may _ _ _ _ _ _ _ _ _ _ c.requires c.if-o-eq0.false _ c.word_of-s.ensures c.if-s-ge4096.false c.if-s-ne0.true _ refl _ _ c.mark-at.auto.work c.mark-at.ensures.0 c.mark-at.ensures.1 in
    record { sized = t.0; le_d = t.1.0; chained = t.1.1 }

pub returns-then-s-ne0 : goal.returns-then-s-ne0
returns-then-s-ne0 c =
    visit-older _ _ _ _ _ _ _ _ _ _ c.requires c.if-o-eq0.false _ c.word_of-s.ensures c.if-s-ge4096.false c.if-s-ne0.true _ refl _ _ c.mark-at.auto.work c.mark-at.ensures.0 c.mark-at.ensures.1 _ _ c.older.auto.work c.older.ensures.0 c.older.ensures.1

pub place-requires : goal.place-requires
place-requires c =
    let x = c.requires in
    record {
      sized = x.ground.sized;
      le_o = (omega (arith, c.if-o-eq0.false), object-fits _ _ _ _ _ _ _ _ _ _ x, passed-fits _ _ _ _ _ _ _ _ _ _ x, x.inside, placed-room _ _ _ _ _ _ _ _ _ _ x c.if-o-eq0.false _ c.word_of-s.ensures c.if-s-ge4096.false c.if-s-ne0.false);
      by_index = x.ground.small;
    }

pub returns : goal.returns
returns c =
    visit-placed _ _ _ _ _ _ _ _ _ _ c.requires c.if-o-eq0.false _ c.word_of-s.ensures c.if-s-ge4096.false c.if-s-ne0.false _ _ c.place.auto.work c.place.ensures.0 c.place.ensures.1
