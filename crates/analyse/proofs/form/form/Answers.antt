-- `form` meets its contract. Assumes nothing.
use mathlib.Core.List.{[]}
use native.Mathlib.Omega.{arith}
use Rattle.analyse.proofs.PartLaws.{links-filled}
use Rattle.analyse.proofs.StartLaws.{prepared}
use Rattle.analyse.proofs.form.form.Goals as goal

pub put_states-requires : goal.put_states-requires
put_states-requires c =
    let z = c.requires.0.sized in
    let l = links-filled _ _ _ _ z.room.most z.room.recs-long z.work-long c.link.auto.work c.link.ensures in
    (z.room.recs-long, omega (arith, l.long, z.work-long), z.room.most)

pub from_roots-requires : goal.from_roots-requires
from_roots-requires c =
    let s = c.requires in
    let z = s.0.sized in
    let l = links-filled _ _ _ _ z.room.most z.room.recs-long z.work-long c.link.auto.work c.link.ensures in
    ((prepared _ _ _ _ _ _ _ _ _ _ s.0 l c.put_states.ensures).walked.walking, s.1, s.0.fit)

pub returns : goal.returns
returns c =
    let s = c.requires in
    let z = s.0.sized in
    let l = links-filled _ _ _ _ z.room.most z.room.recs-long z.work-long c.link.auto.work c.link.ensures in
    c.from_roots.ensures.after [] (prepared _ _ _ _ _ _ _ _ _ _ s.0 l c.put_states.ensures)
