-- `saves::put_objects` stores the chunk of the objects. Assumes nothing.
use mathlib.Core.Path.{refl}
use native.Mathlib.Omega.{arith}
use Prim.Native.Nat.{◌+◌}
use Rattle.saves.specs.Saves.{objects_to}
use Rattle.saves.proofs.SaveLaws.{chunk-put, to-length}
use Rattle.saves.proofs.put_objects.Goals as goal

pub returns : goal.returns
returns c =
    let a = c.args in
    let body = objects_to a.n a.records.now a.slots.now a.n in
    let k = to-length a.n a.records.now a.slots.now c.requires.0 a.n (omega arith) in
    cc (chunk-put 2 body a.image.now a.at (a.at + 6) (a.at + 6 + a.len) a.len refl (omega (arith, c.requires.1)) (omega (arith, c.requires.1)) (omega (arith, c.requires.2)))
