-- `saves::put_roots` stores the chunk of the roots. Assumes nothing.
use mathlib.Core.Path.{refl}
use native.Mathlib.Omega.{arith}
use Prim.Native.Nat.{◌+◌, ◌*◌}
use lib.ListN.{take}
use Rattle.endian.specs.Bytes.{word_bytes}
use Rattle.saves.proofs.SaveLaws.{chunk-put, roots-length}
use Rattle.saves.proofs.put_roots.Goals as goal

pub returns : goal.returns
returns c =
    let a = c.args in
    let k = roots-length a.r a.roots.now c.requires.1 in
    cc (chunk-put 3 (word_bytes (take a.r a.roots.now)) a.image.now a.at (a.at + 6) (a.at + 6 + 4 * a.r) (4 * a.r) refl (omega arith) (omega arith) (omega (arith, c.requires.2)))
