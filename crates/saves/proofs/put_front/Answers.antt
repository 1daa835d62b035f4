-- `saves::put_front` stores the length and the kind. Assumes nothing.
use Prim.Native.Nat.{◌+◌}
use native.Mathlib.Omega.{arith}
use Rattle.endian.specs.Bytes.{bytes}
use Rattle.endian.proofs.BytesLaws.{length-bytes}
use Rattle.saves.proofs.SaveLaws.{sets-join}
use Rattle.saves.proofs.put_front.Goals as goal

pub returns : goal.returns
returns c =
    let a = c.args in
    cc (sets-join (bytes 4 a.len) (bytes 2 a.kind) a.image.now a.at (a.at + 4) (omega (arith, length-bytes 4 a.len)))
