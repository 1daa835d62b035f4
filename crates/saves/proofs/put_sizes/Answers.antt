-- `saves::put_sizes` stores the chunk of the sizes. Assumes nothing.
use mathlib.Core.Path.{refl}
use native.Mathlib.Omega.{arith}
use Rattle.rules.specs.Image.{sizes_body}
use Rattle.saves.proofs.SaveLaws.{chunk-put, sizes-length}
use Rattle.saves.proofs.put_sizes.Goals as goal

pub returns : goal.returns
returns c =
    let a = c.args in
    let k = sizes-length a.c.n a.c.r a.c.last in
    cc (chunk-put 1 (sizes_body a.c.n a.c.r a.c.last) a.image.now 0 6 14 8 refl (omega arith) (omega arith) c.requires)
