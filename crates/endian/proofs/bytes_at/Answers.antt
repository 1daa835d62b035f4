-- `endian::bytes_at` reads bytes, 0 for those past the end. Assumes nothing.
use mathlib.Core.Path.{ap, ◌∙◌}
use Prim.Native.Nat.{◌-◌}
use native.Mathlib.Omega.{arith}
use lib.ListN.{length, drop, take, length-drop}
use lib.Seq.{take_all}
use Rattle.endian.specs.Bytes.{number, number_at}
use Rattle.endian.proofs.bytes_at.Goals as goal

pub returns-in-Some : goal.returns-in-Some
unfolding number_at
returns-in-Some g c =
    let b = c.args.b.now in
    let i = c.args.i in
    let h = rw c.unwrap.ensures at c.first_chunk.ensures.cases in
    ap number (h.same ∙ ap (take g.row.K) (take_all (length b - i) (drop i b) (omega (arith, length-drop i b))))
