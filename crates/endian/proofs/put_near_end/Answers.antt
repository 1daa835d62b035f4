-- `endian::put_near_end` stores the bytes that have a place. Invariant: the bytes that are left, stored, give what was to be stored. Assumes nothing.
use mathlib.Core.Path.{◌≡◌, refl, sym, ap, ap₂, ◌∙◌}
use native.Mathlib.Numerals.{add-one}
use native.Mathlib.Omega.{arith}
use Prim.Native.Nat.{◌+◌}
use lib.ListN.{drop, drop_of_length-le}
use lib.Seq.{sets}
use Rattle.std.proofs.lemmas.List.{drop_more}
use Rattle.endian.proofs.put_near_end.Goals as goal

pub loop-k-preserved : goal.loop-k-preserved
loop-k-preserved g c =
    let l = c.loop-k in
    let v = c.args.value in
    ap₂ (λ m j. sets m j (drop (l.k + 1) v)) c.set_byte.ensures (add-one l.k)
    ∙ sym (ap (sets l.out l.k) (drop_more v l.k 0 (omega (arith, c.loop-k-test.true)))) ∙ l.invariant

pub returns : goal.returns
returns g c =
    let l = c.loop-k in
    sym (ap (sets l.out l.k) (drop_of_length-le c.args.value (omega (arith, c.loop-k-test.false)))) ∙ l.invariant
