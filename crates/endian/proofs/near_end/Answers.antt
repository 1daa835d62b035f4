-- `endian::near_end` reads the bytes that are there. Invariant: the bytes so far, 0 for those past the end, and zeros. Assumes nothing.
use mathlib.Core.Path.{◌≡◌, refl, ap, ap₂, ◌∙◌}
use mathlib.Core.List.{◌++◌}
use Prim.Native.Nat.{◌-◌}
use native.Mathlib.Omega.{arith}
use lib.ListN.{set, drop, take, replicate}
use Rattle.endian.specs.Bytes.{number, number_at}
use Rattle.endian.proofs.BytesLaws.{rest-is, number-pad, pad-next, pad-number}
use Rattle.endian.proofs.near_end.Goals as goal

pub loop-k-preserved : goal.loop-k-preserved
loop-k-preserved g c =
    let l = c.loop-k in
    ap₂ (λ m b. set m l.k b) l.invariant c.byte_or_zero.ensures ∙ pad-next c.unwrap_or-rest.result.now l.k g.row.K c.loop-k-test.true

pub returns : goal.returns
unfolding number_at
returns g c =
    let a = c.args in
    let l = c.loop-k in
    let rest = c.unwrap_or-rest.result.now in
    let e : rest ≡ drop a.i a.b.now = ap (λ x. x.now) c.unwrap_or-rest.ensures ∙ rest-is c.get.result _ a.b.now a.i refl c.get.ensures.lookup in
    let k : l.k ≡ g.row.K = omega (arith, c.loop-k-test.false, l.auto.k-end) in
    ap number l.invariant ∙ number-pad (take l.k (rest ++ replicate g.row.K 0)) (g.row.K - l.k)
    ∙ ap (λ m. number (take m (rest ++ replicate g.row.K 0))) k ∙ pad-number g.row.K g.row.K rest ∙ ap (λ m. number (take g.row.K m)) e
