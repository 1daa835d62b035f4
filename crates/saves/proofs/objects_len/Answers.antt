-- `saves::objects_len` is the length of the objects' body. Invariant: the total so far is the length of the objects passed. Assumes nothing.
use Prim.Native.Nat.{ℕ, ◌<◌}
use mathlib.Core.Path.{◌≡◌, ap, ◌∙◌}
use lib.ListN.{get_or, take, length-take}
use lib.Seq.{get_or-take}
use Rattle.saves.specs.Saves.{objects_len, record_len}
use Rattle.saves.proofs.SaveLaws.{len-none, len-step, len-most, len-bound}
use native.Mathlib.Omega.{arith}
use Rattle.saves.proofs.objects_len.Goals as goal

pub loop-r-init : goal.loop-r-init
loop-r-init c = len-none _ _

pub overflow_add-total : goal.overflow_add-total
overflow_add-total c =
    let a = c.args in
    let l = c.loop-r in
    omega (arith, len-most a.n a.records.now l.r-index, len-bound (get_or (take a.n a.records.now) l.r-index 0), length-take {A = ℕ})

pub loop-r-preserved : goal.loop-r-preserved
loop-r-preserved c =
    let a = c.args in
    let l = c.loop-r in
    let p : l.r-index < a.n = omega (arith, length-take {A = ℕ}) in
    let s = len-step a.n a.records.now l.r-index p in
    let e = ap record_len (get_or-take a.n a.records.now l.r-index 0 p) in
    omega (arith, s, e)

pub returns : goal.returns
returns c =
    let a = c.args in
    let l = c.loop-r in
    let e : l.r-index ≡ a.n = omega (arith, length-take {A = ℕ}) in
    l.invariant ∙ ap (objects_len a.n a.records.now) e
