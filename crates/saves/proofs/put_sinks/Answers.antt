-- `saves::put_sinks` stores the chunk of the sinks, if there are any. Assumes nothing.
use mathlib.Core.Path.{refl, sym, ◌∙◌}
use native.Mathlib.Omega.{arith}
use Prim.Native.Nat.{◌+◌, ◌*◌}
use lib.ListN.{take}
use Rattle.endian.specs.Bytes.{bytes_of}
use Rattle.endian.proofs.BytesLaws.{length-numbers}
use Rattle.graph.specs.Heap.{pointers}
use Rattle.saves.proofs.SaveLaws.{chunk-none, chunk-some, chunk-put, count_most, len-some}
use Rattle.saves.proofs.put_sinks.Goals as goal

pub returns-then-k-eq0 : goal.returns-then-k-eq0
returns-then-k-eq0 c = rw (chunk-none _ (sym c.requires.1 ∙ c.if-k-eq0.true)) refl

pub overflow_mul-k : goal.overflow_mul-k
overflow_mul-k c = omega (arith, count_most c.args.sinks.now 64, c.requires.1)

pub put_front-requires : goal.put_front-requires
put_front-requires c = omega (arith, len-some _ c.if-k-eq0.false, c.requires.2)

pub slice_bounds-write_sinks-end : goal.slice_bounds-write_sinks-end
slice_bounds-write_sinks-end c = omega (arith, len-some _ c.if-k-eq0.false, c.requires.2, c.put_front.auto.image)

pub returns : goal.returns
returns c =
    let a = c.args in
    let l = pointers (take 64 a.sinks.now) in
    let n = length-numbers 2 l in
    let d = c.if-k-eq0.false in
    rw (chunk-some l (λ e. d (c.requires.1 ∙ e)))
    (cc (chunk-put 0x8001 (bytes_of 2 l) a.image.now a.at (a.at + 6) (a.at + 6 + 2 * a.k) (2 * a.k) refl (omega (arith, c.requires.1)) (omega (arith, c.requires.1)) (omega (arith, c.requires.2, len-some a.k d))))
