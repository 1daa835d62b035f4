-- `sweep::freed::freed_word` makes the word from its highest bit down. Assumes nothing.
use Prim.Native.Nat.{◌+◌, ◌-◌, ◌*◌}
use mathlib.Core.Path.{◌≡◌, refl}
use Rattle.bitmap.specs.Bits.{bits_of, word_of}
use Rattle.graph.proofs.NumberLaws.{bit_le}
use Rattle.sweep.specs.Sweep.{freed_at}
use Rattle.sweep.proofs.FreedLaws.{bits-room, bits-down}
use native.Mathlib.Omega.{arith}
use Rattle.sweep.proofs.freed.freed_word.Goals as goal

pub loop-b-init : goal.loop-b-init
unfolding bits_of
loop-b-init c = (omega arith, refl)

pub overflow_mul-word : goal.overflow_mul-word
overflow_mul-word c = omega (arith, bits-room (freed_at c.args.n c.args.records.now) (64 * c.args.j) c.loop-b.b c.loop-b.word c.loop-b-test.true c.loop-b.invariant.0 c.loop-b.invariant.1)

pub overflow_add-word : goal.overflow_add-word
overflow_add-word c =
    omega (arith, bits-room (freed_at c.args.n c.args.records.now) (64 * c.args.j) c.loop-b.b c.loop-b.word c.loop-b-test.true c.loop-b.invariant.0 c.loop-b.invariant.1, bit_le c.is_freed.result)

pub loop-b-preserved : goal.loop-b-preserved
loop-b-preserved c =
    let l = c.loop-b in
    let a = c.args in (
      omega arith,
      rw
          c.is_freed.ensures
          (bits-down (freed_at a.n a.records.now) (64 * a.j) l.b l.word c.loop-b-test.true l.invariant.0 l.invariant.1),
    )

pub returns : goal.returns
unfolding word_of
returns c =
    let l = c.loop-b in
    let j = c.args.j in
    let at : 64 * j + l.b ≡ 64 * j = omega arith in
    let all : 64 - l.b ≡ 64 = omega arith in
    rw (at, all) at l.invariant.1
