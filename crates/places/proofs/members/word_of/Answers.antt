-- `places::members::word_of` makes the word from its highest bit down. Assumes nothing.
use native.Mathlib.Omega.{arith}
use Prim.Native.Nat.{ℕ, ◌+◌, ◌-◌, ◌*◌}
use mathlib.Core.Path.{◌≡◌, refl, sym, ap, ◌∙◌}
use mathlib.Core.Bool.{Bool, true, false, cond}
use mir.Val.{bool_byte}
use Rattle.bitmap.specs.Bits.{bits_of}
use Rattle.bitmap.proofs.BitLaws.{down-room, down_turn}
use Rattle.graph.proofs.NumberLaws.{bit_le}
use Rattle.places.specs.Places.{in_place}
use Rattle.places.proofs.members.word_of.Goals as goal

byte-is : (b : Bool) → bool_byte b ≡ cond b 1 0
byte-is true = refl
byte-is false = refl

pub loop-b-init : goal.loop-b-init
unfolding bits_of
loop-b-init c = (omega arith, refl)

pub overflow_mul-word : goal.overflow_mul-word
overflow_mul-word c = omega (arith, down-room (in_place c.args.sinks.now c.args.seen.now) 0 c.loop-b.b c.loop-b.word c.loop-b-test.true c.loop-b.invariant.0 c.loop-b.invariant.1)

pub overflow_add-word : goal.overflow_add-word
overflow_add-word c =
    omega (arith, down-room (in_place c.args.sinks.now c.args.seen.now) 0 c.loop-b.b c.loop-b.word c.loop-b-test.true c.loop-b.invariant.0 c.loop-b.invariant.1, bit_le c.in_place.result)

pub loop-b-preserved : goal.loop-b-preserved
loop-b-preserved c =
    let l = c.loop-b in
    let a = c.args in
    let z : 0 + (l.b - 1) ≡ l.b - 1 = omega arith in (
      omega arith,
      ap (λ (d : ℕ). l.word * 2 + d) (byte-is c.in_place.result ∙ ap (λ (b : Bool). cond b 1 0) (c.in_place.ensures ∙ ap (in_place a.sinks.now a.seen.now) (sym z)))
          ∙ down_turn (in_place a.sinks.now a.seen.now) 0 l.b l.word c.loop-b-test.true l.invariant.0 l.invariant.1,
    )

pub returns : goal.returns
returns c =
    let l = c.loop-b in
    let at : 0 + l.b ≡ 0 = omega arith in
    let all : 64 - l.b ≡ 64 = omega arith in
    rw (at, all) at l.invariant.1
