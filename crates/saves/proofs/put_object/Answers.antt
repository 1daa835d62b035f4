-- `saves::put_object` stores an object that is in use, and answers the place after it. Assumes nothing.
use Prim.Native.Nat.{ℕ, ◌+◌, ◌-◌, ◌*◌}
use mathlib.Core.Path.{◌≡◌, refl, sym}
use lib.ListN.{length-take}
use native.Mathlib.Omega.{arith}
use Rattle.saves.proofs.SaveLaws.{object-free, object-used, len-used}
use Rattle.saves.proofs.put_object.Goals as goal

pub returns-then-not-in_use : goal.returns-then-not-in_use
returns-then-not-in_use c = object-free _ _ _ _ _ (sym c.if-not-in_use.ensures)

pub put_word-requires : goal.put_word-requires
put_word-requires c = let k = len-used c.args.r (sym c.if-not-in_use.ensures) in omega arith

pub put_words-requires : goal.put_words-requires
put_words-requires c = let k = len-used c.args.r (sym c.if-not-in_use.ensures) in omega (arith, length-take {A = ℕ})

pub returns : goal.returns
returns c =
    let i = c.args.i in
    let w = c.width_of-w.result in
    let e : 8 * i + w - 8 * i ≡ w = omega arith in
    let s = rw e at c.put_words.ensures in
    object-used _ _ _ c.requires.narrow c.requires.slots-long (sym c.if-not-in_use.ensures) _ _ c.width_of-w.ensures
    (rw c.is_sink.ensures at c.head_word.ensures) _ _ _ _ (cc s) refl
