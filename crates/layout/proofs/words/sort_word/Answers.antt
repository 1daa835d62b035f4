-- `layout::words::sort_word` answers the sort: each arm rewrites the tests of the definition. Assumes nothing.
use borrow.Author.Tests.{le-leb, lt-leb, eq-eqb, ne_eqb}
use mathlib.Core.Path.{◌≡◌, refl}
use mathlib.Core.Logic.{◌≢◌}
use mathlib.Core.Bool.{and-false}
use Prim.Native.Nat.{ℕ, ◌≤◌, ◌<◌, ◌^◌}
use native.Mathlib.Omega.{arith}
use Rattle.layout.specs.Limits.{within}
use Rattle.layout.specs.Word.{sort_of, is_nil, is_pointer}
use Rattle.layout.specs.declared.words.Word.TheVariants.{Nil, Object, Immediate, Illegal}
use Rattle.layout.proofs.WordLaws.{is-immediate, not-immediate}
use Rattle.layout.proofs.words.sort_word.Goals as goal

nil : (n w : ℕ) → w ≡ 0 → Nil ≡ sort_of n w
unfolding sort_of is_nil
nil n w z = rw (eq-eqb w 0 z) refl

module _ (n w : ℕ) (z : w ≢ 0) where
  object : w ≤ n → w < 4096 → Object w ≡ sort_of n w
  unfolding sort_of is_nil is_pointer within
  object l k = rw (ne_eqb w 0 z, le-leb 1 w (omega arith), le-leb w n l, le-leb w 4095 (omega arith)) refl

  above : n < w → w < 4096 → Illegal ≡ sort_of n w
  unfolding sort_of is_nil is_pointer within
  above l k = rw (ne_eqb w 0 z, le-leb 1 w (omega arith), lt-leb w n l, not-immediate w (omega arith)) refl

  gap : 4096 ≤ w → w < 2 ^ 31 → Illegal ≡ sort_of n w
  unfolding sort_of is_nil
  gap l k = rw (ne_eqb w 0 z, lt-leb w 4095 l, and-false, not-immediate w k) refl

  immediate : 2 ^ 31 ≤ w → w < 2 ^ 32 → Immediate ≡ sort_of n w
  unfolding sort_of is_nil
  immediate l h = rw (ne_eqb w 0 z, lt-leb w 4095 (omega arith), and-false, is-immediate w l h) refl

pub returns-in-0 : goal.returns-in-0
returns-in-0 c = nil _ _ c.in-0.is

pub returns-then-w-n : goal.returns-then-w-n
returns-then-w-n c = let a = c.args in object a.n a.w c.in-1-to-4095.in_default-own.rest.1 (omega arith) (omega arith)

pub returns-else-w-n : goal.returns-else-w-n
returns-else-w-n c = let a = c.args in above a.n a.w c.in-1-to-4095.in_default-own.rest.1 (omega arith) (omega arith)

pub returns-in-4096-to-2147483647 : goal.returns-in-4096-to-2147483647
returns-in-4096-to-2147483647 c = let a = c.args in gap a.n a.w c.in-4096-to-2147483647.in_default-own.rest.1 (omega arith) (omega arith)

pub returns-in_default : goal.returns-in_default
returns-in_default c = let a = c.args in immediate a.n a.w c.in_default.in_default-own.rest.1 (omega arith) (omega arith)
