-- The bounds that `within` tests. Assumes nothing.
use Prim.Native.Nat.{ℕ, ◌≤◌, ◌<◌}
use mathlib.Core.Path.{◌≡◌, refl}
use mathlib.Core.Bool.{true, false, and-false}
use lib.Dec.{leb}
use borrow.Author.Tests.{le-leb, lt-leb, leb-true}
use Rattle.layout.specs.Limits.{within}
use Rattle.layout.proofs.BoolLaws.{and_split}

pub within-true : (a b x : ℕ) → within a b x ≡ true → (a ≤ x) × (x ≤ b)
unfolding within
within-true a b x e = let s = and_split (leb a x) (leb x b) e in (leb-true a x s.0, leb-true x b s.1)

pub in_within : (a b x : ℕ) → a ≤ x → x ≤ b → within a b x ≡ true
unfolding within
in_within a b x l k = rw (le-leb a x l, le-leb x b k) refl

pub below-within : (a b x : ℕ) → x < a → within a b x ≡ false
unfolding within
below-within a b x l = rw (lt-leb a x l) refl

pub above_within : (a b x : ℕ) → b < x → within a b x ≡ false
unfolding within
above_within a b x l = rw (lt-leb x b l) (and-false (leb a x))
