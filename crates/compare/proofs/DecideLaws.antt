-- Tests that decide as their definitions do.
-- Assumes nothing.
use Prim.Native.Nat.{ℕ, zero, suc, ◌+◌, ◌-◌, ◌≤◌, ◌<◌}
use mathlib.Core.Path.{◌≡◌, refl, sym, ap}
use mathlib.Core.Bool.{Bool, true, false, cond, ◌&&◌, and-false}
use mathlib.Core.List.{List}
use native.Mathlib.Omega.{arith}
use native.Mathlib.Numerals.{add-one}
use lib.Dec.{eqb, leb}
use lib.ListN.{length, get_or, set, take, length-set, length-take}
use Rattle.std.proofs.Common.{Some, None, nat_lt, ◌==◌}
use Rattle.std.specs.List.{position_or_len, list_all, range_with_len}
use lib.Seq.{set_out}
use borrow.Author.Tests.{le-leb, lt-leb, ltb-true}
use Rattle.bitmap.specs.Bits.{holds}
use Rattle.compare.specs.Answers.{same_list, part, same_part}
use Rattle.compare.specs.Survivors.{every}
use Rattle.compare.specs.Hands.{nowhere, freed, word_of, keep_one, keep_freed, found}

-- ---- answers

module _ (x y : List ℕ) (start other n : ℕ) where
  pub short-first : length x < start + n → false ≡ same_part x y start other n
  unfolding same_part
  short-first h = rw (lt-leb (start + n) (length x) h) refl

  pub short-second : length y < other + n → false ≡ same_part x y start other n
  unfolding same_part
  short-second h = rw (lt-leb (other + n) (length y) h) (sym (and-false (leb (start + n) (length x))))

  pub both_long : start + n ≤ length x → other + n ≤ length y → same_list (part start n x) (part other n y) ≡ same_part x y start other n
  unfolding same_part
  both_long h g = rw (le-leb (start + n) (length x) h, le-leb (other + n) (length y) g) refl

-- ---- what is left of n steps

module _ (i n : ℕ) where
  more : i < n → n - i ≡ suc (n - (i + 1))
  more h = omega arith

  over : n ≤ i → n - i ≡ 0
  over h = omega arith

-- ---- survivors

-- the numbers of a range, asked one by one
pub every-range : (p : ℕ → Bool) (k a : ℕ) → list_all p (range_with_len a k) ≡ every p a k
unfolding every
every-range p zero a = refl
every-range p (suc k) a = ap (λ b. p a && b) (rw add-one (every-range p k (suc a)))

-- ---- what changed hands

pub found_below : (x : ℕ) (l : List ℕ) (i : ℕ) → found x l ≡ Some i → i < nowhere
unfolding found
found_below x l i e = go (position_or_len (λ w. w == x) (take nowhere l)) (nat_lt (position_or_len (λ w. w == x) (take nowhere l)) (length (take nowhere l))) refl e
  where
    go : (k : ℕ) (t : Bool) → nat_lt k (length (take nowhere l)) ≡ t → cond t (Some k) None ≡ Some i → i < nowhere
    go k true h f =
        let e : k ≡ i = cc in
        omega (arith, ltb-true k _ h, length-take nowhere l)
    go k false h f = cc

module _ (left : Bool) (map : List ℕ) (i : ℕ) (h : List ℕ) where
  pub keep_step : (n : ℕ) → i < n → keep_freed left map (i + 1) (n - (i + 1)) (keep_one left map i h) ≡ keep_freed left map i (n - i) h
  unfolding keep_freed
  keep_step n g = rw (more i n g, add-one i) refl

  pub keep_end : (n : ℕ) → n ≤ i → keep_freed left map i (n - i) h ≡ h
  unfolding keep_freed
  keep_end n g = rw (over i n g) refl

  pub keep_length : length (keep_one left map i h) ≡ length h
  unfolding keep_one
  keep_length = go (holds i map && eqb (get_or h (word_of left i) 0) 0)
    where
      go : (t : Bool) → length (cond t (set h (word_of left i) freed) h) ≡ length h
      go true = simp length-set
      go false = refl

pub ruleset keeps = (keep_step, keep_end, keep_length)

pub ruleset stores = (set_out)
