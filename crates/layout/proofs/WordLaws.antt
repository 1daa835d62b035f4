-- The sort of a word, from the tests of the word and back. Assumes nothing.
use Prim.Native.Nat.{ℕ, ◌^◌, ◌≤◌, ◌<◌}
use mathlib.Core.Path.{◌≡◌, refl}
use mathlib.Core.Bool.{Bool, true, false, cond, ◌&&◌, ◌||◌, or-true}
use native.Mathlib.Omega.{arith}
use lib.Dec.{leb}
use borrow.Author.Tests.{le-leb, lt-leb, lt-ltb, leb-true, ltb-true, ne_eqb}
use Rattle.layout.specs.Limits.{object_max}
use Rattle.layout.specs.Word.{is_nil, is_pointer, is_immediate, legal_word, sort_of}
use Rattle.layout.proofs.BoolLaws.{or_split, and_split}
use Rattle.layout.proofs.LimitLaws.{within-true, above_within}
use Rattle.layout.specs.declared.words.Word.{Word}
use Rattle.layout.specs.declared.words.Word.TheVariants.{Nil, Object, Immediate, Illegal}

pub pointer-bound : (n w : ℕ) → is_pointer n w ≡ true → w ≤ n
unfolding is_pointer
pointer-bound n w e = (within-true 1 n w e).1

pub immediate-bounds : (w : ℕ) → is_immediate w ≡ true → (2 ^ 31 ≤ w) × (w < 2 ^ 32)
unfolding is_immediate
immediate-bounds w e = let b = and_split _ _ e in (leb-true (2 ^ 31) w b.0, ltb-true w (2 ^ 32) b.1)

pub is-immediate : (w : ℕ) → 2 ^ 31 ≤ w → w < 2 ^ 32 → is_immediate w ≡ true
unfolding is_immediate
is-immediate w l h = rw (le-leb (2 ^ 31) w l, lt-ltb w (2 ^ 32) h) refl

pub not-immediate : (w : ℕ) → w < 2 ^ 31 → is_immediate w ≡ false
unfolding is_immediate
not-immediate w h = rw (lt-leb (2 ^ 31) w h) refl

-- ---- the four sorts, in a heap of n ≤ 4,095 objects

module _ (n w : ℕ) (h : n ≤ object_max) where
  pub sort-nil : is_nil w ≡ true → sort_of n w ≡ Nil
  unfolding sort_of
  sort-nil e = rw e refl

  pub sort-pointer : is_pointer n w ≡ true → sort_of n w ≡ Object w
  unfolding sort_of is_nil is_pointer
  sort-pointer e =
      let b = within-true 1 n w e in
      let z = b.0 in
      let k = b.1 in
      rw (ne_eqb w 0 (λ q. omega arith), e, le-leb w object_max (omega arith)) refl

  pub sort-immediate : is_immediate w ≡ true → sort_of n w ≡ Immediate
  unfolding sort_of is_nil is_pointer
  sort-immediate e =
      let b = (immediate-bounds w e).0 in
      rw (ne_eqb w 0 (λ q. omega arith), above_within 1 n w (omega arith), e) refl

  pub sort-illegal : legal_word n w ≡ false → sort_of n w ≡ Illegal
  unfolding sort_of legal_word
  sort-illegal e =
      let s = or_split (is_nil w || is_pointer n w) (is_immediate w) e in
      let t = or_split (is_nil w) (is_pointer n w) s.0 in
      rw (t.0, t.1, s.1) refl

  pub pointer-not-immediate : is_pointer n w ≡ true → is_immediate w ≡ false
  pointer-not-immediate e = let b = pointer-bound n w e in not-immediate w (omega arith)

  pub pointer-legal : is_pointer n w ≡ true → legal_word n w ≡ true
  unfolding legal_word
  pointer-legal e = rw (e, or-true (is_nil w)) refl

-- ---- back: what an answered sort says

-- what each sort says of the word
unfoldable pub Says : ℕ → ℕ → Word → Type 0
Says n w Nil = (is_nil w ≡ true)
Says n w (Object i) = (i ≡ w) × (is_pointer n w ≡ true)
Says n w Immediate = (is_immediate w ≡ true)
Says n w Illegal = (legal_word n w ≡ false)

pub sort-says : (n w : ℕ) → n ≤ object_max → Says n w (sort_of n w)
unfolding Says sort_of legal_word
sort-says n w h = go (is_nil w) (is_pointer n w) (is_immediate w) refl refl refl (λ e. le-leb w object_max (below e))
  where
    below : is_pointer n w ≡ true → w ≤ object_max
    below e = let b = pointer-bound n w e in omega arith

    go : (a b c : Bool) → is_nil w ≡ a → is_pointer n w ≡ b → is_immediate w ≡ c → (b ≡ true → leb w object_max ≡ true)
        → Says n w (cond a Nil (cond (b && leb w object_max) (Object w) (cond c Immediate Illegal)))
    go true b c p q r m = p
    go false true c p q r m = rw (m refl) (refl, q)
    go false false true p q r m = r
    go false false false p q r m = rw (p, q, r) refl
