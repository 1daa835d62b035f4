-- What pointers and roots name: objects in use.
-- Assumes nothing.
use Prim.Native.Nat.{ℕ, ◌≤◌}
use mathlib.Core.Path.{◌≡◌, refl, sym, ap, ◌∙◌}
use mathlib.Core.Bool.{Bool, true, false, cond, ◌||◌, false≢true}
use mathlib.Core.List.{Memᴰ}
use mathlib.Core.Logic.{◌≢◌, ◌⊎◌, inl, inr}
use native.Mathlib.Omega.{arith}
use lib.Dec.{leb, eqb}
use borrow.Author.Tests.{leb-true, eqb-true}
use Rattle.layout.specs.Field.{field, flag}
use Rattle.layout.specs.Word.{is_nil, is_immediate}
use Rattle.layout.proofs.WordLaws.{immediate-bounds}
use Rattle.rules.specs.View.{view, target}
use Rattle.rules.specs.WellFormed.{names}
use Rattle.rules.specs.Steps.{State}
use Rattle.rules.specs.Demands.{heap_of, words_of, record_in, roots_of}
use Rattle.rules.proofs.BoolLaws.{or_cases, and_split}
use Rattle.rules.proofs.ListLaws.{map_of}
use Rattle.rules.proofs.Invariant.{Inv, SlotWord}
use Rattle.rules.proofs.Simulation.{pointer-facts}

-- ---- in a heap with the invariant

module _ (s : State) (I : Inv s) where
  -- in use: its record is not 0
  abbrev pub Used : ℕ → Type 0
  Used y = record_in s y ≢ 0

  pub named-used : (w : ℕ) → names s.control.n s.records w ≡ true → (1 ≤ w) × (w ≤ s.control.n) × Used w
  unfolding names flag field
  named-used w e =
      let t = and_split _ _ e in
      let r = pointer-facts s.control.n w t.0 in
      (r.0, r.1, λ z. false≢true (sym (ap (λ (x : ℕ). flag 0 x) z) ∙ t.1))

  -- a isPointer of any object is 0 or names an object in use
  pub target-used : (w : ℕ) → SlotWord s.control.n s.records w → (target s.control.n w ≡ 0) ⊎ Used (target s.control.n w)
  unfolding is_nil target
  target-used w e = go (leb w s.control.n) refl
    where
      word : leb w s.control.n ≡ true → (a b c : Bool) → eqb w 0 ≡ a → is_immediate w ≡ b → names s.control.n s.records w ≡ c
          → (a || b || c) ≡ true → (w ≡ 0) ⊎ Used w
      word l true b c ea eb ec h = inl (eqb-true w 0 ea)
      word l false true c ea eb ec h = absurd (omega (arith, leb-true w s.control.n l, (immediate-bounds w eb).0, I.sound.sizes.most))
      word l false false true ea eb ec h = inr (named-used w ec).2
      word l false false false ea eb ec h = absurd (false≢true h)

      go : (b : Bool) → leb w s.control.n ≡ b → (cond b w 0 ≡ 0) ⊎ Used (cond b w 0)
      go true l = word l _ _ _ refl refl refl e
      go false l = inl refl

  pub kids-in-use : (x y : ℕ) → Memᴰ y ((heap_of s).kids x) → (y ≡ 0) ⊎ Used y
  unfolding view
  kids-in-use x y m =
      let a = map_of (target s.control.n) (words_of s x) y m in
      rw a.2 (target-used a.0 (I.named x a.0 a.1))

  pub roots-in-use : (y : ℕ) → Memᴰ y (roots_of s) → (y ≡ 0) ⊎ Used y
  unfolding is_nil
  roots-in-use y m = go (or_cases (eqb y 0) (names s.control.n s.records y) (I.rooted y m))
    where
      go : (eqb y 0 ≡ true) ⊎ (names s.control.n s.records y ≡ true) → (y ≡ 0) ⊎ Used y
      go (inl e) = inl (eqb-true y 0 e)
      go (inr e) = inr (named-used y e).2

  pub roots-low : (y : ℕ) → Memᴰ y (roots_of s) → y ≤ s.control.n
  unfolding is_nil
  roots-low y m = go (or_cases (eqb y 0) (names s.control.n s.records y) (I.rooted y m))
    where
      go : (eqb y 0 ≡ true) ⊎ (names s.control.n s.records y ≡ true) → y ≤ s.control.n
      go (inl e) = omega (arith, eqb-true y 0 e)
      go (inr e) = (named-used y e).1
