-- The number that a list of tests answers. Assumes nothing.
use Prim.Native.Nat.{ℕ, zero, suc, ◌<◌}
use mathlib.Core.Path.{◌≡◌, refl, ap, ◌∙◌}
use mathlib.Core.Bool.{Bool, true, false, cond}
use mathlib.Core.List.{List, [], ◌∷◌, ◌++◌}
use mathlib.Core.Logic.{◌≢◌}
use native.Mathlib.Omega.{arith}
use lib.Dec.{lit<}
use Rattle.layout.specs.declared.refusals.Refusal.{Refusal}
use Rattle.layout.specs.declared.refusals.Refusal.TheVariants.{BadSizes, TooShort, TooWide, NoObject, NoSlot, BadWord, NoRoot, BadControl, Damaged, IsFree, NamesNone, Full, LossFull, ImageCut, BadImage, UnknownKind, SinksFull, BadTuning}
use Rattle.layout.specs.Refusal.{Test, number, first, by, outcome}

-- no refusal has the number 0
pub number-above : (e : Refusal) → 0 < number e
number-above BadSizes = lit< tt
number-above TooShort = lit< tt
number-above TooWide = lit< tt
number-above NoObject = lit< tt
number-above NoSlot = lit< tt
number-above BadWord = lit< tt
number-above NoRoot = lit< tt
number-above BadControl = lit< tt
number-above Damaged = lit< tt
number-above IsFree = lit< tt
number-above NamesNone = lit< tt
number-above Full = lit< tt
number-above LossFull = lit< tt
number-above ImageCut = lit< tt
number-above BadImage = lit< tt
number-above UnknownKind = lit< tt
number-above SinksFull = lit< tt
number-above BadTuning = lit< tt

pub numbered : (e : Refusal) → number e ≢ 0
numbered e z = let h = number-above e in omega arith

-- none of the tests holds
pub data None : List Test → Type 0 where
  nil : None []
  cons : {t : Test} {l : List Test} → t.1 ≡ false → None l → None (t ∷ l)

-- every number is above 0
pub data Numbered : List Test → Type 0 where
  nil : Numbered []
  cons : {t : Test} {l : List Test} → 0 < t.0 → Numbered l → Numbered (t ∷ l)

-- one test
module _ (k : ℕ) (l : List Test) where
  pub first_holds : (b : Bool) → b ≡ true → first ((k, b) ∷ l) ≡ k
  unfolding first
  first_holds b e = rw e refl

  pub first-fails : (b : Bool) → b ≡ false → first ((k, b) ∷ l) ≡ first l
  unfolding first
  first-fails b e = rw e refl

-- 0 is answered: the first test fails, and the others answer 0
pub first-passed : (k : ℕ) (b : Bool) (l : List Test) → first ((suc k, b) ∷ l) ≡ 0 → (b ≡ false) × (first l ≡ 0)
unfolding first
first-passed k true l e = absurd (omega arith)
first-passed k false l e = (refl, e)

-- one of the first tests holds: no other counts
pub first-front : (a l : List Test) → first a ≢ 0 → first (a ++ l) ≡ first a
unfolding first
first-front [] l h = absurd (h refl)
first-front (t ∷ a) l h = go t.1 h (first-front a l)
  where
    go : (b : Bool) → cond b t.0 (first a) ≢ 0 → (first a ≢ 0 → first (a ++ l) ≡ first a) → cond b t.0 (first (a ++ l)) ≡ cond b t.0 (first a)
    go true h r = refl
    go false h r = r h

-- none of the first tests holds: the others decide
pub first-skip : (a l : List Test) → None a → first (a ++ l) ≡ first l
unfolding first
first-skip [] l h = refl
first-skip (t ∷ a) l (cons e h) = rw e (first-skip a l h)

-- and back: with numbers above 0, 0 is answered only where no test holds
pub first-zero : (l : List Test) → Numbered l → first l ≡ 0 → None l
unfolding first
first-zero [] h e = nil
first-zero (t ∷ l) (cons p h) e = go t.1 refl e (first-zero l h)
  where
    go : (b : Bool) → t.1 ≡ b → cond b t.0 (first l) ≡ 0 → (first l ≡ 0 → None l) → None (t ∷ l)
    go true q z ih = absurd (omega arith)
    go false q z ih = cons q (ih z)

-- ---- outcomes

module _ {A : Type 0} (accepted : A) (refused : ℕ → A) where
  pub by_zero : (k : ℕ) → k ≡ 0 → by k accepted refused ≡ accepted
  unfolding by
  by_zero k e = rw e refl

  pub by_number : (k : ℕ) → k ≢ 0 → by k accepted refused ≡ refused k
  unfolding by
  by_number zero h = absurd (h refl)
  by_number (suc k) h = refl

  -- by the number that the tests answer
  pub outcome-zero : (l : List Test) → first l ≡ 0 → outcome l accepted refused ≡ accepted
  unfolding outcome
  outcome-zero l e = by_zero (first l) e

  pub outcome-number : (l : List Test) (k : ℕ) → first l ≡ k → k ≢ 0 → outcome l accepted refused ≡ refused k
  unfolding outcome
  outcome-number l k e d = ap (λ (m : ℕ). by m accepted refused) e ∙ by_number k d
