-- The tests of a call are one list, in their order, each with its refusal number; the first that holds refuses.
use Rattle.std.specs.Prelude.{Bool, cond, List, [], ◌∷◌, ℕ, zero, suc, ◌≡◌, ◌<◌, Result, Ok, Err, MatchResult}
use mathlib.Core.Logic.{◌⊎◌}
use Rattle.layout.specs.declared.refusals.NoRefusal.{NoRefusal}
use Rattle.layout.specs.declared.refusals.Refusal.{Refusal}
use Rattle.layout.specs.declared.refusals.Refusal.TheVariants.{BadSizes, TooShort, TooWide, NoObject, NoSlot, BadWord, NoRoot, BadControl, Damaged, IsFree, NamesNone, Full, LossFull, ImageCut, BadImage, UnknownKind, SinksFull, BadTuning}

-- the number of each refusal ("Refusals")
abbrev pub number : Refusal → ℕ
number BadSizes = 1
number TooShort = 2
number TooWide = 3
number NoObject = 4
number NoSlot = 5
number BadWord = 6
number NoRoot = 7
number BadControl = 20
number Damaged = 21
number IsFree = 22
number NamesNone = 23
number Full = 24
number LossFull = 25
number ImageCut = 26
number BadImage = 27
number UnknownKind = 28
number SinksFull = 29
number BadTuning = 30

-- the refusal with a number, or that none has it: 1 to 7 and 20 to 30 are taken
abbrev pub Numbered : ℕ → Result Refusal NoRefusal → Type 0
Numbered k r = MatchResult r (λ e. number e ≡ k) (λ x. (x.0 ≡ k) × ((k < 1) ⊎ ((7 < k) × (k < 20)) ⊎ (30 < k)))

-- what a call that makes tests answers by number: 0 where they pass
abbrev pub refusal_of : {A : Type 0} → Result A Refusal → ℕ
refusal_of (Ok a) = 0
refusal_of (Err e) = number e

-- a number and whether its condition holds ("From the state")
abbrev pub Test : Type 0
Test = ℕ × Bool

-- the number of the first test that holds, 0 where none does
unfoldable pub first : List Test → ℕ
first [] = 0
first (t ∷ l) = cond t.1 t.0 (first l)

-- accepted by the number 0, else refused with the number
unfoldable pub by : {A : Type 0} → ℕ → A → (ℕ → A) → A
by zero accepted refused = accepted
by (suc k) accepted refused = refused (suc k)

-- what a call gives: the accepted outcome where no test holds, else the refused one with its number
unfoldable pub outcome : {A : Type 0} → List Test → A → (ℕ → A) → A
outcome tests accepted refused = by (first tests) accepted refused
