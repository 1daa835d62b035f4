-- Rounds: from a list of numbers to those that they point at, again and again.
use Rattle.std.specs.Prelude.{ℕ, zero, suc, Bool, false, ◌||◌, List, [], ◌∷◌}
use Rattle.graph.specs.Numbers.{has, gather}

-- whether one of the list passes
unfoldable pub any_of : (ℕ → Bool) → List ℕ → Bool
any_of t [] = false
any_of t (y ∷ l) = t y || any_of t l

-- the numbers from 1 to n in the list, and those that one in the list points at
unfoldable pub round : ℕ → (ℕ → List ℕ) → List ℕ → List ℕ
round n words l = gather n (λ x. has x l || any_of (λ y. has x (words y)) l) (λ x. x ∷ [])

-- k rounds
unfoldable pub rounds : ℕ → (ℕ → List ℕ) → ℕ → List ℕ → List ℕ
rounds n words zero l = l
rounds n words (suc k) l = rounds n words k (round n words l)
