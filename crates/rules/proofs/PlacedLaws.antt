-- A new sink in the first empty place of a list. Assumes nothing.
use Prim.Native.Nat.{ℕ, zero, suc, ◌≤◌, ◌<◌}
use mathlib.Core.Path.{◌≡◌, refl, sym, ap, ◌∙◌}
use mathlib.Core.Bool.{Bool, true, false, cond, ◌||◌, false≢true}
use mathlib.Core.List.{List, [], ◌∷◌, ◌++◌, Memᴰ}
use mathlib.Core.Logic.{◌≢◌, ◌⊎◌, inl, inr}
use native.Mathlib.Omega.{arith}
use lib.Dec.{eqb}
use lib.ListN.{length, get_or, set, take, drop, take-append-drop}
use lib.Seq.{take-append_seam, length-take-le, length_front, get_or-take, set-append_left}
use borrow.Author.Tests.{eqb-true, eqb-false}
use Rattle.graph.specs.Numbers.{has}
use Rattle.graph.specs.Writes.{placed}
use Rattle.graph.proofs.SinkLaws.{placed-from, placed_at, length-placed}
use Rattle.rules.specs.WellFormed.{once}
use Rattle.rules.proofs.ListedLaws.{has-not, once_more, once-rest, once-other}

-- a number that was not there is there once
pub once-placed : (o : ℕ) (l : List ℕ) → (Memᴰ o l → ⊥) → once l ≡ true → once (placed o l) ≡ true
unfolding placed
once-placed o [] h e = e
once-placed o (y ∷ l) h e = go (eqb y 0) (once-placed o l (λ m. h (Memᴰ.tail m)) (once-rest y l e))
  where
    apart : y ≢ 0 → (y ≡ o) ⊎ Memᴰ y l → ⊥
    apart nz (inl q) = h (Memᴰ.head (sym q))
    apart nz (inr m) = has-not y l (once-other y l e nz) m

    go : (b : Bool) → once (placed o l) ≡ true → once (cond b (o ∷ l) (y ∷ placed o l)) ≡ true
    go true r = once_more o l (λ nz m. h (Memᴰ.tail m)) (once-rest y l e)
    go false r = once_more y (placed o l) (λ nz m. apart nz (placed-from o l y m)) r

-- the first empty place of a list
pub record Vacancy (l : List ℕ) : Type 0 where
  pub place : ℕ
  pub inside : place < length l
  pub vacant : get_or l place 0 ≡ 0
  pub before : (j : ℕ) → j < place → get_or l j 0 ≢ 0

pub vacancy : (l : List ℕ) → has 0 l ≡ true → Vacancy l
unfolding has
vacancy [] e = absurd (false≢true e)
vacancy (y ∷ l) e = go (eqb 0 y) refl e (λ r. vacancy l r)
  where
    later : y ≢ 0 → (p : ℕ) → ((j : ℕ) → j < p → get_or l j 0 ≢ 0) → (j : ℕ) → j < suc p → get_or (y ∷ l) j 0 ≢ 0
    later nz p f zero q = nz
    later nz p f (suc j) q = f j (omega arith)

    go : (b : Bool) → eqb 0 y ≡ b → (b || has 0 l) ≡ true → (has 0 l ≡ true → Vacancy l) → Vacancy (y ∷ l)
    go true f g r = record { place = 0; inside = omega arith; vacant = sym (eqb-true 0 y f); before = λ j p. absurd (omega arith) }
    go false f g r =
        let v = r g in
        let i = v.inside in
        record { place = suc v.place; inside = omega arith; vacant = v.vacant; before = later (λ z. eqb-false 0 y f (sym z)) v.place v.before }

-- in the first k words of a slice
module _ (o k : ℕ) (list : List ℕ) (long : k ≤ length list) where
  pub take-placed : take k (placed o (take k list) ++ drop k list) ≡ placed o (take k list)
  take-placed =
      ap (λ (m : ℕ). take m (placed o (take k list) ++ drop k list)) (sym (length-placed o (take k list) ∙ length-take-le k list long))
      ∙ take-append_seam (placed o (take k list)) (drop k list)

  pub placed-long : length (placed o (take k list) ++ drop k list) ≡ length list
  placed-long = length_front list (placed o (take k list)) k (length-placed o (take k list))

  pub placed-set : (v : Vacancy (take k list)) → placed o (take k list) ++ drop k list ≡ set list v.place o
  placed-set v =
      ap (λ (l : List ℕ). l ++ drop k list) (placed_at o (take k list) v.place v.inside v.vacant v.before)
      ∙ sym (set-append_left (take k list) (drop k list) v.place o v.inside)
      ∙ ap (λ (l : List ℕ). set l v.place o) (take-append-drop k list)

  -- the same place of the whole slice
  pub vacancy-in : (v : Vacancy (take k list)) → (v.place < k) × (get_or list v.place 0 ≡ 0) × ((j : ℕ) → j < v.place → get_or list j 0 ≢ 0)
  vacancy-in v =
      let p : v.place < k = let a = v.inside in let b = length-take-le k list long in omega arith in
      (p, sym (get_or-take k list v.place 0 p) ∙ v.vacant, λ j q e. v.before j q (get_or-take k list j 0 (omega arith) ∙ e))
