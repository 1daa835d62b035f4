-- Bytes read from the bytes behind a place, and from a part of the bytes.
-- Assumes nothing.
use Prim.Native.Nat.{ℕ, zero, suc, ◌+◌, ◌-◌, ◌≤◌, ◌<◌}
use mathlib.Core.Path.{◌≡◌, refl, sym, ap, ◌∙◌}
use mathlib.Core.List.{List, [], ◌∷◌}
use native.Mathlib.Nat.{add-zero}
use native.Mathlib.Omega.{arith}
use lib.ListN.{get_or, take, drop}
use lib.Seq.{drop-drop, take-take, get_or-take, get_or-drop}
use Rattle.endian.specs.Bytes.{number, number_at}

pub number-drop : (k i at : ℕ) (l : List ℕ) → number_at k i (drop at l) ≡ number_at k (at + i) l
unfolding number_at
number-drop k i at l = ap (λ (m : List ℕ). number (take k m)) (drop-drop i at l)

pub number-here : (k at : ℕ) (l : List ℕ) → number_at k 0 (drop at l) ≡ number_at k at l
number-here k at l = number-drop k 0 at l ∙ ap (λ (i : ℕ). number_at k i l) (add-zero at)

drop-take : (i m : ℕ) (l : List ℕ) → i ≤ m → drop i (take m l) ≡ take (m - i) (drop i l)
drop-take zero m l p = let e : m ≡ m - 0 = omega arith in ap (λ (j : ℕ). take j l) e
drop-take (suc i) zero l p = absurd (omega arith)
drop-take (suc i) (suc m) [] p = none (suc m - suc i)
  where
    none : (j : ℕ) → ◌≡◌ {A = List ℕ} [] (take j [])
    none zero = refl
    none (suc j) = refl
drop-take (suc i) (suc m) (x ∷ l) p =
    let e : suc m - suc i ≡ m - i = omega arith in
    drop-take i m l (omega arith) ∙ ap (λ (j : ℕ). take j (drop i l)) (sym e)

pub number-take : (k i m : ℕ) (l : List ℕ) → i + k ≤ m → number_at k i (take m l) ≡ number_at k i l
unfolding number_at
number-take k i m l p =
    ap (λ (r : List ℕ). number (take k r)) (drop-take i m l (omega arith)) ∙ ap number (take-take k (m - i) (drop i l) (omega arith))

-- k bytes of a part that starts at a place
pub number-part : (k i at m : ℕ) (l : List ℕ) → i + k ≤ m → number_at k i (take m (drop at l)) ≡ number_at k (at + i) l
number-part k i at m l p = number-take k i m (drop at l) p ∙ number-drop k i at l

-- of the four bytes at a place: the number in the first k, and byte k
pub here-part : (k at : ℕ) (l : List ℕ) → k ≤ 4 → number_at k 0 (take (at + 4 - at) (drop at l)) ≡ number_at k at l
here-part k at l p = number-part k 0 at (at + 4 - at) l (omega arith) ∙ ap (λ (i : ℕ). number_at k i l) (add-zero at)

pub byte-part : (k at : ℕ) (l : List ℕ) → k < 4 → get_or (take (at + 4 - at) (drop at l)) k 0 ≡ get_or l (at + k) 0
byte-part k at l p = get_or-take (at + 4 - at) (drop at l) k 0 (omega arith) ∙ get_or-drop at l k 0
