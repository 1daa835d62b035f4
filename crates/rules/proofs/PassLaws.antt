-- A pass over a buffer, one word after the other: what is left of it after some words, so that one law serves every loop that rewrites words.
-- Assumes nothing.
use Prim.Native.Nat.{ℕ, zero, suc, ◌+◌, ◌≤◌, ◌<◌}
use mathlib.Core.Path.{◌≡◌, refl, sym, ap, ap₂, ◌∙◌}
use mathlib.Core.List.{List, [], ◌∷◌, ◌++◌, append_assoc}
use native.Mathlib.Omega.{arith}
use lib.ListN.{length, get_or, take, drop, set, take-append-drop, drop_of_length-le}
use lib.Seq.{drop-cons, take-suc-set, drop-set-lt, set-get_or}
use Rattle.rules.specs.Buffers.{each_from}
use Rattle.rules.proofs.ListLaws.{each_nil}

-- the words before place i as they are, the next k each rewritten: the word at place j is number base + j
unfoldable pub pass_from : {A : Type 0} → ℕ → ℕ → ℕ → (ℕ → A → A) → List A → List A
pass_from base i k f l = take i l ++ each_from (base + i) k f (drop i l)

-- before the first word it is the whole pass
pub pass-begin : {A : Type 0} (base k : ℕ) (f : ℕ → A → A) (l : List A) → pass_from base 0 k f l ≡ each_from base k f l
unfolding pass_from
pass-begin base k f l = let e : base + 0 ≡ base = omega arith in ap (λ (b : ℕ). each_from b k f l) e

-- with no word left nothing is left to do
pub pass-end : {A : Type 0} (base i : ℕ) (f : ℕ → A → A) (l : List A) → pass_from base i 0 f l ≡ l
unfolding pass_from each_from
pass-end base i f l = take-append-drop i l

-- past the end of the list too
pub pass-past : {A : Type 0} (base i k : ℕ) (f : ℕ → A → A) (l : List A) → length l ≤ i → pass_from base i k f l ≡ l
unfolding pass_from each_from
pass-past {A = A} base i k f l p = ap (λ (m : List A). take i l ++ m) (ap (each_from (base + i) k f) none ∙ each_nil (base + i) k f ∙ sym none) ∙ take-append-drop i l
  where
    none : drop i l ≡ []
    none = drop_of_length-le l {i = i} p

-- rewriting the word at i leaves the rest of the pass
pub pass-turn : {A : Type 0} (base i k : ℕ) (f : ℕ → A → A) (l : List A) (d : A) → i < length l
    → pass_from base (suc i) k f (set l i (f (base + i) (get_or l i d))) ≡ pass_from base i (suc k) f l
unfolding pass_from each_from
pass-turn base i k f l d p =
    let e : base + suc i ≡ suc (base + i) = omega arith in
    let v = f (base + i) (get_or l i d) in
    ap₂ (λ a b. a ++ b) (take-suc-set l i v p) (ap₂ (λ (x : ℕ) m. each_from x k f m) e (drop-set-lt (suc i) l i v (omega arith)))
    ∙ append_assoc (take i l) (v ∷ []) (each_from (suc (base + i)) k f (drop (suc i) l))
    ∙ ap (λ m. take i l ++ each_from (base + i) (suc k) f m) (sym (drop-cons l i d p))

-- a word that the pass leaves as it is
pub pass-skip : {A : Type 0} (base i k : ℕ) (f : ℕ → A → A) (l : List A) (d : A) → i < length l → f (base + i) (get_or l i d) ≡ get_or l i d
    → pass_from base (suc i) k f l ≡ pass_from base i (suc k) f l
pass-skip base i k f l d p e =
    ap (pass_from base (suc i) k f) (sym (set-get_or l i d) ∙ ap (set l i) (sym e)) ∙ pass-turn base i k f l d p

-- ---- what a pass leaves at each place

pub get-past : {A : Type 0} (i k : ℕ) (f : ℕ → A → A) (l : List A) (j : ℕ) (d : A) → k ≤ j → get_or (each_from i k f l) j d ≡ get_or l j d
unfolding each_from
get-past i zero f l j d p = refl
get-past i (suc k) f [] j d p = refl
get-past i (suc k) f (w ∷ l) zero d p = absurd (omega arith)
get-past i (suc k) f (w ∷ l) (suc j) d p = get-past (suc i) k f l j d (omega arith)
