-- The places of the listed numbers, and the sets that are made by them.
-- Assumes nothing.
use Prim.Native.Nat.{ℕ, zero, suc, ◌+◌, ◌-◌, ◌≤◌, ◌<◌}
use mathlib.Core.Path.{◌≡◌, refl, sym, ap, ◌∙◌}
use mathlib.Core.Bool.{true, false, false≢true}
use mathlib.Core.List.{List, [], ◌∷◌}
use mathlib.Core.Logic.{◌≢◌, ◌⊎◌, inl, inr}
use native.Mathlib.Numerals.{add-one}
use native.Mathlib.Omega.{arith}
use lib.Dec.{eqb}
use lib.ListN.{length, get_or, drop, set, length-set, drop_of_length-le}
use lib.Seq.{drop-cons, set_out, get_or-set_same, get_or-set_other}
use borrow.Author.Tests.{eqb-true, eqb-false}
use Rattle.graph.specs.Numbers.{has}
use Rattle.rules.specs.Buffers.{rec_of}
use Rattle.rules.specs.WellFormed.{once}
use Rattle.rules.proofs.BoolLaws.{or_split, or_cases}
use Rattle.rules.proofs.BufferLaws.{rec_of-get}
use Rattle.rules.proofs.ListedLaws.{once-rest, once-other}
use Rattle.places.specs.Places.{placed}
use Rattle.places.proofs.SeenLaws.{all_to-same, all_to-front}
use Rattle.std.specs.List.{list_all}
use lib.Pointwise.{pointwise}
use mathlib.Core.Path.{ap₂}
use mathlib.Core.Bool.{Bool, ◌&&◌}
use lib.ListN.{take}
use Rattle.rules.specs.Buffers.{all_to}

-- ---- words that are 0, and two lists of words

-- each of the first n words
pub words-all : (n : ℕ) (p : ℕ → Bool) (l : List ℕ) → n ≤ length l → list_all p (take n l) ≡ all_to n (λ h. p (rec_of n l h))
words-all n p l b = go n l b ∙ all_to-same n (λ h. p (get_or l (h - 1) 0)) (λ h. p (rec_of n l h)) (λ x q r. ap p (sym (rec_of-get n l x q r)))
  where
    go : (k : ℕ) (m : List ℕ) → k ≤ length m → list_all p (take k m) ≡ all_to k (λ h. p (get_or m (h - 1) 0))
    go zero m q = unfold all_to in refl
    go (suc k) [] q = absurd (omega arith)
    go (suc k) (w ∷ m) q =
        ap (λ (c : Bool). p w && c) (go k m (omega arith) ∙ all_to-same k (λ h. p (get_or m (h - 1) 0)) (λ h. p (get_or (w ∷ m) (suc h - 1) 0)) (λ x r s. ap p (next x r)))
        ∙ sym (all_to-front k (λ h. p (get_or (w ∷ m) (h - 1) 0)))
      where
        next : (x : ℕ) → 1 ≤ x → get_or m (x - 1) 0 ≡ get_or (w ∷ m) (suc x - 1) 0
        next zero r = absurd (omega arith)
        next (suc y) r = let z : suc y - 1 ≡ y = omega arith in let t : suc (suc y) - 1 ≡ suc y = omega arith in rw (z, t) refl

-- each of the first n words of two lists
pub words-both : (n : ℕ) (p : ℕ → ℕ → Bool) (a b : List ℕ) → n ≤ length a → n ≤ length b
    → pointwise p (take n a) (take n b) ≡ all_to n (λ h. p (rec_of n a h) (rec_of n b h))
words-both n p a b q r =
    go n a b q r
    ∙ all_to-same n (λ h. p (get_or a (h - 1) 0) (get_or b (h - 1) 0)) (λ h. p (rec_of n a h) (rec_of n b h))
    (λ x s t. ap₂ p (sym (rec_of-get n a x s t)) (sym (rec_of-get n b x s t)))
  where
    next : (w : ℕ) (m : List ℕ) (x : ℕ) → 1 ≤ x → get_or m (x - 1) 0 ≡ get_or (w ∷ m) (suc x - 1) 0
    next w m zero r = absurd (omega arith)
    next w m (suc y) r = let z : suc y - 1 ≡ y = omega arith in let t : suc (suc y) - 1 ≡ suc y = omega arith in rw (z, t) refl

    go : (k : ℕ) (l m : List ℕ) → k ≤ length l → k ≤ length m → pointwise p (take k l) (take k m) ≡ all_to k (λ h. p (get_or l (h - 1) 0) (get_or m (h - 1) 0))
    go zero l m s t = unfold all_to in refl
    go (suc k) [] m s t = absurd (omega arith)
    go (suc k) (v ∷ l) [] s t = absurd (omega arith)
    go (suc k) (v ∷ l) (w ∷ m) s t =
        ap (λ (c : Bool). p v w && c)
        (go k l m (omega arith) (omega arith)
        ∙ all_to-same k (λ h. p (get_or l (h - 1) 0) (get_or m (h - 1) 0)) (λ h. p (get_or (v ∷ l) (suc h - 1) 0) (get_or (w ∷ m) (suc h - 1) 0))
        (λ x c d. ap₂ p (next v l x c) (next w m x c)))
        ∙ sym (all_to-front k (λ h. p (get_or (v ∷ l) (h - 1) 0) (get_or (w ∷ m) (h - 1) 0)))

-- ---- the places filled

module _ (list : List ℕ) where
  -- those from k on
  abbrev pub left : ℕ → List ℕ → List ℕ
  left k place = placed k (drop k list) place

  pub left_end : (k : ℕ) (place : List ℕ) → length list ≤ k → left k place ≡ place
  unfolding placed
  left_end k place p = rw (drop_of_length-le list {i = k} p) refl

  module _ (k : ℕ) (place : List ℕ) (inside : k < length list) where
    pub left-put : left (k + 1) (set place (get_or list k 0) (k + 1)) ≡ left k place
    unfolding placed
    left-put =
        ap (λ (j : ℕ). placed j (drop j list) (set place (get_or list k 0) j)) (add-one k)
        ∙ sym (ap (λ (l : List ℕ). placed k l place) (drop-cons list k 0 inside))

    pub left_out : length place ≤ get_or list k 0 → left (k + 1) place ≡ left k place
    left_out l = ap (left (k + 1)) (sym (set_out place (get_or list k 0) (k + 1) l)) ∙ left-put

-- ---- what they say

-- a number that is not in the list keeps what it had
pub placed-other : (l : List ℕ) (k : ℕ) (place : List ℕ) (w : ℕ) → has w l ≡ false → get_or (placed k l place) w 0 ≡ get_or place w 0
unfolding placed has
placed-other [] k place w h = refl
placed-other (y ∷ l) k place w h =
    let s = or_split (eqb w y) (has w l) h in
    placed-other l (suc k) (set place y (suc k)) w s.1 ∙ get_or-set_other place y w (suc k) 0 (eqb-false w y s.0)

-- one that is in it once gets its place
pub placed_at : (l : List ℕ) (k : ℕ) (place : List ℕ) (w j : ℕ) → w ≢ 0 → w < length place → once l ≡ true → j < length l → get_or l j 0 ≡ w
    → get_or (placed k l place) w 0 ≡ suc (k + j)
unfolding placed
placed_at [] k place w j nz p o q e = absurd (omega arith)
placed_at (y ∷ l) k place w zero nz p o q e =
    placed-other l (suc k) (set place y (suc k)) w (rw e at (once-other y l o (λ z. nz (sym e ∙ z))))
    ∙ rw (sym e) (get_or-set_same place y (suc k) 0 (rw (sym e) at p)) ∙ here
  where
    here : suc k ≡ suc (k + 0)
    here = omega arith
placed_at (y ∷ l) k place w (suc j) nz p o q e =
    placed_at l (suc k) (set place y (suc k)) w j nz (rw (length-set place y (suc k)) p) (once-rest y l o) (omega arith) e ∙ there
  where
    there : suc (suc k + j) ≡ suc (k + suc j)
    there = omega arith

pub has-index : (w : ℕ) (l : List ℕ) → has w l ≡ true → (j : ℕ) × (j < length l) × (get_or l j 0 ≡ w)
unfolding has
has-index w [] e = absurd (false≢true e)
has-index w (y ∷ l) e = go (or_cases (eqb w y) (has w l) e) (has-index w l)
  where
    go : (eqb w y ≡ true) ⊎ (has w l ≡ true) → (has w l ≡ true → (j : ℕ) × (j < length l) × (get_or l j 0 ≡ w))
        → (j : ℕ) × (j < length (y ∷ l)) × (get_or (y ∷ l) j 0 ≡ w)
    go (inl q) r = (0, omega arith, sym (eqb-true w y q))
    go (inr q) r = let s = r q in (suc s.0, omega (arith, s.1), s.2)

pub length-placed : (l : List ℕ) (k : ℕ) (place : List ℕ) → length (placed k l place) ≡ length place
unfolding placed
length-placed [] k place = refl
length-placed (y ∷ l) k place = length-placed l (suc k) (set place y (suc k)) ∙ length-set place y (suc k)
