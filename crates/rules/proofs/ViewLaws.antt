-- What holds of the heap that any buffers hold.
-- Assumes nothing.
use Prim.Native.Nat.{ℕ, zero, suc, ◌≤◌}
use mathlib.Core.Path.{◌≡◌, refl, sym, ap₂, ◌∙◌}
use mathlib.Core.Bool.{Bool, true, false, cond, ◌||◌}
use mathlib.Core.List.{List, [], ◌∷◌, map, Memᴰ}
use mathlib.Core.Logic.{◌≢◌}
use native.Mathlib.Omega.{arith}
use lib.Dec.{eqb, leb}
use lib.ListN.{length, get_or, take, length-take, length-map}
use borrow.Author.Tests.{leb-true, leb-false, ne_eqb}
use Rattle.layout.specs.Limits.{width_max}
use Rattle.layout.specs.Field.{field}
use Rattle.records.specs.Record.{width}
use Rattle.graph.specs.Numbers.{has}
use Rattle.graph.proofs.TraceSafe.{Ranged, words-ranged}
use Rattle.rules.specs.Buffers.{rec_of, eight, used_words}
use Rattle.graph.specs.Invariant.{Heads, Listed, Ready}
use Rattle.rules.specs.View.{target, view, heap_in}
use Rattle.rules.proofs.BoolLaws.{cond_same}
use Rattle.rules.proofs.ListLaws.{rec_of-above, rec_of-range, map_of, eight-most}

-- ---- words as pointers

pub target-low : (n w : ℕ) → target n w ≤ n
unfolding target
target-low n w = go (leb w n) refl
  where
    go : (b : Bool) → leb w n ≡ b → cond b w 0 ≤ n
    go true e = leb-true w n e
    go false e = omega arith

-- a target that is not 0 is the word
pub target-word : (n w : ℕ) → target n w ≢ 0 → target n w ≡ w
unfolding target
target-word n w = go (leb w n)
  where
    go : (b : Bool) → cond b w 0 ≢ 0 → cond b w 0 ≡ w
    go true z = refl
    go false z = absurd (z refl)

pub targets-low : (n : ℕ) (l : List ℕ) (y : ℕ) → Memᴰ y (map (target n) l) → y ≤ n
targets-low n l y m = let a = map_of (target n) l y m in rw a.2 (target-low n a.0)

-- the word of a slot, as a pointer
pub get-target : (n : ℕ) (l : List ℕ) (k : ℕ) → get_or (map (target n) l) k 0 ≡ target n (get_or l k 0)
unfolding target
get-target n [] k = sym (cond_same (leb 0 n) 0)
get-target n (x ∷ l) zero = refl
get-target n (x ∷ l) (suc k) = get-target n l k

-- an object is among the words exactly if it is among their targets
pub has-targets : (n x : ℕ) (l : List ℕ) → 1 ≤ x → x ≤ n → has x (map (target n) l) ≡ has x l
unfolding has target
has-targets n x [] p q = refl
has-targets n x (y ∷ l) p q = ap₂ (λ (a b : Bool). a || b) (go (leb y n) refl) (has-targets n x l p q)
  where
    go : (b : Bool) → leb y n ≡ b → eqb x (cond b y 0) ≡ eqb x y
    go true e = refl
    go false e = let h = leb-false y n e in ne_eqb x 0 (λ z. omega arith) ∙ sym (ne_eqb x y (λ z. omega arith))

-- the record that a word points at, or of no object
pub rec-target : (n : ℕ) (recs : List ℕ) (w : ℕ) → rec_of n recs (target n w) ≡ rec_of n recs w
unfolding target rec_of
rec-target n recs w = go (leb w n) refl
  where
    go : (b : Bool) → leb w n ≡ b → rec_of n recs (cond b w 0) ≡ rec_of n recs w
    go true e = refl
    go false e = sym (rec_of-above n recs w (leb-false w n e))

-- ---- the heap

module _ (n : ℕ) (recs slots : List ℕ) where
  pub view-closed : (x y : ℕ) → Memᴰ y ((view n recs slots).kids x) → y ≤ n
  unfolding view
  view-closed x y m = targets-low n (used_words n recs slots x) y m

  -- an object has at most eight words
  pub view-kids : (x : ℕ) → length ((view n recs slots).kids x) ≤ width_max
  unfolding view used_words
  view-kids x =
      let a = length-map (take (width (rec_of n recs x)) (eight slots x)) (target n) in
      let b = length-take (width (rec_of n recs x)) (eight slots x) in
      let c = eight-most slots x in
      omega arith

  -- a member has a record, and is an object
  pub view-used : (x : ℕ) → (view n recs slots).cluster x ≢ 0 → rec_of n recs x ≢ 0
  unfolding view field
  view-used x p e = p (rw e refl)

  pub view-range : (x : ℕ) → (view n recs slots).cluster x ≢ 0 → (1 ≤ x) × (x ≤ n)
  view-range x p = rec_of-range n recs x (view-used x p)

  -- with a list whose sinks are objects in no cluster it is what the walks need
  module _ (list : List ℕ) (listed : Listed (heap_in n recs slots list)) where
    pub view-ranged : Ranged (heap_in n recs slots list)
    unfolding view
    view-ranged = words-ranged (heap_in n recs slots list) view-closed listed

    pub view-ready : Heads (view n recs slots).cluster → Ready (heap_in n recs slots list)
    unfolding view field rec_of
    view-ready h = record { heads = h; zero-none = refl; closed = view-closed; range = λ x p. (view-range x p).1; listed_in = listed }
