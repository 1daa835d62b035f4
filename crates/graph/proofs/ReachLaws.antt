-- Laws of what paths of pointers lead to, and of the starts of the walks.
-- Assumes nothing.
use Prim.Native.Nat.{ℕ, ◌≤◌}
use mathlib.Core.Bool.{Bool, true, false, cond}
use mathlib.Core.List.{List, [], ◌∷◌, Memᴰ}
use native.Mathlib.Omega.{arith}
use lib.Dec.{eqb}
use lib.ListN.{length}
use Rattle.graph.specs.Numbers.{Obj}
use Rattle.graph.specs.Heap.{Heap, pointers, Reach, start, along}
use Rattle.graph.proofs.MemberLaws.{pointer_word, pointer-nonzero}

-- ---- reachability

-- what holds of the starts and goes over along pointers holds of all that is reachable
pub reach-all : (next : ℕ → List ℕ) (from : List ℕ) (P : ℕ → Type 0) → ((x : ℕ) → Memᴰ x from → P x)
    → ((x y : ℕ) → P x → Memᴰ y (next x) → P y) → {x : ℕ} → Reach next from x → P x
reach-all next from P h k (start {x} m) = h x m
reach-all next from P h k (along {x} {y} r m) = k x y (reach-all next from P h k r) m

-- from more starts, and along more pointers, at least as much is reachable
pub reach-mono : (next next' : ℕ → List ℕ) (from from' : List ℕ) → ((x : ℕ) → Memᴰ x from → Memᴰ x from')
    → ((x y : ℕ) → Memᴰ y (next x) → Memᴰ y (next' x)) → {x : ℕ} → Reach next from x → Reach next' from' x
reach-mono next next' from from' h k r =
    reach-all next from (λ x. Reach next' from' x) (λ x m. start (h x m)) (λ x y q m. along q (k x y m)) r

-- what is reachable from starts that are themselves reachable
pub reach-again : (next : ℕ → List ℕ) (from from' : List ℕ) → ((x : ℕ) → Memᴰ x from → Reach next from' x)
    → {x : ℕ} → Reach next from x → Reach next from' x
reach-again next from from' h r = reach-all next from (λ x. Reach next from' x) h (λ x y q m. along q m) r

-- from more starts at least as much is reachable
pub reach-more : (next : ℕ → List ℕ) (from from' : List ℕ) → ((x : ℕ) → Memᴰ x from → Memᴰ x from')
    → {x : ℕ} → Reach next from x → Reach next from' x
reach-more next from from' h r = reach-again next from from' (λ x m. start (h x m)) r

-- ---- where the walks begin

pub length-pointers : (l : List ℕ) → length (pointers l) ≤ length l
unfolding pointers
length-pointers [] = omega arith
length-pointers (w ∷ l) = go (eqb w 0) (length-pointers l)
  where
    go : (b : Bool) → length (pointers l) ≤ length l → length (cond b (pointers l) (w ∷ pointers l)) ≤ length (w ∷ l)
    go true r = omega arith
    go false r = omega arith

-- starts that are objects or 0 are in range
pub starts-ranged : (H : Heap) (from : List ℕ) → ((x : ℕ) → Memᴰ x from → x ≤ H.n) → (x : ℕ) → Memᴰ x (pointers from) → Obj H.n x
starts-ranged H from h x m = (omega (arith, pointer-nonzero from x m), h x (pointer_word from x m))
