-- What a collection needs of clusters: if the head is reached, so is each member; and a pointer that leaves a cluster is one of an out member's.
-- Assumes nothing.
use Prim.Native.Nat.{ℕ, ◌<◌}
use mathlib.Core.Path.{◌≡◌, refl, sym, ap, ◌∙◌, subst}
use mathlib.Core.Bool.{Bool, true, false, cond, true≢false}
use mathlib.Core.List.{List, [], ◌∷◌, Memᴰ}
use mathlib.Core.Logic.{◌≢◌, ◌⊎◌, inl, inr}
use native.Mathlib.Decide.{ℕ_discrete}
use native.Mathlib.Omega.{arith}
use lib.Dec.{eqb}
use borrow.Author.Tests.{eqb-true, eqb-false, ne_eqb, lt-ltb}
use Rattle.graph.specs.Numbers.{Obj, gather}
use Rattle.graph.specs.Heap.{Heap, pointers, targets, Reach, along}
use Rattle.graph.specs.Clusters.{leaves, out_count, out_bit}
use Rattle.graph.specs.Invariant.{Path, here, step, Connected}
use Rattle.graph.proofs.NumberLaws.{gather-of}

-- ---- the pointers among the words

pub word-pointer : (l : List ℕ) (y : ℕ) → y ≢ 0 → Memᴰ y l → Memᴰ y (pointers l)
unfolding pointers
word-pointer [] y p x'' = elim x'' [ ]
word-pointer (w ∷ l) y p (Memᴰ.head e) = rw (ne_eqb w 0 (λ i. p (e ∙ i))) (Memᴰ.head e)
word-pointer (w ∷ l) y p (Memᴰ.tail m) = go (eqb w 0) (word-pointer l y p m)
  where
    go : (b : Bool) → Memᴰ y (pointers l) → Memᴰ y (cond b (pointers l) (w ∷ pointers l))
    go true r = r
    go false r = Memᴰ.tail r

pub pointer_word : (l : List ℕ) (y : ℕ) → Memᴰ y (pointers l) → Memᴰ y l
unfolding pointers
pointer_word [] y m = elim m [ ]
pointer_word (w ∷ l) y m = go (eqb w 0) (λ r. pointer_word l y r) m
  where
    go : (b : Bool) → (Memᴰ y (pointers l) → Memᴰ y l) → Memᴰ y (cond b (pointers l) (w ∷ pointers l)) → Memᴰ y (w ∷ l)
    go true f r = Memᴰ.tail (f r)
    go false f (Memᴰ.head e) = Memᴰ.head e
    go false f (Memᴰ.tail r) = Memᴰ.tail (f r)

pub pointer-nonzero : (l : List ℕ) (y : ℕ) → Memᴰ y (pointers l) → y ≢ 0
unfolding pointers
pointer-nonzero [] y m = elim m [ ]
pointer-nonzero (w ∷ l) y m = go (eqb w 0) refl (λ r. pointer-nonzero l y r) m
  where
    go : (b : Bool) → eqb w 0 ≡ b → (Memᴰ y (pointers l) → y ≢ 0) → Memᴰ y (cond b (pointers l) (w ∷ pointers l)) → y ≢ 0
    go true e f r = f r
    go false e f (Memᴰ.head i) = λ j. eqb-false w 0 e (sym i ∙ j)
    go false e f (Memᴰ.tail r) = f r

-- ---- members that are reached

-- a number that is gathered by its cluster is an object, and in it
pub member_of : (n : ℕ) (cl : ℕ → ℕ) (h y : ℕ) → Memᴰ y (gather n (λ z. eqb (cl z) h) (λ z. z ∷ [])) → Obj n y × (cl y ≡ h)
member_of n cl h y m =
    let g = gather-of n (λ z. eqb (cl z) h) y m in
    (g.0, eqb-true (cl y) h g.1)

pub reach-path : {kids next : ℕ → List ℕ} {P : ℕ → Type 0} {from : List ℕ} {h y : ℕ}
    → ((x z : ℕ) → P z → Memᴰ z (kids x) → Memᴰ z (next x)) → Reach next from h → Path kids P h y → Reach next from y
reach-path {next} {from} f r (here e p) = subst (Reach next from) (sym e) r
reach-path f r (step {x} {y = z} t m p) = along (reach-path f r t) (f x z p m)

-- if the head is reached, so is each member
pub reach-member : (H : Heap) (cl : ℕ → ℕ) (from : List ℕ) → Connected H.kids cl → cl 0 ≡ 0 → (y : ℕ) → cl y ≢ 0
    → Reach (targets H) from (cl y) → Reach (targets H) from y
unfolding Connected
reach-member H cl from h e y p r =
    reach-path (λ x z q m. word-pointer (H.kids x) z (λ i. p (sym q ∙ ap cl i ∙ e)) m) r (h y (cl y) refl p)

-- ---- pointers that leave

-- a pointer that leaves is counted
counted : (sink : ℕ → Bool) (cl : ℕ → ℕ) (c : ℕ) (l : List ℕ) (y : ℕ) → Memᴰ y l → leaves sink cl c y ≡ true → 0 < out_count sink cl c l
unfolding out_count
counted sink cl c [] y x'' t = elim x'' [ ]
counted sink cl c (x ∷ l) y (Memᴰ.head e) t = rw (← e, t) (omega arith)
counted sink cl c (x ∷ l) y (Memᴰ.tail m) t = let a = counted sink cl c l y m t in omega arith

-- so its object has the out bit
pub out-member : (kids : ℕ → List ℕ) (sink : ℕ → Bool) (cl : ℕ → ℕ) (x y : ℕ) → cl x ≢ 0 → Memᴰ y (kids x)
    → y ≢ 0 → sink y ≡ false → cl y ≢ cl x → out_bit kids sink cl x ≡ true
unfolding out_bit leaves
out-member kids sink cl x y p m q s r =
    rw (ne_eqb (cl x) 0 p)
    (lt-ltb 0 (out_count sink cl (cl x) (kids x))
    (counted sink cl (cl x) (kids x) y m (rw (ne_eqb y 0 q, s, ne_eqb (cl y) (cl x) r) refl)))

-- a member without the out bit points only at sinks and members
pub no-out : (kids : ℕ → List ℕ) (sink : ℕ → Bool) (cl : ℕ → ℕ) (x y : ℕ) → cl x ≢ 0 → out_bit kids sink cl x ≡ false → Memᴰ y (kids x)
    → y ≢ 0 → (sink y ≡ true) ⊎ (cl y ≡ cl x)
no-out kids sink cl x y p e m q = go (sink y) refl (ℕ_discrete (cl y) (cl x))
  where
    go : (b : Bool) → sink y ≡ b → Dec (cl y ≡ cl x) → (sink y ≡ true) ⊎ (cl y ≡ cl x)
    go true s d = inl s
    go false s (yes r) = inr r
    go false s (no r) = absurd (true≢false (sym (out-member kids sink cl x y p m q s r) ∙ e))
