-- When out pointers, out bits and sizes stay the same.
-- Assumes nothing.
use Prim.Native.Nat.{ℕ, ◌+◌}
use mathlib.Core.Path.{◌≡◌, refl, sym, ap, ap₂, ◌∙◌}
use mathlib.Core.Bool.{Bool, true, false, not, ◌&&◌}
use mathlib.Core.List.{List, [], ◌∷◌, Memᴰ}
use mathlib.Core.Logic.{◌≢◌}
use native.Mathlib.Decide.{ℕ_discrete}
use lib.Dec.{ltb, eqb}
use borrow.Author.Tests.{eq-eqb, ne_eqb}
use Rattle.graph.specs.Numbers.{bit}
use Rattle.graph.specs.Clusters.{keep, leaves, out_count, out_bit}
use Rattle.graph.proofs.Paths.{keep-in, keep_out, keep-was}

pub eqb-iff : (a b c d : ℕ) → (a ≡ b → c ≡ d) → (c ≡ d → a ≡ b) → eqb a b ≡ eqb c d
eqb-iff a b c d f g = go (ℕ_discrete a b)
  where
    go : Dec (a ≡ b) → eqb a b ≡ eqb c d
    go (yes e) = eq-eqb a b e ∙ sym (eq-eqb c d (f e))
    go (no e) = ne_eqb a b e ∙ sym (ne_eqb c d (λ i. e (g i)))

pub out_count-ext : (sink sink' : ℕ → Bool) (cl cl' : ℕ → ℕ) (c c' : ℕ)
    → ((y : ℕ) → leaves sink cl c y ≡ leaves sink' cl' c' y) → (l : List ℕ) → out_count sink cl c l ≡ out_count sink' cl' c' l
unfolding out_count
out_count-ext sink sink' cl cl' c c' h [] = refl
out_count-ext sink sink' cl cl' c c' h (y ∷ l) = ap₂ (λ b k. bit b + k) (h y) (out_count-ext sink sink' cl cl' c c' h l)

-- two ways to cluster that have the same members in c: a pointer leaves c in one if it does in the other
pub leaves-same : (sink : ℕ → Bool) (cl cl' : ℕ → ℕ) (c : ℕ) → ((y : ℕ) → eqb (cl y) c ≡ eqb (cl' y) c) → (y : ℕ)
    → leaves sink cl c y ≡ leaves sink cl' c y
unfolding leaves
leaves-same sink cl cl' c h y = ap (λ b. not (eqb y 0) && (not (sink y) && not b)) (h y)

pub out_count-same : (sink : ℕ → Bool) (cl cl' : ℕ → ℕ) (c : ℕ) → ((y : ℕ) → eqb (cl y) c ≡ eqb (cl' y) c) → (l : List ℕ)
    → out_count sink cl c l ≡ out_count sink cl' c l
out_count-same sink cl cl' c h l = out_count-ext sink sink cl cl' c c (leaves-same sink cl cl' c h) l

-- the out bit of x, by the members of its cluster and its own words
pub out_bit-same : (kids kids' : ℕ → List ℕ) (sink : ℕ → Bool) (cl cl' : ℕ → ℕ) (x : ℕ) → kids x ≡ kids' x → cl x ≡ cl' x
    → ((y : ℕ) → eqb (cl y) (cl x) ≡ eqb (cl' y) (cl x)) → out_bit kids sink cl x ≡ out_bit kids' sink cl' x
unfolding out_bit
out_bit-same kids kids' sink cl cl' x e f h =
    rw (← e, ← f) (ap (λ k. not (eqb (cl x) 0) && ltb 0 k) (out_count-same sink cl cl' (cl x) h (kids x)))

-- the same, where sinks and clusters are equal at the objects that x points at
pub out_bit-words : (kids kids' : ℕ → List ℕ) (sink sink' : ℕ → Bool) (cl cl' : ℕ → ℕ) (x : ℕ) → kids x ≡ kids' x → cl x ≡ cl' x
    → ((y : ℕ) → Memᴰ y (kids x) → y ≢ 0 → (sink y ≡ sink' y) × (cl y ≡ cl' y)) → out_bit kids sink cl x ≡ out_bit kids' sink' cl' x
unfolding out_bit out_count leaves
out_bit-words kids kids' sink sink' cl cl' x e f h = rw (← e, ← f) (ap (λ k. not (eqb (cl x) 0) && ltb 0 k) (counted (kids x) h))
  where
    one : (y : ℕ) → (y ≢ 0 → (sink y ≡ sink' y) × (cl y ≡ cl' y)) → Dec (y ≡ 0) → leaves sink cl (cl x) y ≡ leaves sink' cl' (cl x) y
    one y g (yes z) = rw (eq-eqb y 0 z) refl
    one y g (no nz) = rw ((g nz).0, (g nz).1) refl

    counted : (l : List ℕ) → ((y : ℕ) → Memᴰ y l → y ≢ 0 → (sink y ≡ sink' y) × (cl y ≡ cl' y))
        → out_count sink cl (cl x) l ≡ out_count sink' cl' (cl x) l
    counted [] g = refl
    counted (y ∷ l) g =
        ap₂ (λ b k. bit b + k) (one y (g y (Memᴰ.head refl)) (ℕ_discrete y 0)) (counted l (λ z m. g z (Memᴰ.tail m)))

pub out_bit-none : (kids : ℕ → List ℕ) (sink : ℕ → Bool) (cl : ℕ → ℕ) (x : ℕ) → cl x ≡ 0 → out_bit kids sink cl x ≡ false
unfolding out_bit
out_bit-none kids sink cl x e = rw e refl

-- a cluster that stays has the members that it had
pub keep-eqb : (q : ℕ → Bool) (cl : ℕ → ℕ) (c : ℕ) → c ≢ 0 → q c ≡ true → (y : ℕ) → eqb (cl y) c ≡ eqb (keep q cl y) c
keep-eqb q cl c p t y = eqb-iff (cl y) c (keep q cl y) c (λ e. keep-in q cl c y e t) (λ e. (keep-was q cl c y e p).0)

-- the out bits when clusters are dissolved: those of the members go, the others stay
pub out_bit-keep : (kids : ℕ → List ℕ) (sink : ℕ → Bool) (q : ℕ → Bool) (cl : ℕ → ℕ) (x : ℕ)
    → out_bit kids sink (keep q cl) x ≡ (q (cl x) && out_bit kids sink cl x)
out_bit-keep kids sink q cl x = go (q (cl x)) refl (ℕ_discrete (cl x) 0)
  where
    go : (b : Bool) → q (cl x) ≡ b → Dec (cl x ≡ 0) → out_bit kids sink (keep q cl) x ≡ (b && out_bit kids sink cl x)
    go false e d = out_bit-none kids sink (keep q cl) x (keep_out q cl (cl x) x refl e)
    go true e (yes i) = out_bit-none kids sink (keep q cl) x (keep-in q cl (cl x) x refl e ∙ i) ∙ sym (out_bit-none kids sink cl x i)
    go true e (no i) =
        sym (out_bit-same kids kids sink cl (keep q cl) x refl (sym (keep-in q cl (cl x) x refl e)) (keep-eqb q cl (cl x) i e))
