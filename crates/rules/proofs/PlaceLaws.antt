-- A buffer of one word for each object, as a function of the object: a store changes it at one object.
-- Assumes nothing.
use Prim.Native.Nat.{ℕ, zero, suc, ◌+◌, ◌-◌, ◌≤◌, ◌<◌}
use mathlib.Core.Path.{◌≡◌, refl, sym, ap, ◌∙◌}
use mathlib.Core.Bool.{Bool, true, false, cond}
use mathlib.Core.List.{List}
use native.Mathlib.Nat.{suc-ne-zero, suc_inj}
use native.Mathlib.Decide.{ℕ_discrete, dec_lt}
use native.Mathlib.Omega.{arith}
use lib.Dec.{eqb}
use lib.ListN.{length, get_or, take, drop, set}
use lib.Seq.{take-set-lt, get_or-set_same, get_or-set_other, length-take-le, ext_get_or, get_or-drop}
use Rattle.graph.specs.Numbers.{upd}
use Rattle.graph.proofs.NumberLaws.{upd_same, upd_other}
use Rattle.rules.specs.Buffers.{rec_of, each_from}
use Rattle.rules.proofs.ListLaws.{length-each, get-each}
use Rattle.rules.proofs.PassLaws.{get-past}
use Rattle.rules.proofs.BufferLaws.{rec_of-get}

pub upd-map {ℓ} : {A B : Type ℓ} (f : A → B) (g : ℕ → A) (o : ℕ) (v : A) (x : ℕ) → f (upd g o v x) ≡ upd (λ y. f (g y)) o (f v) x
unfolding upd
upd-map f g o v x = go (eqb x o)
  where
    go : (b : Bool) → f (cond b v (g x)) ≡ cond b (f v) (f (g x))
    go true = refl
    go false = refl

pub rec-put : (n : ℕ) (l : List ℕ) (o w : ℕ) → 1 ≤ o → o ≤ n → n ≤ length l → (x : ℕ) → rec_of n (set l (o - 1) w) x ≡ upd (rec_of n l) o w x
unfolding rec_of
rec-put n l zero w p q r x = absurd (omega arith)
rec-put n l (suc i) w p q r zero = sym (upd_other (rec_of n l) (suc i) 0 w (λ e. suc-ne-zero i (sym e)))
rec-put n l (suc i) w p q r (suc j) = let e : suc i - 1 ≡ i = omega arith in rw e (go (ℕ_discrete j i))
  where
    go : Dec (j ≡ i) → get_or (take n (set l i w)) j 0 ≡ upd (rec_of n l) (suc i) w (suc j)
    go (yes e) =
        rw (e, upd_same (rec_of n l) (suc i) w, take-set-lt n l i w (omega arith))
        (get_or-set_same (take n l) i w 0 (let a = length-take-le n l r in omega arith))
    go (no e) =
        rw (take-set-lt n l i w (omega arith), get_or-set_other (take n l) i j w 0 e)
        (sym (upd_other (rec_of n l) (suc i) (suc j) w (λ k. e (suc_inj k))))

-- only the first n words count
pub rec-take : (n : ℕ) (l m : List ℕ) → take n l ≡ take n m → (x : ℕ) → rec_of n l x ≡ rec_of n m x
unfolding rec_of
rec-take n l m e zero = refl
rec-take n l m e (suc i) = ap (λ (t : List ℕ). get_or t i 0) e

-- a buffer whose first n words are given by object, and whose others stay, is one pass
pub by-object : (n : ℕ) (f : ℕ → ℕ → ℕ) (l m : List ℕ) → length m ≡ length l → n ≤ length l → drop n m ≡ drop n l
    → ((x : ℕ) → 1 ≤ x → x ≤ n → rec_of n m x ≡ f x (rec_of n l x)) → m ≡ each_from 1 n f l
by-object n f l m e long rest h = ext_get_or 0 m (each_from 1 n f l) (e ∙ sym (length-each 1 n f l)) (λ i p. go i p (dec_lt i n))
  where
    go : (i : ℕ) → i < length m → Dec (i < n) → get_or m i 0 ≡ get_or (each_from 1 n f l) i 0
    go i p (yes q) =
        let s : suc i - 1 ≡ i = omega arith in
        rw s at (sym (rec_of-get n m (suc i) (omega arith) (omega arith)) ∙ h (suc i) (omega arith) (omega arith)
        ∙ ap (f (suc i)) (rec_of-get n l (suc i) (omega arith) (omega arith)))
        ∙ sym (get-each 1 n f l i 0 q (omega arith) ∙ ap (λ (y : ℕ). f y (get_or l i 0)) (omega arith))
    go i p (no q) =
        let s : n + (i - n) ≡ i = omega (arith, q) in
        rw s at (sym (get_or-drop n m (i - n) 0) ∙ ap (λ (t : List ℕ). get_or t (i - n) 0) rest ∙ get_or-drop n l (i - n) 0)
        ∙ sym (get-past 1 n f l i 0 (omega (arith, q)))
