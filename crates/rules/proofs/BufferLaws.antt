-- Where a record and the words of an object stand in the buffers, and passes that leave all but some words as they are. Assumes nothing.
use Prim.Native.Nat.{ℕ, zero, suc, ◌+◌, ◌-◌, ◌*◌, ◌/◌, ◌≤◌, ◌<◌}
use mathlib.Core.Path.{◌≡◌, refl, sym, ap, ap₂, ◌∙◌}
use mathlib.Core.Bool.{cond}
use mathlib.Core.List.{List, [], ◌∷◌, ◌++◌, map}
use mathlib.Core.Logic.{◌≢◌}
use native.Mathlib.Decide.{dec_le}
use native.Mathlib.Omega.{arith}
use lib.Dec.{eqb}
use lib.ListN.{length, get_or, take, drop, set}
use lib.Seq.{get_or-take, get_or-drop, take-take, length-take-le}
use borrow.Author.Tests.{eq-eqb, ne_eqb}
use Rattle.layout.specs.Limits.{slots_len}
use Rattle.records.specs.Record.{width}
use Rattle.rules.specs.Buffers.{rec_of, eight, used_words, each_from, each_record, each_slot, zeros}
use Rattle.rules.proofs.ListLaws.{each_nil, each_same, each-id, each_set, rec_of-above, rec_of-each, eight-each, map-id, length-eight}

-- ---- reading

pub rec_of-get : (n : ℕ) (recs : List ℕ) (x : ℕ) → 1 ≤ x → x ≤ n → rec_of n recs x ≡ get_or recs (x - 1) 0
unfolding rec_of
rec_of-get n recs zero p q = absurd (omega arith)
rec_of-get n recs (suc i) p q =
    let e : i ≡ suc i - 1 = omega arith in
    get_or-take n recs i 0 (omega arith) ∙ ap (λ (j : ℕ). get_or recs j 0) e

module _ (n : ℕ) (recs slots : List ℕ) (x : ℕ) (low : 1 ≤ x) (narrow : width (rec_of n recs x) ≤ 8) where
  pub used-part : used_words n recs slots x ≡ take (width (rec_of n recs x)) (drop (8 * (x - 1)) slots)
  unfolding used_words eight
  used-part = ap (take (width (rec_of n recs x))) (words x low) ∙ take-take (width (rec_of n recs x)) 8 (drop (8 * (x - 1)) slots) narrow
    where
      words : (y : ℕ) → 1 ≤ y → eight slots y ≡ take 8 (drop (8 * (y - 1)) slots)
      words zero p = absurd (omega arith)
      words (suc i) p = let e : i ≡ suc i - 1 = omega arith in ap (λ (j : ℕ). take 8 (drop (8 * j) slots)) e

  pub used-get : (k : ℕ) → k < width (rec_of n recs x) → get_or (used_words n recs slots x) k 0 ≡ get_or slots (8 * (x - 1) + k) 0
  used-get k p =
      ap (λ (l : List ℕ). get_or l k 0) used-part ∙ get_or-take (width (rec_of n recs x)) (drop (8 * (x - 1)) slots) k 0 p
      ∙ get_or-drop (8 * (x - 1)) slots k 0

  pub used-long : x ≤ n → 8 * n ≤ length slots → length (used_words n recs slots x) ≡ width (rec_of n recs x)
  unfolding used_words
  used-long high long = length-take-le (width (rec_of n recs x)) (eight slots x) (let e = length-eight n slots x low high long in omega arith)

-- ---- changing

-- the first a words stay
pub each_after : (i a k : ℕ) (f : ℕ → ℕ → ℕ) (l : List ℕ) → ((x w : ℕ) → i ≤ x → x < i + a → f x w ≡ w)
    → each_from i (a + k) f l ≡ take a l ++ each_from (i + a) k f (drop a l)
unfolding each_from
each_after i zero k f l h =
    let a : 0 + k ≡ k = omega arith in
    let b : i ≡ i + 0 = omega arith in
    ap₂ (λ (x y : ℕ). each_from y x f l) a b
each_after i (suc a) k f [] h =
    let s : suc a + k ≡ suc (a + k) = omega arith in
    ap (λ (y : ℕ). each_from i y f []) s ∙ sym (each_nil (i + suc a) k f)
each_after i (suc a) k f (w ∷ l) h =
    let s : suc a + k ≡ suc (a + k) = omega arith in
    let e : suc i + a ≡ i + suc a = omega arith in
    ap (λ (y : ℕ). each_from i y f (w ∷ l)) s
    ∙ ap₂ (λ x r. x ∷ r) (h i w (omega arith) (omega arith))
    (each_after (suc i) a k f l (λ x v p q. h x v (omega arith) (omega arith)) ∙ ap (λ (y : ℕ). take a l ++ each_from y k f (drop a l)) e)

-- those after the first a stay
pub each-before : (i a k : ℕ) (f : ℕ → ℕ → ℕ) (l : List ℕ) → ((x w : ℕ) → i + a ≤ x → f x w ≡ w) → each_from i (a + k) f l ≡ each_from i a f l
unfolding each_from
each-before i zero k f l h =
    let e : 0 + k ≡ k = omega arith in
    ap (λ (y : ℕ). each_from i y f l) e ∙ each_same i k f (λ x w. w) l (λ x w p q. h x w (omega arith)) ∙ each-id i k l
each-before i (suc a) k f [] h = let s : suc a + k ≡ suc (a + k) = omega arith in ap (λ (y : ℕ). each_from i y f []) s
each-before i (suc a) k f (w ∷ l) h =
    let s : suc a + k ≡ suc (a + k) = omega arith in
    ap (λ (y : ℕ). each_from i y f (w ∷ l)) s ∙ ap (λ r. f i w ∷ r) (each-before (suc i) a k f l (λ x v p. h x v (omega arith)))

-- the numbers do not matter to words that become 0
pub zeros-from : (i k : ℕ) (l : List ℕ) → each_from i k (λ x w. 0) l ≡ zeros k l
unfolding zeros each_from
zeros-from i k l = go i 0 k l
  where
    go : (i j k : ℕ) (l : List ℕ) → each_from i k (λ x w. 0) l ≡ each_from j k (λ x w. 0) l
    go i j zero l = refl
    go i j (suc k) [] = refl
    go i j (suc k) (w ∷ l) = ap (λ r. 0 ∷ r) (go (suc i) (suc j) k l)

-- one object alone: its record is stored, its eight words become 0
module _ (n g : ℕ) (low : 1 ≤ g) (high : g ≤ n) where
  -- what is read of it then, and of the others
  pub record-given : (v : ℕ) (recs : List ℕ) → n ≤ length recs → rec_of n (each_record n (λ x r. cond (eqb x g) v r) recs) g ≡ v
  record-given v recs p = rec_of-each n (λ x r. cond (eqb x g) v r) recs g low high p ∙ rw (eq-eqb g g refl) refl

  pub record-kept : (v : ℕ) (recs : List ℕ) → n ≤ length recs → (x : ℕ) → x ≢ g
      → rec_of n (each_record n (λ y r. cond (eqb y g) v r) recs) x ≡ rec_of n recs x
  record-kept v recs p x e = go x e (dec_le x n)
    where
      go : (x : ℕ) → x ≢ g → Dec (x ≤ n) → rec_of n (each_record n (λ y r. cond (eqb y g) v r) recs) x ≡ rec_of n recs x
      go zero e d = unfold rec_of in refl
      go (suc j) e (yes l) = rec_of-each n (λ y r. cond (eqb y g) v r) recs (suc j) (omega arith) l p ∙ rw (ne_eqb (suc j) g e) refl
      go (suc j) e (no l) = rec_of-above n _ (suc j) (omega (arith, l)) ∙ sym (rec_of-above n recs (suc j) (omega (arith, l)))

  pub words-given : (slots : List ℕ) → eight (each_slot n (λ x w. cond (eqb x g) 0 w) slots) g ≡ map (λ (w : ℕ). 0) (eight slots g)
  words-given slots = eight-each n (λ x w. cond (eqb x g) 0 w) slots g low high ∙ rw (eq-eqb g g refl) refl

  pub words-kept : (slots : List ℕ) (x : ℕ) → 1 ≤ x → x ≤ n → x ≢ g → eight (each_slot n (λ y w. cond (eqb y g) 0 w) slots) x ≡ eight slots x
  words-kept slots x p q e = eight-each n (λ y w. cond (eqb y g) 0 w) slots x p q ∙ map-id _ (eight slots x) (λ w. rw (ne_eqb x g e) refl)

  pub record-one : (v : ℕ) (recs : List ℕ) → each_record n (λ x r. cond (eqb x g) v r) recs ≡ set recs (g - 1) v
  unfolding each_record
  record-one v recs =
      let e : 1 + (g - 1) ≡ g = omega arith in
      each_set 1 n (λ x r. cond (eqb x g) v r) recs (g - 1) v 0 (omega arith) (rw (e, eq-eqb g g refl) refl)
      (λ m p q d. rw (ne_eqb (1 + m) g (omega (arith, d))) refl)

  pub slots-one : (slots : List ℕ) → each_slot n (λ x w. cond (eqb x g) 0 w) slots ≡ take (8 * (g - 1)) slots ++ zeros 8 (drop (8 * (g - 1)) slots)
  unfolding each_slot slots_len
  slots-one slots =
      let f : ℕ → ℕ → ℕ = λ j w. cond (eqb (j / 8 + 1) g) 0 w in
      let s : 8 * n ≡ 8 * (g - 1) + (8 + (8 * n - 8 * g)) = omega arith in
      let off : (j w : ℕ) → j / 8 + 1 ≢ g → f j w ≡ w = λ j w d. rw (ne_eqb (j / 8 + 1) g d) refl in
      ap (λ (k : ℕ). each_from 0 k f slots) s
      ∙ each_after 0 (8 * (g - 1)) (8 + (8 * n - 8 * g)) f slots (λ j w p q. off j w (λ (e : j / 8 + 1 ≡ g). omega arith))
      ∙ ap (λ l. take (8 * (g - 1)) slots ++ l)
      (each-before (0 + 8 * (g - 1)) 8 (8 * n - 8 * g) f (drop (8 * (g - 1)) slots) (λ j w p. off j w (λ (e : j / 8 + 1 ≡ g). omega arith))
      ∙ each_same (0 + 8 * (g - 1)) 8 f (λ j w. 0) (drop (8 * (g - 1)) slots)
      (λ j w p q. let e : j / 8 + 1 ≡ g = omega arith in rw (eq-eqb (j / 8 + 1) g e) refl)
      ∙ zeros-from (0 + 8 * (g - 1)) 8 (drop (8 * (g - 1)) slots))
