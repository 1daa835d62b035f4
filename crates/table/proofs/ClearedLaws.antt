-- What is left to clear after some words, and the words of one object. Assumes nothing.
use Prim.Native.Nat.{ℕ, zero, suc, ◌+◌, ◌-◌, ◌*◌, ◌≤◌, ◌<◌}
use mathlib.Core.Path.{◌≡◌, refl, sym, ap, ap₂, ◌∙◌}
use mathlib.Core.Bool.{cond}
use mathlib.Core.List.{List, [], ◌∷◌, ◌++◌, append_assoc, append-nil}
use native.Mathlib.Omega.{arith}
use lib.Dec.{eqb}
use lib.ListN.{length, take, drop, set, take-append-drop, drop_of_length-le, length-set, length-drop}
use lib.Seq.{drop-cons, take_all, take-suc-set, drop-set-lt, length-take-le}
use borrow.Rule.Slice.PartMut.{put_mid, mid_of, same_len_mid, drop_put}
use Rattle.rules.specs.Buffers.{each_from, each_slot, zeros}
use Rattle.rules.proofs.BufferLaws.{zeros-from, slots-one}
use Rattle.rules.proofs.ListLaws.{zeros-same}
use Rattle.table.specs.Cleared.{cleared}

-- the first word that is left is set to 0
pub cleared-turn : (a b : ℕ) (l : List ℕ) → a < b → a < length l → cleared (a + 1) b (set l a 0) ≡ cleared a b l
unfolding cleared zeros each_from
cleared-turn a b l p q =
    let s : a + 1 ≡ suc a = omega arith in
    let e : b - a ≡ suc (b - suc a) = omega arith in
    ap (λ (k : ℕ). cleared k b (set l a 0)) s
    ∙ ap₂ (λ x y. x ++ y) (take-suc-set l a 0 q) (ap (zeros (b - suc a)) (drop-set-lt (suc a) l a 0 (omega arith)))
    ∙ append_assoc (take a l) (0 ∷ []) (zeros (b - suc a) (drop (suc a) l))
    ∙ ap (λ (r : List ℕ). take a l ++ 0 ∷ r) (sym (zeros-from 1 (b - suc a) (drop (suc a) l)))
    ∙ ap₂ (λ (k : ℕ) (m : List ℕ). take a l ++ zeros k m) (sym e) (sym (drop-cons l a 0 q))

-- nothing is left
pub cleared-end : (a b : ℕ) (l : List ℕ) → b ≤ a → cleared a b l ≡ l
unfolding cleared zeros each_from
cleared-end a b l p = let e : b - a ≡ 0 = omega arith in ap (λ (k : ℕ). take a l ++ zeros k (drop a l)) e ∙ take-append-drop a l

pub cleared-past : (a b : ℕ) (l : List ℕ) → length l ≤ a → cleared a b l ≡ l
unfolding cleared zeros each_from
cleared-past a b l p =
    let e = past a l p in
    ap (λ (m : List ℕ). take a l ++ m) (ap (zeros (b - a)) e ∙ none (b - a)) ∙ ap (λ (m : List ℕ). take a l ++ m) (sym e) ∙ take-append-drop a l
  where
    past : (k : ℕ) (m : List ℕ) → length m ≤ k → drop k m ≡ []
    past zero [] q = refl
    past zero (x ∷ m) q = absurd (omega arith)
    past (suc k) [] q = refl
    past (suc k) (x ∷ m) q = past k m (omega arith)

    none : (k : ℕ) → zeros k [] ≡ []
    none zero = refl
    none (suc k) = refl

-- the words from place a on are lent, and the first of them cleared
pub cleared-rest : (a b : ℕ) (l part : List ℕ) → a < length l → part ≡ zeros (b - a) (mid_of a (length l - a) l) → put_mid a (length l - a) l part ≡ cleared a b l
unfolding cleared
cleared-rest a b l part p e =
    let n = length-drop a l in
    let m : mid_of a (length l - a) l ≡ drop a l = take_all (length l - a) (drop a l) (omega arith) in
    let r : drop (length l - a) (drop a l) ≡ [] = drop_of_length-le (drop a l) {i = length l - a} (omega arith) in
    ap (λ (x : List ℕ). take a l ++ x) (ap₂ (λ x y. x ++ y) (e ∙ ap (zeros (b - a)) m) r ∙ append-nil (zeros (b - a) (drop a l)))

-- where the end of the list comes first, the place up to which it is cleared does not matter
zeros-all : (i j k : ℕ) (m : List ℕ) → length m ≤ j → length m ≤ k → each_from i j (λ x w. 0) m ≡ each_from i k (λ x w. 0) m
unfolding each_from
zeros-all i zero zero [] p q = refl
zeros-all i zero (suc k) [] p q = refl
zeros-all i (suc j) zero [] p q = refl
zeros-all i (suc j) (suc k) [] p q = refl
zeros-all i zero k (w ∷ m) p q = absurd (omega arith)
zeros-all i (suc j) zero (w ∷ m) p q = absurd (omega arith)
zeros-all i (suc j) (suc k) (w ∷ m) p q = ap (λ (r : List ℕ). 0 ∷ r) (zeros-all (suc i) j k m (omega arith) (omega arith))

pub cleared-short : (a b c : ℕ) (l : List ℕ) → length l ≤ b → length l ≤ c → cleared a b l ≡ cleared a c l
unfolding cleared zeros
cleared-short a b c l p q =
    let n = length-drop a l in
    ap (λ (m : List ℕ). take a l ++ m) (zeros-all 0 (b - a) (c - a) (drop a l) (omega arith) (omega arith))

-- eight stores, one after the other
module _ (a : ℕ) (l : List ℕ) where
  stored : ℕ → List ℕ
  stored zero = l
  stored (suc k) = set (stored k) (a + k) 0

  stored-long : (k : ℕ) → length (stored k) ≡ length l
  unfolding stored
  stored-long zero = refl
  stored-long (suc k) = simp length-set (stored-long k)

  stored-left : a + 8 ≤ length l → (k : ℕ) → k ≤ 8 → cleared (a + k) (a + 8) (stored k) ≡ cleared a (a + 8) l
  unfolding stored
  stored-left h zero p = let z : a + 0 ≡ a = omega arith in ap (λ (b : ℕ). cleared b (a + 8) l) z
  stored-left h (suc k) p =
      let z : a + suc k ≡ a + k + 1 = omega arith in
      let n = stored-long k in
      ap (λ (b : ℕ). cleared b (a + 8) (set (stored k) (a + k) 0)) z ∙ cleared-turn (a + k) (a + 8) (stored k) (omega arith) (omega arith) ∙ stored-left h k (omega arith)

  pub cleared-eight : a + 8 ≤ length l → set (set (set (set (set (set (set (set l a 0) (a + 1) 0) (a + 2) 0) (a + 3) 0) (a + 4) 0) (a + 5) 0) (a + 6) 0) (a + 7) 0 ≡ cleared a (a + 8) l
  unfolding stored
  cleared-eight h =
      let z : a ≡ a + 0 = omega arith in
      ap (λ (b : ℕ). set (set (set (set (set (set (set (set l b 0) (a + 1) 0) (a + 2) 0) (a + 3) 0) (a + 4) 0) (a + 5) 0) (a + 6) 0) (a + 7) 0) z ∙ sym (cleared-end (a + 8) (a + 8) (stored 8) (omega arith)) ∙ stored-left h 8 (omega arith)

-- the eight words of object g
pub cleared-object : (n g : ℕ) (slots : List ℕ) → 1 ≤ g → g ≤ n → cleared (8 * (g - 1)) (8 * (g - 1) + 8) slots ≡ each_slot n (λ x w. cond (eqb x g) 0 w) slots
unfolding cleared
cleared-object n g slots p q =
    let e : 8 * (g - 1) + 8 - 8 * (g - 1) ≡ 8 = omega arith in
    ap (λ (k : ℕ). take (8 * (g - 1)) slots ++ zeros k (drop (8 * (g - 1)) slots)) e ∙ sym (slots-one n g p q slots)

-- the first k words are cleared after they were lent
pub zeros-lent : (k m : ℕ) (work part work' : List ℕ) → k ≡ m → k ≤ length work → length part ≡ length (mid_of 0 (k - 0) work)
    → work' ≡ zeros k (put_mid 0 (k - 0) work part) → work' ≡ zeros m work
unfolding zeros
zeros-lent k m work part work' e h l z =
    let s = l ∙ length-take-le (k - 0) (drop 0 work) (omega arith) in
    z ∙ zeros-same 0 k (put_mid 0 (k - 0) work part) work (same_len_mid 0 (k - 0) work part l) (drop_put 0 k work part (omega arith) h s)
    ∙ ap (λ (j : ℕ). zeros j work) e
