-- A pass over the first words of a list, which are lent as a part of it: word after word of the part becomes f of its number and of itself.
-- Assumes nothing.
use Prim.Native.Nat.{ℕ, suc, ◌+◌, ◌-◌, ◌≤◌, ◌<◌, min}
use mathlib.Core.Path.{◌≡◌, sym, ap₂, ◌∙◌}
use mathlib.Core.List.{List, ◌++◌}
use native.Mathlib.Decide.{dec_le}
use native.Mathlib.Omega.{arith}
use lib.ListN.{length, get_or, take, drop, set, take-append-drop, drop_of_length-le}
use Rattle.rules.specs.Buffers.{each_from}
use Rattle.rules.proofs.ListLaws.{length-each, take-each, drop_past}
use Rattle.rules.proofs.PassLaws.{pass_from, pass-begin, pass-turn, pass-past}

module _ {A : Type 0} (base : ℕ) (f : ℕ → A → A) where
  -- what is left to do from place i on in a part of e words
  abbrev pub left_of : ℕ → ℕ → List A → List A
  left_of e i part = pass_from base i (e - i) f part

  pub part-begin : (e : ℕ) (part : List A) → left_of e 0 part ≡ each_from base e f part
  part-begin e part = let s : e - 0 ≡ e = omega arith in rw s (pass-begin base e f part)

  pub part-turn : (e i : ℕ) (part : List A) (v d : A) → i < e → i < length part → v ≡ f (base + i) (get_or part i d)
      → left_of e (i + 1) (set part i v) ≡ left_of e i part
  part-turn e i part v d p q h =
      let s : i + 1 ≡ suc i = omega arith in
      let t : e - i ≡ suc (e - suc i) = omega arith in
      rw (h, s, t) (pass-turn base i (e - suc i) f part d q)

  module _ (k e : ℕ) (l : List A) (h : e ≡ min k (length l)) where
    -- past the part all is as it was
    after_part : drop e (each_from base k f l) ≡ drop e l
    after_part = go (dec_le k (length l))
      where
        go : Dec (k ≤ length l) → drop e (each_from base k f l) ≡ drop e l
        go (yes p) = let s : e ≡ k = omega arith in rw s (drop_past base k f l)
        go (no p) =
            let n = length-each base k f l in
            drop_of_length-le (each_from base k f l) {i = e} (omega (arith, p)) ∙ sym (drop_of_length-le l {i = e} (omega (arith, p)))

    pub part-end : (i : ℕ) (part : List A) → length part ≡ length (take e l) → length (take e l) ≤ i → left_of e i part ≡ each_from base e f (take e l)
        → part ++ drop e l ≡ each_from base k f l
    part-end i part n p r =
        ap₂ (λ x y. x ++ y)
        (sym (pass-past base i (e - i) f part (omega arith)) ∙ r ∙ sym (take-each base k f l e (omega arith)))
        (sym after_part)
        ∙ take-append-drop e (each_from base k f l)
