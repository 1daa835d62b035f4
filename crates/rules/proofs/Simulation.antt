-- What is to be proved of each call, and what the proofs share.
-- Assumes nothing.
use Prim.Native.Nat.{ℕ, zero, suc, ◌≤◌}
use mathlib.Core.Path.{◌≡◌, refl, sym, ap, ◌∙◌}
use mathlib.Core.Bool.{true, false, true≢false}
use mathlib.Core.List.{List}
use mathlib.Core.Logic.{◌⊎◌, inl, inr}
use native.Mathlib.Omega.{arith}
use lib.Dec.{eqb}
use lib.ListN.{length, take}
use Rattle.records.specs.Record as R
use Rattle.layout.specs.Field.{field, flag}
use Rattle.records.specs.Record.{width}
use Rattle.layout.specs.Refusal.{Test, first, by, outcome}
use Rattle.layout.specs.Word.{is_pointer}
use Rattle.records.proofs.RecordLaws.{Legal, legal-nonzero}
use Rattle.layout.proofs.LimitLaws.{within-true}
use Rattle.rules.specs.Buffers.{used_words, eight}
use Rattle.rules.specs.WellFormed.{names}
use Rattle.rules.specs.Calls.{Call}
use Rattle.rules.specs.Plain.{plain_step}
use Rattle.rules.specs.Steps.{State, step}
use Rattle.rules.specs.Demands.{words_of, record_in}
use Rattle.rules.specs.PlainOf.{plain_of}
use Rattle.rules.proofs.ListLaws.{rec_of-range}
use Rattle.rules.proofs.BufferLaws.{used-long}
use Rattle.rules.proofs.Invariant.{Inv}

-- the call does to the buffers what it does to the plain heap
pub record Same (call : Call) (s : State) : Type 0 where
  pub answers : (step call s).answers ≡ (plain_step call (plain_of s)).answers
  pub after : plain_of (step call s).after ≡ (plain_step call (plain_of s)).after

-- two outcomes by tests that come to the same: equal if they are so where none holds, and where one does
pub same_by : {A B C : Type 0} (T T' : List Test) (a : A) (r : ℕ → A) (b : B) (q : ℕ → B) (f : A → C) (g : B → C)
    → first T ≡ first T' → (first T ≡ 0 → f a ≡ g b) → ((m : ℕ) → f (r m) ≡ g (q m)) → f (outcome T a r) ≡ g (outcome T' b q)
unfolding outcome
same_by T T' a r b q f g e h k = ap (λ (m : ℕ). f (by m a r)) e ∙ go (first T') refl
  where
    go : (m : ℕ) → first T' ≡ m → f (by m a r) ≡ g (by m b q)
    go zero z = unfold by in (h (e ∙ z))
    go (suc m) z = unfold by in (k (suc m))

-- what holds of an outcome
pub all-by : {A : Type 0} (P : A → Type 0) (T : List Test) (a : A) (r : ℕ → A) → (first T ≡ 0 → P a) → ((m : ℕ) → P (r (suc m))) → P (outcome T a r)
unfolding outcome
all-by P T a r h k = go (first T) refl
  where
    go : (m : ℕ) → first T ≡ m → P (by m a r)
    go zero z = unfold by in (h z)
    go (suc m) z = unfold by in (k m)

pub pointer-facts : (n w : ℕ) → is_pointer n w ≡ true → (1 ≤ w) × (w ≤ n)
unfolding is_pointer
pointer-facts n w e = within-true 1 n w e

module _ (s : State) (I : Inv s) where
  pub used-length : (x : ℕ) → length (words_of s x) ≡ width (record_in s x)
  unfolding used_words
  used-length x = go (I.legal x)
    where
      go : (record_in s x ≡ 0) ⊎ Legal s.control.n (record_in s x)
          → length (take (width (record_in s x)) (eight s.slots x)) ≡ width (record_in s x)
      go (inl e) = rw e (unfold field in refl)
      go (inr L) =
          let b = rec_of-range s.control.n s.records x (legal-nonzero s.control.n (record_in s x) L) in
          used-long s.control.n s.records s.slots x b.0 L.narrow b.1 I.slots-long

  pub widths : (x : ℕ) → width (record_in s x) ≤ 8
  widths x = go (I.legal x)
    where
      go : (record_in s x ≡ 0) ⊎ Legal s.control.n (record_in s x) → width (record_in s x) ≤ 8
      go (inl e) = rw e (unfold field in (omega arith))
      go (inr L) = L.narrow

  -- a word that passes tests 6 and 23
  pub is-named : (w : ℕ) → is_pointer s.control.n w ≡ true → R.free (record_in s w) ≡ false → names s.control.n s.records w ≡ true
  unfolding names R.free
  is-named w p f = rw p (go (I.legal w))
    where
      go : (record_in s w ≡ 0) ⊎ Legal s.control.n (record_in s w) → flag 0 (record_in s w) ≡ true
      go (inl e) = absurd (true≢false (sym (ap (λ (r : ℕ). eqb r 0) e) ∙ f))
      go (inr L) = L.used
