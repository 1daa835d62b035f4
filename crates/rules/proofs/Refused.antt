-- Of every input: the tests are in order, the refusal is the number of the first that holds, and a refused call gives zeros and all as it was handed in.
-- Assumes nothing.
use Prim.Native.Nat.{ℕ, zero, suc, ◌≤◌}
use mathlib.Core.Path.{◌≡◌, refl, sym, ap, ◌∙◌}
use mathlib.Core.Bool.{Bool, true, false, cond, ◌&&◌, ◌||◌, true≢false}
use mathlib.Core.List.{List, [], ◌∷◌}
use mathlib.Core.Logic.{◌≢◌}
use native.Mathlib.Nat.{suc-ne-zero}
use native.Mathlib.Omega.{arith}
use lib.Dec.{eqb}
use borrow.Author.Tests.{eq-eqb}
use Rattle.layout.specs.Refusal.{Test, first, by, outcome}
use Rattle.layout.specs.declared.answers.Control.{Control}
use Rattle.layout.specs.declared.answers.Tuning.{Tuning}
use Rattle.layout.proofs.RefusalLaws.{by_number}
use Rattle.layout.proofs.BoolLaws.{or_split}
use Rattle.rules.specs.Create as Create
use Rattle.rules.specs.Allocate as Allocate
use Rattle.rules.specs.Read as Read
use Rattle.rules.specs.Show as Show
use Rattle.rules.specs.Write as Write
use Rattle.rules.specs.SetRoot as SetRoot
use Rattle.rules.specs.DeclareSink as DeclareSink
use Rattle.rules.specs.Analyse as Analyse
use Rattle.rules.specs.Collect as Collect
use Rattle.rules.specs.Demands.{order, in_order, Refuses, here, there, Decided}

pub refuses : (T : List Test) (k : ℕ) → 1 ≤ k → first T ≡ k → Refuses k T
unfolding first
refuses [] k p e = absurd (omega arith)
refuses (t ∷ l) k p e = go t.1 refl e (λ f. refuses l k p f)
  where
    go : (b : Bool) → t.1 ≡ b → cond b t.0 (first l) ≡ k → (first l ≡ k → Refuses k l) → Refuses k (t ∷ l)
    go true h f r = here f h
    go false h f r = there h (r f)

pub refused-first : (T : List Test) (k : ℕ) → Refuses k T → first T ≡ k
unfolding first
refused-first [] k x' = elim x' [ ]
refused-first (t ∷ l) k (here e h) = rw h e
refused-first (t ∷ l) k (there h r) = rw h (refused-first l k r)

-- a test of number k holds
unfoldable pub meets : ℕ → List Test → Bool
meets k [] = false
meets k (t ∷ l) = (eqb k t.0 && t.1) || meets k l

pub unmet-first : (k : ℕ) (T : List Test) → meets (suc k) T ≡ false → first T ≢ suc k
unfolding meets first
unmet-first k [] e f = suc-ne-zero k (sym f)
unmet-first k (t ∷ l) e f = go t.1 refl f (λ r. unmet-first k l r)
  where
    go : (b : Bool) → t.1 ≡ b → cond b t.0 (first l) ≡ suc k → (meets (suc k) l ≡ false → first l ≢ suc k) → ⊥
    go true h g r = true≢false (sym (rw (eq-eqb (suc k) t.0 (sym g), h) refl) ∙ (or_split (eqb (suc k) t.0 && t.1) (meets (suc k) l) e).0)
    go false h g r = r (or_split (eqb (suc k) t.0 && t.1) (meets (suc k) l) e).1 g

module _ {A : Type 0} (T : List Test) (a : A) (r : ℕ → A) (refusal : A → ℕ) (zeroth : refusal a ≡ 0) (kth : (k : ℕ) → refusal (r k) ≡ k) where
  -- the refusal that is answered
  pub answered : refusal (outcome T a r) ≡ first T
  unfolding outcome
  answered = go (first T)
    where
      go : (m : ℕ) → refusal (by m a r) ≡ m
      go zero = unfold by in zeroth
      go (suc m) = unfold by in (kth (suc m))

  pub decided : {order : List ℕ} → in_order order T ≡ true → Decided order T (outcome T a r) refusal r
  decided e = record {
    ordered = e;
    numbers = λ k p. (λ e. refuses T k p (sym answered ∙ e), λ h. answered ∙ refused-first T k h);
    unchanged = λ h. refused (λ e. h (answered ∙ e)) ∙ ap r (sym answered);
  }
    where
      refused : first T ≢ 0 → outcome T a r ≡ r (first T)
      refused h = unfold outcome in (by_number a r (first T) h)

-- ---- the tests of each call are in order

pub create-ordered : (n r : ℕ) (t : Tuning) (recs slots roots list sets : List ℕ) → in_order order (Create.create_tests n r t recs slots roots list sets) ≡ true
unfolding in_order Create.create_tests
create-ordered n r t recs slots roots list sets = refl

pub allocate-ordered : (c : Control) (width : ℕ) (recs slots : List ℕ) → in_order order (Allocate.allocate_tests c width recs slots) ≡ true
unfolding in_order Allocate.allocate_tests
allocate-ordered c width recs slots = refl

pub read-ordered : (c : Control) (i k : ℕ) (recs slots : List ℕ) → in_order order (Read.read_tests c i k recs slots) ≡ true
unfolding in_order Read.read_tests
read-ordered c i k recs slots = refl

pub show-ordered : (c : Control) (i : ℕ) (recs slots : List ℕ) → in_order order (Show.show_tests c i recs slots) ≡ true
unfolding in_order Show.show_tests
show-ordered c i recs slots = refl

pub write-ordered : (c : Control) (i k w : ℕ) (recs slots list sets : List ℕ) → in_order order (Write.write_tests c i k w recs slots list sets) ≡ true
unfolding in_order Write.write_tests
write-ordered c i k w recs slots list sets = refl

pub root-ordered : (c : Control) (j w : ℕ) (recs roots : List ℕ) → in_order order (SetRoot.set_root_tests c j w recs roots) ≡ true
unfolding in_order SetRoot.set_root_tests
root-ordered c j w recs roots = refl

pub declare-ordered : (c : Control) (i : ℕ) (recs slots roots list sets : List ℕ) → in_order order (DeclareSink.declare_tests c i recs slots roots list sets) ≡ true
unfolding in_order DeclareSink.declare_tests
declare-ordered c i recs slots roots list sets = refl

pub analyse-ordered : (c : Control) (recs slots roots list sets work : List ℕ) → in_order order (Analyse.analyse_tests c recs slots roots list sets work) ≡ true
unfolding in_order Analyse.analyse_tests
analyse-ordered c recs slots roots list sets work = refl

pub collect-ordered : (c : Control) (recs slots roots list sets work map : List ℕ)
    → in_order order (Collect.collect_tests c recs slots roots list sets work map) ≡ true
unfolding in_order Collect.collect_tests
collect-ordered c recs slots roots list sets work map = refl
