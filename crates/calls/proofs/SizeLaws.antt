-- n and r stay through every call, if a load is of an image that has them.
-- Assumes nothing.
use Prim.Native.Nat.{ℕ}
use mathlib.Core.Path.{◌≡◌, sym, subst}
use mathlib.Core.List.{List}
use Rattle.layout.specs.declared.answers.Control.{Control}
use Rattle.layout.specs.ControlRecord.{new_control, with_last, with_write_loss, with_analysis}
use Rattle.layout.specs.Refusal.{first, by}
use Rattle.rules.specs.Allocate as Allocate
use Rattle.rules.specs.Write as Write
use Rattle.rules.specs.SetRoot as SetRoot
use Rattle.rules.specs.Analyse as Analyse
use Rattle.rules.specs.Collect as Collect
use Rattle.layout.specs.declared.answers.Tuning.{Tuning}
use Rattle.rules.specs.Load.{image_tests, image_n, image_r}
use Rattle.rules.specs.Load as Load
use Rattle.rules.specs.Calls.{Call, allocate, allocate_in_place, read, show, write, write_in_place, set_root, declare_sink, collect, analyse, save, load}
use Rattle.rules.specs.Plain.{answer}
use Rattle.rules.specs.Steps.{State, loaded, step}
use Rattle.rules.proofs.Simulation.{all-by}
use Rattle.rules.proofs.Answers.{declare-control}
use Rattle.rules.proofs.ReadLaws.{read_stays, show-stays}
use Rattle.rules.proofs.SaveLaws.{save-stays}
use Rattle.rules.proofs.LoadTests.{load-passed}

-- an image of n objects and r roots, if it is one
abbrev pub Sized : ℕ → ℕ → List ℕ → Type 0
Sized n r b = first (image_tests b) ≡ 0 → (image_n b ≡ n) × (image_r b ≡ r)

-- what a load is to load
abbrev pub Fitting : ℕ → ℕ → Call → Type 0
Fitting n r (allocate width) = Unit {0}
Fitting n r (allocate_in_place width) = Unit {0}
Fitting n r (read i k) = Unit {0}
Fitting n r (show i) = Unit {0}
Fitting n r (write i k w) = Unit {0}
Fitting n r (write_in_place i k w) = Unit {0}
Fitting n r (set_root j w) = Unit {0}
Fitting n r (declare_sink i) = Unit {0}
Fitting n r (collect kind work map) = Unit {0}
Fitting n r (analyse work) = Unit {0}
Fitting n r (save out) = Unit {0}
Fitting n r (load t image recs slots roots list sets) = Sized n r image

abbrev Sizes : ℕ → ℕ → Control → Type 0
Sizes n r c = (c.n ≡ n) × (c.r ≡ r)

module _ (n r : ℕ) (s : State) (z : Sizes n r s.control) where
  allocate-sizes : (width : ℕ) → Sizes n r (Allocate.allocate s.control width s.records s.slots).answer.control
  unfolding Allocate.allocate with_last
  allocate-sizes width = all-by (λ (o : Allocate.Outcome). Sizes n r o.answer.control) _ _ _ (λ _. z) (λ _. z)

  write-sizes : (i k w : ℕ) → Sizes n r (Write.write s.control i k w s.records s.slots s.sinks s.sets).answer.control
  unfolding Write.write with_write_loss
  write-sizes i k w = all-by (λ (o : Write.Outcome). Sizes n r o.answer.control) _ _ _ (λ _. z) (λ _. z)

  load-sizes : (t : Tuning) (b recs slots roots list sets : List ℕ) → Sized n r b → Sizes n r (step (load t b recs slots roots list sets) s).after.control
  unfolding step answer loaded Load.load with_last new_control by
  load-sizes t b recs slots roots list sets h =
      all-by
      (λ (o : Load.Outcome).
      Sizes n r (by o.answer.refusal (record { control = o.answer.control; records = o.records; slots = o.slots; roots = o.roots; sinks = o.sinks; sets = o.sets }) (λ k. s)).control) _ _ _
      (λ e. h (load-passed t b recs slots roots list sets e).1) (λ _. z)

  pub sizes-kept : (call : Call) → Fitting n r call → Sizes n r (step call s).after.control
  unfolding step answer Allocate.allocate_in_place Write.write_in_place SetRoot.set_root Collect.collect Analyse.analyse with_analysis
  sizes-kept (allocate width) h = allocate-sizes width
  sizes-kept (allocate_in_place width) h = allocate-sizes width
  sizes-kept (read i k) h = subst (λ (t : State). Sizes n r t.control) (sym (read_stays s i k)) z
  sizes-kept (show i) h = subst (λ (t : State). Sizes n r t.control) (sym (show-stays s i)) z
  sizes-kept (write i k w) h = write-sizes i k w
  sizes-kept (write_in_place i k w) h = write-sizes i k w
  sizes-kept (set_root j w) h = all-by (λ (o : SetRoot.Outcome). Sizes n r o.answer.control) _ _ _ (λ _. z) (λ _. z)
  sizes-kept (declare_sink i) h =
      subst (λ (c : Control). Sizes n r c) (sym (declare-control s.control i s.records s.slots s.roots s.sinks s.sets)) z
  sizes-kept (collect kind work map) h = all-by (λ (o : Collect.Outcome). Sizes n r o.answer.control) _ _ _ (λ _. z) (λ _. z)
  sizes-kept (analyse work) h = all-by (λ (o : Analyse.Outcome). Sizes n r o.answer.control) _ _ _ (λ _. z) (λ _. z)
  sizes-kept (save out) h = subst (λ (t : State). Sizes n r t.control) (sym (save-stays s out)) z
  sizes-kept (load t image recs slots roots list sets) h = load-sizes t image recs slots roots list sets h
