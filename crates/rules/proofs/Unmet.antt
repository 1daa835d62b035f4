-- No call meets 20, 21 or 25 in a heap with the invariant.
-- Assumes nothing.
use Prim.Native.Nat.{ℕ}
use mathlib.Core.Path.{◌≡◌, refl, sym, ◌∙◌}
use mathlib.Core.Bool.{false}
use mathlib.Core.List.{List}
use Rattle.layout.specs.declared.answers.WordRead.{WordRead}
use Rattle.layout.specs.Refusal.{Test, first}
use Rattle.rules.specs.Allocate as Allocate
use Rattle.rules.specs.Read as Read
use Rattle.rules.specs.Show as Show
use Rattle.rules.specs.Write as Write
use Rattle.rules.specs.SetRoot as SetRoot
use Rattle.rules.specs.DeclareSink as DeclareSink
use Rattle.rules.specs.Analyse as Analyse
use Rattle.rules.specs.Collect as Collect
use Rattle.rules.specs.Save as Save
use Rattle.rules.specs.Calls.{Call, allocate, allocate_in_place, read, show, write, write_in_place, set_root, declare_sink, collect, analyse, save, load}
use Rattle.rules.specs.Steps.{State}
use Rattle.rules.specs.Demands.{refusal_of}
use Rattle.rules.proofs.Invariant.{Inv, inv-control, inv-sane, inv-formed}
use Rattle.rules.proofs.WriteLaws.{no-25}
use Rattle.rules.proofs.DeclareLaws.{declare-answered}
use Rattle.rules.proofs.Refused.{meets, unmet-first, answered}
use Rattle.rules.proofs.LoadTests.{Never}
use Rattle.rules.proofs.LoadLaws.{load-unmet}

-- none of the three numbers is met
abbrev Unmet : List Test → Type 0
Unmet T = (meets 20 T ≡ false) × (meets 21 T ≡ false) × (meets 25 T ≡ false)

unrefused : (T : List Test) (m : ℕ) → m ≡ first T → Unmet T → Never m
unrefused T m e u = (λ z. unmet-first 19 T u.0 (sym e ∙ z), λ z. unmet-first 20 T u.1 (sym e ∙ z), λ z. unmet-first 24 T u.2 (sym e ∙ z))

module _ (s : State) (I : Inv s) where
  allocate-unmet : (width : ℕ) → Unmet (Allocate.allocate_tests s.control width s.records s.slots)
  unfolding meets Allocate.allocate_tests
  allocate-unmet width = (rw (inv-control s I) refl, refl, refl)

  read-unmet : (i k : ℕ) → Unmet (Read.read_tests s.control i k s.records s.slots)
  unfolding meets Read.read_tests
  read-unmet i k = (rw (inv-control s I) refl, rw (inv-sane s I i) refl, refl)

  show-unmet : (i : ℕ) → Unmet (Show.show_tests s.control i s.records s.slots)
  unfolding meets Show.show_tests
  show-unmet i = (rw (inv-control s I) refl, rw (inv-sane s I i) refl, refl)

  write-unmet : (i k w : ℕ) → Unmet (Write.write_tests s.control i k w s.records s.slots s.sinks s.sets)
  unfolding meets Write.write_tests
  write-unmet i k w = (rw (inv-control s I) refl, rw (inv-sane s I i) refl, rw (no-25 s I i k w) refl)

  root-unmet : (j w : ℕ) → Unmet (SetRoot.set_root_tests s.control j w s.records s.roots)
  unfolding meets SetRoot.set_root_tests
  root-unmet j w = (rw (inv-control s I) refl, refl, refl)

  declare-unmet : (i : ℕ) → Unmet (DeclareSink.declare_tests s.control i s.records s.slots s.roots s.sinks s.sets)
  unfolding meets DeclareSink.declare_tests
  declare-unmet i = (rw (inv-control s I) refl, rw (inv-formed s I) refl, refl)

  analyse-unmet : (work : List ℕ) → Unmet (Analyse.analyse_tests s.control s.records s.slots s.roots s.sinks s.sets work)
  unfolding meets Analyse.analyse_tests
  analyse-unmet work = (rw (inv-control s I) refl, rw (inv-formed s I) refl, refl)

  collect-unmet : (work map : List ℕ)
      → Unmet (Collect.collect_tests s.control s.records s.slots s.roots s.sinks s.sets work map)
  unfolding meets Collect.collect_tests
  collect-unmet work map = (rw (inv-control s I) refl, rw (inv-formed s I) refl, refl)

  save-unmet : (out : List ℕ) → Unmet (Save.save_tests s.control s.records s.slots s.roots s.sinks s.sets out)
  unfolding meets Save.save_tests
  save-unmet out = (rw (inv-control s I) refl, rw (inv-formed s I) refl, refl)

  -- one name for both forms of allocate, and of write
  allocate-never : (width : ℕ) → Never (refusal_of (allocate width) s)
  unfolding Allocate.allocate
  allocate-never width = unrefused _ _ (answered _ _ _ (λ (o : Allocate.Outcome). o.answer.refusal) refl (λ k. refl)) (allocate-unmet width)

  write-never : (i k w : ℕ) → Never (refusal_of (write i k w) s)
  unfolding Write.write
  write-never i k w = unrefused _ _ (answered _ _ _ (λ (o : Write.Outcome). o.answer.refusal) refl (λ k. refl)) (write-unmet i k w)

  pub unmet : (call : Call) → Never (refusal_of call s)
  unfolding Allocate.allocate_in_place Read.read Show.show Write.write_in_place SetRoot.set_root Analyse.analyse Collect.collect Save.save
  unmet (allocate width) = allocate-never width
  unmet (allocate_in_place width) = allocate-never width
  unmet (read i k) = unrefused _ _ (answered _ _ _ (λ (a : WordRead). a.refusal) refl (λ k. refl)) (read-unmet i k)
  unmet (show i) = unrefused _ _ (answered _ _ _ (λ (o : Show.Outcome). o.answer.refusal) refl (λ k. refl)) (show-unmet i)
  unmet (write i k w) = write-never i k w
  unmet (write_in_place i k w) = write-never i k w
  unmet (set_root j w) = unrefused _ _ (answered _ _ _ (λ (o : SetRoot.Outcome). o.answer.refusal) refl (λ k. refl)) (root-unmet j w)
  unmet (declare_sink i) = unrefused _ _ (declare-answered s i) (declare-unmet i)
  unmet (collect kind work map) =
      unrefused _ _ (answered _ _ _ (λ (o : Collect.Outcome). o.answer.refusal) refl (λ k. refl)) (collect-unmet work map)
  unmet (analyse work) = unrefused _ _ (answered _ _ _ (λ (o : Analyse.Outcome). o.answer.refusal) refl (λ k. refl)) (analyse-unmet work)
  unmet (save out) = unrefused _ _ (answered _ _ _ (λ (o : Save.Outcome). o.answer.refusal) refl (λ k. refl)) (save-unmet out)
  unmet (load t image recs slots roots list sets) = load-unmet t image recs slots roots list sets
