-- Every call keeps the invariant, so every heap that the calls made has it.
-- Assumes nothing.
use Prim.Native.Nat.{ℕ}
use mathlib.Core.Path.{◌≡◌, sym, subst}
use mathlib.Core.List.{List}
use Rattle.layout.specs.declared.answers.Tuning.{Tuning}
use Rattle.rules.specs.Create.{create}
use Rattle.rules.specs.Calls.{Call, allocate, allocate_in_place, read, show, write, write_in_place, set_root, declare_sink, collect, analyse, save, load}
use Rattle.rules.specs.Plain.{Played}
use Rattle.rules.specs.Steps.{State, created, step}
use Rattle.rules.specs.Demands.{Made, new, took, called}
use Rattle.rules.proofs.Invariant.{Inv}
use Rattle.rules.proofs.ReadLaws.{read_stays, show-stays}
use Rattle.rules.proofs.SetRootLaws.{root-inv}
use Rattle.rules.proofs.WriteLaws.{write-inv, written-in-place}
use Rattle.rules.proofs.DeclareLaws.{declare-inv}
use Rattle.rules.proofs.AnalyseLaws.{analyse-inv}
use Rattle.rules.proofs.CreateLaws.{accepted, zeroed-inv}
use Rattle.rules.proofs.AllocateLaws.{allocate-inv, allocated-in-place}
use Rattle.rules.proofs.CollectLaws.{collect-inv}
use Rattle.rules.proofs.SaveLaws.{save-stays}
use Rattle.rules.proofs.LoadLaws.{load-inv, load-step-inv}

pub step-inv : (call : Call) (s : State) → Inv s → Inv (step call s).after
step-inv (allocate width) s I = allocate-inv s I width
step-inv (allocate_in_place width) s I = subst (λ (p : Played State). Inv p.after) (sym (allocated-in-place s width)) (allocate-inv s I width)
step-inv (read i k) s I = subst Inv (sym (read_stays s i k)) I
step-inv (show i) s I = subst Inv (sym (show-stays s i)) I
step-inv (write i k w) s I = write-inv s I i k w
step-inv (write_in_place i k w) s I = subst (λ (p : Played State). Inv p.after) (sym (written-in-place s i k w)) (write-inv s I i k w)
step-inv (set_root j w) s I = root-inv s I j w
step-inv (declare_sink i) s I = declare-inv s I i
step-inv (collect kind work map) s I = collect-inv s I kind work map
step-inv (analyse work) s I = analyse-inv s I work
step-inv (save out) s I = subst Inv (sym (save-stays s out)) I
step-inv (load t image recs slots roots list sets) s I = load-step-inv t image recs slots roots list sets s I

pub created-inv : (n r : ℕ) (t : Tuning) (recs slots roots list sets : List ℕ) → (create n r t recs slots roots list sets).answer.refusal ≡ 0
    → Inv (created n r t recs slots roots list sets)
created-inv n r t recs slots roots list sets e =
    let a = accepted n r t recs slots roots list sets e in
    subst Inv (sym a.1) (zeroed-inv n r t recs slots roots list sets a.0)

pub made-inv : {s : State} → Made s → Inv s
made-inv (new n r t recs slots roots list sets e p) = subst Inv (sym p) (created-inv n r t recs slots roots list sets e)
made-inv (took t image recs slots roots list sets e p) = subst Inv (sym p) (load-inv t image recs slots roots list sets e)
made-inv (called {s = s} call m p) = subst Inv (sym p) (step-inv call s (made-inv m))
