-- Writes that spare the clusters, proved from the demands.
-- Assumes nothing.
use Prim.Native.Nat.{ℕ}
use mathlib.Core.Path.{◌≡◌, refl, ap}
use mathlib.Core.Logic.{◌≢◌}
use native.Mathlib.Decide.{ℕ_discrete}
use lib.ListN.{get_or}
use Rattle.records.specs.Record.{cluster}
use Rattle.rules.specs.Buffers.{rec_of}
use Rattle.rules.specs.Write as Write
use Rattle.rules.specs.Calls.{write}
use Rattle.rules.specs.Plain.{answer}
use Rattle.rules.specs.Steps.{State, step}
use Rattle.rules.specs.Demands.{record_in, words_of, refusal_of, Dissolves, Spares, HeldElsewhere}
use Rattle.rules.proofs.Demand1.{demand1}
use Rattle.rules.proofs.Demand2.{demand2}

-- a write that does not dissolve: accepted it leaves the clusters, refused it leaves all, and it has no loss to be refused for
spares : (s : State) (i k w : ℕ) → (Dissolves s i k w → ⊥) → Spares s i k w
unfolding step answer
spares s i k w h = (λ x. clusters x (ℕ_discrete (refusal_of (write i k w) s) 0), losses (ℕ_discrete (refusal_of (write i k w) s) 0), λ e. h (demand2.overflows s i k w e).0)
  where
    o : Write.Outcome
    o = Write.write s.control i k w s.records s.slots s.sinks s.sets

    unchanged : refusal_of (write i k w) s ≢ 0 → o ≡ Write.gives (record { refusal = o.answer.refusal; control = s.control }) s.records s.slots s.sets
    unchanged d = (demand1.written s.control i k w s.records s.slots s.sinks s.sets).0.unchanged d

    clusters : (x : ℕ) → Dec (refusal_of (write i k w) s ≡ 0) → cluster (record_in (step (write i k w) s).after x) ≡ cluster (record_in s x)
    clusters x (yes e) = (demand2.writes s i k w e).kept h x
    clusters x (no d) = ap (λ (q : Write.Outcome). cluster (rec_of q.answer.control.n q.records x)) (unchanged d)

    losses : Dec (refusal_of (write i k w) s ≡ 0) → (step (write i k w) s).after.control.write_loss ≡ s.control.write_loss
    losses (yes e) = (demand2.writes s i k w e).unlost h
    losses (no d) = ap (λ (q : Write.Outcome). q.answer.control.write_loss) (unchanged d)

pub held-elsewhere : HeldElsewhere
held-elsewhere = record {
  equal = λ s i k. spares s i k (get_or (words_of s i) k 0) (λ d. d.2 refl);
  elsewhere = λ s i k q w p d e. spares s i k w (λ (a, b, c, h). h q p d e);
}
