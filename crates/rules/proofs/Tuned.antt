-- A game gets the same answers under any two tunings, since both are those of the plain heap.
-- Assumes nothing.
use mathlib.Core.Path.{◌≡◌, refl, sym, ap, ap₂, ◌∙◌}
use mathlib.Core.Bool.{Bool}
use mathlib.Core.List.{List, [], ◌∷◌, ◌++◌}
use Rattle.layout.specs.Refusal.{outcome}
use Rattle.rules.specs.Load.{image_tests, input_tests}
use Rattle.rules.specs.Calls.{Call, did}
use Rattle.rules.specs.Plain.{Plain, Played, answer, plain_slots, plain_step, plain_loaded}
use Rattle.rules.specs.Steps.{answers_of, after_all}
use Rattle.rules.specs.Demands.{Retuned, same, loads, EachRetuned, SameUnderTuning}
use Rattle.rules.proofs.Demand3.{demand3}

-- the plain heap is handed no tuning, and tests only whether one is legal
pub retuned-step : {c d : Call} → Retuned c d → (P : Plain) → plain_step c P ≡ plain_step d P
unfolding plain_step input_tests
retuned-step (same call) P = refl
retuned-step (loads t u image recs slots roots list sets e) P =
    ap (λ (b : Bool). outcome {A = Played Plain} ((30, b) ∷ image_tests image) (answer (did 0) (plain_loaded image)) (λ m. answer (did m) P)) e

-- so two such lists are one to it
retuned-answers : (l m : List Call) → EachRetuned l m → (P : Plain) → answers_of plain_step l P ≡ answers_of plain_step m P
unfolding answers_of
retuned-answers [] [] h P = refl
retuned-answers [] (d ∷ m) h P = absurd h
retuned-answers (c ∷ l) [] h P = absurd h
retuned-answers (c ∷ l) (d ∷ m) h P =
    let e = retuned-step h.0 P in
    ap₂ ◌++◌ (ap (λ (p : Played Plain). p.answers) e)
    (retuned-answers l m h.1 (plain_step c P).after ∙ ap (λ (p : Played Plain). answers_of plain_step m p.after) e)

retuned-after : (l m : List Call) → EachRetuned l m → (P : Plain) → after_all plain_step l P ≡ after_all plain_step m P
unfolding after_all
retuned-after [] [] h P = refl
retuned-after [] (d ∷ m) h P = absurd h
retuned-after (c ∷ l) [] h P = absurd h
retuned-after (c ∷ l) (d ∷ m) h P =
    retuned-after l m h.1 (plain_step c P).after
    ∙ ap (λ (p : Played Plain). after_all plain_step m p.after) (retuned-step h.0 P)

pub same-under-tuning : SameUnderTuning
same-under-tuning n r t u recs slots roots list sets recs' slots' roots' list' sets' e f l m h a b =
    let A = demand3 n r t recs slots roots list sets e l a in
    let B = demand3 n r u recs' slots' roots' list' sets' f m b in
    let P = retuned-after l m h _ in
    record {
      answers = A.answers ∙ retuned-answers l m h _ ∙ sym B.answers;
      slots = A.slots ∙ ap (λ (Q : Plain). plain_slots Q.cells) P ∙ sym B.slots;
      roots = A.roots ∙ ap (λ (Q : Plain). Q.roots) P ∙ sym B.roots;
    }
