-- Allocate ("The heap"): the first free object past the last one given, or else from 1 on.
use Rattle.std.specs.Prelude.{ℕ, suc, ◌-◌, Bool, ◌||◌, cond, List, [], ◌∷◌, ◌++◌, eqb, ltb}
use Rattle.layout.specs.declared.answers.Control.{Control}
use Rattle.layout.specs.declared.answers.Allocated.{Allocated}
use Rattle.layout.specs.declared.answers.AllocatedInPlace.{AllocatedInPlace}
use Rattle.layout.specs.Limits.{width_max, slots_len}
use Rattle.records.specs.Record.{free, new_record}
use Rattle.layout.specs.ControlRecord.{bad_control, with_last}
use Rattle.layout.specs.Refusal.{Test, outcome}
use Rattle.rules.specs.Buffers.{short, rec_of, each_record, each_slot, numbers}

-- the numbers in the order in which they are tried: those past the last one given, then the rest
unfoldable pub candidates : ℕ → ℕ → List ℕ
candidates last n = numbers (suc last) (n - last) ++ numbers 1 last

-- the first number that passes, 0 where none does
unfoldable pub first_of : (ℕ → Bool) → List ℕ → ℕ
first_of t [] = 0
first_of t (x ∷ l) = cond (t x) x (first_of t l)

-- the object that is given, 0 where every record is nonzero
unfoldable pub given : Control → List ℕ → ℕ
given c recs = first_of (λ x. free (rec_of c.n recs x)) (candidates c.last c.n)

-- what allocate answers and leaves
pub record Outcome : Type 0 where
  pub answer : Allocated
  pub records : List ℕ
  pub slots : List ℕ

-- an answer and the buffers after the call, as an outcome
abbrev pub gives : Allocated → List ℕ → List ℕ → Outcome
gives a recs slots = record { answer = a; records = recs; slots = slots }

-- what the form answers and leaves that is lent the control record
pub record OutcomeInPlace : Type 0 where
  pub answer : AllocatedInPlace
  pub control : Control
  pub records : List ℕ
  pub slots : List ℕ

-- an answer, the control record and the buffers after the call, as an outcome
abbrev pub gives_in_place : AllocatedInPlace → Control → List ℕ → List ℕ → OutcomeInPlace
gives_in_place a c recs slots = record { answer = a; control = c; records = recs; slots = slots }

module _ (c : Control) (width : ℕ) (recs slots : List ℕ) where
  -- its tests in their order ("From the state")
  unfoldable pub allocate_tests : List Test
  allocate_tests =
      (20, bad_control c) ∷ (2, short c.n recs || short (slots_len c.n) slots) ∷ (3, ltb width_max width) ∷ (24, eqb (given c recs) 0) ∷ []

  -- the outcome ("The heap")
  unfoldable pub allocate : Outcome
  allocate =
      outcome allocate_tests
      (let i = given c recs in
      gives (record { refusal = 0; object = i; control = with_last i c })
      (each_record c.n (λ x r. cond (eqb x i) (new_record width) r) recs)
      (each_slot c.n (λ x w. cond (eqb x i) 0 w) slots))
      (λ k. gives (record { refusal = k; object = 0; control = c }) recs slots)

  -- the form that is lent the control record leaves there what the other answers
  unfoldable pub allocate_in_place : OutcomeInPlace
  allocate_in_place =
      let o = allocate in
      gives_in_place (record { refusal = o.answer.refusal; object = o.answer.object }) o.answer.control o.records o.slots
