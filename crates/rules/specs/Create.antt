-- Create ("The heap"): n records, 8n slots, r roots, the 64 places of the list of sinks and n sets become 0.
use Rattle.std.specs.Prelude.{ℕ, List, [], ◌∷◌}
use Rattle.layout.specs.declared.answers.Done.{Done}
use Rattle.layout.specs.declared.answers.Tuning.{Tuning}
use Rattle.layout.specs.Limits.{sink_max, slots_len}
use Rattle.layout.specs.ControlRecord.{bad_sizes, bad_tuning, new_control, no_control}
use Rattle.layout.specs.Refusal.{Test, outcome}
use Rattle.rules.specs.Buffers.{short_heap, zeros}

-- what create answers and leaves
pub record Outcome : Type 0 where
  pub answer : Done
  pub records : List ℕ
  pub slots : List ℕ
  pub roots : List ℕ
  pub sinks : List ℕ
  pub sets : List ℕ

-- an answer and the buffers after the call, as an outcome
abbrev pub gives : Done → List ℕ → List ℕ → List ℕ → List ℕ → List ℕ → Outcome
gives a recs slots roots list sets = record { answer = a; records = recs; slots = slots; roots = roots; sinks = list; sets = sets }

module _ (n r : ℕ) (t : Tuning) (recs slots roots list sets : List ℕ) where
  -- its tests in their order ("From the input")
  unfoldable pub create_tests : List Test
  create_tests = (1, bad_sizes n r) ∷ (30, bad_tuning t) ∷ (2, short_heap n r recs slots roots list sets) ∷ []

  -- refused, it gives a control record of zeros
  unfoldable pub create : Outcome
  create =
      outcome create_tests
      (gives (record { refusal = 0; control = new_control n r t }) (zeros n recs) (zeros (slots_len n) slots) (zeros r roots)
      (zeros sink_max list) (zeros n sets))
      (λ k. gives (record { refusal = k; control = no_control }) recs slots roots list sets)
