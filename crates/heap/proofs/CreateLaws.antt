-- What create answers at each of its ends. Assumes nothing.
use Prim.Native.Nat.{ℕ}
use mathlib.Core.Path.{◌≡◌, sym, ap, ◌∙◌}
use mathlib.Core.Bool.{Bool}
use mathlib.Core.List.{List, [], ◌∷◌}
use mathlib.Core.Logic.{◌≢◌}
use Rattle.layout.specs.declared.answers.Control.{Control}
use Rattle.layout.specs.declared.answers.Tuning.{Tuning}
use Rattle.layout.specs.Limits.{sink_max, slots_len}
use Rattle.layout.specs.ControlRecord.{bad_sizes, bad_tuning, new_control, no_control}
use Rattle.layout.specs.Refusal.{first}
use Rattle.layout.proofs.RefusalLaws.{outcome-number, outcome-zero}
use Rattle.rules.specs.Buffers.{short_heap, zeros}
use Rattle.rules.specs.Create as Create

-- its refusal, from what the tests found
module _ (n r : ℕ) (t : Tuning) (recs slots roots list sets : List ℕ) (h : Bool) (eh : h ≡ short_heap n r recs slots roots list sets) where
  is-first : first (Create.create_tests n r t recs slots roots list sets) ≡ first ((1, bad_sizes n r) ∷ (30, bad_tuning t) ∷ (2, h) ∷ [])
  unfolding Create.create_tests
  is-first = sym (ap (λ (b : Bool). first ((1, bad_sizes n r) ∷ (30, bad_tuning t) ∷ (2, b) ∷ [])) eh)

  pub refused : (k : ℕ) → k ≡ first ((1, bad_sizes n r) ∷ (30, bad_tuning t) ∷ (2, h) ∷ []) → k ≢ 0 → (c : Control) → c ≡ no_control
      → Create.gives (record { refusal = k; control = c }) recs slots roots list sets ≡ Create.create n r t recs slots roots list sets
  unfolding Create.create
  refused k e d c f = rw f (sym (outcome-number _ _ (Create.create_tests n r t recs slots roots list sets) k (is-first ∙ sym e) d))

  pub created : 0 ≡ first ((1, bad_sizes n r) ∷ (30, bad_tuning t) ∷ (2, h) ∷ [])
      → (c : Control) (recs' slots' roots' list' sets' : List ℕ) (s : ℕ)
      → c ≡ new_control n r t → recs' ≡ zeros n recs → s ≡ slots_len n → slots' ≡ zeros s slots → roots' ≡ zeros r roots
      → list' ≡ zeros sink_max list → sets' ≡ zeros n sets
      → Create.gives (record { refusal = 0; control = c }) recs' slots' roots' list' sets' ≡ Create.create n r t recs slots roots list sets
  unfolding Create.create
  created z c recs' slots' roots' list' sets' s e f m g o i j =
      rw (e, f, g, o, i, j, m) (sym (outcome-zero _ _ (Create.create_tests n r t recs slots roots list sets) (is-first ∙ sym z)))
