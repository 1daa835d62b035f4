-- What show answers at each of its ends. Assumes nothing.
use Prim.Native.Nat.{ℕ, ◌+◌, ◌-◌, ◌*◌, ◌≤◌, ◌<◌}
use mathlib.Core.Path.{◌≡◌, refl, sym, ap, ◌∙◌}
use mathlib.Core.List.{List, []}
use mathlib.Core.Logic.{◌≢◌}
use native.Mathlib.Omega.{arith}
use lib.ListN.{length, get_or, take, drop}
use Rattle.layout.specs.declared.answers.Control.{Control}
use Rattle.layout.specs.declared.answers.Part.{Part}
use Rattle.records.specs.Record.{width}
use Rattle.layout.specs.Limits.{object_max, slots_len}
use Rattle.layout.specs.Refusal.{first}
use Rattle.layout.proofs.RefusalLaws.{outcome-zero, outcome-number}
use Rattle.rules.specs.Show.{show_tests}
use Rattle.rules.specs.Show as Show
use Rattle.rules.proofs.BufferLaws.{used-part}
use Rattle.table.specs.Named.{named_tests}
use Rattle.table.proofs.NamedLaws.{named-shown, show-named, start_is}

-- what `object_refusal` answers is what the tests of show say
pub tested : (c : Control) (i : ℕ) (recs slots : List ℕ) (m : ℕ) → m ≡ first (named_tests c i recs slots object_max) → m ≡ first (show_tests c i recs slots)
tested c i recs slots m e = e ∙ named-shown c i recs slots object_max (omega arith)

-- where all pass, the object's record and slots are there
module _ (c : Control) (i : ℕ) (recs slots : List ℕ) (e : 0 ≡ first (named_tests c i recs slots object_max)) where
  pub passed : first (show_tests c i recs slots) ≡ 0
  passed = sym (tested c i recs slots 0 e)

  pub in_reach : (1 ≤ i)
      × (i - 1 < length recs)
      × (slots_len (i - 1) ≤ 8 * object_max)
      × (slots_len (i - 1) + width (get_or recs (i - 1) 0) ≤ length slots)
  in_reach =
      let N = show-named c i recs slots passed in
      let s = start_is (i - 1) in
      let f = N.sound.sizes.most in
      (N.low, omega (arith, N), omega (arith, N, s, f), omega (arith, N, s))

module _ (c : Control) (i : ℕ) (recs slots : List ℕ) where
  abbrev outcome : Show.Outcome
  outcome = Show.show c i recs slots

  module _ (m : ℕ) (e : m ≡ first (named_tests c i recs slots object_max)) (d : m ≢ 0) where
    refused : outcome ≡ record { answer = record { refusal = m; start = 0; length = 0; control = c }; words = [] }
    unfolding Show.show
    refused = outcome-number _ _ (show_tests c i recs slots) m (sym (tested c i recs slots m e)) d

    pub no_part : ◌≡◌ {A = Part} (record { refusal = m; start = 0; length = 0; control = c }) outcome.answer
    no_part = rw refused refl

    pub no_words : ([] ≡ outcome.words) × (m ≡ outcome.answer.refusal)
    no_words = rw refused (refl, refl)

  module _ (e : 0 ≡ first (named_tests c i recs slots object_max)) where
    shown : (s : ℕ) → s ≡ slots_len (i - 1) → (w : ℕ) → w ≡ width (get_or recs (i - 1) 0)
        → outcome ≡ record { answer = record { refusal = 0; start = s; length = w; control = c }; words = take w (drop s slots) }
    unfolding Show.show
    shown s f w g =
        let z = passed c i recs slots e in
        let N = show-named c i recs slots z in
        outcome-zero _ _ (show_tests c i recs slots) z
        ∙ rw (used-part c.n recs slots i N.low N.legal.narrow, N.rec-at, f, g, start_is (i - 1)) refl

    -- where the part is
    pub the_part : (s : ℕ) → s ≡ slots_len (i - 1) → (w : ℕ) → w ≡ width (get_or recs (i - 1) 0)
        → ◌≡◌ {A = Part} (record { refusal = 0; start = s; length = w; control = c }) outcome.answer
    the_part s f w g = sym (ap (λ (o : Show.Outcome). o.answer) (shown s f w g))

    -- the part itself
    pub the_words : (s : ℕ) → s ≡ slots_len (i - 1) → (w : ℕ) → w ≡ width (get_or recs (i - 1) 0)
        → (take (s + w - s) (drop s slots) ≡ outcome.words) × (0 ≡ outcome.answer.refusal)
    the_words s f w g =
        let q : s + w - s ≡ w = omega arith in
        rw (shown s f w g, q) (refl, refl)

-- the ends of a show, for the search
pub ruleset ends = (in_reach, no_part, no_words, the_part, the_words)
