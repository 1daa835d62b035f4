-- The places of the sinks after a call are told by those before it and by the plain heap.
-- Assumes nothing.
use Prim.Native.Nat.{ℕ, zero, suc, ◌-◌, ◌<◌, ◌+◌}
use mathlib.Core.Path.{◌≡◌, refl, sym, ap, ◌∙◌}
use mathlib.Core.Bool.{Bool, true, false, cond}
use mathlib.Core.List.{List, ◌++◌, map}
use native.Mathlib.Omega.{arith}
use lib.ListN.{length, take, drop, get_or, replicate}
use lib.Seq.{length-take-le, get_or-take, ext_get_or}
use Rattle.layout.specs.Limits.{sink_max}
use Rattle.layout.specs.Refusal.{first, by, outcome}
use Rattle.records.specs.Record as R
use Rattle.graph.specs.Writes.{placed, declare}
use Rattle.rules.specs.Buffers.{numbers}
use Rattle.rules.specs.View.{view}
use Rattle.rules.specs.DeclareSink as DeclareSink
use Rattle.rules.specs.Collect.{Kind}
use Rattle.layout.specs.declared.answers.Tuning.{Tuning}
use Rattle.rules.specs.Load.{image_tests, loaded_sinks, load_tests}
use Rattle.rules.specs.Load as Load
use Rattle.rules.specs.Calls.{collect, load}
use Rattle.rules.specs.Plain.{Plain, is_free, cell_at, answer}
use Rattle.rules.specs.Steps.{State, loaded, step}
use Rattle.rules.specs.PlainOf.{plain_of}
use Rattle.rules.specs.Demands.{record_in, collected}
use Rattle.rules.proofs.ListLaws.{length-numbers, get-numbers}
use Rattle.rules.proofs.PlacedLaws.{take-placed}
use Rattle.rules.proofs.Invariant.{Inv}
use Rattle.rules.proofs.Abstraction.{at-free}
use Rattle.rules.proofs.Simulation.{all-by}
use Rattle.rules.proofs.CollectLaws.{collect-sweeps}
use Rattle.rules.proofs.LoadLaws.{load-answered, load-sinks}
use Rattle.rules.proofs.Calls.{step-inv}

-- after a declaration of object i, which is a sink already or not, that gives the refusal m, 0 if it is accepted
unfoldable pub places_declared : ℕ → Bool → ℕ → List ℕ → List ℕ
places_declared zero sink i l = cond sink l (placed i l)
places_declared (suc m) sink i l = l

-- after a collection that leaves this plain heap
unfoldable pub places_left : Plain → List ℕ → List ℕ
places_left P l = map (λ k. cond (is_free (cell_at P.cells (get_or l k 0))) 0 (get_or l k 0)) (numbers 0 sink_max)

-- after a load of this image
unfoldable pub places_loaded : List ℕ → List ℕ → List ℕ
places_loaded b l = outcome (image_tests b) (loaded_sinks b ++ replicate (sink_max - length (loaded_sinks b)) 0) (λ m. l)

module _ (s : State) (I : Inv s) where
  -- the places of its sinks
  abbrev before : List ℕ
  before = take sink_max s.sinks

  module _ (i : ℕ) where
    -- a declaration with this outcome, of an object that is a sink already or not, leaves those places
    abbrev Declared : Bool → DeclareSink.Outcome → Type 0
    Declared t o = take sink_max o.sinks ≡ places_declared o.answer.refusal t i before

    pub declared-places : Declared (R.is_sink (record_in s i)) (DeclareSink.declare_sink s.control i s.records s.slots s.roots s.sinks s.sets)
    unfolding DeclareSink.declare_sink places_declared
    declared-places = all-by (Declared (R.is_sink (record_in s i))) _ _ _ (λ z. go (R.is_sink (record_in s i)) refl _ _) (λ m. refl)
      where
        go : (t : Bool) → R.is_sink (record_in s i) ≡ t → (recs sets : List ℕ)
            → Declared t
            (cond t (DeclareSink.gives (record { refusal = 0; control = s.control }) s.records s.sinks s.sets)
            (DeclareSink.gives (record { refusal = 0; control = s.control }) recs
            ((DeclareSink.after s.control i s.records s.slots s.roots s.sinks s.sets).listed ++ drop sink_max s.sinks) sets))
        go true e recs sets = refl
        go false e recs sets = unfold declare view in (rw e (take-placed i sink_max s.sinks I.sinks-long))

  module _ (kind : Kind) (work map₀ : List ℕ) where
    -- the state after a collection
    abbrev t : State
    t = (step (collect kind work map₀) s).after

    -- what is left of a place with y in it
    abbrev left : ℕ → ℕ
    left y = cond (is_free (cell_at (plain_of t).cells y)) 0 y

    left-long : length (take sink_max t.sinks) ≡ sink_max
    left-long = length-take-le sink_max t.sinks (step-inv (collect kind work map₀) s I).sinks-long

    module _ (accepted : (collected s kind work map₀).answer.refusal ≡ 0) where
      left_at : (k : ℕ) → k < sink_max → get_or (take sink_max t.sinks) k 0 ≡ get_or (map (λ (k : ℕ). left (get_or before k 0)) (numbers 0 sink_max)) k 0
      unfolding R.free
      left_at k p =
          let e : 0 + k ≡ k = omega arith in
          get_or-take sink_max t.sinks k 0 p ∙ (collect-sweeps s kind work map₀ accepted).places k p
          ∙ ap (λ (b : Bool). cond b 0 (get_or s.sinks k 0)) (sym (at-free t.control.n t.records t.slots (get_or s.sinks k 0)))
          ∙ ap left (sym (get_or-take sink_max s.sinks k 0 p))
          ∙ sym (get-numbers (λ (k : ℕ). left (get_or before k 0)) 0 sink_max k 0 p ∙ ap (λ (m : ℕ). left (get_or before m 0)) e)

      pub left-places : take sink_max t.sinks ≡ places_left (plain_of t) before
      unfolding places_left
      left-places = ext_get_or 0 _ _ (left-long ∙ sym (length-numbers _ 0 sink_max)) (λ k p. left_at k (omega (arith, left-long)))

  pub loaded-places : (t : Tuning) (b recs slots roots list sets : List ℕ) → first (load_tests t b recs slots roots list sets) ≡ first (image_tests b)
      → take sink_max (step (load t b recs slots roots list sets) s).after.sinks ≡ places_loaded b before
  unfolding step answer places_loaded outcome
  loaded-places t b recs slots roots list sets e =
      go _ refl ∙ ap (λ (m : ℕ). by m (loaded_sinks b ++ replicate (sink_max - length (loaded_sinks b)) 0) (λ k. before)) (load-answered t b recs slots roots list sets ∙ e)
    where
      go : (m : ℕ) → (Load.load t b recs slots roots list sets).answer.refusal ≡ m
          → take sink_max (by m (loaded t b recs slots roots list sets) (λ k. s)).sinks ≡ by m (loaded_sinks b ++ replicate (sink_max - length (loaded_sinks b)) 0) (λ k. before)
      go zero f = unfold by in (load-sinks t b recs slots roots list sets f)
      go (suc m) f = unfold by in refl
