-- Analyse, of the buffers; the plain heap passes it over.
-- Assumes nothing.
use Prim.Native.Nat.{ℕ, ◌≤◌}
use mathlib.Core.Path.{◌≡◌, refl, sym, ap, ◌∙◌}
use mathlib.Core.Bool.{false}
use mathlib.Core.List.{List, map}
use mathlib.Core.Logic.{◌≢◌, ◌⊎◌, inl, inr}
use native.Mathlib.Nat.{suc-ne-zero}
use native.Mathlib.Omega.{arith}
use Rattle.layout.specs.ControlRecord.{with_analysis}
use Rattle.layout.specs.Field.{field, flag}
use Rattle.layout.specs.declared.answers.Control.{Control}
use Rattle.layout.proofs.ControlLaws.{Sound, analysis-sound}
use Rattle.graph.specs.Analysis.{Rule, walked, stays, left_clusters, out_loss_of}
use Rattle.graph.specs.Analysis as Graph
use Rattle.graph.specs.Clusters.{out_bit}
use Rattle.graph.specs.Heap.{Heap}
use Rattle.graph.proofs.AnalysisLaws.{analyse-good, out_loss-le, walked-met}
use Rattle.graph.proofs.Paths.{keep-zero}
use Rattle.graph.proofs.SinkLaws.{sinks-from}
use Rattle.graph.proofs.State.{Good, good-ready}
use Rattle.rules.specs.Analyse.{rule_of, clamped, next_limit, used_count, analysed}
use Rattle.rules.specs.View.{view, heap_in, exact_sets, target, encoded}
use Rattle.rules.specs.Calls.{analyse}
use Rattle.rules.specs.Analyse as Analyse
use Rattle.rules.specs.Plain.{Cell, plain_step}
use Rattle.rules.specs.Steps.{State, step}
use Rattle.rules.specs.Demands.{heap_of, words_of, record_in, roots_of, limit_in}
use Rattle.rules.specs.PlainOf.{plain_of, cell_of, cells_of}
use Rattle.rules.proofs.ListLaws.{same_numbers}
use Rattle.rules.proofs.ViewLaws.{view-used}
use Rattle.rules.proofs.SetLaws.{length-exact, exact-at}
use Rattle.rules.proofs.Invariant.{Inv}
use Rattle.rules.proofs.Simulation.{Same, all-by}
use Rattle.rules.proofs.EncodedState.{good-fits, encoded-inv, encoded-cell, encoded-view}
use Rattle.rules.proofs.EncodedLaws.{Fits}
use Rattle.rules.proofs.PointerLaws.{kids-in-use, roots-in-use, roots-low}

-- ---- the call

pub limit-range : (c : Control) → Sound c → (used : ℕ) → (c.tuning.lowest_limit ≤ next_limit c used) × (next_limit c used ≤ 4095)
unfolding next_limit clamped
limit-range c S used = (omega arith, omega (arith, S.tuned.lowests))

module _ (s : State) (I : Inv s) (work : List ℕ) where
  abbrev H : Heap
  H = heap_of s

  abbrev rule : Rule
  rule = rule_of s.control.tuning

  abbrev limit : ℕ
  limit = next_limit s.control (used_count s.control.n s.records)

  abbrev roots : List ℕ
  roots = roots_of s

  abbrev cl' : ℕ → ℕ
  cl' = left_clusters rule H limit roots

  low : 1 ≤ limit
  low = let a = limit-range s.control I.sound (used_count s.control.n s.records) in omega (arith, a.0, I.sound.tuned.lowest)

  G : Good (Graph.analyse rule H limit roots).heap 0
  unfolding view
  G = analyse-good rule H limit roots s.control.write_loss I.good low (roots-low s I)

  abbrev Used : ℕ → Type 0
  Used y = record_in s y ≢ 0

  -- who has a cluster is in use, so the walk leads from objects in use only to such
  blank-cl : (x : ℕ) → record_in s x ≡ 0 → cl' x ≡ 0
  unfolding view field
  blank-cl x e =
      go
      (walked-met H limit (good-ready I.good) low Used (λ x y u m nz. used y nz (kids-in-use s I x y m))
      (λ o y u nz j b. view-used s.control.n s.records s.slots y (λ z. nz (sym j ∙ z)))
      (λ o y u nz m. let t = sinks-from H (H.cluster o) y m in used y t.1 (kids-in-use s I t.2.0 y t.2.3))
      roots (roots-low s I) (λ y m nz. used y nz (roots-in-use s I y m)) x)
    where
      used : (y : ℕ) → y ≢ 0 → (y ≡ 0) ⊎ Used y → Used y
      used y nz (inl z) = absurd (nz z)
      used y nz (inr u) = u

      none : H.cluster x ≡ 0
      none = rw e refl

      go : (walked H limit roots x ≡ H.cluster x) ⊎ Used x → left_clusters rule H limit roots x ≡ 0
      go (inl i) = unfold left_clusters in (keep-zero (stays rule H (walked H limit roots)) (walked H limit roots) x (i ∙ none))
      go (inr d) = absurd (d e)

  fits : Fits s.control.n s.records H.sink (λ x. false) (out_bit H.kids H.sink cl') cl'
  unfolding Graph.analyse view flag field
  fits = good-fits G (λ x e. (rw e refl, refl, blank-cl x e))

  same-kids : (x : ℕ) → map (target s.control.n) (words_of s x) ≡ H.kids x
  unfolding view
  same-kids x = refl

  abbrev after : State
  after = record {
    control = with_analysis limit (Graph.analyse rule H limit roots).out_loss s.control;
    records = encoded (Graph.analyse rule H limit roots).heap s.records;
    slots = s.slots;
    roots = s.roots;
    sinks = s.sinks;
    sets = exact_sets (Graph.analyse rule H limit roots).heap s.sets;
  }

  after-inv : Inv after
  unfolding Graph.analyse view with_analysis
  after-inv =
      let l = limit-range s.control I.sound (used_count s.control.n s.records) in
      encoded-inv s I H.kids H.listed fits s.slots same-kids s.sinks after.sets s.control.last limit 0 (out_loss_of rule H (walked H limit roots)) G
      (analysis-sound s.control I.sound limit _ l.0 l.1 (out_loss-le rule H (walked H limit roots)))
      I.slots-long I.empty I.named I.sinks-long refl I.single (rw (length-exact _ s.sets) I.sets-long)
      (λ h p q. exact-at _ s.sets h (p, q) I.sets-long)

  after-cells : cells_of s.control.n after.records s.slots ≡ cells_of s.control.n s.records s.slots
  unfolding cells_of
  after-cells = same_numbers _ _ 1 s.control.n (λ x p q. cell x)
    where
      cell : (x : ℕ) → cell_of s.control.n after.records s.slots x ≡ cell_of s.control.n s.records s.slots x
      cell x =
          unfold Graph.analyse view in
          (encoded-cell s I H.kids H.listed fits s.slots x) ∙ unfold cell_of view flag field in refl

  abbrev state_of : Analyse.Outcome → State
  state_of o = record { control = o.answer.control; records = o.records; slots = s.slots; roots = s.roots; sinks = s.sinks; sets = o.sets }

  after-view : heap_in s.control.n after.records s.slots s.sinks ≡ (Graph.analyse rule H limit roots).heap
  unfolding Graph.analyse view
  after-view = encoded-view s I H.kids H.listed fits s.slots same-kids

  -- the buffers hold the heap that the rule gives
  pub analyse-ruled : (Analyse.analyse s.control s.records s.slots s.roots s.sinks s.sets work).answer.refusal ≡ 0
      → heap_of (step (analyse work) s).after
      ≡ (Graph.analyse (rule_of s.control.tuning) (heap_of s) (limit_in s work) (roots_of s)).heap
  unfolding step Analyse.analyse Analyse.limit_after analysed with_analysis
  analyse-ruled =
      all-by (λ (o : Analyse.Outcome). o.answer.refusal ≡ 0 → heap_in o.answer.control.n o.records s.slots s.sinks ≡ (Graph.analyse rule H o.answer.control.limit roots).heap) _ _ _
      (λ z e. after-view) (λ m e. absurd (suc-ne-zero m e))

  pub analyse-inv : Inv (step (analyse work) s).after
  unfolding step Analyse.analyse Analyse.limit_after analysed with_analysis
  analyse-inv = all-by (λ (o : Analyse.Outcome). Inv (state_of o)) _ _ _ (λ z. after-inv) (λ m. I)

  pub analyse-same : Same (analyse work) s
  unfolding step Analyse.analyse Analyse.limit_after analysed plain_step with_analysis
  analyse-same = record {
    answers = refl;
    after = all-by (λ (o : Analyse.Outcome). plain_of (state_of o) ≡ plain_of s) _ _ _
        (λ z. ap (λ (l : List Cell). record { last = s.control.last; roots = roots_of s; cells = l }) after-cells) (λ m. refl);
  }

  pub limit-low : (Analyse.analyse s.control s.records s.slots s.roots s.sinks s.sets work).answer.refusal ≡ 0 → 1 ≤ limit_in s work
  unfolding Analyse.analyse Analyse.limit_after with_analysis
  limit-low = all-by (λ (o : Analyse.Outcome). o.answer.refusal ≡ 0 → 1 ≤ o.answer.control.limit) _ _ _ (λ z e. low) (λ m e. absurd (suc-ne-zero m e))
