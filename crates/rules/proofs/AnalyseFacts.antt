-- What an accepted analysis does to the clusters of a heap with the invariant.
-- Assumes nothing.
use Prim.Native.Nat.{ℕ, ◌*◌, ◌/◌, ◌≤◌, ◌<◌, min, max}
use mathlib.Core.Path.{◌≡◌, refl, sym, ap, ◌∙◌}
use mathlib.Core.Bool.{Bool, true, false, not, cond, ◌&&◌, ◌||◌}
use mathlib.Core.List.{List}
use mathlib.Core.Logic.{◌≢◌}
use native.Mathlib.Nat.{suc-ne-zero}
use native.Mathlib.Decide.{ℕ_discrete}
use native.Mathlib.Omega.{arith}
use lib.Dec.{eqb, ltb}
use lib.ListN.{length}
use borrow.Author.Tests.{eq-eqb, ne_eqb, lt-ltb, le-ltb}
use Rattle.layout.specs.Limits.{work_len}
use Rattle.layout.specs.Refusal.{first}
use Rattle.layout.proofs.RefusalLaws.{outcome-zero}
use Rattle.layout.specs.ControlRecord.{with_analysis}
use Rattle.layout.specs.declared.answers.Control.{Control}
use Rattle.records.specs.Record.{in_use, is_written, is_sink, is_out, cluster}
use Rattle.graph.specs.Numbers.{sum, count}
use Rattle.graph.specs.Clusters.{keep, size}
use Rattle.graph.specs.Heap.{Heap}
use Rattle.graph.specs.Analysis.{Rule, bars, walked, is_new, new_head, over, few, stays, out_loss_of, left_clusters}
use Rattle.graph.specs.Analysis as Graph
use Rattle.graph.specs.Invariant.{Ready}
use Rattle.graph.proofs.NumberLaws.{count-ext}
use Rattle.graph.proofs.AnalysisLaws.{ended-inv, left-older, left_out, left-new, seen-reach, placed}
use Rattle.graph.proofs.DepthFirst.{forms, forms-one}
use Rattle.graph.proofs.State.{good-ready}
use Rattle.rules.specs.View.{view}
use Rattle.rules.specs.Analyse.{rule_of, sixteenth, half, clamped, next_limit, used_count}
use Rattle.rules.specs.Analyse as Analyse
use Rattle.rules.specs.Calls.{analyse}
use Rattle.rules.specs.Steps.{State, step}
use Rattle.rules.specs.Demands.{record_in, refusal_of, Analyses, Adjusts, heap_of, roots_of, limit_in, walked_in, members_in, too_many_outs}
use Rattle.graph.proofs.Paths.{keep-zero}
use Rattle.rules.proofs.BoolLaws.{cond-not, or-true}
use Rattle.rules.proofs.Invariant.{Inv, inv-control, inv-long, inv-formed, enough}
use Rattle.rules.proofs.Simulation.{all-by}
use Rattle.rules.proofs.PointerLaws.{roots-low}
use Rattle.rules.proofs.Refused.{answered}
use Rattle.rules.proofs.AnalyseLaws.{analyse-ruled, limit-low}

module _ (s : State) (I : Inv s) (work : List ℕ) (accepted : refusal_of (analyse work) s ≡ 0) where
  abbrev H : Heap
  H = heap_of s

  abbrev rule : Rule
  rule = rule_of s.control.tuning

  abbrev limit : ℕ
  limit = limit_in s work

  abbrev roots : List ℕ
  roots = roots_of s

  ready : Ready H
  ready = good-ready I.good

  low : 1 ≤ limit
  low = limit-low s I work accepted

  -- the clusters that the records have after it
  left : (x : ℕ) → cluster (record_in (step (analyse work) s).after x) ≡ left_clusters rule H limit roots x
  unfolding view Graph.analyse
  left x = ap (λ (K : Heap). K.cluster x) (analyse-ruled s I work accepted)

  out : (x : ℕ) → is_out (record_in (step (analyse work) s).after x) ≡ (Graph.analyse rule H limit roots).heap.out x
  unfolding view
  out x = ap (λ (K : Heap). K.out x) (analyse-ruled s I work accepted)

  kept_or_not : (x c : ℕ) → walked H limit roots x ≡ c → H.cluster c ≡ 0
      → left_clusters rule H limit roots x ≡ cond (over rule H (walked H limit roots) c || few rule H (walked H limit roots) c) 0 c
  unfolding left_clusters keep stays is_new
  kept_or_not x c e z = rw (e, eq-eqb (H.cluster c) 0 z) (cond-not (over rule H (walked H limit roots) c || few rule H (walked H limit roots) c) c 0)

  pub analyse-does : Analyses s work
  unfolding view
  analyse-does = record {
    depth_first = forms H limit roots ready low (roots-low s I);
    one_end = forms-one H limit roots ready low (roots-low s I);
    formed = λ x r z w k.
        let p : walked H limit roots x ≢ 0
        =
        placed H limit roots ready low (roots-low s I) x (seen-reach H limit roots ready low (roots-low s I) I.good.exact I.good.listed-all x r)
        (unbarred x w k) z in
        (p, fresh x z p);
    sizes = λ c nz z. small c nz z;
    deleted = λ x nz z. left x ∙ kept_or_not x (walked H limit roots x) refl z ∙ gone (walked H limit roots x);
    none = none;
    unwritten = λ x. unfold Graph.analyse in (ap (λ (K : Heap). K.written x) (analyse-ruled s I work accepted));
    older = λ x nz. (left x ∙ left-older rule H limit roots ready low (roots-low s I) x nz, out x ∙ sym (was x nz));
    closed = λ x z nz. ap (λ (c : ℕ). H.cluster c) (left x) ∙ left-new rule H limit roots ready low (roots-low s I) x z (λ e. nz (left x ∙ e));
    clusters = answers.0 ∙ count-ext s.control.n _ _ (λ h b. ap (λ (c : ℕ). eqb (H.cluster h) 0 && eqb c h) (sym (left h)));
    members = answers.1 ∙ count-ext s.control.n _ _ (λ x b. ap (λ (c : ℕ). eqb (H.cluster x) 0 && not (eqb c 0)) (sym (left x)));
  }
    where
      answers : ((Analyse.analyse s.control s.records s.slots s.roots s.sinks s.sets work).answer.clusters
          ≡ count s.control.n (λ h. eqb (H.cluster h) 0 && eqb (left_clusters rule H limit roots h) h))
          × ((Analyse.analyse s.control s.records s.slots s.roots s.sinks s.sets work).answer.members
          ≡ count s.control.n (λ x. eqb (H.cluster x) 0 && not (eqb (left_clusters rule H limit roots x) 0)))
      answers = unfold Analyse.analyse Analyse.analysed Graph.analyse with_analysis in
          (all-by
          (λ (o : Analyse.Outcome). o.answer.refusal ≡ 0
          → (o.answer.clusters
          ≡ count s.control.n (λ h. eqb (H.cluster h) 0 && eqb (left_clusters rule H o.answer.control.limit roots h) h))
          × (o.answer.members
          ≡ count s.control.n (λ x. eqb (H.cluster x) 0 && not (eqb (left_clusters rule H o.answer.control.limit roots x) 0)))) _ _ _
          (λ z e. (refl, refl)) (λ m e. absurd (suc-ne-zero m e)) accepted)

      -- the two bounds as they are written
      gone : (c : ℕ) → cond (over rule H (walked H limit roots) c || few rule H (walked H limit roots) c) 0 c
          ≡ cond (too_many_outs s work c || ltb (members_in s work c) s.control.tuning.least_members) 0 c
      gone c = unfold over few in refl

      unbarred : (x : ℕ) → is_written (record_in s x) ≡ false → is_sink (record_in s x) ≡ false → bars H x ≡ false
      unbarred x w k = unfold bars in (rw (w, k) refl)

      fresh : (x : ℕ) → H.cluster x ≡ 0 → walked H limit roots x ≢ 0 → H.cluster (walked H limit roots x) ≡ 0
      fresh x z p = unfold walked in ((ended-inv H limit roots ready low (roots-low s I)).fresh x z p)

      small : (c : ℕ) → c ≢ 0 → H.cluster c ≡ 0 → size s.control.n (walked H limit roots) c ≤ limit
      small c nz z = unfold walked in ((ended-inv H limit roots ready low (roots-low s I)).small c nz z)

      none : limit < s.control.tuning.least_members → (x : ℕ) → H.cluster x ≡ 0 → cluster (record_in (step (analyse work) s).after x) ≡ 0
      none l x z = left x ∙ go (ℕ_discrete (walked H limit roots x) 0)
        where
          go : Dec (walked H limit roots x ≡ 0) → left_clusters rule H limit roots x ≡ 0
          go (yes e) = unfold left_clusters in (keep-zero (stays rule H (walked H limit roots)) (walked H limit roots) x e)
          go (no d) =
              let c = walked H limit roots x in
              let m = small c d (fresh x z d) in
              kept_or_not x c refl (fresh x z d)
              ∙ (unfold few in (rw (lt-ltb (size s.control.n (walked H limit roots) c) s.control.tuning.least_members (omega (arith, m, l)), or-true (over rule H (walked H limit roots) c)) refl))

      was : (x : ℕ) → H.cluster x ≢ 0 → H.out x ≡ (Graph.analyse rule H limit roots).heap.out x
      was x nz = unfold Graph.analyse in (sym (left_out rule H limit roots ready low (roots-low s I) I.good.exact x nz))

-- the control record that it answers, of any buffers
module _ (s : State) (work : List ℕ) (accepted : refusal_of (analyse work) s ≡ 0) where
  abbrev before : Control
  before = s.control

  abbrev used : ℕ
  used = count before.n (λ x. in_use (record_in s x))

  abbrev loss_in : ℕ → ℕ
  loss_in limit = out_loss_of (rule_of before.tuning) (heap_of s) (walked (heap_of s) limit (roots_of s))

  passed : first (Analyse.analyse_tests before s.records s.slots s.roots s.sinks s.sets work) ≡ 0
  unfolding Analyse.analyse
  passed = sym (answered _ _ _ (λ (o : Analyse.Outcome). o.answer.refusal) refl (λ k. refl)) ∙ accepted

  control-left : (Analyse.analyse before s.records s.slots s.roots s.sinks s.sets work).answer.control
      ≡ with_analysis (next_limit before used) (loss_in (next_limit before used)) before
  unfolding Analyse.analyse Analyse.analysed Analyse.limit_after Graph.analyse used_count
  control-left = ap (λ (o : Analyse.Outcome). o.answer.control) (outcome-zero _ _ _ passed)

  limit-left : limit_in s work ≡ next_limit before used
  unfolding with_analysis
  limit-left = ap (λ (c : Control). c.limit) control-left

  -- the next limit by what its two tests tell
  limit-by : (b d : Bool) → eqb before.limit 0 ≡ b → ltb before.out_loss before.write_loss ≡ d
      → next_limit before used ≡ max before.tuning.lowest_limit (min 4095 (cond b (used / 16) (cond d (before.limit / 2) (2 * before.limit))))
  unfolding next_limit clamped sixteenth half
  limit-by b d e f = λ i. max before.tuning.lowest_limit (min 4095 (cond (e i) (used / 16) (cond (f i) (before.limit / 2) (2 * before.limit))))

  loss-left : loss_in (limit_in s work)
      ≡ sum before.n (λ h. cond (eqb (cluster (record_in s h)) 0 && eqb (walked_in s work h) h && too_many_outs s work h) (members_in s work h) 0)
  unfolding out_loss_of new_head is_new over view
  loss-left = refl

  pub analyse-adjusts : Adjusts s work
  unfolding with_analysis
  analyse-adjusts = record {
    same = (ap (λ (c : Control). c.n) control-left, ap (λ (c : Control). c.r) control-left, ap (λ (c : Control). c.last) control-left, ap (λ (c : Control). c.tuning) control-left);
    first = λ z. limit-left ∙ limit-by true _ (eq-eqb before.limit 0 z) refl;
    halved = λ nz l. limit-left ∙ limit-by false true (ne_eqb before.limit 0 nz) (lt-ltb before.out_loss before.write_loss l);
    doubled = λ nz l. limit-left ∙ limit-by false false (ne_eqb before.limit 0 nz) (le-ltb before.out_loss before.write_loss l);
    write_loss = ap (λ (c : Control). c.write_loss) control-left;
    out_loss = ap (λ (c : Control). c.out_loss) control-left ∙ ap loss_in (sym limit-left) ∙ loss-left;
  }

-- lent enough work it is accepted
pub analyse-accepts : (s : State) → Inv s → (work : List ℕ) → work_len s.control.n ≤ length work → refusal_of (analyse work) s ≡ 0
unfolding Analyse.analyse
analyse-accepts s I work long = answered _ _ _ (λ (o : Analyse.Outcome). o.answer.refusal) refl (λ k. refl) ∙ tests
  where
    tests : first (Analyse.analyse_tests s.control s.records s.slots s.roots s.sinks s.sets work) ≡ 0
    tests = unfold Analyse.analyse_tests first in
        (rw (
          inv-control s I,
          inv-long s I,
          enough (work_len s.control.n) work long,
          inv-formed s I,
        ) refl)
