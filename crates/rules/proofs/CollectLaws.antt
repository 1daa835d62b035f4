-- Collect, of either kind, of the buffers and of the plain heap.
-- Assumes nothing.
use Prim.Native.Nat.{ℕ, ◌≤◌}
use mathlib.Core.Path.{◌≡◌, refl, sym, ap, ◌∙◌, subst}
use mathlib.Core.Logic.{◌≢◌, ◌↔◌}
use mathlib.Core.List.{List, [], ◌∷◌}
use lib.ListN.{length, take}
use borrow.Author.Tests.{ltb-false, not-false}
use Rattle.layout.specs.Limits.{slots_len, work_len, map_len}
use Rattle.records.specs.Record.{cluster}
use Rattle.layout.specs.Refusal.{first, by, outcome}
use Rattle.graph.specs.Numbers.{Obj, has}
use Rattle.rules.specs.View.{view}
use Rattle.rules.specs.Buffers.{short, short_heap}
use Rattle.rules.specs.Calls.{collect, swept}
use Rattle.rules.specs.Sweep.{Swept, sweep}
use Rattle.rules.specs.Collect.{Kind, plainly, by_clusters, Outcome, Marking, trace, collect_tests, after_walk}
use Rattle.rules.specs.Collect as Collect
use Rattle.rules.specs.Plain.{Cell, kept_numbers, answer, plain_step}
use Rattle.rules.specs.Steps.{State, step}
use Rattle.rules.specs.Demands.{record_in, KeptBy, Scans, Sweeps, Collects, SameEnd, heap_of, roots_of, collected, Reachable}
use Rattle.rules.specs.PlainOf.{plain_of}
use Rattle.layout.proofs.ControlLaws.{control-facts}
use Rattle.layout.proofs.RefusalLaws.{first-passed, outcome-zero}
use Rattle.rules.proofs.BoolLaws.{or_split}
use Rattle.rules.proofs.Refused.{answered}
use Rattle.rules.proofs.Invariant.{Inv, inv-control, inv-long, inv-formed, enough}
use Rattle.rules.proofs.Simulation.{Same, all-by}
use Rattle.rules.proofs.TraceLaws.{Fit, inv-fit, Facts, trace-facts, trace-few, plain-few, head-obj, kept-led}
use Rattle.rules.proofs.SweepLaws.{sweep-alike, state', swept-formed, swept-places, freed-is, swept-maps, swept-freed, swept_kept, cluster-stays, cluster-goes, kept_leaves}
use Rattle.rules.proofs.SweepLaws.{swept-inv, swept-cells, same_kept, same_count, same-free, same_map, whole-stays}

-- ---- every accepted collection

module _ (s : State) (kind : Kind) where
  -- what the walk tells
  abbrev told : Marking
  told = trace kind (heap_of s) (roots_of s)

  facts : (C : Fit s) → Facts s C told.kept told.heads (KeptBy kind s)
  facts C = trace-facts s C kind

  -- the state that the sweep leaves
  abbrev left : State
  left = state' s told.kept told.heads

  module _ (work map₀ : List ℕ) where
    abbrev done : Outcome
    done = after_walk s.control s.records s.slots s.sinks s.sets work map₀ told

    done-scans : Fit s → (k : Kind) → kind ≡ k → Scans s kind done.answer
    done-scans C plainly e = rw e (unfold sweep in (plain-few s C))
    done-scans C by_clusters e = rw e (unfold sweep trace in (trace-few s C by_clusters, refl))

    done-sweeps : Fit s → map_len s.control.n ≤ length map₀ → Sweeps s left kind done
    done-sweeps C long = record {
      frees = λ x b u. freed-is s C _ _ (KeptBy kind s) (facts C) x u;
      maps = swept-maps s C _ _ (KeptBy kind s) (facts C) map₀ long;
      freed = swept-freed s C _ _ (KeptBy kind s) (facts C) map₀ long;
      kept = swept_kept s C _ _ (KeptBy kind s) (facts C) map₀;
      scanned = done-scans C kind refl;
      leaves = kept_leaves s C _ _ (KeptBy kind s) (facts C);
      stays = cluster-stays s C _ _ (KeptBy kind s) (facts C);
      goes = cluster-goes s C _ _ (KeptBy kind s) (facts C);
      places = swept-places s C _ _ (KeptBy kind s) (facts C);
      formed = swept-formed s C _ _ (KeptBy kind s) (facts C);
    }

    module _ (accepted : (collected s kind work map₀).answer.refusal ≡ 0) where
      none : first (collect_tests s.control s.records s.slots s.roots s.sinks s.sets work map₀) ≡ 0
      unfolding Collect.collect
      none = sym (answered _ _ _ (λ (o : Outcome). o.answer.refusal) refl (λ k. refl)) ∙ accepted

      passed : Fit s × (map_len s.control.n ≤ length map₀)
      unfolding collect_tests short short_heap slots_len
      passed =
          let t1 = first-passed 19 _ _ none in
          let t2 = first-passed 1 _ _ t1.1 in
          let t3 = first-passed 20 _ _ t2.1 in
          let e = or_split _ _ t2.0 in
          let d = or_split _ _ e.0 in
          let h = or_split _ _ d.0 in
          let g = or_split _ _ h.0 in
          let c = or_split _ _ g.0 in
          let b = or_split _ _ c.0 in (
            record {
              size = (control-facts s.control t1.0).sizes.most;
              recs-long = ltb-false _ _ b.0;
              slots-long = ltb-false _ _ b.1;
              roots-long = ltb-false _ _ c.1;
              sinks-long = ltb-false _ _ g.1;
              sets-long = ltb-false _ _ h.1;
              formed = not-false _ t3.0;
            },
            ltb-false _ _ e.1,
          )

      collected-is : collected s kind work map₀ ≡ done
      unfolding Collect.collect
      collected-is = outcome-zero _ _ _ none

      collected-after : (step (collect kind work map₀) s).after ≡ left
      unfolding step answer
      collected-after =
          ap (λ (o : Outcome). record { control = o.answer.control; records = o.records; slots = o.slots; roots = s.roots; sinks = o.sinks; sets = o.sets }) collected-is ∙ (unfold sweep in refl)

      pub collect-sweeps : Sweeps s (step (collect kind work map₀) s).after kind (collected s kind work map₀)
      collect-sweeps =
          subst (λ (o : Outcome). Sweeps s (step (collect kind work map₀) s).after kind o) (sym collected-is)
          (subst (λ (t : State). Sweeps s t kind done) (sym collected-after) (done-sweeps passed.0 passed.1))

-- ---- with the invariant

module _ (s : State) (I : Inv s) (kind : Kind) (work map₀ : List ℕ) where
  abbrev fit : Fit s
  fit = inv-fit s I

  abbrev known : Facts s fit (told s kind).kept (told s kind).heads (KeptBy kind s)
  known = facts s kind fit

  abbrev led : (x : ℕ) → KeptBy kind s x ↔ Reachable s x
  led = kept-led s I kind

  abbrev state_of : Outcome → State
  state_of o = record { control = o.answer.control; records = o.records; slots = o.slots; roots = s.roots; sinks = o.sinks; sets = o.sets }

  pub collect-inv : Inv (step (collect kind work map₀) s).after
  unfolding step Collect.collect answer sweep
  collect-inv = all-by (λ (o : Outcome). Inv (state_of o)) _ _ _ (λ z. swept-inv s fit _ _ (KeptBy kind s) known I led) (λ m. I)

  -- with enough work and map it is accepted
  module _ (work-long : work_len s.control.n ≤ length work) (map-long : map_len s.control.n ≤ length map₀) where
    collect-tests : first (collect_tests s.control s.records s.slots s.roots s.sinks s.sets work map₀) ≡ 0
    unfolding collect_tests first
    collect-tests =
        rw (
          inv-control s I,
          inv-long s I,
          enough (work_len s.control.n) work work-long,
          enough (map_len s.control.n) map₀ map-long,
          inv-formed s I,
        )
        refl

    abbrev end : Outcome
    end = done s kind work map₀

    pub collect-is : Collect.collect kind s.control s.records s.slots s.roots s.sinks s.sets work map₀ ≡ end
    unfolding Collect.collect outcome by
    collect-is = rw collect-tests refl

    pub scans-few : end.answer.scanned ≤ end.answer.kept
    unfolding sweep
    scans-few = trace-few s fit kind

    done-answers : swept end.answer.refusal end.answer.freed end.answer.kept (take (map_len s.control.n) end.map) ∷ []
        ≡ (plain_step (collect kind work map₀) (plain_of s)).answers
    unfolding plain_step answer
    done-answers = λ i.
        swept 0 (same-free s fit _ _ (KeptBy kind s) known I led map₀ i) (same_count s fit _ _ (KeptBy kind s) known I led map₀ i)
        (same_map s fit _ _ (KeptBy kind s) known I led map₀ map-long i) ∷ []

    done-after : plain_of (state_of end) ≡ (plain_step (collect kind work map₀) (plain_of s)).after
    unfolding plain_step answer sweep
    done-after =
        ap (λ (l : List Cell). record { last = s.control.last; roots = roots_of s; cells = l }) (swept-cells s fit _ _ (KeptBy kind s) known I led)

    pub collect-same : Same (collect kind work map₀) s
    unfolding step answer
    collect-same = record {
      answers = ap (λ (o : Outcome). swept o.answer.refusal o.answer.freed o.answer.kept (take (map_len s.control.n) o.map) ∷ []) collect-is ∙ done-answers;
      after = ap (λ (o : Outcome). plain_of (state_of o)) collect-is ∙ done-after;
    }

    -- ---- demand 2

    pub collect-does : Collects s kind work map₀
    collect-does =
        let e : (collected s kind work map₀).answer.refusal ≡ 0 = ap (λ (o : Outcome). o.answer.refusal) collect-is in
        let f = (collect-sweeps s kind work map₀ e).frees in
        record {
          accepted = e;
          frees = λ x b u. (λ z r. (f x b u).0 z ((kept-led s I kind x).1 r), λ h. (f x b u).1 (λ k. h ((kept-led s I kind x).0 k)));
          stays = λ x.
              subst (λ (t : State). record_in t (cluster (record_in s x)) ≢ 0 → cluster (record_in t x) ≡ cluster (record_in s x)) (sym (collected-after s kind work map₀ e))
              (whole-stays s fit _ _ (KeptBy kind s) known I led x);
        }

-- ---- both kinds leave the same

module _ (s : State) (I : Inv s) (work map₀ : List ℕ) (work-long : work_len s.control.n ≤ length work)
    (map-long : map_len s.control.n ≤ length map₀) where
  abbrev tells : Kind → Marking
  tells kind = told s kind

  abbrev sweeps : Kind → Swept
  sweeps kind = sweep s.control.n s.records s.slots s.sinks s.sets map₀ (tells kind).kept (tells kind).heads

  -- an object is kept by both walks or by none
  kept-alike : (x : ℕ) → Obj s.control.n x → (tells plainly).kept x ≡ (tells by_clusters).kept x
  kept-alike x b = by plainly ∙ sym (by by_clusters)
    where
      by : (kind : Kind) → (tells kind).kept x ≡ has x (kept_numbers (plain_of s))
      by kind = same_kept s (inv-fit s I) _ _ (KeptBy kind s) (facts s kind (inv-fit s I)) I (kept-led s I kind) x b

  -- a head is reached by both walks or by none
  heads-alike : (x : ℕ) → cluster (record_in s x) ≢ 0 → (tells plainly).heads (cluster (record_in s x)) ≡ (tells by_clusters).heads (cluster (record_in s x))
  unfolding view
  heads-alike x nz =
      (facts s plainly (inv-fit s I)).heads-is x nz ∙ kept-alike (cluster (record_in s x)) (head-obj s (inv-fit s I) x nz)
      ∙ sym ((facts s by_clusters (inv-fit s I)).heads-is x nz)

  swept-alike : sweeps plainly ≡ sweeps by_clusters
  swept-alike = sweep-alike _ _ _ _ _ _ _ _ _ _ kept-alike (λ x o nz. heads-alike x nz)

  pub same_end_lem : SameEnd s work map₀
  same_end_lem =
      let p = collect-is s I plainly work map₀ work-long map-long in
      let c = collect-is s I by_clusters work map₀ work-long map-long in
      record {
        records = ap (λ (o : Outcome). o.records) p ∙ ap (λ (e : Swept). e.records) swept-alike ∙ sym (ap (λ (o : Outcome). o.records) c);
        slots = ap (λ (o : Outcome). o.slots) p ∙ ap (λ (e : Swept). e.slots) swept-alike ∙ sym (ap (λ (o : Outcome). o.slots) c);
        sinks = ap (λ (o : Outcome). o.sinks) p ∙ ap (λ (e : Swept). e.sinks) swept-alike ∙ sym (ap (λ (o : Outcome). o.sinks) c);
        sets = ap (λ (o : Outcome). o.sets) p ∙ ap (λ (e : Swept). e.sets) swept-alike ∙ sym (ap (λ (o : Outcome). o.sets) c);
        maps = ap (λ (o : Outcome). o.map) p ∙ ap (λ (e : Swept). e.map) swept-alike ∙ sym (ap (λ (o : Outcome). o.map) c);
      }
