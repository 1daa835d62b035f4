-- The walk's end, judged: what is left of the clusters, and the sets that it has then.
-- Assumes nothing.
use Prim.Native.Nat.{ℕ, ◌≤◌, ◌<◌, ◌^◌}
use mathlib.Core.Path.{◌≡◌, sym, ap, ◌∙◌, subst}
use mathlib.Core.Bool.{Bool, true, false, cond}
use mathlib.Core.List.{List, map}
use native.Mathlib.Decide.{ℕ_discrete}
use native.Mathlib.Omega.{arith}
use lib.ListN.{length, take}
use Rattle.layout.specs.Limits.{object_max, sink_max}
use Rattle.records.specs.Record.{is_sink, width, cluster}
use Rattle.graph.specs.Numbers.{Obj}
use Rattle.graph.specs.Heap.{Heap}
use Rattle.graph.specs.Clusters.{keep, out_bit}
use Rattle.graph.specs.Analysis.{Work, begin, stays}
use Rattle.graph.specs.Invariant.{Ready, Sizes}
use Rattle.graph.proofs.AnalysisInv.{head-range}
use Rattle.graph.proofs.AnalysisEnds.{begin-inv, finish-inv}
use Rattle.rules.specs.Buffers.{rec_of, eight, used_words, each_record}
use Rattle.rules.specs.View.{target, view, heap_in, exact_sets, encoded_record}
use Rattle.layout.specs.declared.answers.Tuning.{Tuning}
use Rattle.rules.specs.Analyse.{rule_of}
use Rattle.rules.proofs.ListLaws.{rec_of-each}
use Rattle.rules.proofs.EncodedRecord.{encoded-width, encoded-cluster}
use Rattle.rules.proofs.SetLaws.{set_word-same, exact_same}
use Rattle.analyse.specs.Memory.{mem_of, walk_of}
use Rattle.analyse.specs.Starts.{Fit, From, formed_from}
use Rattle.analyse.specs.Judge.{walk_clusters, Judgeable, Judged, left_of}

-- ---- the walk's end is what the judging asks

module _ (n : ℕ) (recs slots list sets : List ℕ) (limit : ℕ) (from work : List ℕ) (W : From n recs slots list sets limit from work) where
  end-formed : walk_clusters n work ≡ formed_from n recs slots list limit from
  unfolding walk_of mem_of
  end-formed = ap (λ (w : Work). w.cl) W.walked.ended

  pub judgeable : Judgeable n recs slots work
  unfolding walk_of mem_of view Sizes
  judgeable = record {
    sized = W.walked.walking.ground.sized;
    small = W.walked.walking.ground.small;
    sizes = W.walked.walking.ground.sizes;
    fits = λ x. go x (ℕ_discrete (walk_clusters n work x) 0);
  }
    where
      go : (x : ℕ) → Dec (walk_clusters n work x ≡ 0) → walk_clusters n work x ≤ n
      go x (yes e) = omega arith
      go x (no e) = head-range W.walked.walking.inv x e

  pub judged-walk : (t : Tuning) (recs' : List ℕ) (loss clusters members : ℕ) → Judged n t recs slots (walk_clusters n work) recs' loss clusters members
      → Judged n t recs slots (formed_from n recs slots list limit from) recs' loss clusters members
  judged-walk t recs' loss clusters members J = subst (λ (f : ℕ → ℕ). Judged n t recs slots f recs' loss clusters members) end-formed J

-- ---- the sets

-- every cluster that the walk leaves has the number of an object
pub formed-fits : (n : ℕ) (recs slots list : List ℕ) (limit : ℕ) (from : List ℕ) → Ready (heap_in n recs slots list) → 1 ≤ limit → Fit n from
    → (x : ℕ) → formed_from n recs slots list limit from x ≤ n
unfolding view
formed-fits n recs slots list limit from R l h x = go (ℕ_discrete (formed_from n recs slots list limit from x) 0)
  where
    H : Heap
    H = heap_in n recs slots list

    go : Dec (formed_from n recs slots list limit from x ≡ 0) → formed_from n recs slots list limit from x ≤ n
    go (yes e) = omega arith
    go (no e) = head-range (finish-inv H limit R l (begin H from) (begin-inv H limit from R h)) x e

module _ (n : ℕ) (t : Tuning) (recs slots list : List ℕ) (cl : ℕ → ℕ) (most : n ≤ object_max) (long : n ≤ length recs) (fits : (x : ℕ) → cl x ≤ n) (recs' : List ℕ)
    (loss clusters members : ℕ) (J : Judged n t recs slots cl recs' loss clusters members) where
  abbrev K : Heap
  K = view n recs slots

  abbrev lf : ℕ → ℕ
  lf = left_of t K cl

  lf-low : (x : ℕ) → lf x < 2 ^ 12
  unfolding keep
  lf-low x = go (stays (rule_of t) K cl (cl x))
    where
      go : (b : Bool) → cond b (cl x) 0 < 2 ^ 12
      go true = omega (arith, fits x)
      go false = omega arith

  record-after : (x : ℕ) → Obj n x → rec_of n recs' x ≡ encoded_record (lf x) (out_bit K.kids K.sink lf x) (is_sink (rec_of n recs x)) false (rec_of n recs x)
  unfolding each_record
  record-after x (p, q) =
      ap (λ (l : List ℕ). rec_of n l x) J.records
      ∙ rec_of-each n (λ y r. encoded_record (lf y) (out_bit K.kids K.sink lf y) (is_sink r) false r) recs x p q long

  cluster-after : (x : ℕ) → Obj n x → cluster (rec_of n recs' x) ≡ lf x
  cluster-after x b = ap cluster (record-after x b) ∙ encoded-cluster _ _ _ _ _ (lf-low x)

  words-after : (x : ℕ) → Obj n x → used_words n recs' slots x ≡ used_words n recs slots x
  unfolding used_words
  words-after x b = ap (λ (k : ℕ). take k (eight slots x)) (ap width (record-after x b) ∙ encoded-width _ _ _ _ _)

  -- made exact for the records that are left, they are exact for the heap with the clusters that are left
  pub sets-left : (H : Heap) → H.n ≡ n → H.listed ≡ take sink_max list → H.kids ≡ K.kids → H.cluster ≡ lf → (sets : List ℕ)
      → exact_sets (heap_in n recs' slots list) sets ≡ exact_sets H sets
  unfolding view
  sets-left H e l k c sets =
      exact_same (heap_in n recs' slots list) H sets (sym e) (λ h o. set_word-same (heap_in n recs' slots list) H h (sym e) (sym l)
      (λ x b. let i : cluster (rec_of n recs' x) ≡ H.cluster x = cluster-after x b ∙ ap (λ (f : ℕ → ℕ). f x) (sym c) in (λ j. sym i ∙ j, λ j. i ∙ j))
      (λ x b j. ap (map (target n)) (words-after x b) ∙ ap (λ (f : ℕ → List ℕ). f x) (sym k)))
