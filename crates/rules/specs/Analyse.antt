-- Analyse ("Analysis"): the next size limit, then the clusters that the walk forms and the rule leaves.
use Rattle.std.specs.Prelude.{ℕ, ◌*◌, ◌/◌, min, max, not, ◌||◌, cond, List, [], ◌∷◌, eqb, ltb}
use Rattle.layout.specs.declared.answers.Control.{Control}
use Rattle.layout.specs.declared.answers.Tuning.{Tuning}
use Rattle.layout.specs.declared.answers.Analysed.{Analysed}
use Rattle.layout.specs.Limits.{limit_max, work_len}
use Rattle.records.specs.Record.{in_use}
use Rattle.layout.specs.ControlRecord.{bad_control, with_analysis}
use Rattle.layout.specs.Refusal.{Test, outcome}
use Rattle.graph.specs.Numbers.{count}
use Rattle.graph.specs.Analysis.{Rule}
use Rattle.graph.specs.Analysis as Graph
use Rattle.rules.specs.Buffers.{short, short_heap, rec_of, zeros}
use Rattle.rules.specs.View.{heap_in, starts_in, exact_sets, encoded}
use Rattle.rules.specs.WellFormed.{well_formed}

-- the bounds that a new cluster is judged by ("Analysis")
abbrev pub rule_of : Tuning → Rule
rule_of t = record { out_per_ten = t.outs_per_ten; least = t.least_members }

-- a sixteenth of x, rounded down
unfoldable pub sixteenth : ℕ → ℕ
sixteenth x = x / 16

-- half of x, rounded down
unfoldable pub half : ℕ → ℕ
half x = x / 2

-- x, clamped to the range of size limits, which begins at the lowest
unfoldable pub clamped : ℕ → ℕ → ℕ
clamped lowest x = max lowest (min limit_max x)

-- the next size limit: a sixteenth of the objects in use the first time, later the last limit halved or doubled, and always clamped
unfoldable pub next_limit : Control → ℕ → ℕ
next_limit c used =
    clamped c.tuning.lowest_limit
    (cond (eqb c.limit 0) (sixteenth used) (cond (ltb c.out_loss c.write_loss) (half c.limit) (2 * c.limit)))

-- the objects in use, reachable or not ("Analysis")
unfoldable pub used_count : ℕ → List ℕ → ℕ
used_count n recs = count n (λ x. in_use (rec_of n recs x))

-- the size limit that the call works by and leaves ("Analysis")
unfoldable pub limit_after : Control → List ℕ → ℕ
limit_after c recs = next_limit c (used_count c.n recs)

-- what analyse answers and leaves
pub record Outcome : Type 0 where
  pub answer : Analysed
  pub records : List ℕ
  pub sets : List ℕ
  pub work : List ℕ

-- an answer and the buffers after the call, as an outcome
abbrev pub gives : Analysed → List ℕ → List ℕ → List ℕ → Outcome
gives a recs sets work = record { answer = a; records = recs; sets = sets; work = work }

module _ (c : Control) (recs slots roots list sets work : List ℕ) where
  -- its tests in their order ("From the state")
  unfoldable pub analyse_tests : List Test
  analyse_tests =
      (20, bad_control c) ∷ (2, short_heap c.n c.r recs slots roots list sets || short (work_len c.n) work)
      ∷ (21, not (well_formed c recs slots roots list sets)) ∷ []

  -- the heap and the counts after the analysis
  unfoldable pub analysed : Graph.Analysed
  analysed = Graph.analyse (rule_of c.tuning) (heap_in c.n recs slots list) (limit_after c recs) (starts_in c.r roots)

  -- the outcome ("Analysis")
  unfoldable pub analyse : Outcome
  analyse =
      outcome analyse_tests
      (let a = analysed in
      gives (record { refusal = 0; clusters = a.clusters; members = a.members; control = with_analysis (limit_after c recs) a.out_loss c })
      (encoded a.heap recs)
      (exact_sets a.heap sets)
      (zeros (work_len c.n) work))
      (λ m. gives (record { refusal = m; clusters = 0; members = 0; control = c }) recs sets work)
