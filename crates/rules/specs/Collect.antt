-- Collect, plainly and by clusters ("Collection"): a walk, then one sweep for either kind.
use Rattle.std.specs.Prelude.{ℕ, Bool, not, ◌||◌, List, [], ◌∷◌}
use Rattle.layout.specs.declared.answers.Control.{Control}
use Rattle.layout.specs.declared.answers.Collected.{Collected}
use Rattle.layout.specs.Limits.{work_len, map_len}
use Rattle.layout.specs.ControlRecord.{bad_control}
use Rattle.layout.specs.Refusal.{Test, outcome}
use Rattle.graph.specs.Heap.{Heap}
use Rattle.graph.specs.Trace.{reached, traced, keeps, unclustered}
use Rattle.rules.specs.Buffers.{short, short_heap, zeros}
use Rattle.rules.specs.View.{heap_in, starts_in}
use Rattle.rules.specs.WellFormed.{well_formed}
use Rattle.rules.specs.Sweep.{sweep}

-- the two kinds ("Collection")
pub data Kind : Type 0 where
  plainly by_clusters : Kind

-- ---- the walk

-- what a walk tells the sweep: who is kept, which clusters' heads were reached, how many objects were scanned
pub record Marking : Type 0 where
  pub kept : ℕ → Bool
  pub heads : ℕ → Bool
  pub scanned : ℕ

-- a plain collection is the walk over the same heap with no clusters; there a head is reached where it is kept
unfoldable pub trace : Kind → Heap → List ℕ → Marking
trace plainly H from =
    let w = traced (unclustered H) from in
    record { kept = keeps (unclustered H) w.flags; heads = keeps (unclustered H) w.flags; scanned = w.scanned }
trace by_clusters H from =
    let w = traced H from in
    record { kept = keeps H w.flags; heads = w.flags reached; scanned = w.scanned }

-- ---- the call

-- what a collection answers and leaves
pub record Outcome : Type 0 where
  pub answer : Collected
  pub records : List ℕ
  pub slots : List ℕ
  pub sinks : List ℕ
  pub sets : List ℕ
  pub work : List ℕ
  pub map : List ℕ

-- an answer and the buffers after the call, as an outcome
abbrev pub gives : Collected → List ℕ → List ℕ → List ℕ → List ℕ → List ℕ → List ℕ → Outcome
gives a recs slots list sets work map =
    record { answer = a; records = recs; slots = slots; sinks = list; sets = sets; work = work; map = map }

-- its tests in their order ("From the state")
unfoldable pub collect_tests : Control → List ℕ → List ℕ → List ℕ → List ℕ → List ℕ → List ℕ → List ℕ → List Test
collect_tests c recs slots roots list sets work map =
    (20, bad_control c)
    ∷ (2, short_heap c.n c.r recs slots roots list sets || short (work_len c.n) work || short (map_len c.n) map)
    ∷ (21, not (well_formed c recs slots roots list sets)) ∷ []

-- what is left after a walk that told this: the sweep, and work cleared
abbrev pub after_walk : Control → List ℕ → List ℕ → List ℕ → List ℕ → List ℕ → List ℕ → Marking → Outcome
after_walk c recs slots list sets work map t =
    let s = sweep c.n recs slots list sets map t.kept t.heads in
    gives (record { refusal = 0; freed = s.freed; kept = s.kept; scanned = t.scanned; control = c }) s.records s.slots s.sinks s.sets
    (zeros (work_len c.n) work) s.map

-- the outcome ("Collection")
unfoldable pub collect : Kind → Control → List ℕ → List ℕ → List ℕ → List ℕ → List ℕ → List ℕ → List ℕ → Outcome
collect kind c recs slots roots list sets work map =
    outcome (collect_tests c recs slots roots list sets work map)
    (after_walk c recs slots list sets work map (trace kind (heap_in c.n recs slots list) (starts_in c.r roots)))
    (λ m. gives (record { refusal = m; freed = 0; kept = 0; scanned = 0; control = c }) recs slots list sets work map)
