-- A walk with its tests: what it answers and leaves, for every input.
use Rattle.std.specs.Prelude.{ℕ, ◌≡◌, Bool, ◌||◌, cond, List, eqb}
use Rattle.layout.specs.declared.answers.Control.{Control}
use Rattle.layout.specs.Limits.{work_len}
use Rattle.layout.specs.Refusal.{Test, first}
use Rattle.graph.specs.Trace.{Flags, traced}
use Rattle.rules.specs.Buffers.{short, zeros}
use Rattle.rules.specs.View.{starts_in}
use Rattle.wellformed.specs.Check.{heap_tests}
use Rattle.walk.specs.Marks.{flagged}
use Rattle.walk.specs.State.{Way, way, walked_heap, Walked}

-- the tests in their order; rest: a slice besides is too short
abbrev pub walk_tests : Control → List ℕ → List ℕ → List ℕ → List ℕ → List ℕ → List ℕ → Bool → List Test
walk_tests c recs slots roots list sets work rest = heap_tests c recs slots roots list sets (short (work_len c.n) work || rest)

-- where the walk starts
abbrev pub starts_of : Control → List ℕ → List ℕ
starts_of c roots = starts_in c.r roots

-- the flags at its end
abbrev pub end_flags : Way → Control → List ℕ → List ℕ → List ℕ → Flags
end_flags by c recs slots roots = (traced (walked_heap by c.n recs slots) (starts_of c roots)).flags

-- k is answered: where no test holds the flags are in the records and the work words are 0, else nothing changed
pub record AfterWalk (by : Bool) (c : Control) (recs slots roots list sets work : List ℕ) (rest : Bool) (k : ℕ) (recs' work' : List ℕ) : Type 0 where
  pub refusal : k ≡ first (walk_tests c recs slots roots list sets work rest)
  pub records : recs' ≡ cond (eqb k 0) (flagged c.n (end_flags (way by list sets) c recs slots roots) recs) recs
  pub words : work' ≡ cond (eqb k 0) (zeros (work_len c.n) work) work
  -- the records of an accepted walk, in its own terms
  pub walked : k ≡ 0 → Walked (way by list sets) c.n (starts_of c roots) recs slots recs'
