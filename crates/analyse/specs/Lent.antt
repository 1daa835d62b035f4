-- What the walk asks and leaves, told of the heap that its functions are handed.
use Rattle.std.specs.Prelude.{ℕ, List}
use Rattle.graph.specs.Heap as Graph
use Rattle.graph.specs.Analysis.{Work}
use Rattle.rules.specs.View.{view, heap_in}
use Rattle.table.specs.Room.{Sized}
use Rattle.analyse.specs.declared.heap.Heap.{Heap}
use Rattle.analyse.specs.Called.{Visiting, Walking, Visited}
use Rattle.analyse.specs.Starts.{Formable, From, GoesOn}

-- the heap in its slices, with the sinks and without
abbrev pub heap_of : Heap → Graph.Heap
heap_of h = heap_in h.n h.records.now h.slots.now h.sinks.now

abbrev pub view_of : Heap → Graph.Heap
view_of h = view h.n h.records.now h.slots.now

-- the slices are long enough
abbrev pub SizedFor : Heap → List ℕ → Type 0
SizedFor h work = Sized h.n h.records.now h.slots.now work

-- a visit may be made
abbrev pub VisitingIn : Heap → List ℕ → ℕ → ℕ → ℕ → Type 0
VisitingIn h work o c top = Visiting h.n h.records.now h.slots.now h.sinks.now h.sets.now h.limit work o c top

-- the walk has come to these work words
abbrev pub WalkingIn : Heap → List ℕ → ℕ → Type 0
WalkingIn h work top = Walking h.n h.records.now h.slots.now h.sinks.now h.sets.now h.limit work top

-- what a visit leaves
abbrev pub VisitedIn : Heap → Work → List ℕ → ℕ → Type 0
VisitedIn h w work' top' = Visited h.n h.records.now h.slots.now h.sinks.now h.sets.now h.limit w work' top'

-- the walk may be made from these starts, is made from them, and goes on from them
abbrev pub FormableIn : Heap → List ℕ → List ℕ → Type 0
FormableIn h work from = Formable h.n h.limit h.records.now h.slots.now h.sinks.now h.sets.now work from

abbrev pub FromIn : Heap → List ℕ → List ℕ → Type 0
FromIn h from work = From h.n h.records.now h.slots.now h.sinks.now h.sets.now h.limit from work

abbrev pub GoesOnIn : Heap → List ℕ → List ℕ → List ℕ → Type 0
GoesOnIn h from work work' = GoesOn h.n h.records.now h.slots.now h.sinks.now h.sets.now h.limit from work work'
