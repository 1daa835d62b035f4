-- What the code keeps in the lent words between two moves of the walk, and what a move leaves.
use Rattle.std.specs.Prelude.{ℕ, ◌+◌, ◌-◌, ◌*◌, ◌≤◌, ◌≡◌, Bool, true, false, cond, ◌&&◌, length, get_or, take, drop}
use mathlib.Core.List.{List, [], ◌++◌, map, Memᴰ}
use Rattle.layout.specs.Limits.{sink_max}
use Rattle.records.specs.Record.{cluster}
use Rattle.bitmap.specs.Bits.{set_bits}
use Rattle.graph.specs.Numbers.{Obj, sum, count}
use Rattle.graph.specs.Heap.{Heap, pointers, targets}
use Rattle.graph.specs.Invariant.{Listed}
use Rattle.graph.specs.Trace.{marked, postponed, reached, Walk, visit_by, needed, finish, traced}
use Rattle.graph.specs.Trace as T
use Rattle.rules.specs.Buffers.{rec_of}
use Rattle.rules.specs.View.{target, view, heap_in, set_word}
use Rattle.table.specs.Room.{Sized}
use Rattle.links.specs.Links.{linked_at, link_word}
use Rattle.sweep.specs.Sweep.{unflagged}
use Rattle.postponed.specs.Postponed.{Mapped}
use Rattle.walk.specs.declared.heap.Heap as Lent
use Rattle.walk.specs.Marks.{flags_of}

-- ---- the walk as the buffers hold it

-- how a heap is walked: with its clusters or, in a plain collection, without; and the list of sinks and the sets, which the walk reads only
pub record Way : Type 0 where
  pub clustered : Bool
  pub list : List ℕ
  pub sets : List ℕ

abbrev pub way : Bool → List ℕ → List ℕ → Way
way by list sets = record { clustered = by; list = list; sets = sets }

-- how the walk of this heap goes
abbrev pub way_of : Lent.Heap → Way
way_of heap = way heap.by heap.sinks.now heap.sets.now

-- a heap as it is walked
abbrev pub heap_for : Way → Heap → Heap
heap_for by H =
    record {
      n = H.n;
      kids = H.kids;
      sink = H.sink;
      listed = take sink_max by.list;
      written = H.written;
      cluster = λ x. cond by.clustered (H.cluster x) 0;
      out = λ x. by.clustered && H.out x;
    }

-- the heap that the buffers hold, as it is walked
abbrev pub walked_heap : Way → ℕ → List ℕ → List ℕ → Heap
walked_heap by n recs slots = heap_for by (view n recs slots)

-- the walk with the flags of these records and this list; what is marked was scanned, so that the records tell the count
abbrev pub walk_at : ℕ → List ℕ → List ℕ → Walk
walk_at n recs todo = record { flags = flags_of n recs; todo = todo; scanned = count n (λ x. flags_of n recs marked x) }

-- where the walk ends from there
abbrev pub end_from : Way → ℕ → List ℕ → List ℕ → List ℕ → Walk
end_from by n slots recs todo = finish (walked_heap by n recs slots) (walk_at n recs todo)

-- the steps that are enough from there; fewer after each
abbrev pub steps_from : Way → ℕ → List ℕ → List ℕ → List ℕ → ℕ
steps_from by n slots recs todo = needed (walked_heap by n recs slots) (walk_at n recs todo)

-- the pointers among some words of the slots
abbrev pub pointers_in : ℕ → List ℕ → List ℕ
pointers_in n l = pointers (map (target n) l)

-- every number of the list is an object
abbrev pub Objects : ℕ → List ℕ → Type 0
Objects n l = (x : ℕ) → Memᴰ x l → Obj n x

-- the sinks in those of the 64 places that a set has
abbrev pub sinks_in : List ℕ → ℕ → List ℕ
sinks_in list set = map (λ k. get_or (take sink_max list) k 0) (set_bits sink_max set 0)

-- ---- the lent work words: 8 n of pending objects, then n of links, then the set of postponed objects

-- the objects still to be visited: the words from `top` up to 8 n, the next one first
abbrev pub pending : ℕ → List ℕ → ℕ → List ℕ
pending n work top = take (8 * n - top) (drop top work)

-- the link word of object x
abbrev pub link_at : ℕ → List ℕ → ℕ → ℕ
link_at n work x = get_or work (8 * n + (x - 1)) 0

-- the link words are those of the out members, where clusters are walked
pub record Linked (by : Bool) (n : ℕ) (recs work : List ℕ) : Type 0 where
  pub links : by ≡ true → (x : ℕ) → Obj n x → link_at n work x ≡ link_word n (linked_at true n recs) x

-- ---- the state between two moves

-- what holds of the buffers between two moves, without the links
pub record State (n : ℕ) (recs slots work : List ℕ) (top : ℕ) : Type 0 where
  pub sized : Sized n recs slots work
  pub high : top ≤ 8 * n
  -- there is room for the pointers of each object that is not yet marked
  pub room : sum n (λ x. cond (flags_of n recs marked x) 0 (length (targets (view n recs slots) x))) ≤ top
  pub inside : Objects n (pending n work top)
  pub mapped : Mapped n (flags_of n recs postponed) work

-- the list has 64 places, each empty or with an object in no cluster, and the sets are exact
pub record Listing (by : Way) (n : ℕ) (recs slots : List ℕ) : Type 0 where
  pub places : sink_max ≤ length by.list
  pub heads : n ≤ length by.sets
  pub listed : Listed (heap_in n recs slots by.list)
  pub exact : (h : ℕ) → Obj n h → get_or by.sets (h - 1) 0 ≡ set_word (heap_in n recs slots by.list) h

-- the state, with the links and the sinks
pub record Ready (by : Way) (n : ℕ) (recs slots work : List ℕ) (top : ℕ) : Type 0 where
  pub state : State n recs slots work top
  pub linked : Linked by.clustered n recs work
  pub listing : Listing by n recs slots

-- the words to be pushed are there, and there is room for those that are pointers
pub record Pushable (n : ℕ) (slots : List ℕ) (from k : ℕ) (work : List ℕ) (top : ℕ) : Type 0 where
  pub source : from + k ≤ length slots
  pub space : length (pointers_in n (take k (drop from slots))) ≤ top
  pub end : top ≤ length work

-- the list ks comes before what was there from `top` on
pub record Pushed (ks work : List ℕ) (top : ℕ) (work' : List ℕ) (top' : ℕ) : Type 0 where
  pub front : drop top' work' ≡ ks ++ drop top work
  pub counted : top' + length ks ≡ top

-- the code has made the move f of the walk, whatever is to be visited after the pending objects; nothing but flags changed in the records
pub record Moved (n : ℕ) (slots recs work : List ℕ) (top : ℕ) (f : Walk → Walk) (recs' work' : List ℕ) (top' : ℕ) : Type 0 where
  pub same : (more : List ℕ) → f (walk_at n recs (pending n work top ++ more)) ≡ walk_at n recs' (pending n work' top' ++ more)
  pub state : State n recs' slots work' top'
  pub kept : unflagged n recs' ≡ unflagged n recs
  pub links : (x : ℕ) → Obj n x → link_at n work' x ≡ link_at n work x

-- object x, a member of a cluster and not its head, was visited, whatever the slots, the sinks and the pending objects are
pub record MemberVisited (n x : ℕ) (recs work recs' work' : List ℕ) : Type 0 where
  pub moved : (slots list : List ℕ) (top : ℕ) → State n recs slots work top
      → Moved n slots recs work top
      (visit_by (heap_in n recs slots list) false false (flags_of n recs marked x) (flags_of n recs reached (cluster (rec_of n recs x))) x) recs' work' top

-- the postponed object x was taken up where nothing was pending, whatever the sinks are
pub record TakenUp (by : Bool) (n x : ℕ) (slots recs work recs' work' : List ℕ) (top' : ℕ) : Type 0 where
  pub moved : (list sets : List ℕ) → Moved n slots recs work (8 * n) (T.take (walked_heap (way by list sets) n recs slots) x) recs' work' top'

-- ---- from the starts to the end

-- the starts and what they lead to were visited, whatever is to be visited after them: the walk ends as from before, and nothing is pending
pub record Followed (by : Way) (n : ℕ) (slots recs from recs' work' : List ℕ) : Type 0 where
  pub same : (more : List ℕ) → Objects n more → end_from by n slots recs' more ≡ end_from by n slots recs (from ++ more)
  pub ready : Ready by n recs' slots work' (8 * n)
  pub kept : unflagged n recs' ≡ unflagged n recs

-- the same, and no more steps are left than there were
pub record Drained (by : Way) (n : ℕ) (slots recs from recs' work' : List ℕ) : Type 0 where
  pub followed : Followed by n slots recs from recs' work'
  pub fewer : steps_from by n slots recs' [] ≤ steps_from by n slots recs from

-- no object is postponed any more: the walk has ended
pub record Finished (by : Way) (n : ℕ) (slots recs recs' : List ℕ) : Type 0 where
  pub same : walk_at n recs' [] ≡ end_from by n slots recs []
  pub kept : unflagged n recs' ≡ unflagged n recs

-- ---- the whole walk

-- there is room for a walk, its starts are objects, no record has a flag, and the list and the sets are those of the heap
pub record Traceable (by : Way) (n : ℕ) (from recs slots work : List ℕ) : Type 0 where
  pub sized : Sized n recs slots work
  pub objects : Objects n (pointers from)
  pub clear : unflagged n recs ≡ recs
  pub listing : Listing by n recs slots

-- the flags are those of the walk's end, the marked are as many as it scanned, and nothing else changed in the records
pub record Walked (by : Way) (n : ℕ) (from recs slots recs' : List ℕ) : Type 0 where
  pub flags-now : flags_of n recs' ≡ (traced (walked_heap by n recs slots) from).flags
  pub counted : count n (λ x. flags_of n recs' marked x) ≡ (traced (walked_heap by n recs slots) from).scanned
  pub kept : unflagged n recs' ≡ recs
