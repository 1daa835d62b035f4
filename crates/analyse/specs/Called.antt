-- What the functions of the walk ask of the lent buffers and leave in them.
use Rattle.std.specs.Prelude.{ℕ, ◌+◌, ◌-◌, ◌*◌, ◌/◌, ◌%◌, ◌≤◌, ◌<◌, ◌≡◌, cond, ◌&&◌, List, [], ◌∷◌, ◌≢◌, eqb, length}
use Rattle.layout.specs.Limits.{sink_max}
use Rattle.graph.specs.Numbers.{upd, gather}
use Rattle.graph.specs.Heap.{Heap}
use Rattle.graph.specs.Analysis.{Work, needed, finish}
use Rattle.graph.specs.Invariant.{Ready, Inv, Sizes, unseen_slots}
use Rattle.rules.specs.Buffers.{rec_of}
use Rattle.rules.specs.View.{view, heap_in, set_word}
use Rattle.table.specs.Room.{Sized}
use Rattle.table.specs.Clusters.{cluster_of}
use Rattle.links.specs.Links.{top_member}
use Rattle.choices.specs.Choices.{goes_by}
use Rattle.analyse.specs.Memory.{stack_end, area, Memory, mem_of, visit_words, Marks, seen_in, cluster_in, size_in, walk_of, in_front, with_state, with_link, counting}

-- the pointers of object x, if it is an out member
unfoldable pub out_kids : Heap → ℕ → List ℕ
out_kids H x = cond (H.out x) (H.kids x) []

-- the pointers of the out members of the older cluster d among 1 to k
unfoldable pub outs_below : Heap → ℕ → ℕ → List ℕ
outs_below H d k = gather k (λ x. eqb (H.cluster x) d && H.out x) H.kids

-- The links lead through the members of the older cluster d from the highest down.
pub record Chained (n : ℕ) (recs : List ℕ) (link : ℕ → ℕ) (d : ℕ) : Type 0 where
  pub first : link d / 4096 % 4096 ≡ top_member (cluster_of n recs) d n
  pub next : (x : ℕ) → cluster_of n recs x ≡ d → link x % 4096 ≡ top_member (cluster_of n recs) d (x - 1)

-- the states after the older cluster d is handled: its members are seen
abbrev pub handled_state : Heap → ℕ → (ℕ → ℕ) → ℕ → ℕ
handled_state H d state = λ x. cond (eqb (H.cluster x) d) (d + 4096) (state x)

-- the older cluster d is handled: what its out members point at comes next
unfoldable pub handled : Heap → ℕ → Memory → Memory
handled H d m = in_front (visit_words 0 (outs_below H d H.n)) (with_state (handled_state H d m.state) m)

-- the cluster that object o, in none, gets when c is passed to it
unfoldable pub goes_to : ℕ → ℕ → (ℕ → ℕ) → ℕ → ℕ → ℕ
goes_to limit r link o c = goes_by limit r (size_in link c) o c

-- object o, in no cluster, is seen and gets cluster e; what it points at is visited next, with e
unfoldable pub placed : Heap → ℕ → ℕ → Memory → Memory
placed H e o m = in_front (visit_words e (H.kids o)) (with_state (upd m.state o (e + 4096)) (with_link (counting e m.link) m))

-- The slices of sinks and sets are long enough, and every set is exact.
pub record Sets (n : ℕ) (recs slots list sets : List ℕ) : Type 0 where
  pub sinks-long : sink_max ≤ length list
  pub sets-long : n ≤ length sets
  pub exact : (h : ℕ) → 1 ≤ h → h ≤ n → rec_of n sets h ≡ set_word (heap_in n recs slots list) h

-- What stays true through the walk.
pub record Ground (n : ℕ) (recs slots list sets : List ℕ) (limit : ℕ) (work : List ℕ) : Type 0 where
  pub sized : Sized n recs slots work
  pub known : Sets n recs slots list sets
  pub ready : Ready (heap_in n recs slots list)
  pub limits : (1 ≤ limit) × (limit ≤ 4095)
  pub sizes : Sizes (heap_in n recs slots list) (cluster_in (area n (9 * n) work)) (size_in (area n (8 * n) work))
  pub small : (x : ℕ) → size_in (area n (8 * n) work) x ≤ 4095
  pub chains : (d : ℕ) → d ≢ 0 → cluster_of n recs d ≡ d → Chained n recs (area n (8 * n) work) d

-- the walk with a visit to object o, to which c is passed, in front
abbrev pub visiting : Heap → ℕ → ℕ → Memory → Work
visiting H o c m = record { todo = record { obj = o; passed = c } ∷ (walk_of H m).todo; seen = (walk_of H m).seen; cl = (walk_of H m).cl }

-- A visit may be made, and after it those from `top` on. A member of an older cluster may take one word more, for the marker.
pub record Visiting (n : ℕ) (recs slots list sets : List ℕ) (limit : ℕ) (work : List ℕ) (o c top : ℕ) : Type 0 where
  pub ground : Ground n recs slots list sets limit work
  pub inv : Inv (heap_in n recs slots list) limit (visiting (heap_in n recs slots list) o c (mem_of n work top))
  pub marks : Marks (heap_in n recs slots list) (mem_of n work top).todo
  pub room : unseen_slots (view n recs slots) (seen_in (area n (9 * n) work)) ≤ top
  pub spare : cluster_of n recs o ≢ 0 → unseen_slots (view n recs slots) (seen_in (area n (9 * n) work)) + 1 ≤ top
  pub inside : top ≤ stack_end n

-- The walk has come to these work words and top.
pub record Walking (n : ℕ) (recs slots list sets : List ℕ) (limit : ℕ) (work : List ℕ) (top : ℕ) : Type 0 where
  pub ground : Ground n recs slots list sets limit work
  pub inv : Inv (heap_in n recs slots list) limit (walk_of (heap_in n recs slots list) (mem_of n work top))
  pub marks : Marks (heap_in n recs slots list) (mem_of n work top).todo
  pub room : unseen_slots (view n recs slots) (seen_in (area n (9 * n) work)) ≤ top
  pub inside : top ≤ stack_end n

-- What a visit leaves of the walk w: one that ends as it would have ended, with fewer steps needed.
pub record Visited (n : ℕ) (recs slots list sets : List ℕ) (limit : ℕ) (w : Work) (work' : List ℕ) (top' : ℕ) : Type 0 where
  pub walking : Walking n recs slots list sets limit work' top'
  pub same : finish (heap_in n recs slots list) limit (walk_of (heap_in n recs slots list) (mem_of n work' top')) ≡ finish (heap_in n recs slots list) limit w
  pub less : needed (heap_in n recs slots list) (walk_of (heap_in n recs slots list) (mem_of n work' top')) < needed (heap_in n recs slots list) w

-- What the walk leaves when every visit is made.
pub record Walked (n : ℕ) (recs slots list sets : List ℕ) (limit : ℕ) (w : Work) (work' : List ℕ) : Type 0 where
  pub walking : Walking n recs slots list sets limit work' (stack_end n)
  pub ended : walk_of (heap_in n recs slots list) (mem_of n work' (stack_end n)) ≡ finish (heap_in n recs slots list) limit w
