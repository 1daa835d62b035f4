-- The walk of a collection ("Collection"): the visits to make are a list, an object's pointers in front of the rest.
use Rattle.std.specs.Prelude.{ℕ, zero, suc, ◌+◌, ◌*◌, Bool, true, false, not, cond, ◌&&◌, ◌||◌, List, [], ◌∷◌, ◌++◌, eqb, length}
use Rattle.graph.specs.Numbers.{sum, count, lowest}
use Rattle.graph.specs.Heap.{Heap, pointers, targets}
use Rattle.graph.specs.Clusters.{sinks_at}
use Rattle.graph.specs.Run as Run

-- ---- the flags of the objects

-- marked: kept and scanned. postponed: a member met while its cluster was not reached. reached: on a head, its whole cluster is kept.
pub data Flag : Type 0 where
  marked postponed reached : Flag
  deriving Discrete as Flag-discrete

-- which objects have which flag ("Collection")
abbrev pub Flags : Type 0
Flags = Flag → ℕ → Bool

-- whether two flags are the same
unfoldable pub same_flag : Flag → Flag → Bool
same_flag marked marked = true
same_flag marked postponed = false
same_flag marked reached = false
same_flag postponed marked = false
same_flag postponed postponed = true
same_flag postponed reached = false
same_flag reached marked = false
same_flag reached postponed = false
same_flag reached reached = true

-- flag f of object o becomes b
unfoldable pub set_flag : Flags → Flag → ℕ → Bool → Flags
set_flag s f o b g x = cond (same_flag f g && eqb x o) b (s g x)

-- no object has a flag
unfoldable pub no_flags : Flags
no_flags f x = false

-- ---- one walk

-- the flags; the objects still to be visited, the next one first; how many were scanned
pub record Walk : Type 0 where
  pub flags : Flags
  pub todo : List ℕ
  pub scanned : ℕ

module _ (H : Heap) where
  open H use {n, cluster, out}

  -- o is marked, and its pointers are visited next
  unfoldable pub scan : ℕ → Walk → Walk
  scan o w = record { flags = set_flag w.flags marked o true; todo = targets H o ++ w.todo; scanned = suc w.scanned }

  -- member o waits ("Collection")
  unfoldable pub postpone : ℕ → Walk → Walk
  postpone o w = record { flags = set_flag w.flags postponed o true; todo = w.todo; scanned = w.scanned }

  -- o waits no longer ("Collection")
  unfoldable pub unpostpone : ℕ → Walk → Walk
  unpostpone o w = record { flags = set_flag w.flags postponed o false; todo = w.todo; scanned = w.scanned }

  -- the cluster of head h is reached ("Collection")
  unfoldable pub arrive : ℕ → Walk → Walk
  arrive h w = record { flags = set_flag w.flags reached h true; todo = w.todo; scanned = w.scanned }

  -- by: has the object the out bit, is it in the cluster, is it marked
  unfoldable pub scan_if : Bool → Bool → Bool → ℕ → Walk → Walk
  scan_if true true false o w = scan o w
  scan_if true true true o w = w
  scan_if true false m o w = w
  scan_if false c m o w = w

  -- the objects of a list that are not marked are scanned, one after the other
  unfoldable pub scan_all : List ℕ → Walk → Walk
  scan_all [] w = w
  scan_all (y ∷ l) w = scan_all l (scan_if true true (w.flags marked y) y w)

  -- the out members of h's cluster among 1 to k that are not marked are scanned, the highest first, so that in the end their pointers are in number order
  unfoldable pub scan_outs : ℕ → ℕ → Walk → Walk
  scan_outs h zero w = w
  scan_outs h (suc k) w = scan_outs h k (scan_if (out (suc k)) (eqb (cluster (suc k)) h) (w.flags marked (suc k)) (suc k) w)

  -- by: has the object no cluster, is it a head, is it marked, is its cluster reached
  unfoldable pub visit_by : Bool → Bool → Bool → Bool → ℕ → Walk → Walk
  visit_by true h true r o w = w
  visit_by true h false r o w = scan o w
  visit_by false true m true o w = w
  visit_by false true m false o w = scan_outs o n (arrive o (scan_all (sinks_at H o) w))
  visit_by false false true r o w = w
  visit_by false false false true o w = w
  visit_by false false false false o w = postpone o w

  -- a visit to o ("Collection")
  unfoldable pub visit : ℕ → Walk → Walk
  visit o w = visit_by (eqb (cluster o) 0) (eqb (cluster o) o) (w.flags marked o) (w.flags reached (cluster o)) o w

  -- by: is the object marked, is its cluster reached
  unfoldable pub take_by : Bool → Bool → ℕ → Walk → Walk
  take_by true r o w = w
  take_by false true o w = w
  take_by false false o w = scan o w

  -- the postponed object o is taken up; 0: nothing is postponed
  unfoldable pub take : ℕ → Walk → Walk
  take zero w = w
  take (suc m) w = take_by (w.flags marked (suc m)) (w.flags reached (cluster (suc m))) (suc m) (unpostpone (suc m) w)

  -- one step: the next visit, or, with no visit left to make, the lowest of the postponed objects
  unfoldable pub step_by : List ℕ → Walk → Walk
  step_by [] w = take (lowest (λ x. w.flags postponed x) n) w
  step_by (o ∷ rest) w = visit o (record { flags = w.flags; todo = rest; scanned = w.scanned })

  -- one step of the walk ("Collection")
  unfoldable pub step : Walk → Walk
  step w = step_by w.todo w

  -- the walk from these starts, before its first step
  unfoldable pub begin : List ℕ → Walk
  begin from = record { flags = no_flags; todo = pointers from; scanned = 0 }

  -- ---- the whole walk

  -- the visits to make, and the pointers of objects that are not marked
  unfoldable pub weight : Walk → ℕ
  weight w = length w.todo + sum n (λ x. cond (w.flags marked x) 0 (length (targets H x)))

  -- steps that are enough
  unfoldable pub needed : Walk → ℕ
  needed w = 2 * weight w + count n (λ x. w.flags postponed x)

  -- the walk to its end ("Collection")
  unfoldable pub finish : Walk → Walk
  finish w = Run.finish step needed w

  -- the end of the walk from these starts
  unfoldable pub traced : List ℕ → Walk
  traced from = finish (begin from)

  -- kept: marked, or in a cluster that is reached
  unfoldable pub keeps : Flags → ℕ → Bool
  keeps s x = s marked x || (not (eqb (cluster x) 0) && s reached (cluster x))

-- the heap as a plain collection sees it: no clusters
abbrev pub unclustered : Heap → Heap
unclustered H = record { n = H.n; kids = H.kids; sink = H.sink; listed = H.listed; written = H.written; cluster = λ x. 0; out = λ x. false }
