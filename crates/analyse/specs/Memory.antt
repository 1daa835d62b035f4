-- The work words of the walk. The first 8n + 1 hold the visits to make, from the next one at `top` on, growing down; then object x has a
-- link word, word 8n + x, and a state word, word 9n + x.
use Rattle.std.specs.Prelude.{ℕ, ◌+◌, ◌*◌, ◌/◌, ◌%◌, ◌≤◌, Bool, cond, ◌≢◌, eqb, leb, take, drop}
use mathlib.Core.List.{List, [], ◌∷◌, map, ◌++◌, Memᴰ}
use Rattle.graph.specs.Numbers.{upd, only}
use Rattle.graph.specs.Heap.{Heap}
use Rattle.graph.specs.Clusters.{in_set}
use Rattle.graph.specs.Analysis.{Item, Work, items}
use Rattle.rules.specs.Buffers.{rec_of}

-- where the visits end
abbrev pub stack_end : ℕ → ℕ
stack_end n = 8 * n + 1

-- one word for each object: object x has word base + x
unfoldable pub area : ℕ → ℕ → List ℕ → ℕ → ℕ
area n base work = rec_of n (drop (base + 1) work)

-- link: bits 0 to 11 the next lower member of the object's older cluster; above them the highest member of an older cluster, or the number
-- of members of a new one. state: bits 0 to 11 the cluster; 4096 is added when the object is seen.
pub record Memory : Type 0 where
  pub todo : List ℕ
  pub link : ℕ → ℕ
  pub state : ℕ → ℕ

-- what the work words hold, with the visits from `top` on
unfoldable pub mem_of : ℕ → List ℕ → ℕ → Memory
mem_of n work top = record { todo = drop top (take (stack_end n) work); link = area n (8 * n) work; state = area n (9 * n) work }

-- a visit to make is one word: the object, and above its 12 bits the cluster passed to it
unfoldable pub item_of : ℕ → Item
item_of w = record { obj = w % 4096; passed = w / 4096 }

-- A word from this on is a marker. It stands for the sinks of an older cluster that are still to be visited: the cluster, and above its 12
-- bits the place from which on they are.
abbrev pub mark_from : ℕ
mark_from = 16777216

-- the sinks in the set of cluster h from place p on
unfoldable pub sinks_from : Heap → ℕ → ℕ → List ℕ
sinks_from H h p = only (in_set H h) (drop p H.listed)

-- the visits that a word stands for
unfoldable pub items_of : Heap → ℕ → List Item
items_of H w = cond (leb mark_from w) (items 0 (sinks_from H (w % 4096) (w / 4096 % 4096))) (item_of w ∷ [])

-- those of a list of words
unfoldable pub visits_of : Heap → List ℕ → List Item
visits_of H [] = []
visits_of H (w ∷ l) = items_of H w ++ visits_of H l

-- a marker names an object, and a sink is left
pub record Marked (H : Heap) (w : ℕ) : Type 0 where
  pub low : 1 ≤ w % 4096
  pub high : w % 4096 ≤ H.n
  pub some : sinks_from H (w % 4096) (w / 4096 % 4096) ≢ []

-- every marker of the words does
abbrev pub Marks : Heap → List ℕ → Type 0
Marks H l = (w : ℕ) → Memᴰ w l → mark_from ≤ w → Marked H w

-- a marker for cluster h from place p on, where s, its set from there on, is not empty
unfoldable pub markers : ℕ → ℕ → ℕ → List ℕ
markers s h p = cond (eqb s 0) [] ((h + 4096 * p + mark_from) ∷ [])

-- visits to the objects of a list, with cluster c passed
unfoldable pub visit_words : ℕ → List ℕ → List ℕ
visit_words c l = map (λ w. w + 4096 * c) l

-- the objects seen
abbrev pub seen_in : (ℕ → ℕ) → ℕ → Bool
seen_in state = λ x. leb 4096 (state x)

-- the cluster of each object
abbrev pub cluster_in : (ℕ → ℕ) → ℕ → ℕ
cluster_in state = λ x. state x % 4096

-- the members of each new cluster
abbrev pub size_in : (ℕ → ℕ) → ℕ → ℕ
size_in link = λ c. link c / 4096

-- the walk of the definition that the words hold
unfoldable pub walk_of : Heap → Memory → Work
walk_of H m = record { todo = visits_of H m.todo; seen = seen_in m.state; cl = cluster_in m.state }

-- the visits l are put in front of the others
unfoldable pub in_front : List ℕ → Memory → Memory
in_front l m = record { todo = l ++ m.todo; link = m.link; state = m.state }

-- other states
unfoldable pub with_state : (ℕ → ℕ) → Memory → Memory
with_state f m = record { todo = m.todo; link = m.link; state = f }

-- other links
unfoldable pub with_link : (ℕ → ℕ) → Memory → Memory
with_link f m = record { todo = m.todo; link = f; state = m.state }

-- one more member of cluster e is counted
unfoldable pub counting : ℕ → (ℕ → ℕ) → ℕ → ℕ
counting e link = cond (eqb e 0) link (upd link e (link e + 4096))
