-- Writes and sinks ("Writes and sinks"): what an accepted write and a declaration do to the clusters.
use Rattle.std.specs.Prelude.{ℕ, Bool, true, false, not, cond, ◌&&◌, List, [], ◌∷◌, eqb, get_or, set}
use Rattle.graph.specs.Numbers.{upd, has}
use Rattle.graph.specs.Heap.{Heap}
use Rattle.graph.specs.Clusters.{size, keep, others, out_bit}

-- storing t in slot k of o dissolves o's cluster: the old word pointed into it, and no used slot of o holds that pointer after the store
unfoldable pub dissolves : Heap → ℕ → ℕ → ℕ → Bool
dissolves H o k t =
    let old = get_or (H.kids o) k 0 in
    not (eqb (H.cluster o) 0) && (not (eqb old 0) && (eqb (H.cluster old) (H.cluster o) && not (has old (set (H.kids o) k t))))

-- the pointers with t in slot k of o
unfoldable pub stored : Heap → ℕ → ℕ → ℕ → ℕ → List ℕ
stored H o k t = upd H.kids o (set (H.kids o) k t)

-- the heap after the store, where the cluster of o is dissolved and where it is not
unfoldable pub store_by : Bool → Heap → ℕ → ℕ → ℕ → Heap
store_by true H o k t =
    record {
      n = H.n;
      kids = stored H o k t;
      sink = H.sink;
      listed = H.listed;
      written = upd H.written o true;
      cluster = keep (others (H.cluster o)) H.cluster;
      out = λ x. others (H.cluster o) (H.cluster x) && H.out x;
    }
store_by false H o k t =
    record {
      n = H.n;
      kids = stored H o k t;
      sink = H.sink;
      listed = H.listed;
      written = upd H.written o true;
      cluster = H.cluster;
      out = upd H.out o (out_bit (stored H o k t) H.sink H.cluster o);
    }

-- the members that are dissolved
unfoldable pub loss_by : Bool → Heap → ℕ → ℕ
loss_by true H o = size H.n H.cluster (H.cluster o)
loss_by false H o = 0

-- t, an object number or 0 where the word is no pointer, is stored in slot k of o
unfoldable pub store : Heap → ℕ → ℕ → ℕ → Heap
store H o k t = store_by (dissolves H o k t) H o k t

-- by how much write loss grows ("Writes and sinks")
unfoldable pub loss_of : Heap → ℕ → ℕ → ℕ → ℕ
loss_of H o k t = loss_by (dissolves H o k t) H o

-- o in the first empty place
unfoldable pub placed : ℕ → List ℕ → List ℕ
placed o [] = []
placed o (y ∷ l) = cond (eqb y 0) (o ∷ l) (y ∷ placed o l)

-- o becomes a sink: it is listed, its cluster is dissolved, and every out bit made exact
unfoldable pub declare : Heap → ℕ → Heap
declare H o =
    record {
      n = H.n;
      kids = H.kids;
      sink = upd H.sink o true;
      listed = cond (H.sink o) H.listed (placed o H.listed);
      written = H.written;
      cluster = keep (others (H.cluster o)) H.cluster;
      out = out_bit H.kids (upd H.sink o true) (keep (others (H.cluster o)) H.cluster);
    }
