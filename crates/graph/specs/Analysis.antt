-- Analysis ("Analysis"): the walk that forms clusters, then the deletion of those that are too small or too much pointed out of.
use Rattle.std.specs.Prelude.{ℕ, ◌+◌, ◌*◌, Bool, true, false, not, cond, ◌&&◌, ◌||◌, List, [], ◌∷◌, ◌++◌, leb, ltb, eqb, length}
use Rattle.graph.specs.Numbers.{upd, sum, count, gather}
use Rattle.graph.specs.Heap.{Heap}
use Rattle.graph.specs.Clusters.{size, keep, out_bit, outs_of, sinks_at}
use Rattle.graph.specs.Run as Run

-- ---- the walk

-- a visit to make: an object (0 for none), and the cluster passed to it (0 for none)
pub record Item : Type 0 where
  pub obj : ℕ
  pub passed : ℕ

-- the visits to make, the next one first; the objects seen; the clusters
pub record Work : Type 0 where
  pub todo : List Item
  pub seen : ℕ → Bool
  pub cl : ℕ → ℕ

-- the objects of a list, each to be visited with cluster c passed ("Analysis")
unfoldable pub items : ℕ → List ℕ → List Item
items c [] = []
items c (x ∷ l) = record { obj = x; passed = c } ∷ items c l

-- what keeps an object out of every new cluster: it was written, or it is a sink
unfoldable pub bars : Heap → ℕ → Bool
bars H o = H.written o || H.sink o

-- What a visit does. Handling an older cluster makes all its members seen, and none is seen before; so an object that is not seen and has a
-- cluster is in an older one that is not handled yet.
pub data Visit : Type 0 where
  skip older alone join head : Visit

-- the visit, by: 0 or seen, in an older cluster, barred, the passed cluster has room ("Analysis")
unfoldable pub pick : Bool → Bool → Bool → Bool → Visit
pick true b c d = skip
pick false true c d = older
pick false false true d = alone
pick false false false true = join
pick false false false false = head

-- what a visit to o, with c passed, does ("Analysis")
unfoldable pub kind : Heap → ℕ → (ℕ → Bool) → (ℕ → ℕ) → ℕ → ℕ → Visit
kind H limit seen cl o c =
    pick (eqb o 0 || seen o) (not (eqb (cl o) 0)) (bars H o) (not (eqb c 0) && leb (size H.n cl c + 1) limit)

-- what a met older cluster leads to: each out member's pointers, members in number order, then its sinks by place
unfoldable pub visits_of_cluster : Heap → (ℕ → ℕ) → ℕ → List ℕ
visits_of_cluster H cl c = gather H.n (λ x. eqb (cl x) c && H.out x) H.kids ++ sinks_at H c

-- the visits that come next after a visit to o, to which c was passed
unfoldable pub pushed : Heap → (ℕ → ℕ) → ℕ → ℕ → Visit → List Item
pushed H cl o c skip = []
pushed H cl o c older = items 0 (visits_of_cluster H cl (cl o))
pushed H cl o c alone = items 0 (H.kids o)
pushed H cl o c join = items c (H.kids o)
pushed H cl o c head = items o (H.kids o)

-- the objects seen after it
unfoldable pub seen_by : (ℕ → Bool) → (ℕ → ℕ) → ℕ → Visit → ℕ → Bool
seen_by seen cl o skip = seen
seen_by seen cl o older = λ x. eqb (cl x) (cl o) || seen x
seen_by seen cl o alone = upd seen o true
seen_by seen cl o join = upd seen o true
seen_by seen cl o head = upd seen o true

-- the clusters after it
unfoldable pub cl_by : (ℕ → ℕ) → ℕ → ℕ → Visit → ℕ → ℕ
cl_by cl o c skip = cl
cl_by cl o c older = cl
cl_by cl o c alone = cl
cl_by cl o c join = upd cl o c
cl_by cl o c head = upd cl o o

-- the walk after that visit ("Analysis")
unfoldable pub act : Heap → (ℕ → Bool) → (ℕ → ℕ) → ℕ → ℕ → List Item → Visit → Work
act H seen cl o c rest v = record { todo = pushed H cl o c v ++ rest; seen = seen_by seen cl o v; cl = cl_by cl o c v }

-- the walk after its next visit, if one is left ("Analysis")
unfoldable pub visit : Heap → ℕ → (ℕ → Bool) → (ℕ → ℕ) → List Item → Work
visit H limit seen cl [] = record { todo = []; seen = seen; cl = cl }
visit H limit seen cl (i ∷ rest) = act H seen cl i.obj i.passed rest (kind H limit seen cl i.obj i.passed)

-- one step of the walk ("Analysis")
unfoldable pub step : Heap → ℕ → Work → Work
step H limit w = visit H limit w.seen w.cl w.todo

-- the walk from these starts, before its first step
unfoldable pub begin : Heap → List ℕ → Work
begin H from = record { todo = items 0 from; seen = λ x. false; cl = H.cluster }

-- steps that are enough: the visits to make, and, of the objects that are not seen, the slots and the sets
unfoldable pub needed : Heap → Work → ℕ
needed H w = length w.todo + sum H.n (λ x. cond (w.seen x) 0 (length (H.kids x) + length (sinks_at H x)))

-- the walk to its end ("Analysis")
unfoldable pub finish : Heap → ℕ → Work → Work
finish H limit w = Run.finish (step H limit) (needed H) w

-- the clusters when the walk from these starts is over
unfoldable pub walked : Heap → ℕ → List ℕ → ℕ → ℕ
walked H limit from = (finish H limit (begin H from)).cl

-- ---- what is left

-- a new cluster is deleted if it has more out pointers than this for ten members, or fewer members than the least
pub record Rule : Type 0 where
  pub out_per_ten : ℕ
  pub least : ℕ

module _ (P : Rule) (H : Heap) (cl : ℕ → ℕ) where
  -- c is no older cluster
  unfoldable pub is_new : ℕ → Bool
  is_new c = eqb (H.cluster c) 0

  -- h heads a new cluster
  unfoldable pub new_head : ℕ → Bool
  new_head h = is_new h && eqb (cl h) h

  -- too many pointers leave it
  unfoldable pub over : ℕ → Bool
  over c = ltb (P.out_per_ten * size H.n cl c) (10 * outs_of H.n H.kids H.sink cl c)

  -- it has too few members
  unfoldable pub few : ℕ → Bool
  few c = ltb (size H.n cl c) P.least

  -- an older cluster stays, and a new one that is neither over nor few ("Analysis")
  unfoldable pub stays : ℕ → Bool
  stays c = not (is_new c && (over c || few c))

  -- out loss: the members of the new clusters with too many out pointers
  unfoldable pub out_loss_of : ℕ
  out_loss_of = sum H.n (λ h. cond (new_head h && over h) (size H.n cl h) 0)

-- the clusters that are left
unfoldable pub left_clusters : Rule → Heap → ℕ → List ℕ → ℕ → ℕ
left_clusters P H limit from = keep (stays P H (walked H limit from)) (walked H limit from)

-- clusters: formed by this analysis and left; members: theirs
pub record Analysed : Type 0 where
  pub heap : Heap
  pub out_loss : ℕ
  pub clusters : ℕ
  pub members : ℕ

-- the heap, the out loss and the counts that an analysis with this limit leaves ("Analysis")
unfoldable pub analyse : Rule → Heap → ℕ → List ℕ → Analysed
analyse P H limit from =
    record {
      heap = record {
        n = H.n;
        kids = H.kids;
        sink = H.sink;
        listed = H.listed;
        written = λ x. false;
        cluster = left_clusters P H limit from;
        out = out_bit H.kids H.sink (left_clusters P H limit from);
      };
      out_loss = out_loss_of P H (walked H limit from);
      clusters = count H.n (λ h. eqb (H.cluster h) 0 && eqb (left_clusters P H limit from h) h);
      members = count H.n (λ x. eqb (H.cluster x) 0 && not (eqb (left_clusters P H limit from x) 0));
    }
