-- What is left of the clusters that the walk formed, told by tables: word c counts the out pointers of cluster c, the link word of a new head
-- the members, and word n + x tells what object x is left with.
use Rattle.std.specs.Prelude.{ℕ, ◌+◌, ◌*◌, ◌%◌, ◌≤◌, ◌≡◌, Bool, false, not, cond, ◌&&◌, ◌||◌, List, eqb, length}
use Rattle.layout.specs.declared.answers.Tuning.{Tuning}
use Rattle.records.specs.Record.{is_sink}
use Rattle.graph.specs.Numbers.{bit, sum, count}
use Rattle.graph.specs.Heap.{Heap}
use Rattle.graph.specs.Clusters.{keep, out_count, out_bit, outs_of}
use Rattle.graph.specs.Analysis.{stays, out_loss_of}
use Rattle.graph.specs.Invariant.{Sizes}
use Rattle.rules.specs.Buffers.{each_from}
use Rattle.rules.specs.View.{view, encoded_record}
use Rattle.rules.specs.Analyse.{rule_of}
use Rattle.table.specs.Clusters.{cluster_of}
use Rattle.choices.specs.Choices.{over_by, lasts, settled}
use Rattle.analyse.specs.Memory.{area, cluster_in, size_in}
use Rattle.table.specs.Room.{Sized}

-- the clusters that the walk formed
abbrev pub walk_clusters : ℕ → List ℕ → ℕ → ℕ
walk_clusters n work = cluster_in (area n (9 * n) work)

-- how many pointers of object x leave cluster c
unfoldable pub outs_at : ℕ → List ℕ → List ℕ → List ℕ → ℕ → ℕ → ℕ
outs_at n recs slots work x c = out_count (view n recs slots).sink (walk_clusters n work) c ((view n recs slots).kids x)

-- What the judging asks of the walk's end: the words are long enough, the sizes those of the new clusters, and every cluster has a number of
-- an object.
pub record Judgeable (n : ℕ) (recs slots work : List ℕ) : Type 0 where
  pub sized : Sized n recs slots work
  pub small : (x : ℕ) → size_in (area n (8 * n) work) x ≤ 4095
  pub sizes : Sizes (view n recs slots) (walk_clusters n work) (size_in (area n (8 * n) work))
  pub fits : (x : ℕ) → walk_clusters n work x ≤ n

-- The out pointers of the objects 1 to k are counted by cluster; all other areas are as they were.
pub record Tallying (n : ℕ) (recs slots work₀ work : List ℕ) (k : ℕ) : Type 0 where
  pub entry : (c : ℕ) → 1 ≤ c → c ≤ n → area n 0 work c ≡ outs_of k (view n recs slots).kids (view n recs slots).sink (walk_clusters n work₀) c
  pub most : (c : ℕ) → area n 0 work c ≤ 8 * k
  pub others : (b : ℕ) → n ≤ b → area n b work ≡ area n b work₀
  pub long : length work ≡ length work₀

-- cluster c, where `old` is its number in the records: does it stay with s members and p out pointers?
unfoldable pub stays_by : Tuning → ℕ → ℕ → ℕ → Bool
stays_by t old s p = not (eqb old 0) || lasts t s p

-- the same, by the tables
unfoldable pub stays_in : ℕ → Tuning → List ℕ → List ℕ → ℕ → Bool
stays_in n t recs work c = stays_by t (cluster_of n recs c) (size_in (area n (8 * n) work) c) (area n 0 work c)

-- what object x is left with: the cluster, and 4096 where it is an out member
unfoldable pub left_word : ℕ → Tuning → List ℕ → List ℕ → List ℕ → ℕ → ℕ
left_word n t recs slots work x =
    keep (stays_in n t recs work) (walk_clusters n work) x
    + 4096 * bit (out_bit (view n recs slots).kids (view n recs slots).sink (keep (stays_in n t recs work) (walk_clusters n work)) x)

-- the members of the cluster that h heads, if it is new and has too many out pointers
unfoldable pub loss_at : ℕ → Tuning → List ℕ → List ℕ → ℕ → ℕ
loss_at n t recs work h =
    cond (eqb (cluster_of n recs h) 0 && (eqb (walk_clusters n work h) h && over_by t (size_in (area n (8 * n) work) h) (area n 0 work h)))
    (size_in (area n (8 * n) work) h) 0

-- h heads a new cluster that is left
unfoldable pub new_head_at : ℕ → List ℕ → List ℕ → ℕ → Bool
new_head_at n recs work h = eqb (cluster_of n recs h) 0 && eqb (area n n work h % 4096) h

-- x is in a new cluster that is left
unfoldable pub new_member_at : ℕ → List ℕ → List ℕ → ℕ → Bool
new_member_at n recs work x = eqb (cluster_of n recs x) 0 && not (eqb (area n n work x % 4096) 0)

-- What the last pass leaves: every record is settled by its word, and the answers are counted.
pub record Settled (n : ℕ) (t : Tuning) (recs work recs' : List ℕ) (loss clusters members : ℕ) : Type 0 where
  pub records : recs' ≡ each_from 1 n (λ x r. settled (area n n work x) r) recs
  pub loss-is : loss ≡ sum n (loss_at n t recs work)
  pub clusters-is : clusters ≡ count n (new_head_at n recs work)
  pub members-is : members ≡ count n (new_member_at n recs work)

-- the clusters of cl that are left
abbrev pub left_of : Tuning → Heap → (ℕ → ℕ) → ℕ → ℕ
left_of t H cl = keep (stays (rule_of t) H cl) cl

-- What it leaves, where the walk formed the clusters cl: the records and the answers of the definition.
pub record Judged (n : ℕ) (t : Tuning) (recs slots : List ℕ) (cl : ℕ → ℕ) (recs' : List ℕ) (loss clusters members : ℕ) : Type 0 where
  pub records : recs' ≡ each_from 1 n (λ x r. encoded_record (left_of t (view n recs slots) cl x)
      (out_bit (view n recs slots).kids (view n recs slots).sink (left_of t (view n recs slots) cl) x) (is_sink r) false r) recs
  pub loss-is : loss ≡ out_loss_of (rule_of t) (view n recs slots) cl
  pub clusters-is : clusters ≡ count n (λ h. eqb (cluster_of n recs h) 0 && eqb (left_of t (view n recs slots) cl h) h)
  pub members-is : members ≡ count n (λ x. eqb (cluster_of n recs x) 0 && not (eqb (left_of t (view n recs slots) cl x) 0))
