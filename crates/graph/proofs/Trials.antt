-- The small heaps give what the definitions compute.
-- Assumes nothing.
use Prim.Native.Nat.{ℕ}
use mathlib.Core.Path.{◌≡◌, refl}
use mathlib.Core.List.{map}
use Rattle.graph.specs.Numbers as Numbers
use Rattle.graph.specs.Heap as Heap
use Rattle.graph.specs.Rounds as Rounds
use Rattle.graph.specs.Run as Run
use Rattle.graph.specs.Clusters as Clusters
use Rattle.graph.specs.Trace as Trace
use Rattle.graph.specs.Analysis as Analysis
use Rattle.graph.specs.Writes as Writes
use Rattle.graph.specs.Trials as Trials

-- whoever unfolds this unfolds every definition that a heap is computed by
unfoldable pub computed : ℕ
unfolding
    Numbers.has Numbers.upd Numbers.sum Numbers.count Numbers.gather Numbers.some Numbers.only Numbers.lowest_of Numbers.lowest
    Heap.pointers
    Rounds.any_of Rounds.round Rounds.rounds
    Run.run Run.finish
    Clusters.size Clusters.keep Clusters.others Clusters.leaves Clusters.out_count Clusters.out_bit Clusters.outs_of Clusters.pointed Clusters.in_set Clusters.sinks_at
    Trace.same_flag Trace.set_flag Trace.no_flags Trace.scan Trace.postpone Trace.unpostpone Trace.arrive Trace.scan_if Trace.scan_all Trace.scan_outs Trace.visit_by Trace.visit Trace.take_by Trace.take Trace.step_by Trace.step Trace.begin Trace.weight Trace.needed Trace.finish Trace.traced Trace.keeps
    Analysis.items Analysis.bars Analysis.pick Analysis.kind Analysis.visits_of_cluster Analysis.pushed Analysis.seen_by Analysis.cl_by Analysis.act Analysis.visit Analysis.step Analysis.begin Analysis.needed Analysis.finish Analysis.walked Analysis.is_new Analysis.new_head Analysis.over Analysis.few Analysis.stays Analysis.out_loss_of Analysis.left_clusters Analysis.analyse
    Writes.dissolves Writes.stored Writes.store_by Writes.loss_by Writes.store Writes.loss_of Writes.placed Writes.declare
computed = 0

-- analyses: out loss and clusters; collections: what is kept, and how many are scanned; writes: how many are dissolved
pub trials : (map Trials.formed Trials.analyses ≡ map Trials.formed_as Trials.analyses)
    × (map Trials.kept Trials.collections ≡ map (λ t. t.kept) Trials.collections)
    × (map Trials.scanned Trials.collections ≡ map (λ t. t.scanned) Trials.collections)
    × (map Trials.dissolved Trials.stores ≡ map (λ w. w.loss) Trials.stores)
unfolding computed
    Trials.nth Trials.up_to Trials.heap Trials.formed Trials.formed_as Trials.analyses Trials.kept Trials.scanned Trials.six Trials.all1 Trials.collections Trials.dissolved Trials.storing Trials.stores
trials = (refl, refl, refl, refl)
