-- Of every well-formed heap: the walks of the analysis and of both collections come to their end. Nothing here asks that clusters are connected.
-- Assumes nothing.
use Prim.Native.Nat.{ℕ, ◌≤◌}
use mathlib.Core.Path.{◌≡◌, refl}
use mathlib.Core.List.{List, []}
use lib.ListN.{take}
use Rattle.layout.specs.Limits.{sink_max}
use Rattle.records.specs.Record.{is_sink}
use Rattle.graph.specs.Heap.{Heap}
use Rattle.graph.specs.Trace.{traced, unclustered}
use Rattle.graph.specs.Analysis.{begin, finish}
use Rattle.graph.proofs.AnalysisEnds.{walk_ends}
use Rattle.graph.proofs.TraceSafe.{Ranged}
use Rattle.graph.proofs.TraceEnds.{traced-ends}
use Rattle.rules.specs.Buffers.{rec_of}
use Rattle.rules.specs.View.{view, heap_in}
use Rattle.rules.specs.Demands.{Ended}
use Rattle.rules.proofs.ListedLaws.{Lists}
use Rattle.rules.proofs.WellFormedLaws.{Sane}
use Rattle.rules.proofs.SaneLaws.{sane-ranged, sane-ready, sane-roots, sane-starts}

module _ (n r : ℕ) (recs slots roots list : List ℕ) (S : Sane n r recs slots roots)
    (L : Lists n (λ x. is_sink (rec_of n recs x)) (take sink_max list)) where
  abbrev H : Heap
  H = heap_in n recs slots list

  abbrev from : List ℕ
  from = take r roots

  pub clusters-end : Ended H (traced H from)
  clusters-end = traced-ends H (sane-ranged S list L) from (sane-starts S)

  pub plain-ends : Ended H (traced (unclustered H) from)
  plain-ends = traced-ends (unclustered H) plain-ranged from (sane-starts S)
    where
      plain-ranged : Ranged (unclustered H)
      plain-ranged =
          let R = sane-ranged S list L in
          record { targets-in = R.targets-in; listed_in = λ y m nz. ((R.listed_in y m nz).0, refl) }

  pub analysis-ends : (limit : ℕ) → 1 ≤ limit → (finish H limit (begin H from)).todo ≡ []
  unfolding view
  analysis-ends limit p = walk_ends H limit (take r roots) (sane-ready S list L) p (sane-roots S)
