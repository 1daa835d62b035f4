-- `trace` meets its contract.
use Prim.Native.Nat.{ℕ, ◌*◌}
use mathlib.Core.Path.{ap, ◌∙◌}
use Rattle.table.specs.Cleared.{cleared}
use Rattle.walk.proofs.TraceLaws.{trace-ready, walk-done}
use Rattle.walk.proofs.trace.trace.Goals as goal

pub follow_roots-requires : goal.follow_roots-requires
follow_roots-requires c =
    let work-len-call = c.work_len in record {
      ready = trace-ready _ _ _ _ _ _ c.requires.traceable _ _ c.link_clusters.ensures c.link_clusters.auto.work
          (c.clear.ensures ∙ ap (λ (k : ℕ). cleared (9 * c.args.heap.n) k c.link_clusters.new.work) work-len-call.ensures) c.clear.auto.words;
      r_in_bounds = (c.requires.r_in_bounds, c.requires.traceable.objects);
    }

pub returns : goal.returns
returns c =
    let follow-roots-call = c.follow_roots in
    let follow-postponed-call = c.follow_postponed in
    walk-done _ _ _ _ _ _ c.requires.traceable _ _ _ follow-roots-call.ensures follow-postponed-call.ensures
