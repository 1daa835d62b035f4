-- `records::loose` takes cluster and out off. Assumes nothing.
use mathlib.Core.Path.{ap, ◌∙◌}
use Rattle.records.specs.Record as R
use Rattle.records.proofs.loose.Goals as goal

pub returns : goal.returns
unfolding R.loose
returns c = c.with_cluster.ensures ∙ ap (R.with_cluster 0) c.with_out.ensures
