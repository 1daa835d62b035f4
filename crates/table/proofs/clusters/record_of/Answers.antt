-- `table::clusters::record_of` meets its contract. Assumes nothing.
use Rattle.std.proofs.Common.{◌≡◌, ◌∙◌, ◌-◌, rules, slice_index_or}
use Rattle.table.proofs.ClusterLaws.{record-none, record-above, record-in}
use Rattle.table.proofs.clusters.record_of.Goals as goal
use Rattle.table.proofs.clusters.record_of.Goals.{then-x-eq0-via-then-x-eq0, then-x-eq0-via-else-x-eq0+then-n-x}

pub returns-then-x-eq0 : goal.returns-then-x-eq0
returns-then-x-eq0 c =
    elim c.then-x-eq0.branch [
      | then-x-eq0-via-then-x-eq0 w ↦ record-none _ _ _ w.if-x-eq0.true
      | then-x-eq0-via-else-x-eq0+then-n-x w ↦ record-above _ _ _ w.if-n-x.true
    ]

pub returns : goal.returns
returns c =
    let e : c.unwrap_or.result ≡ slice_index_or c.args.records.now (c.args.x - 1) 0 = search rules in
    e ∙ record-in _ _ _ c.if-x-eq0.false c.if-n-x.false
