-- `places::listed::places` cuts the list where it is longer than 64. Assumes nothing.
use mathlib.Core.Path.{sym}
use Rattle.table.proofs.ClusterLaws.{take-min}
use Rattle.places.proofs.listed.places.Goals as goal

pub returns : goal.returns
returns c = sym (take-min 64 c.min.result c.args.sinks.now c.min.ensures)
