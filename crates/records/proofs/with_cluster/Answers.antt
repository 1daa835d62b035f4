-- `records::with_cluster` puts the cluster. Assumes nothing.
use Rattle.layout.proofs.FieldLaws.{set-bits}
use Rattle.records.proofs.with_cluster.Goals as goal

pub returns : goal.returns
returns c = set-bits 4 12 16 c.args.c c.args.r c.ranges.r.fits
