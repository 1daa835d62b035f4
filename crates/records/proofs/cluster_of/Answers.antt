-- `records::cluster_of` reads the cluster. Assumes nothing.
use Rattle.layout.proofs.FieldLaws.{and-field}
use Rattle.records.proofs.cluster_of.Goals as goal

pub returns : goal.returns
returns c = and-field 16 12 c.args.r
