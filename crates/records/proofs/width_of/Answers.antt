-- `records::width_of` reads the width. Assumes nothing.
use Rattle.layout.proofs.FieldLaws.{and-field}
use Rattle.records.proofs.width_of.Goals as goal

pub returns : goal.returns
returns c = and-field 8 4 c.args.r
