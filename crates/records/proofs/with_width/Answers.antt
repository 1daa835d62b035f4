-- `records::with_width` puts the width. Assumes nothing.
use Rattle.layout.proofs.FieldLaws.{set-bits}
use Rattle.records.proofs.with_width.Goals as goal

pub returns : goal.returns
returns c = set-bits 20 4 8 c.args.w c.args.r c.ranges.r.fits
