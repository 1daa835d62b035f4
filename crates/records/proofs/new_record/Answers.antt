-- `records::new_record` sets in use and the width. Assumes nothing.
use mathlib.Core.Path.{ap, ◌∙◌}
use Rattle.records.specs.Record as R
use Rattle.records.proofs.new_record.Goals as goal

pub returns : goal.returns
unfolding R.new_record
returns c = c.with_width.ensures ∙ ap (R.with_width c.args.width) c.with_use.ensures
