-- `settled_record` meets its contract. Assumes nothing.
use mathlib.Core.Path.{◌∙◌}
use Rattle.choices.proofs.ChoiceLaws.{settled_is}
use Rattle.choices.proofs.settled_record.Goals as goal

pub returns : goal.returns
returns c =
    let a = c.args in
    c.with_cluster.ensures ∙ rw (c.with_out.ensures, c.with_written.ensures) (settled_is a.w a.r)
