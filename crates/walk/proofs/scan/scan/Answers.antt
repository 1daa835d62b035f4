-- `scan` meets its contract.
use mathlib.Core.Path.{ap, ◌∙◌}
use Rattle.records.specs.Record.{width}
use Rattle.walk.proofs.MoveLaws.{scan-pushable, scan-moved}
use Rattle.walk.proofs.scan.scan.Goals as goal

pub push_pointers-requires : goal.push_pointers-requires
push_pointers-requires c =
    let width-of-call = c.width_of-k in
    let record-of-call = c.record_of in
    scan-pushable _ _ _ _ _ c.requires.state _ c.requires.obj c.requires.x_value _ (width-of-call.ensures ∙ ap width record-of-call.ensures)

pub returns : goal.returns
returns c =
    let width-of-call = c.width_of-k in
    let record-of-call = c.record_of in
    let put-bit-call = c.put_bit in
    scan-moved _ _ _ _ _ c.requires.state _ c.requires.obj c.requires.x_value _ (width-of-call.ensures ∙ ap width record-of-call.ensures) _ _ _
    put-bit-call.ensures c.push_pointers.ensures c.push_pointers.auto.work
