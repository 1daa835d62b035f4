-- `scan_unmarked` meets its contract.
use mathlib.Core.Path.{sym, ap, ◌∙◌}
use Rattle.records.specs.Record.{is_marked}
use Rattle.walk.specs.Marks.{flags_of}
use Rattle.walk.proofs.VisitLaws.{passed-scan_if, taken-scan_if}
use Rattle.walk.proofs.scan.scan_unmarked.Goals as goal

pub returns-then-is_marked : goal.returns-then-is_marked
unfolding flags_of
returns-then-is_marked c =
    passed-scan_if _ _ _ _ _ c.requires.state _ c.requires.obj (sym (c.is_marked.ensures ∙ ap is_marked c.record_of.ensures) ∙ c.if-is_marked.true)

pub scan-requires : goal.scan-requires
unfolding flags_of
scan-requires c =
    let is-marked-call = c.is_marked in
    let record-of-call = c.record_of in
    record {
      state = c.requires.state;
      obj = c.requires.obj;
      x_value = sym (is-marked-call.ensures ∙ ap is_marked record-of-call.ensures) ∙ c.if-is_marked.false;
    }

pub returns : goal.returns
unfolding flags_of
returns c =
    let is-marked-call = c.is_marked in
    let record-of-call = c.record_of in
    let if1 = c.if-is_marked in
    let scan-call = c.scan in
    taken-scan_if _ _ _ _ _ c.requires.state _ c.requires.obj (sym (is-marked-call.ensures ∙ ap is_marked record-of-call.ensures) ∙ if1.false) _ _ _ scan-call.ensures
