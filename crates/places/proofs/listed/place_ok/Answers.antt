-- `places::listed::place_ok` tests one after the other. Assumes nothing.
use mathlib.Core.Path.{◌≡◌, refl}
use mathlib.Core.Bool.{◌&&◌}
use borrow.Author.Tests.{ne_eqb}
use Rattle.layout.specs.Word.{is_nil, is_pointer}
use Rattle.records.specs.Record.{is_sink}
use Rattle.rules.specs.Buffers.{rec_of}
use Rattle.places.proofs.listed.place_ok.Goals as goal
use Rattle.places.proofs.listed.place_ok.Goals.{then-within, else-within}

pub returns-then-y-eq0 : goal.returns-then-y-eq0
unfolding is_nil
returns-then-y-eq0 c = rw c.if-y-eq0.true refl

pub returns-then-is_sink : goal.returns-then-is_sink
unfolding is_nil is_pointer
returns-then-is_sink c =
    let v : c.if-within.value ≡ (is_pointer c.args.n c.args.y && is_sink (rec_of c.args.n c.args.records.now c.args.y)) =
    elim c.if-within.branch [
      | then-within w ↦ rw (w.value-is, ← c.within.ensures, w.if-within.true, ← w.record_of.ensures) w.is_sink.ensures
      | else-within w ↦ rw (w.value-is, ← c.within.ensures, w.if-within.false) refl
    ]
    in
    rw (ne_eqb _ 0 c.if-y-eq0.false, ← v, c.if-is_sink.true, c.has_bit.ensures) refl

pub returns-else-is_sink : goal.returns-else-is_sink
unfolding is_nil is_pointer
returns-else-is_sink c =
    let v : c.if-within.value ≡ (is_pointer c.args.n c.args.y && is_sink (rec_of c.args.n c.args.records.now c.args.y)) =
    elim c.if-within.branch [
      | then-within w ↦ rw (w.value-is, ← c.within.ensures, w.if-within.true, ← w.record_of.ensures) w.is_sink.ensures
      | else-within w ↦ rw (w.value-is, ← c.within.ensures, w.if-within.false) refl
    ]
    in
    rw (ne_eqb _ 0 c.if-y-eq0.false, ← v, c.if-is_sink.false) refl
