-- `sinks::place_sink` meets its contract. Assumes nothing.
use native.Mathlib.Omega.{arith}
use mathlib.Core.Path.{sym, ◌∙◌}
use Rattle.sinks.proofs.SinkLaws.{is-found, placed-there, place-low}
use Rattle.sinks.proofs.place_sink.Goals as goal

pub unwrap-k-requires : goal.unwrap-k-requires
unwrap-k-requires c = rw c.first_empty.ensures (is-found c.args.sinks.now c.requires.1)

pub offset_bounds-sinks-k : goal.offset_bounds-sinks-k
offset_bounds-sinks-k c = omega (arith, (place-low c.args.sinks.now _ (sym c.first_empty.ensures ∙ c.unwrap-k.ensures)).0)

pub bounds-sinks-k : goal.bounds-sinks-k
bounds-sinks-k c = (place-low c.args.sinks.now _ (sym c.first_empty.ensures ∙ c.unwrap-k.ensures)).1

pub returns : goal.returns
returns c = placed-there _ c.args.sinks.now c.requires.0 _ (sym c.first_empty.ensures ∙ c.unwrap-k.ensures)
