-- `loads::lay::lay_list` puts number after number. Assumes nothing.
use mathlib.Core.Path.{◌≡◌}
use lib.Seq.{sets}
use Rattle.loads.proofs.SinkPlaces.{first_numbers}
use Rattle.loads.proofs.lay.lay_list.Given as goal

abbrev pub invariant-loop-i : goal.invariant-loop-i
invariant-loop-i l = l.sinks ≡ sets l.initial.sinks 0 (first_numbers l.body l.initial.sinks l.i)
