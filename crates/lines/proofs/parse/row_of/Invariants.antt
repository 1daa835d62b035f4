-- `lines::parse::row_of`: the rows that are left decide as the whole table does. Assumes nothing.
use mathlib.Core.Path.{◌≡◌}
use lib.ListN.{drop}
use Rattle.lines.specs.Kinds.{kinds}
use Rattle.lines.specs.Line.{row_from, row_of}
use Rattle.lines.proofs.parse.row_of.Given as goal

abbrev pub invariant-loop-kind : goal.invariant-loop-kind
invariant-loop-kind l = row_from (drop l.kind-index kinds) l.table l.at l.word ≡ row_of l.table l.word
