-- `lines::words::run_end`: the run from each index passed ends where the first does. Assumes nothing.
use mathlib.Core.Path.{◌≡◌}
use Rattle.lines.specs.Word.{run_end}
use Rattle.lines.proofs.words.run_end.Given as goal

abbrev pub invariant-loop-i : goal.invariant-loop-i
invariant-loop-i l = run_end l.kind l.s l.i ≡ run_end l.kind l.s l.from
