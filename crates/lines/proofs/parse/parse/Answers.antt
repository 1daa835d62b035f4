-- `lines::parse::parse`: the first word names the call, and its kind says what follows. Assumes nothing.
use Rattle.lines.proofs.parse.parse.Goals as goal
use Rattle.lines.proofs.LineLaws.{line_some}
use Rattle.lines.specs.Line.{and_then}
use mathlib.Core.Path.{refl}
use Rattle.std.proofs.Common.{rules}

pub returns-in_err-call : goal.returns-in_err-call
returns-in_err-call c = let e = line_some _ _ c.next_word-start.ensures _ c.row_of.ensures c.if-start-end.false in rw (e, c.in_err-call.was) (search rules)

pub returns-in_err-made : goal.returns-in_err-made
returns-in_err-made c = let e = line_some _ _ c.next_word-start.ensures _ c.row_of.ensures c.if-start-end.false in rw (e, c.in_ok-call.was, and_then, ← c.follows.ensures, c.in_err-made.was) (search rules)

pub returns : goal.returns
returns c = let e = line_some _ _ c.next_word-start.ensures _ c.row_of.ensures c.if-start-end.false in rw (e, c.in_ok-call.was, and_then, ← c.follows.ensures, c.in_ok-made.was) refl
