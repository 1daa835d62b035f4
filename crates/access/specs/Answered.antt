-- The answer of a read in two parts.
use Rattle.std.specs.Prelude.{ℕ, Result, Ok, Err}
use Rattle.layout.specs.declared.answers.Control.{Control}
use Rattle.layout.specs.declared.answers.WordRead.{WordRead}
use Rattle.layout.specs.declared.refusals.Refusal.{Refusal}
use Rattle.layout.specs.Refusal.{number}

-- the word or the refusal's number, with the control record beside them
abbrev pub answered : Result ℕ Refusal → Control → WordRead
answered (Ok w) c = record { refusal = 0; word = w; control = c }
answered (Err e) c = record { refusal = number e; word = 0; control = c }
