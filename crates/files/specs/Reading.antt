-- A list that is read line by line.
use Rattle.std.specs.Prelude.{◌≡◌, ℕ, ◌+◌, ◌-◌, ◌%◌, ◌^◌, ◌≤◌, Bool, cond, List, take, drop, ℤ, ◌≢◌, nat_lt, Option, Some, None, Result, Ok}
use Rattle.lines.specs.Word.{line_end}
use Rattle.lines.specs.Line.{parsed}
use Rattle.lines.specs.declared.kinds.Call.{Call}
use Rattle.lines.specs.declared.kinds.Problem.{Problem}
use Rattle.lines.specs.declared.kinds.Problem.TheVariants.{NeverCreated, TooLong, Unreadable}
use Rattle.files.specs.declared.State.{State}
use Rattle.files.specs.declared.State.TheVariants.{More, Line, Long, Failed, Other}
use Rattle.files.specs.declared.Source.{Source}

-- the most bytes of a line
abbrev pub longest : ℕ
longest = 4096

-- the bytes of the input
abbrev pub room : ℕ
room = 65536

-- a list of which nothing has been read
abbrev pub new_source : ℤ → Source
new_source fd = record { fd = fd; from = 0; end = 0; number = 0; start = 0; stop = 0; state = More }

-- the source with other bytes to use, and another state
abbrev pub held : Source → ℕ → ℕ → State → Source
held s from end state =
    record { fd = s.fd; from = from; end = end; number = s.number; start = s.start; stop = s.stop; state = state }

-- the state of a source whose line has n bytes
unfoldable pub line_state : ℕ → State
line_state n = cond (nat_lt longest n) Long Line

-- the number of the line after the one with the number n
abbrev pub next_number : ℕ → ℕ
next_number n = (n + 1) % 2 ^ 64

-- the source with a line that ends before `stop`, and the next one from `next` on
abbrev pub taken : Source → ℕ → ℕ → Source
taken s stop next =
    record {
      fd = s.fd;
      from = next;
      end = s.end;
      number = next_number s.number;
      start = s.from;
      stop = stop;
      state = line_state (stop - s.from);
    }

-- where the line that begins at `from` ends, among the bytes before `end`
abbrev pub line_stop : Source → List ℕ → ℕ
line_stop s input = line_end (take s.end input) s.from

-- the source after a look at the bytes at hand: with a line, with one that is too long already, or without one
unfoldable pub looked : Source → List ℕ → Source
looked s input =
    cond (nat_lt room s.end) (held s s.from s.end Failed)
    (cond (nat_lt (line_stop s input) s.end) (taken s (line_stop s input) (line_stop s input + 1))
    (cond (nat_lt longest (s.end - s.from)) (taken s s.end s.end) (held s s.from s.end More)))

-- the number of the last line, by the state: a line that was found counts, also one that is too long
unfoldable pub number_after : State → ℕ → ℕ
number_after Line n = next_number n
number_after Long n = next_number n
number_after _ n = n

-- the line found lies in the input and is no longer than a line may be
pub record Lies (r : Source) : Type 0 where
  pub forward : r.start ≤ r.stop
  pub inside : r.stop ≤ room
  pub short : r.stop - r.start ≤ longest

-- what holds of the source r that is answered for s, whatever was read
pub record Found (s r : Source) : Type 0 where
  pub file : r.fd ≡ s.fd
  pub counted : r.number ≡ number_after r.state s.number
  pub line : r.state ≡ Line → Lies r
  pub known : (k : ℕ) → r.state ≢ Other k
  pub little : r.state ≡ More → (r.end ≤ room) × (r.end - r.from ≤ longest)

-- where the bytes at hand say what the next line is, that is the answer, and the input is as it was
abbrev pub Searched : Source → List ℕ → Source → List ℕ → Type 0
Searched s input r left = ((looked s input).state ≢ More) → (r ≡ looked s input) × (left ≡ input)

-- the call that the line found makes; none where its places are out of order
unfoldable pub call_at : Source → List ℕ → Result (Option Call) Problem
call_at s input =
    cond (nat_lt s.stop s.start) (Ok None)
    (cond (nat_lt room s.stop) (Ok None) (parsed (take (s.stop - s.start) (drop s.start input))))

-- what is wrong where no line was found
unfoldable pub end_problem : State → Bool → Option Problem
end_problem Long created = Some TooLong
end_problem Failed created = Some Unreadable
end_problem _ created = cond created None (Some NeverCreated)
