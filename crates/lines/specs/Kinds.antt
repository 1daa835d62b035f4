-- A call: its kind, and the numbers that belong to it.
use Rattle.std.specs.Prelude.{ℕ, Bool, cond, List, [], ◌∷◌, ltb, get_or, set, Option, Some, None, Result, Ok, Err}
use Rattle.lines.specs.Text.{bytes}
use Rattle.lines.specs.declared.kinds.Kind.{Kind}
use Rattle.lines.specs.declared.kinds.Kind.TheVariants.{Wrote, Loaded, Create, Allocate, Read, Show, Write, Root, Sink, Analyse, Collect, Save, Load, Other}
use Rattle.lines.specs.declared.kinds.Problem.{Problem}
use Rattle.lines.specs.declared.kinds.Problem.TheVariants.{NoCreate, SecondCreate}
use Rattle.lines.specs.declared.kinds.Call.{Call}

-- for each kind of line the first word, and how many numbers belong to it
abbrev pub table : List ℕ
table = bytes "wrote 0 loaded 0 create 2 allocate 1 read 2 show 1 write 3 root 2 sink 1 analyse 0 collect 1 save 0 load 0"

-- the most numbers of a call
abbrev pub most : ℕ
most = 5

-- the kinds, in the order of the table
abbrev pub kinds : List Kind
kinds = Wrote ∷ Loaded ∷ Create ∷ Allocate ∷ Read ∷ Show ∷ Write ∷ Root ∷ Sink ∷ Analyse ∷ Collect ∷ Save ∷ Load ∷ []

-- the number of each kind, that of its row in the table; another has a number of its own
abbrev pub kind_number : Kind → ℕ
kind_number Wrote = 1
kind_number Loaded = 2
kind_number Create = 3
kind_number Allocate = 4
kind_number Read = 5
kind_number Show = 6
kind_number Write = 7
kind_number Root = 8
kind_number Sink = 9
kind_number Analyse = 10
kind_number Collect = 11
kind_number Save = 12
kind_number Load = 13
kind_number (Other n) = n

-- the numbers of a create that names those of the analysis behind its sizes
abbrev pub tuned_count : ℕ
tuned_count = 5

-- a call without numbers
abbrev pub bare : Kind → ℕ → Call
bare kind count = record { kind = kind; count = count; numbers = 0 ∷ 0 ∷ 0 ∷ 0 ∷ 0 ∷ [] }

-- v as the k-th number, where a call has room for it
unfoldable pub with_number : ℕ → ℕ → Call → Call
with_number k v c = cond (ltb k most) (record { kind = c.kind; count = c.count; numbers = set c.numbers k v }) c

-- another count of numbers
abbrev pub with_count : ℕ → Call → Call
with_count count c = record { kind = c.kind; count = count; numbers = c.numbers }

-- the k-th number of a call
abbrev pub number : ℕ → Call → ℕ
number k c = get_or c.numbers k 0

-- what is wrong with a call of a kind, after an earlier create or before one: a create that is missing or one too many
unfoldable pub call_problem : Kind → Bool → Option Problem
call_problem Wrote created = None
call_problem Loaded created = None
call_problem Create created = cond created (Some SecondCreate) None
call_problem _ created = cond created None (Some NoCreate)

-- what is wrong with a line, after an earlier create or before one: what was expected, or a create that is missing or one too many
unfoldable pub problem_of : Result (Option Call) Problem → Bool → Option Problem
problem_of (Err problem) created = Some problem
problem_of (Ok None) created = None
problem_of (Ok (Some c)) created = call_problem c.kind created
