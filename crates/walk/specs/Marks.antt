-- The flags of the walk as bits 4, 5 and 6 of the records.
use Rattle.std.specs.Prelude.{ℕ, ◌-◌, Bool, List, get_or, set}
use Rattle.layout.specs.Field.{flag, put_flag}
use Rattle.graph.specs.Trace.{Flag, marked, postponed, reached, Flags}
use Rattle.records.specs.Record.{with_marked, with_postponed, with_reached}
use Rattle.rules.specs.Buffers.{rec_of, each_record}

-- the bit of each flag
abbrev pub bit_of : Flag → ℕ
bit_of marked = 4
bit_of postponed = 5
bit_of reached = 6

-- the flags in the records
unfoldable pub flags_of : ℕ → List ℕ → Flags
flags_of n recs f x = flag (bit_of f) (rec_of n recs x)

-- flag f of object x becomes b
abbrev pub put_mark : Flag → ℕ → Bool → List ℕ → List ℕ
put_mark f x b recs = set recs (x - 1) (put_flag (bit_of f) b (get_or recs (x - 1) 0))

-- the records with these flags put into them
unfoldable pub flagged : ℕ → Flags → List ℕ → List ℕ
flagged n flags recs = each_record n (λ x r. with_reached (flags reached x) (with_postponed (flags postponed x) (with_marked (flags marked x) r))) recs
