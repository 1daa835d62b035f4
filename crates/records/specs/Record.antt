-- The record of an object ("The heap"): which bits say what, and which records are legal.
use Rattle.std.specs.Prelude.{Bool, true, false, ◌&&◌, ◌||◌, not, ℕ, eqb, leb}
use Rattle.layout.specs.Limits.{width_max}
use Rattle.layout.specs.Field.{field, put, flag, put_flag}

-- ---- reading

-- the object exists ("The heap")
abbrev pub in_use : ℕ → Bool
in_use r = flag 0 r

-- stored into since the last analysis ("The heap")
abbrev pub is_written : ℕ → Bool
is_written r = flag 1 r

-- in the list of sinks and in no cluster ("The heap")
abbrev pub is_sink : ℕ → Bool
is_sink r = flag 2 r

-- out: the term of "The heap" for a member one of whose pointers leaves its cluster, sinks not counted
abbrev pub is_out : ℕ → Bool
is_out r = flag 3 r

-- kept and scanned by the collection that is under way ("Collection"); as the next two, 0 between calls
abbrev pub is_marked : ℕ → Bool
is_marked r = flag 4 r

-- a member that waits for its head ("Collection")
abbrev pub is_postponed : ℕ → Bool
is_postponed r = flag 5 r

-- a head whose cluster is kept whole ("Collection")
abbrev pub is_reached : ℕ → Bool
is_reached r = flag 6 r

-- how many slots are used ("The heap")
abbrev pub width : ℕ → ℕ
width r = field 8 4 r

-- the head of the object's cluster, by number; 0 in no cluster
abbrev pub cluster : ℕ → ℕ
cluster r = field 16 12 r

-- ---- setting, each field by itself: all other bits stay

-- bit 0
abbrev pub with_use : Bool → ℕ → ℕ
with_use b r = put_flag 0 b r

-- bit 1
abbrev pub with_written : Bool → ℕ → ℕ
with_written b r = put_flag 1 b r

-- bit 2
abbrev pub with_sink : Bool → ℕ → ℕ
with_sink b r = put_flag 2 b r

-- bit 3
abbrev pub with_out : Bool → ℕ → ℕ
with_out b r = put_flag 3 b r

-- bit 4
abbrev pub with_marked : Bool → ℕ → ℕ
with_marked b r = put_flag 4 b r

-- bit 5
abbrev pub with_postponed : Bool → ℕ → ℕ
with_postponed b r = put_flag 5 b r

-- bit 6
abbrev pub with_reached : Bool → ℕ → ℕ
with_reached b r = put_flag 6 b r

-- bits 8 to 11
abbrev pub with_width : ℕ → ℕ → ℕ
with_width w r = put 8 4 w r

-- bits 16 to 27
abbrev pub with_cluster : ℕ → ℕ → ℕ
with_cluster c r = put 16 12 c r

-- a member after its cluster is dissolved ("Writes and sinks")
unfoldable pub loose : ℕ → ℕ
loose r = with_cluster 0 (with_out false r)

-- the record of an object just given: bit 0 and the width, nothing else
unfoldable pub new_record : ℕ → ℕ
new_record w = with_width w (with_use true 0)

-- ---- legality

-- no object: the record is 0 and nothing else is ("The heap")
unfoldable pub free : ℕ → Bool
free r = eqb r 0

-- no flag of a walk is set, and no bit without a name: 7, 12 to 15, 28 to 31
unfoldable pub clear : ℕ → Bool
clear r = eqb (field 4 4 r) 0 && eqb (field 12 4 r) 0 && eqb (field 28 4 r) 0

-- a legal record in a heap of n objects
unfoldable pub legal : ℕ → ℕ → Bool
legal n r =
    clear r && in_use r && leb (width r) width_max && leb (cluster r) n
    && (not (is_sink r) || eqb (cluster r) 0)
    && (not (is_out r) || not (eqb (cluster r) 0))

-- damage of one record: neither 0 nor legal
unfoldable pub damaged : ℕ → ℕ → Bool
damaged n r = not (free r) && not (legal n r)
