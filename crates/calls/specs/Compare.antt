-- How a heap is run plainly, and when the answers of two heaps are the same.
use Rattle.std.specs.Prelude.{Bool, true, false, not, cond, ◌&&◌, ◌||◌, eqb, Option, Some, None, option_and_then}
use Rattle.lines.specs.declared.kinds.Kind.{Kind}
use Rattle.lines.specs.declared.kinds.Kind.TheVariants as kind
use Rattle.lines.specs.declared.kinds.Call.{Call}
use Rattle.lines.specs.Kinds.{with_number}
use Rattle.calls.specs.declared.Ran.{Ran}

-- a call of a kind as a heap without clusters runs it: no analysis, and every collection plainly
abbrev pub plain_of_kind : Kind → Call → Option Call
plain_of_kind kind.Analyse c = None
plain_of_kind kind.Collect c = Some (with_number 0 0 c)
plain_of_kind _ c = Some c

-- the call as a heap without clusters runs it
unfoldable pub plain_call : Call → Option Call
plain_call c = plain_of_kind c.kind c

-- the call of a line, if it makes one, as a column runs it: plainly, or as it is
unfoldable pub as_run : Bool → Option Call → Option Call
as_run plain l = cond plain (option_and_then plain_call l) l

-- the answer of a kind of line counts where heaps are compared: every call's but an analysis's
unfoldable pub is_compared : Kind → Bool
is_compared kind.Wrote = false
is_compared kind.Loaded = false
is_compared kind.Analyse = false
is_compared _ = true

-- the same refusal and values; what a collection scanned (c, 0 for all others) and the control record do not count, nor does a line that makes no call
unfoldable pub agrees : Option Call → Ran → Ran → Bool
agrees None x y = true
agrees (Some call) x y = not (is_compared call.kind) || (eqb x.refusal y.refusal && (eqb x.a y.a && eqb x.b y.b))
