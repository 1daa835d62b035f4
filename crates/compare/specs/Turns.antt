-- The turns of two columns, and the first difference.
use Rattle.std.specs.Prelude.{ℕ, Bool, true, false, not, cond, ◌&&◌, ◌||◌, Option, Some, None, is_none}
use Rattle.lines.specs.declared.kinds.Kind.{Kind}
use Rattle.lines.specs.declared.kinds.Kind.TheVariants as kind
use Rattle.lines.specs.declared.kinds.Call.{Call}
use Rattle.compare.specs.declared.turns.State.{State}
use Rattle.compare.specs.declared.turns.State.TheVariants.{Reading, AtCall, AtAnalysis, Done}
use Rattle.compare.specs.declared.turns.Turn.{Turn}
use Rattle.compare.specs.declared.turns.Verdict.{Verdict}

-- the state of a column after a call of a kind: it was a name only, an analysis or another call
abbrev pub state_by_kind : Kind → State
state_by_kind kind.Wrote = Reading
state_by_kind kind.Loaded = Reading
state_by_kind kind.Analyse = AtAnalysis
state_by_kind _ = AtCall

-- the state of a column after a line, which may make no call
unfoldable pub state_after : Option Call → State
state_after None = Reading
state_after (Some c) = state_by_kind c.kind

-- calls beside each other: a difference where one is missing, or the answers are not the same
abbrev pub paired : Bool → Bool → Bool → Turn
paired l r same = record { has_left = l; has_right = r; mark = not l || not r || not same }

-- a column at an analysis
abbrev pub at_analysis : State → Bool
at_analysis AtAnalysis = true
at_analysis _ = false

-- a column past its last line
abbrev pub is_done : State → Bool
is_done Done = true
is_done _ = false

-- what comes next of two columns: an analysis has a row of its own, that of the left one first; else the calls of both
unfoldable pub next_turn : State → State → Bool → Turn
next_turn l r same =
    cond (at_analysis l) (record { has_left = true; has_right = false; mark = false })
    (cond (at_analysis r) (record { has_left = false; has_right = true; mark = false })
    (paired (not (is_done l)) (not (is_done r)) same))

-- no column is next
abbrev pub is_over : Turn → Bool
is_over t = not t.has_left && not t.has_right

-- the first difference after a turn, by its lines, none for a list that has no call there: an earlier one stays
unfoldable pub noted_after : Verdict → Turn → ℕ → ℕ → Verdict
noted_after v t left right =
    cond (is_none v.left && is_none v.right && t.mark)
    (record { left = cond t.has_left (Some left) None; right = cond t.has_right (Some right) None })
    v
