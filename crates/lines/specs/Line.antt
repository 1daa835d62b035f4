-- The call that a line makes, or what was expected where the line first goes wrong.
use Rattle.std.specs.Prelude.{ℕ, zero, suc, Bool, true, false, cond, List, [], ◌∷◌, Option, Some, None, Result, Ok, Err}
use Rattle.lines.specs.Text.{bytes}
use Rattle.lines.specs.Word.{word_at, none, text, same_bytes}
use Rattle.lines.specs.Numeral.{value_of}
use Rattle.lines.specs.declared.kinds.Kind.{Kind}
use Rattle.lines.specs.declared.kinds.Kind.TheVariants.{Wrote, Loaded, Create, Collect}
use Rattle.lines.specs.declared.kinds.Problem.{Problem}
use Rattle.lines.specs.declared.kinds.Problem.TheVariants.{NoCall, NoEnd, NoWay, NoName}
use Rattle.lines.specs.declared.kinds.Call.{Call}
use Rattle.lines.specs.Kinds.{table, kinds, tuned_count, bare, with_number, with_count}

-- what k makes of the value at hand; a problem stays
abbrev pub and_then : {T U : Type 0} → Result T Problem → (T → Result U Problem) → Result U Problem
and_then (Err e) k = Err e
and_then (Ok v) k = k v

-- the call c, if no word is left at `at`
unfoldable pub ended : List ℕ → ℕ → Call → Result Call Problem
ended s at c = cond (none (word_at s at)) (Ok c) (Err NoEnd)

-- the next word as a number, with the place after it
unfoldable pub number_at : List ℕ → ℕ → Result (ℕ × ℕ) Problem
number_at s at = and_then (value_of (text s (word_at s at))) (λ v. Ok (v, (word_at s at).end))

-- the call that the word w names: the first row of the table from `at` on that begins with it, by the kinds of these rows
unfoldable pub row_from : List Kind → List ℕ → ℕ → List ℕ → Result Call Problem
row_from [] s at w = Err NoCall
row_from (kind ∷ left) s at w =
    let v = word_at s at in
    cond (none v) (Err NoCall)
    (and_then (number_at s v.end) (λ n. cond (same_bytes w (text s v)) (Ok (bare kind n.0)) (row_from left s n.1 w)))

-- a row for each kind
unfoldable pub row_of : List ℕ → List ℕ → Result Call Problem
row_of s w = row_from kinds s 0 w

-- the call c with `left` numbers more, from the k-th on, and the end of the line
unfoldable pub numbers_from : ℕ → ℕ → Call → List ℕ → ℕ → Result Call Problem
numbers_from zero k c s at = ended s at c
numbers_from (suc left) k c s at = and_then (number_at s at) (λ n. numbers_from left (suc k) (with_number k n.0 c) s n.1)

-- the line goes wrong by a further word, and nowhere before it
abbrev pub further : Result Call Problem → Bool
further (Err NoEnd) = true
further _ = false

-- the create c with its sizes; where a further word stands behind them, with the numbers of the analysis too
unfoldable pub sizes : Call → List ℕ → ℕ → Result Call Problem
sizes c s at =
    let usual = numbers_from c.count 0 c s at in
    cond (further usual) (numbers_from tuned_count 0 (with_count tuned_count c) s at) usual

-- a name, and the end of the line
unfoldable pub named : Call → List ℕ → ℕ → Result Call Problem
named c s at = cond (none (word_at s at)) (Err NoName) (ended s (word_at s at).end c)

-- `plain` or `clusters`, as 0 or 1, and the end of the line
unfoldable pub way : Call → List ℕ → ℕ → Result Call Problem
way c s at =
    let w = word_at s at in
    cond (same_bytes (text s w) (bytes "plain")) (ended s w.end (with_number 0 0 c))
    (cond (same_bytes (text s w) (bytes "clusters")) (ended s w.end (with_number 0 1 c)) (Err NoWay))

-- what follows the name of the call c, by its kind
abbrev pub by_kind : Kind → Call → List ℕ → ℕ → Result Call Problem
by_kind Wrote c s at = named c s at
by_kind Loaded c s at = named c s at
by_kind Create c s at = sizes c s at
by_kind Collect c s at = way c s at
by_kind _ c s at = numbers_from c.count 0 c s at

-- what follows the name of the call c
unfoldable pub follows : Call → List ℕ → ℕ → Result Call Problem
follows c s at = by_kind c.kind c s at

-- the line s: its first word names the call; without a word it makes none
unfoldable pub parsed : List ℕ → Result (Option Call) Problem
parsed s =
    let w = word_at s 0 in
    cond (none w) (Ok None) (and_then (row_of table (text s w)) (λ c. and_then (follows c s w.end) (λ d. Ok (Some d))))
