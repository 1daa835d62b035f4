-- The words of a line: runs of bytes that are neither blank nor '#'. A '#' ends the words of the line.
use Rattle.std.specs.Prelude.{ℕ, suc, ◌+◌, ◌-◌, Bool, true, false, not, cond, ◌&&◌, ◌||◌, List, [], ◌∷◌, eqb, leb, length, take, drop}
use Rattle.std.specs.Str.{bytes_eq}
use Rattle.lines.specs.declared.words.Span.{Span}
use Rattle.lines.specs.declared.words.Kind.{Kind}
use Rattle.lines.specs.declared.words.Kind.TheVariants.{Blank, Word, Line}

-- a space, a tab or a carriage return
unfoldable pub is_blank : ℕ → Bool
is_blank b = eqb b 32 || (eqb b 9 || eqb b 13)

-- a byte of a word: neither blank nor '#'
unfoldable pub in_word : ℕ → Bool
in_word b = not (is_blank b) && not (eqb b 35)

-- a byte of a line: no newline
unfoldable pub in_line : ℕ → Bool
in_line b = not (eqb b 10)

-- the bytes of each kind of run
unfoldable pub has : Kind → ℕ → Bool
has Blank b = is_blank b
has Word b = in_word b
has Line b = in_line b

-- how many bytes at the front are of a kind
unfoldable pub run : (ℕ → Bool) → List ℕ → ℕ
run p [] = 0
run p (b ∷ s) = elim (p b) [ true ↦ suc (run p s) | false ↦ 0 ]

-- where the run that begins at `from` ends
unfoldable pub run_end : Kind → List ℕ → ℕ → ℕ
run_end k s from = from + run (has k) (drop from s)

-- the next word from `from` on, after blanks; where none is left, its start is its end
unfoldable pub word_at : List ℕ → ℕ → Span
word_at s from = record { start = run_end Blank s from; end = run_end Word s (run_end Blank s from) }

-- no word is left
abbrev pub none : Span → Bool
none w = eqb w.start w.end

-- the bytes of a word
abbrev pub text : List ℕ → Span → List ℕ
text s w = take (w.end - w.start) (drop w.start s)

-- byte by byte, to the end of both
abbrev pub same_bytes : List ℕ → List ℕ → Bool
same_bytes = bytes_eq

-- the index of the first newline at or after `from`, or the length
unfoldable pub line_end : List ℕ → ℕ → ℕ
line_end s from = cond (leb from (length s)) (run_end Line s from) (length s)
