-- Every example is what the definition makes of it. Assumes nothing.
use Prim.Native.Nat.{ℕ}
use Prim.Native.String.{String}
use mathlib.Core.Path.{◌≡◌, refl}
use mathlib.Core.List.{map, [], ◌∷◌}
use Rattle.std.specs.Prelude.{Option, Result, Ok}
use Rattle.lines.specs.declared.kinds.Problem.{Problem}
use Rattle.lines.specs.declared.kinds.Call.{Call}
use Rattle.lines.specs.Text.{bytes}
use Rattle.lines.specs.Word.{is_blank, in_word, in_line, has, run, run_end, word_at, line_end}
use Rattle.lines.specs.Numeral.{between, digit_of, digits, numeral_of, is_hex, value_of}
use Rattle.lines.specs.Line.{and_then, ended, number_at, row_from, row_of, numbers_from, sizes, named, way, follows, parsed}
use Rattle.lines.specs.Kinds.{table, kinds, kind_number, with_number}
use Rattle.lines.specs.Told.{name}
use Rattle.lines.specs.declared.kinds.Kind.{Kind}
use Rattle.lines.specs.Examples.{examples, line_ends}

pub all_right : map (λ (e : String × Result (Option Call) Problem). parsed (bytes e.0)) examples ≡ map (λ (e : String × Result (Option Call) Problem). e.1) examples
unfolding is_blank in_word has run run_end word_at between digit_of digits numeral_of is_hex value_of with_number ended number_at row_from row_of numbers_from sizes named way follows parsed
all_right = refl

pub ends-right : map (λ (e : String × ℕ × ℕ). line_end (bytes e.0) e.1) line_ends ≡ map (λ (e : String × ℕ × ℕ). e.2) line_ends
unfolding in_line has run run_end line_end
ends-right = refl

-- each kind is read from its name, by the row of the table that has it
pub names-read : map (λ (k : Kind). and_then (row_of table (name k)) (λ c. Ok c.kind)) kinds ≡ map (λ (k : Kind). Ok k) kinds
unfolding number_at row_from row_of in_word is_blank has run run_end word_at between digit_of digits numeral_of is_hex value_of
names-read = refl

-- the numbers of the kinds are those of the rows
pub rows-numbered : map kind_number kinds ≡ 1 ∷ 2 ∷ 3 ∷ 4 ∷ 5 ∷ 6 ∷ 7 ∷ 8 ∷ 9 ∷ 10 ∷ 11 ∷ 12 ∷ 13 ∷ []
rows-numbered = refl
