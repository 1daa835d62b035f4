-- Laws of the table and of what follows the name of a call. Assumes nothing.
use Prim.Native.Nat.{ℕ, suc, ◌+◌, ◌-◌, ◌≤◌, ◌<◌}
use mathlib.Core.Path.{◌≡◌, refl}
use mathlib.Core.Bool.{cond}
use mathlib.Core.List.{List}
use native.Mathlib.Numerals.{add-one}
use native.Mathlib.Omega.{arith}
use Rattle.std.proofs.Common.{Some, None, Result, Ok, Err}
use lib.ListN.{get_or, take, drop, drop_of_length-le}
use borrow.Author.Tests.{eq-eqb, ne_eqb}
use Rattle.lines.specs.declared.words.Span.{Span}
use Rattle.lines.specs.declared.kinds.Problem.{Problem}
use Rattle.lines.specs.declared.kinds.Problem.TheVariants.{NoCall, NoNumber, NoWay}
use Rattle.lines.specs.declared.kinds.Kind.TheVariants.{Wrote}
use lib.Seq.{drop-cons}
use Rattle.lines.specs.declared.kinds.Call.{Call}
use Rattle.lines.specs.Word.{word_at, same_bytes}
use Rattle.lines.specs.Numeral.{numeral_of, is_hex, value_of}
use Rattle.lines.specs.Kinds.{table, kinds, bare, with_number}
use Rattle.lines.specs.Line.{ended, number_at, and_then, row_from, row_of, numbers_from, way, follows, parsed}
use Rattle.lines.proofs.WordLaws.{text_none, word_inside}

-- w is the next word of the line s
module _ (s : List ℕ) (from : ℕ) (w : Span) (e : w ≡ word_at s from) where
  pub number_none : w.start ≡ w.end → number_at s from ≡ Err NoNumber
  unfolding number_at value_of is_hex numeral_of
  number_none q = rw (← e, text_none s w q) refl

  pub way_none : (c : Call) → w.start ≡ w.end → way c s from ≡ Err NoWay
  unfolding way
  way_none c q = rw (← e, text_none s w q) refl

module _ (count k : ℕ) (c : Call) (s : List ℕ) (at : ℕ) where
  pub numbers_next : k < count
      → numbers_from (count - k) k c s at ≡ and_then (number_at s at) (λ n. numbers_from (count - (k + 1)) (k + 1) (with_number k n.0 c) s n.1)
  unfolding numbers_from
  numbers_next h =
      let d : count - k ≡ suc (count - (k + 1)) = omega arith in
      rw (d, add-one k) refl

  pub numbers_end : count ≤ k → numbers_from (count - k) k c s at ≡ ended s at c
  unfolding numbers_from
  numbers_end h =
      let d : count - k ≡ 0 = omega arith in
      rw d refl

-- v is the next word of the table s, whose first i rows are passed
module _ (s : List ℕ) (at : ℕ) (v : Span) (e : v ≡ word_at s at) (i : ℕ) (w : List ℕ) where
  pub row_none : i < 13 → v.start ≡ v.end → row_from (drop i kinds) s at w ≡ Err NoCall
  unfolding row_from
  row_none h q = rw (drop-cons kinds i Wrote h, ← e, eq-eqb v.start v.end q) refl

  pub row_some : i < 13 → (v.start ≡ v.end → ⊥)
      → row_from (drop i kinds) s at w
      ≡ and_then (number_at s v.end) (λ n.
      cond (same_bytes w (take (v.end - v.start) (drop v.start s))) (Ok (bare (get_or kinds i Wrote) n.0)) (row_from (drop (i + 1) kinds) s n.1 w))
  unfolding row_from
  row_some h d = rw (add-one, drop-cons kinds i Wrote h, ← e, ne_eqb v.start v.end d) refl

pub row_out : (i : ℕ) (s : List ℕ) (at : ℕ) (w : List ℕ) → 13 ≤ i → row_from (drop i kinds) s at w ≡ Err NoCall
unfolding row_from
row_out i s at w h = rw (drop_of_length-le kinds h) refl

-- w is the first word of the line s
module _ (s : List ℕ) (w : Span) (e : w ≡ word_at s 0) where
  pub line_none : w.start ≡ w.end → parsed s ≡ Ok None
  unfolding parsed
  line_none q = rw (← e, eq-eqb w.start w.end q) refl

  pub line_some : (r : Result Call Problem) → r ≡ row_of table (take (w.end - w.start) (drop w.start s)) → (w.start ≡ w.end → ⊥)
      → parsed s ≡ and_then r (λ c. and_then (follows c s w.end) (λ d. Ok (Some d)))
  unfolding parsed
  line_some r p d = rw (p, ← e, ne_eqb w.start w.end d) refl

pub ruleset words = (word_inside, number_none)

pub ruleset ways = (word_inside, way_none)

pub ruleset rows = (word_inside, row_none, row_some, row_out)

pub ruleset lines = (word_inside, line_none, line_some)
