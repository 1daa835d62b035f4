-- When two calls are answered the same.
use Rattle.std.specs.Prelude.{ℕ, ◌+◌, Bool, true, false, not, ◌&&◌, ◌||◌, List, eqb, leb, length, take, drop, Option, Some, None}
use Rattle.lines.specs.Kinds.{kind_number}
use Rattle.lines.specs.declared.kinds.Kind.{Kind}
use Rattle.lines.specs.declared.kinds.Kind.TheVariants as kind
use Rattle.lines.specs.declared.kinds.Call.{Call}
use Rattle.lines.specs.Word.{same_bytes}
use Rattle.calls.specs.declared.Ran.{Ran}
use Rattle.calls.specs.Compare.{agrees}

-- the same words, and as many
abbrev pub same_list : List ℕ → List ℕ → Bool
same_list = same_bytes

-- the same kind, by its number
abbrev pub same_kind : Kind → Kind → Bool
same_kind c d = eqb (kind_number c) (kind_number d)

-- the words of a list from start on, n of them
abbrev pub part : ℕ → ℕ → List ℕ → List ℕ
part start n x = take n (drop start x)

-- x has n words from start on, y as many from another place on, and these are the same
unfoldable pub same_part : List ℕ → List ℕ → ℕ → ℕ → ℕ → Bool
same_part x y start other n =
    leb (start + n) (length x) && (leb (other + n) (length y) && same_list (part start n x) (part other n y))

-- the same freed map after a collection, the same slots after a show
unfoldable pub same_values : Kind → Ran → Ran → List ℕ → List ℕ → List ℕ → List ℕ → Bool
same_values kind.Collect x y slots1 map1 slots2 map2 = same_list map1 map2
same_values kind.Show x y slots1 map1 slots2 map2 = same_part slots1 slots2 x.a y.a x.b
same_values _ x y slots1 map1 slots2 map2 = true

-- the answer y, but a part that is shown as if it stood where that of x does
unfoldable pub besides : Kind → Ran → Ran → Ran
besides kind.Show x y = record { refusal = y.refusal; a = x.a; b = y.b; c = y.c; control = y.control; saved = y.saved }
besides _ x y = y

-- the same kind and answers, wherever the shown words are; after an accepted call what it left too; lines that make no call are the same
unfoldable pub same_answers : Option Call → Option Call → Ran → Ran → List ℕ → List ℕ → List ℕ → List ℕ → Bool
same_answers None None x y slots1 map1 slots2 map2 = true
same_answers (Some call) (Some other) x y slots1 map1 slots2 map2 =
    same_kind call.kind other.kind
    && agrees (Some call) x (besides call.kind x y) && (not (eqb x.refusal 0) || same_values call.kind x y slots1 map1 slots2 map2)
same_answers _ _ x y slots1 map1 slots2 map2 = false
