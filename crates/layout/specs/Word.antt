-- A word ("The heap"): nil, an object number or an immediate; no other is legal.
use Rattle.std.specs.Prelude.{Bool, ◌&&◌, ◌||◌, cond, ℕ, ◌^◌, eqb, leb, ltb}
use Rattle.layout.specs.Limits.{object_max, within}
use Rattle.layout.specs.declared.words.Word.{Word}
use Rattle.layout.specs.declared.words.Word.TheVariants.{Nil, Object, Immediate, Illegal}

-- no object ("The heap")
unfoldable pub is_nil : ℕ → Bool
is_nil w = eqb w 0

-- the number of one of n objects
unfoldable pub is_pointer : ℕ → ℕ → Bool
is_pointer n w = within 1 n w

-- a value of the game's own ("The heap"): from 0x80000000 up, as far as 32 bits go
unfoldable pub is_immediate : ℕ → Bool
is_immediate w = leb (2 ^ 31) w && ltb w (2 ^ 32)

-- what a used slot may hold in a heap of n objects, as far as the word alone tells
unfoldable pub legal_word : ℕ → ℕ → Bool
legal_word n w = is_nil w || is_pointer n w || is_immediate w

-- the sort of a word; a number above 4,095 is none, whatever n is
unfoldable pub sort_of : ℕ → ℕ → Word
sort_of n w =
    cond (is_nil w) Nil
    (cond (is_pointer n w && leb w object_max) (Object w)
    (cond (is_immediate w) Immediate
    Illegal))
