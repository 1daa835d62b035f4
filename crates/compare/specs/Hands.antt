-- What changed hands.
use Rattle.std.specs.Prelude.{ℕ, zero, suc, ◌+◌, ◌*◌, ◌-◌, ◌^◌, Bool, false, not, cond, ◌&&◌, ◌==◌, List, eqb, ltb, get_or, set, take, position, Option, Some, None, option_map}
use Rattle.std.specs.Option.{option_or}
use Rattle.bitmap.specs.Bits.{holds}
use Rattle.lines.specs.declared.kinds.Kind.{Kind}
use Rattle.lines.specs.declared.kinds.Kind.TheVariants as kind
use Rattle.lines.specs.declared.kinds.Call.{Call}
use Rattle.calls.specs.declared.Ran.{Ran}
use denote.Enum.Bare.{sameb}
use Rattle.lines.specs.contracts.kinds.Kind.{the_type}

-- the word of an object that was freed and has not changed hands
abbrev pub freed : ℕ
freed = 65535

-- a word has no room for a place from here on
abbrev pub nowhere : ℕ
nowhere = 65535

-- where the word of object x of a column is
unfoldable pub word_of : Bool → ℕ → ℕ
word_of left x = cond left x (4096 + x)

-- a line makes a call of this kind
abbrev pub makes : Kind → Option Call → Bool
makes k None = false
makes k (Some c) = sameb the_type c.kind k

-- the object that a call gave; 0 for none
unfoldable pub given_by : Bool → Option Call → Ran → ℕ
given_by there l ran = cond (there && makes kind.Allocate l) ran.a 0

-- a collection that was accepted
unfoldable pub collects : Bool → Option Call → Ran → Bool
collects there l ran = there && makes kind.Collect l && eqb ran.refusal 0

-- the words after object i was freed, if the map has it: only a word that is 0 changes
unfoldable pub keep_one : Bool → List ℕ → ℕ → List ℕ → List ℕ
keep_one left map i h = cond (holds i map && eqb (get_or h (word_of left i) 0) 0) (set h (word_of left i) freed) h

-- the words after the objects of a map were freed, those from i on, n of them
unfoldable pub keep_freed : Bool → List ℕ → ℕ → ℕ → List ℕ → List ℕ
keep_freed left map i zero h = h
keep_freed left map i (suc n) h = keep_freed left map (suc i) n (keep_one left map i h)

-- the place of the first x, if a word has room for it
unfoldable pub found : ℕ → List ℕ → Option ℕ
found x l = position (λ w. w == x) (take nowhere l)

-- the first slot that names x, or else the first root, counted from 32768
unfoldable pub naming : List ℕ → List ℕ → ℕ → Option ℕ
naming slots roots x = option_or (found x slots) (option_map (λ i. 32768 + i) (found x roots))

-- x was given now and freed before, has not changed hands yet, is not what the other column was given now, and is in use there
unfoldable pub is_again : List ℕ → Bool → ℕ → ℕ → List ℕ → Bool
is_again h left x y records =
    not (eqb x 0) && (not (eqb x y) && (eqb (get_or h (word_of left x) 0) freed && not (eqb (get_or records (x - 1) 0) 0)))

-- the words after object x of a column changed hands at a line, unless no place names it
unfoldable pub handed : Bool → ℕ → ℕ → Option ℕ → List ℕ → List ℕ
handed left x line None h = h
handed left x line (Some place) h = cond (ltb place nowhere && ltb line (2 ^ 48)) (set h (word_of left x) (line * 65536 + place)) h

-- the words after a column was given x at a line, where the other one was given y and has these buffers
unfoldable pub note_given : Bool → ℕ → ℕ → ℕ → List ℕ → List ℕ → List ℕ → List ℕ → List ℕ
note_given left x y line records slots roots h =
    cond (is_again h left x y records) (handed left x line (naming slots roots x) h) h
