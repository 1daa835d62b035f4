-- The claim about the two columns of a replay: one heap runs the calls of a list as they say, the other runs them plainly.
use Rattle.std.specs.Prelude.{ℕ, ◌+◌, ◌*◌, ◌≤◌, ◌≡◌, true, List, [], ◌∷◌, length, take, drop, Option, Some, None}
use Rattle.layout.specs.Limits.{sink_max, slots_len, work_len, map_len}
use Rattle.records.specs.Record.{width, free, is_sink}
use Rattle.rules.specs.Buffers.{rec_of}
use Rattle.lines.specs.declared.kinds.Call.{Call}
use Rattle.lines.specs.declared.kinds.Kind.{Kind}
use Rattle.lines.specs.declared.kinds.Kind.TheVariants as kind
use Rattle.lines.specs.Kinds.{number}
use Rattle.calls.specs.Run.{Outcome, run}
use Rattle.calls.specs.Compare.{as_run, agrees}

-- the call of a line, if it makes one, run on what the one before it left
unfoldable pub next : Option Call → Outcome → Outcome
next l o = run o.answer.control o.answer.saved o.records o.slots o.roots o.sinks o.sets o.work o.map o.image l

-- a line makes a call of this kind
abbrev pub Makes : Kind → Option Call → Type 0
Makes k None = ⊥
Makes k (Some c) = c.kind ≡ k

-- none of the calls is a create
abbrev pub NoCreate : List (Option Call) → Type 0
NoCreate [] = Unit {0}
NoCreate (l ∷ ls) = (Makes kind.Create l → ⊥) × NoCreate ls

-- work and map are long enough for n objects, and the bytes of the image for any image of n objects and r roots
abbrev pub Lent : ℕ → ℕ → Outcome → Type 0
Lent n r o = (work_len n ≤ length o.work) × (map_len n ≤ length o.map) × (160 + 36 * n + 4 * r ≤ length o.image)

-- nothing is saved yet
abbrev pub Unsaved : Outcome → Type 0
Unsaved o = o.answer.saved ≡ 0

-- what was saved last, and a load is given
abbrev pub last_image : Outcome → List ℕ
last_image o = take o.answer.saved o.image

-- the two heaps hold the same objects, words and roots, list their sinks in the same places, and the same was saved last
pub record SameHeap (n r : ℕ) (x y : Outcome) : Type 0 where
  pub slots : take (slots_len n) x.slots ≡ take (slots_len n) y.slots
  pub roots : take r x.roots ≡ take r y.roots
  pub sinks : take sink_max x.sinks ≡ take sink_max y.sinks
  pub objects : (i : ℕ) → (free (rec_of n x.records i) ≡ free (rec_of n y.records i))
      × (width (rec_of n x.records i) ≡ width (rec_of n y.records i)) × (is_sink (rec_of n x.records i) ≡ is_sink (rec_of n y.records i))
  pub image : last_image x ≡ last_image y

-- the words of the slots that the answer of a show names
abbrev pub shown : Outcome → List ℕ
shown o = take o.answer.b (drop o.answer.a o.slots)

-- what the call gives besides its answer: the words shown, the freed map
pub record SameOutput (n : ℕ) (l : Option Call) (x y : Outcome) : Type 0 where
  pub words : Makes kind.Show l → shown x ≡ shown y
  pub freed : Makes kind.Collect l → take (map_len n) x.map ≡ take (map_len n) y.map

-- before each call and after the last the two heaps are the same, and every call gives answers that agree and the same words or map
abbrev pub Columns : ℕ → ℕ → List (Option Call) → Outcome → Outcome → Type 0
Columns n r [] x y = SameHeap n r x y
Columns n r (l ∷ ls) x y =
    SameHeap n r x y × (agrees l (next l x).answer (next (as_run true l) y).answer ≡ true) × SameOutput n l (next l x) (next (as_run true l) y)
    × Columns n r ls (next l x) (next (as_run true l) y)

-- a call that creates a heap of n objects and r roots, with the usual numbers of the analysis or with others
abbrev pub Creates : ℕ → ℕ → Call → Type 0
Creates n r l = (l.kind ≡ kind.Create) × (number 0 l ≡ n) × (number 1 l ≡ r)

-- for two columns that begin with an accepted create of n objects and r roots, each in buffers of its own, of any contents, and with nothing saved; the
-- numbers of the analysis need not be the same
abbrev pub SameColumns : Type 0
SameColumns =
    (n r : ℕ) (l m : Call) (x y : Outcome) → Creates n r l → Creates n r m → (next (Some l) x).answer.refusal ≡ 0 → (next (Some m) y).answer.refusal ≡ 0
    → Lent n r x → Lent n r y → Unsaved x → Unsaved y → (calls : List (Option Call)) → NoCreate calls
    → Columns n r calls (next (Some l) x) (next (Some m) y)
