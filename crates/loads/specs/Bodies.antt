-- The bodies of an image as they are read: where an object's bytes stand, what is tested of them, and the sets of the listed objects and the sinks.
use Rattle.std.specs.Prelude.{ℕ, ◌+◌, ◌*◌, ◌/◌, ◌%◌, ◌≤◌, ◌<◌, ◌≡◌, Bool, true, false, not, ◌&&◌, ◌||◌, cond, Option, Some, None, List, map, eqb, leb, ltb, length, get_or, drop, set}
use Rattle.layout.specs.Field.{put_flag}
use Rattle.layout.specs.Limits.{width_max, sink_max}
use Rattle.layout.specs.Word.{is_nil, is_pointer, is_immediate}
use Rattle.endian.specs.Bytes.{number_at}
use Rattle.bitmap.specs.Bits.{holds}
use Rattle.graph.specs.Numbers.{count}
use Rattle.rules.specs.Buffers.{all_of, all_to, numbers}
use Rattle.rules.specs.Image.{head_len, left, listed, saved_as_sink, shaped, words_ok, objects_ok}

-- the listed objects keep the layout and take all the bytes
unfoldable pub shape_ok : ℕ → List ℕ → Bool
shape_ok n body = all_to n (shaped body) && eqb (length (left body n)) 0

-- they do, have legal words, and no more than 64 of them are sinks
unfoldable pub objects_pass : ℕ → List ℕ → Bool
objects_pass n body = objects_ok body n && not (ltb sink_max (count n (saved_as_sink body)))

-- place `at` of a body is where the bytes are that are left after object x
pub record Reached (body : List ℕ) (x at : ℕ) : Type 0 where
  pub same : drop at body ≡ left body x
  pub inside : at ≤ length body

-- the number, the width and the sink byte of an object at a place
abbrev pub number_of : List ℕ → ℕ → ℕ
number_of body at = number_at 2 at body

abbrev pub width_at : List ℕ → ℕ → ℕ
width_at body at = get_or body (at + 2) 0

abbrev pub sink_at : List ℕ → ℕ → ℕ
sink_at body at = get_or body (at + 3) 0

-- where the object at a place ends
abbrev pub entry_end : List ℕ → ℕ → ℕ
entry_end body at = at + (head_len + 4 * width_at body at)

-- what is tested of the object at a place behind object x
pub record Fit (n : ℕ) (body : List ℕ) (x at : ℕ) : Type 0 where
  pub head : at + head_len ≤ length body
  pub above : x < number_of body at
  pub most : number_of body at ≤ n
  pub wide : width_at body at ≤ width_max
  pub sink : sink_at body at ≤ 1
  pub whole : entry_end body at ≤ length body

-- the set has exactly the listed numbers up to n
abbrev pub Listed : ℕ → List ℕ → List ℕ → Type 0
Listed n body words = (z : ℕ) → z ≤ n → holds z words ≡ listed body z

-- the set has exactly the sinks up to n, and no number above
abbrev pub Sunk : ℕ → List ℕ → List ℕ → Type 0
Sunk n body words = (length words ≡ 64) × ((z : ℕ) → holds z words ≡ (leb z n && saved_as_sink body z))

-- a set with no number in it
abbrev pub Empty : List ℕ → Type 0
Empty words = (length words ≡ 64) × ((z : ℕ) → holds z words ≡ false)

-- a set without 0
abbrev pub NoZero : List ℕ → Type 0
NoZero words = (length words ≡ 64) × (holds 0 words ≡ false)

-- the set without number x
abbrev pub take_bit : ℕ → List ℕ → List ℕ
take_bit x words = set words (x / 64) (put_flag (x % 64) false (get_or words (x / 64) 0))

-- a word is nil, an immediate where these may stand, or a number in the set
unfoldable pub passes : Bool → ℕ → List ℕ → ℕ → Bool
passes immediates n words w = is_nil w || (immediates && is_immediate w) || (is_pointer n w && holds w words)

-- k words of four bytes from a place on
unfoldable pub words_at : ℕ → ℕ → List ℕ → List ℕ
words_at at k body = map (λ i. number_at 4 (at + 4 * i) body) (numbers 0 k)

-- the four words from a place on pass a test
unfoldable pub four_pass : (ℕ → Bool) → ℕ → List ℕ → Bool
four_pass t at body = t (number_at 4 at body) && t (number_at 4 (at + 4) body) && t (number_at 4 (at + 8) body) && t (number_at 4 (at + 12) body)

-- the place behind k words of four bytes from a place on, if all of them pass
abbrev pub words_end : ℕ → ℕ → Bool → Option ℕ
words_end from k all = cond all (Some (from + 4 * k)) None

-- the roots of a body of kind 3, tested by the set
unfoldable pub roots_pass : ℕ → ℕ → List ℕ → List ℕ → Bool
roots_pass n r words body = eqb (length body) (4 * r) && all_of (passes false n words) (words_at 0 r body)

-- the objects of a body before place `at` have legal words
pub record Checked (n : ℕ) (body : List ℕ) (at : ℕ) : Type 0 where
  pub last : ℕ
  pub most : last ≤ n
  pub reached : Reached body last at
  pub legal : (z : ℕ) → z ≤ last → words_ok body n z ≡ true
