-- The chunks of an image, each by its place in the bytes.
use Rattle.std.specs.Prelude.{ℕ, suc, ◌+◌, ◌-◌, ◌≤◌, ◌≡◌, Bool, true, false, not, ◌&&◌, cond, List, eqb, length, take, drop}
use Rattle.layout.specs.Limits.{object_max}
use Rattle.layout.specs.Refusal.{first, by}
use Rattle.bitmap.specs.Bits.{holds}
use Rattle.rules.specs.Image.{front_len, sinks_kind, body_len, kind_of, body_of, past, cut, sinks_ok}
use Rattle.rules.specs.Load.{known, passed, misplaced, chunk_tests}
use Rattle.loads.specs.Bodies.{Empty}

-- the refusal of a chunk by its place t and its kind
unfoldable pub kind_refusal : ℕ → ℕ → ℕ
kind_refusal t k = cond (misplaced t k) 27 (cond (not (known k) && not (passed k)) 28 0)

-- that of the chunk in front of bytes, by its length and kind
unfoldable pub front_refusal : ℕ → List ℕ → ℕ
front_refusal t b = cond (cut b) 26 (kind_refusal t (kind_of b))

-- that of a whole chunk, whose body is bad or not
unfoldable pub chunk_refusal : ℕ → List ℕ → Bool → ℕ
chunk_refusal t b bad = by (front_refusal t b) (cond bad 27 0) (λ k. k)

-- that of the chunks from chunk t on
unfoldable pub refusal_from : List ℕ → ℕ → ℕ
refusal_from image t = first (chunk_tests image (suc (length (past t image))) t)

-- the chunk at place `at` ends at place e
pub record Chunk (image : List ℕ) (at e : ℕ) : Type 0 where
  pub start : at + front_len ≤ e
  pub inside : e ≤ length image
  pub next : drop e image ≡ drop (front_len + body_len (drop at image)) (drop at image)
  pub body : take (e - (at + front_len)) (drop (at + front_len) image) ≡ body_of (drop at image)

-- the chunk in front of bytes is one of sinks, and they are not those of the set
unfoldable pub bad_tail : List ℕ → List ℕ → Bool
bad_tail words b = eqb (kind_of b) sinks_kind && not (sinks_ok object_max (λ z. holds z words) (body_of b))

-- the set after that chunk has passed: empty behind one of sinks, and else the same
pub record TailSet (b words words' : List ℕ) : Type 0 where
  pub sinks : eqb (kind_of b) sinks_kind ≡ true → Empty words'
  pub other : eqb (kind_of b) sinks_kind ≡ false → words' ≡ words
