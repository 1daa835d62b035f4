-- The link words: one for each object, with the next lower member of its cluster and the highest member of the cluster that it heads.
use Rattle.std.specs.Prelude.{ℕ, zero, suc, ◌+◌, ◌-◌, ◌*◌, Bool, cond, not, ◌||◌, ◌&&◌, List, eqb, ltb}
use Rattle.layout.specs.Limits.{object_max, within}
use Rattle.records.specs.Record.{cluster, is_out}
use Rattle.rules.specs.Buffers.{short, rec_of, each_from}

-- the highest of 1 to k that is in cluster d; 0 for none
unfoldable pub top_member : (ℕ → ℕ) → ℕ → ℕ → ℕ
top_member cl d zero = 0
top_member cl d (suc k) = cond (eqb (cl (suc k)) d) (suc k) (top_member cl d k)

-- the cluster in which an object with the record r is linked: its own, or, where out members alone are, 0 for the others
abbrev pub linked_in : Bool → ℕ → ℕ
linked_in outs r = cond (outs && not (is_out r)) 0 (cluster r)

-- the same for each object
abbrev pub linked_at : Bool → ℕ → List ℕ → ℕ → ℕ
linked_at outs n recs = λ x. linked_in outs (rec_of n recs x)

-- the next lower object that is linked in the cluster of x; 0 for none, and where x is linked in no cluster of 1 to n
unfoldable pub next_member : ℕ → (ℕ → ℕ) → ℕ → ℕ
next_member n cl x = cond (within 1 n (cl x)) (top_member cl (cl x) (x - 1)) 0

-- the link word of an object: both in one
unfoldable pub link_word : ℕ → (ℕ → ℕ) → ℕ → ℕ
link_word n cl x = next_member n cl x + 4096 * top_member cl x n

-- the first n words of work become the link words of the objects
unfoldable pub links : ℕ → (ℕ → ℕ) → List ℕ → List ℕ
links n cl work = each_from 1 n (λ x w. link_word n cl x) work

-- n is a size and neither slice is too short
unfoldable pub linkable : ℕ → List ℕ → List ℕ → Bool
linkable n recs work = not (ltb object_max n || short n recs || short n work)
