-- The link words while they are written.
use Rattle.std.specs.Prelude.{ℕ, ◌/◌, ◌%◌, ◌≤◌, ◌<◌, ◌≡◌, List, ◌≢◌}
use Rattle.rules.specs.Buffers.{rec_of}
use Rattle.links.specs.Links.{top_member, next_member}

-- the highest member of a cluster, by the link word of its head
abbrev pub first_at : ℕ → List ℕ → ℕ → ℕ
first_at n work = λ d. rec_of n work d / 4096

-- the next lower member, by the link word of an object
abbrev pub next_at : ℕ → List ℕ → ℕ → ℕ
next_at n work = λ x. rec_of n work x % 4096

-- The members of clusters among 1 to k are linked, those above are not.
pub record Linking (n : ℕ) (cl : ℕ → ℕ) (work : List ℕ) (k : ℕ) : Type 0 where
  pub first : (d : ℕ) → d ≢ 0 → d ≤ n → first_at n work d ≡ top_member cl d k
  pub next : (x : ℕ) → x ≤ k → next_at n work x ≡ next_member n cl x
  pub blank : (x : ℕ) → k < x → next_at n work x ≡ 0
