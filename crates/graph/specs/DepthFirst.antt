-- The walk of the analysis as a recursion ("Analysis"), sentence by sentence and with nothing of `Analysis`, whose walk is proved to be this one.
use Rattle.std.specs.Prelude.{ℕ, ◌≤◌, ◌<◌, ◌≡◌, Bool, true, false, ◌&&◌, ◌||◌, List, [], ◌∷◌, ◌++◌, ◌≢◌, eqb}
use Rattle.graph.specs.Numbers.{upd, gather}
use Rattle.graph.specs.Heap.{Heap}
use Rattle.graph.specs.Clusters.{size, sinks_at}

-- the older clusters that were handled, the objects that were seen, and the cluster of each object, older or new
pub record Known : Type 0 where
  pub handled : ℕ → Bool
  pub seen : ℕ → Bool
  pub cl : ℕ → ℕ

-- o is seen from now on, and in cluster c (0 for none)
abbrev pub placed : ℕ → ℕ → Known → Known
placed o c k = record { handled = k.handled; seen = upd k.seen o true; cl = upd k.cl o c }

-- o is met for the first time and is in no older cluster
abbrev pub Fresh : Heap → Known → ℕ → Type 0
Fresh H k o = (o ≢ 0) × (H.cluster o ≡ 0) × (k.seen o ≡ false)

-- `Meets H limit o c k l d k'`: a visit to o, with cluster c passed, turns k into k' and then leads to visits of the objects l, with d passed
pub data Meets (H : Heap) (limit o c : ℕ) (k : Known) : List ℕ → ℕ → Known → Type 0 where
  nil : o ≡ 0 → Meets H limit o c k [] 0 k
  -- an older cluster, met at any member, is handled once: its out members' pointers, then its sinks by place
  older : H.cluster o ≢ 0 → k.handled (H.cluster o) ≡ false
      → Meets H limit o c k (gather H.n (λ x. eqb (H.cluster x) (H.cluster o) && H.out x) H.kids ++ sinks_at H (H.cluster o)) 0
      (record { handled = upd k.handled (H.cluster o) true; seen = k.seen; cl = k.cl })
  again : H.cluster o ≢ 0 → k.handled (H.cluster o) ≡ true → Meets H limit o c k [] 0 k
  seen : H.cluster o ≡ 0 → k.seen o ≡ true → Meets H limit o c k [] 0 k
  -- a written object and a sink get no cluster and pass none
  alone : Fresh H k o → (H.written o || H.sink o) ≡ true → Meets H limit o c k (H.kids o) 0 (placed o 0 k)
  -- any other joins the passed cluster if it has room for it, and else heads a new one
  joins : Fresh H k o → (H.written o || H.sink o) ≡ false → c ≢ 0 → size H.n (placed o c k).cl c ≤ limit
      → Meets H limit o c k (H.kids o) c (placed o c k)
  heads : Fresh H k o → (H.written o || H.sink o) ≡ false → (c ≢ 0 → limit < size H.n (placed o c k).cl c)
      → Meets H limit o c k (H.kids o) o (placed o o k)

-- `Visits H limit c l k k'`: the objects l are visited one after the other, each with c passed, and all that a visit leads to before the next
pub data Visits (H : Heap) (limit : ℕ) : ℕ → List ℕ → Known → Known → Type 0 where
  none : {c : ℕ} {k : Known} → Visits H limit c [] k k
  first : {o c d : ℕ} {l m : List ℕ} {k k₁ k₂ k₃ : Known} → Meets H limit o c k m d k₁ → Visits H limit d m k₁ k₂ → Visits H limit c l k₂ k₃
      → Visits H limit c (o ∷ l) k k₃

-- the walk from these starts, none of them passed a cluster, ends with the clusters cl
abbrev pub Forms : Heap → ℕ → List ℕ → (ℕ → ℕ) → Type 0
Forms H limit from cl =
    (k : Known)
    × Visits H limit 0 from (record { handled = λ h. false; seen = λ x. false; cl = H.cluster }) k
    × (k.cl ≡ cl)
