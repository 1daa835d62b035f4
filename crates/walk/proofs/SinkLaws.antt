-- The sinks of a set through the bits of its word.
-- Assumes nothing.
use Prim.Native.Nat.{ℕ, ◌+◌, ◌-◌, ◌≤◌, ◌<◌, ◌^◌}
use mathlib.Core.Path.{◌≡◌, refl, sym, ap, ◌∙◌, subst}
use mathlib.Core.Logic.{◌≢◌}
use mathlib.Core.Bool.{true}
use mathlib.Core.List.{List, [], ◌∷◌, ◌++◌, map, Memᴰ}
use native.Mathlib.Omega.{arith}
use lib.Bits.{bit_and}
use lib.Count.{count_trailing_zeros}
use lib.ListN.{length, get_or, take, length-take}
use lib.Seq.{get_or-take}
use Rattle.layout.specs.Limits.{sink_max}
use Rattle.bitmap.proofs.BitLaws.{set_bits-step, set_bits-none, rest_lt, trailing_lt}
use Rattle.graph.specs.Numbers.{Obj}
use Rattle.graph.specs.Heap.{Heap}
use Rattle.graph.specs.Clusters.{sinks_at}
use Rattle.graph.specs.Trace.{marked, scan_if, scan_all}
use Rattle.graph.proofs.SinkLaws.{sink-plain}
use Rattle.rules.specs.View.{view, heap_in}
use Rattle.rules.proofs.SetLaws.{set_word-sinks}
use Rattle.sweep.specs.Sweep.{unflagged}
use Rattle.walk.specs.Marks.{flags_of}
use Rattle.walk.specs.State.{Way, walk_at, pending, link_at, sinks_in, Objects, State, Listing, Moved}
use Rattle.walk.proofs.MarkLaws.{view-same}

-- ---- the places of a word

-- the lowest place, then those of the rest
sinks-next : (list : List ℕ) (set k : ℕ) → set ≢ 0 → set < 2 ^ 64 → k ≡ count_trailing_zeros 64 set
    → sinks_in list set ≡ get_or list k 0 ∷ sinks_in list (bit_and set (set - 1))
sinks-next list set k nz p e =
    let z : 0 + count_trailing_zeros 64 set ≡ k = omega arith in
    ap (map (λ (j : ℕ). get_or (take sink_max list) j 0)) (set_bits-step 64 set 0 nz p)
    ∙ ap (λ (y : ℕ). y ∷ sinks_in list (bit_and set (set - 1)))
    (ap (λ (j : ℕ). get_or (take sink_max list) j 0) z ∙ get_or-take 64 list k 0 (omega (arith, trailing_lt 64 set nz p)))

sinks-none : (list : List ℕ) (set : ℕ) → set ≡ 0 → sinks_in list set ≡ []
sinks-none list set e = rw (e, set_bits-none 64 0) refl

-- the word of a head has the sinks that its cluster points at
module _ (by : Way) (n : ℕ) (recs slots : List ℕ) (g : Listing by n recs slots) (h : ℕ) (ih : Obj n h) where
  pub sinks-are : sinks_in by.list (get_or by.sets (h - 1) 0) ≡ sinks_at (heap_in n recs slots by.list) h
  sinks-are =
      ap (sinks_in by.list) (g.exact h ih)
      ∙ set_word-sinks (heap_in n recs slots by.list) h (let l = length-take 64 by.list in omega arith)

  pub sinks-objects : Objects n (sinks_in by.list (get_or by.sets (h - 1) 0))
  unfolding view
  sinks-objects y m =
      (sink-plain (heap_in n recs slots by.list) g.listed h y (subst (λ (l : List ℕ). Memᴰ y l) sinks-are m)).0

  -- the scan of the places is the scan of the sinks
  pub sinks-scanned : (work : List ℕ) (top : ℕ) (recs₁ work₁ : List ℕ) (top₁ : ℕ)
      → Moved n slots recs work top (scan_all (view n recs slots) (sinks_in by.list (get_or by.sets (h - 1) 0))) recs₁ work₁ top₁
      → Moved n slots recs work top (scan_all (view n recs slots) (sinks_at (heap_in n recs slots by.list) h)) recs₁ work₁ top₁
  sinks-scanned work top recs₁ work₁ top₁ v =
      subst (λ (l : List ℕ). Moved n slots recs work top (scan_all (view n recs slots) l) recs₁ work₁ top₁) sinks-are v

-- ---- the loop over them

-- from the places that are left on, the scan of the sinks ends as it does from the start of the loop
pub record Scanning (n : ℕ) (slots list recs₀ work₀ : List ℕ) (top₀ set : ℕ) (recs work : List ℕ) (top rest : ℕ) : Type 0 where
  pub same : (more : List ℕ) → scan_all (view n recs₀ slots) (sinks_in list rest) (walk_at n recs (pending n work top ++ more))
      ≡ scan_all (view n recs₀ slots) (sinks_in list set) (walk_at n recs₀ (pending n work₀ top₀ ++ more))
  pub state : State n recs slots work top
  pub kept : unflagged n recs ≡ unflagged n recs₀
  pub links : (y : ℕ) → Obj n y → link_at n work y ≡ link_at n work₀ y
  pub objects : Objects n (sinks_in list rest)
  pub small : rest < 2 ^ 64
  pub recs-length : length recs ≡ length recs₀
  pub work-length : length work ≡ length work₀

module _ (n : ℕ) (slots list recs₀ work₀ : List ℕ) (top₀ set : ℕ) where
  pub scanning-here : State n recs₀ slots work₀ top₀ → Objects n (sinks_in list set) → set < 2 ^ 64
      → Scanning n slots list recs₀ work₀ top₀ set recs₀ work₀ top₀ set
  scanning-here s o p =
      record { same = λ more. refl; state = s; kept = refl; links = λ y b. refl; objects = o; small = p; recs-length = refl; work-length = refl }

  module _ (recs work : List ℕ) (top rest : ℕ) (g : Scanning n slots list recs₀ work₀ top₀ set recs work top rest) (nz : rest ≢ 0)
      (k : ℕ) (ek : k ≡ count_trailing_zeros 64 rest) where
    pub scanning-place : k < 64
    scanning-place = omega (arith, trailing_lt 64 rest nz g.small)

    pub scanning-object : Obj n (get_or list k 0)
    scanning-object =
        g.objects (get_or list k 0) (subst (λ (l : List ℕ). Memᴰ (get_or list k 0) l) (sym (sinks-next list rest k nz g.small ek)) (Memᴰ.head refl))

    pub scanning-on : n ≤ length recs₀ → (recs' work' : List ℕ) (top' rest' : ℕ)
        → Moved n slots recs work top (scan_if (view n recs slots) true true (flags_of n recs marked (get_or list k 0)) (get_or list k 0)) recs' work' top'
        → rest' ≡ bit_and rest (rest - 1) → length recs' ≡ length recs → length work' ≡ length work
        → Scanning n slots list recs₀ work₀ top₀ set recs' work' top' rest'
    unfolding scan_all
    scanning-on long recs' work' top' rest' v er lr lw =
        let next : sinks_in list rest ≡ get_or list k 0 ∷ sinks_in list rest'
        = sinks-next list rest k nz g.small ek ∙ ap (λ (r : ℕ). get_or list k 0 ∷ sinks_in list r) (sym er) in
        let h : view n recs slots ≡ view n recs₀ slots = view-same n recs₀ recs long g.kept slots in
        record {
          same = λ more.
              ap (scan_all (view n recs₀ slots) (sinks_in list rest')) (sym (v.same more))
              ∙ ap (λ (H : Heap). scan_all (view n recs₀ slots) (sinks_in list rest')
              (scan_if H true true (flags_of n recs marked (get_or list k 0)) (get_or list k 0) (walk_at n recs (pending n work top ++ more)))) h
              ∙ ap (λ (l : List ℕ). scan_all (view n recs₀ slots) l (walk_at n recs (pending n work top ++ more))) (sym next)
              ∙ g.same more;
          state = v.state;
          kept = v.kept ∙ g.kept;
          links = λ y b. v.links y b ∙ g.links y b;
          objects = λ y m. g.objects y (subst (λ (l : List ℕ). Memᴰ y l) (sym next) (Memᴰ.tail m));
          small = omega (arith, er, rest_lt rest nz, g.small);
          recs-length = lr ∙ g.recs-length;
          work-length = lw ∙ g.work-length;
        }

  pub scanning-done : (recs work : List ℕ) (top rest : ℕ) → Scanning n slots list recs₀ work₀ top₀ set recs work top rest → rest ≡ 0
      → Moved n slots recs₀ work₀ top₀ (scan_all (view n recs₀ slots) (sinks_in list set)) recs work top
  unfolding scan_all
  scanning-done recs work top rest g e =
      record {
        same = λ more. sym (g.same more) ∙ ap (λ (l : List ℕ). scan_all (view n recs₀ slots) l (walk_at n recs (pending n work top ++ more))) (sinks-none list rest e);
        state = g.state;
        kept = g.kept;
        links = g.links;
      }
