-- The set of one cluster: what its members point at, and the places that have it.
-- Assumes nothing.
use Prim.Native.Nat.{ℕ, ◌+◌, ◌/◌, ◌≤◌, ◌<◌}
use mathlib.Core.Path.{◌≡◌, refl, sym, ap, ◌∙◌}
use mathlib.Core.Bool.{Bool, true, false, not, cond, ◌&&◌, ◌||◌}
use mathlib.Core.List.{List, map}
use native.Mathlib.Decide.{dec_lt}
use native.Mathlib.Omega.{arith}
use lib.Dec.{eqb, leb}
use lib.ListN.{length, get_or, replicate, length-replicate}
use lib.Seq.{get_or-take}
use borrow.Author.Tests.{le-leb, lt-leb}
use Rattle.layout.specs.Limits.{object_max, sink_max}
use Rattle.bitmap.specs.Bits.{holds, bits_of}
use Rattle.bitmap.proofs.BitLaws.{holds-past, holds-blank, bits_of-same}
use Rattle.graph.specs.Numbers.{has, gather}
use Rattle.graph.specs.Heap.{Heap}
use Rattle.graph.specs.Clusters.{pointed, in_set}
use Rattle.graph.proofs.NumberLaws.{some-none}
use Rattle.rules.specs.Buffers.{used_words}
use Rattle.rules.specs.View.{target, view, heap_in, set_word}
use Rattle.rules.proofs.BoolLaws.{and-false}
use Rattle.rules.proofs.ViewLaws.{targets-low}
use Rattle.rules.proofs.ListedLaws.{not-has}
use Rattle.rules.proofs.SetLaws.{set_word-zero}
use Rattle.table.specs.Clusters.{cluster_of}
use Rattle.places.specs.Places.{put_all, kids_of, in_place}
use Rattle.places.proofs.PutLaws.{length-put, put-all, has-gather}
use Rattle.places.proofs.SeenLaws.{places}

-- a place that is empty is in no set
pub empty-out : (H : Heap) (c : ℕ) → in_set H c 0 ≡ false
unfolding in_set
empty-out H c = refl

module _ (n : ℕ) (recs slots list : List ℕ) where
  abbrev pub heap : Heap
  heap = heap_in n recs slots list

  -- a number above n is no pointer
  pub none_above : (x y : ℕ) → n < y → has y (kids_of n recs slots x) ≡ false
  unfolding kids_of
  none_above x y l = not-has y (map (target n) (used_words n recs slots x)) (λ m. let h = targets-low n (used_words n recs slots x) y m in omega arith)

  -- with no number in the places every set is empty
  pub word-empty : ((k : ℕ) → get_or (places list) k 0 ≡ 0) → (c : ℕ) → set_word heap c ≡ 0
  unfolding view
  word-empty h c = set_word-zero heap c (λ k l. ap (in_set heap c) (h k) ∙ empty-out heap c)

  module _ (c : ℕ) where
    -- what the members point at
    abbrev pub reached : List ℕ
    reached = gather n (λ x. eqb (cluster_of n recs x) c) (kids_of n recs slots)

    pointed-is : (y : ℕ) → has y reached ≡ pointed heap c y
    unfolding pointed view kids_of
    pointed-is y = has-gather y n (λ x. eqb (cluster_of n recs x) c) (kids_of n recs slots)

    pub set-large : object_max < n → 0 ≡ cond (leb n object_max) (set_word heap c) 0
    set-large l = rw (lt-leb n object_max l) refl

    module _ (small : n ≤ object_max) where
      pub set-empty : ((k : ℕ) → get_or (places list) k 0 ≡ 0) → 0 ≡ cond (leb n object_max) (set_word heap c) 0
      set-empty h = rw (le-leb n object_max small) (sym (word-empty h c))

      module _ (seen : List ℕ) (e : seen ≡ put_all reached (replicate 64 0)) where
        or-none : (b : Bool) → (b || false) ≡ b
        or-none true = refl
        or-none false = refl

        long : length seen ≡ 64
        long = ap length e ∙ length-put reached (replicate 64 0) ∙ length-replicate {A = ℕ} 64 0

        holds-is : (y : ℕ) → holds y seen ≡ pointed heap c y
        holds-is y = go (dec_lt (y / 64) 64)
          where
            go : Dec (y / 64 < 64) → holds y seen ≡ pointed heap c y
            go (yes l) =
                ap (holds y) e ∙ put-all reached (replicate 64 0) y (rw (length-replicate {A = ℕ} 64 0) l)
                ∙ ap (λ (b : Bool). has y reached || b) (holds-blank 64 y) ∙ or-none (has y reached) ∙ pointed-is y
            go (no l) =
                holds-past y seen (omega (arith, long, l))
                ∙ sym (some-none n (λ x. eqb (cluster_of n recs x) c && has y (kids_of n recs slots x))
                (λ x o. ap (λ (b : Bool). eqb (cluster_of n recs x) c && b) (none_above x y (omega (arith, l, small))) ∙ and-false (eqb (cluster_of n recs x) c)))
                ∙ sym (has-gather y n (λ x. eqb (cluster_of n recs x) c) (kids_of n recs slots)) ∙ pointed-is y

        -- the word that the code makes
        pub set_is : (w : ℕ) → w ≡ bits_of (in_place list seen) 0 64 → w ≡ cond (leb n object_max) (set_word heap c) 0
        unfolding set_word in_place in_set view
        set_is w f =
            f ∙ bits_of-same (λ k. not (eqb (get_or list k 0) 0) && holds (get_or list k 0) seen) (λ k. in_set heap c (get_or (places list) k 0)) 64 0 bit
            ∙ sym (rw (le-leb n object_max small) refl)
          where
            bit : (k : ℕ) → k < 64 → (not (eqb (get_or list (0 + k) 0) 0) && holds (get_or list (0 + k) 0) seen) ≡ in_set heap c (get_or (places list) (0 + k) 0)
            bit k l =
                let y = get_or list (0 + k) 0 in
                ap (λ (b : Bool). not (eqb y 0) && b) (holds-is y) ∙ sym (ap (in_set heap c) (get_or-take sink_max list (0 + k) 0 (omega arith)))
