-- The set of a cluster as a word: its bits, when it stays the same, and the words of all sets.
-- Assumes nothing.
use Prim.Native.Nat.{ℕ, zero, suc, ◌+◌, ◌^◌, ◌≤◌, ◌<◌}
use mathlib.Core.Path.{◌≡◌, refl, sym, ap, ◌∙◌}
use mathlib.Core.Bool.{Bool, true, false, cond}
use mathlib.Core.List.{List, ◌∷◌, map}
use mathlib.Core.Logic.{◌≢◌, ◌↔◌}
use native.Mathlib.Decide.{dec_lt}
use native.Mathlib.Omega.{arith}
use lib.Dec.{eqb}
use lib.ListN.{length, get_or, drop, drop_of_length-le, get_or-eq_default}
use lib.Seq.{drop-cons}
use borrow.Author.Tests.{eqb-true, eq-eqb}
use Rattle.layout.specs.Limits.{sink_max}
use Rattle.layout.specs.Field.{flag}
use Rattle.layout.proofs.FieldLaws.{zero_flag}
use Rattle.bitmap.specs.Bits.{set_bits}
use Rattle.bitmap.proofs.BitLaws.{bits_of-lt, bits_of-flag, bits_of-is, bits_of-same, passers, set_bits-bits_of}
use Rattle.graph.specs.Numbers.{Obj, only}
use Rattle.graph.specs.Heap.{Heap}
use Rattle.graph.specs.Clusters.{in_set, sinks_at}
use Rattle.graph.proofs.SinkLaws.{in_set-same, in_set-none}
use Rattle.rules.specs.Buffers.{rec_of, each_from, each_record}
use Rattle.rules.specs.View.{heap_in, view, set_word, exact_sets}
use Rattle.rules.specs.WellFormed.{sets_ok}
use Rattle.rules.proofs.ListLaws.{length-each, rec_of-each, records-alike, all_to-all, all_to-at, each-id, each-each}

-- ---- one word

module _ (H : Heap) (h : ℕ) where
  pub set_word-lt : set_word H h < 2 ^ sink_max
  unfolding set_word
  set_word-lt = bits_of-lt (λ k. in_set H h (get_or H.listed k 0)) sink_max 0

  -- bit k is the sink in place k
  pub set_word-flag : (k : ℕ) → k < sink_max → flag k (set_word H h) ≡ in_set H h (get_or H.listed k 0)
  unfolding set_word
  set_word-flag k l = bits_of-flag (λ k. in_set H h (get_or H.listed k 0)) k sink_max 0 l ∙ ap (λ (j : ℕ). in_set H h (get_or H.listed j 0)) (omega arith)

  -- the word with these bits
  pub set_word-is : (w : ℕ) → w < 2 ^ sink_max → ((k : ℕ) → k < sink_max → flag k w ≡ in_set H h (get_or H.listed k 0)) → w ≡ set_word H h
  unfolding set_word
  set_word-is w l f =
      bits_of-is (λ k. in_set H h (get_or H.listed k 0)) sink_max w 0 l
      (λ k p. f k p ∙ ap (λ (j : ℕ). in_set H h (get_or H.listed j 0)) (omega arith))

  pub set_word-zero : ((k : ℕ) → k < sink_max → in_set H h (get_or H.listed k 0) ≡ false) → set_word H h ≡ 0
  set_word-zero f = sym (set_word-is 0 (lib.Dec.lit< tt) (λ k l. zero_flag k ∙ sym (f k l)))

  -- no object carries the number
  pub set_word-none : ((x : ℕ) → Obj H.n x → H.cluster x ≢ h) → set_word H h ≡ 0
  set_word-none f = set_word-zero (λ k l. in_set-none H h (get_or H.listed k 0) f)

  -- the numbers in places b and above that are in the set
  from_place : (m b : ℕ) → length H.listed ≤ b + m
      → map (λ k. get_or H.listed k 0) (passers (λ k. in_set H h (get_or H.listed k 0)) b m) ≡ only (in_set H h) (drop b H.listed)
  unfolding passers only
  from_place zero b l = sym (ap (only (in_set H h)) (drop_of_length-le H.listed {i = b} (omega arith)))
  from_place (suc m) b l = go (dec_lt b (length H.listed)) (from_place m (suc b) (omega arith))
    where
      at : ℕ → ℕ
      at k = get_or H.listed k 0

      t : ℕ → Bool
      t k = in_set H h (at k)

      here : (d : Bool) (r : List ℕ) → map at (passers t (suc b) m) ≡ r → map at (cond d (b ∷ passers t (suc b) m) (passers t (suc b) m)) ≡ cond d (at b ∷ r) r
      here true r e = ap (λ (l : List ℕ). at b ∷ l) e
      here false r e = e

      go : Dec (b < length H.listed) → map at (passers t (suc b) m) ≡ only (in_set H h) (drop (suc b) H.listed)
          → map at (cond (t b) (b ∷ passers t (suc b) m) (passers t (suc b) m)) ≡ only (in_set H h) (drop b H.listed)
      go (yes p) e = here (t b) (only (in_set H h) (drop (suc b) H.listed)) e ∙ sym (ap (only (in_set H h)) (drop-cons H.listed b 0 p))
      go (no p) e =
          ap (λ (d : Bool). map at (cond d (b ∷ passers t (suc b) m) (passers t (suc b) m))) none ∙ e
          ∙ ap (only (in_set H h)) (drop_of_length-le H.listed {i = suc b} (omega (arith, p)) ∙ sym (drop_of_length-le H.listed {i = b} (omega (arith, p))))
        where
          none : t b ≡ false
          none = ap (in_set H h) (get_or-eq_default H.listed 0 (omega (arith, p))) ∙ (unfold in_set in refl)

  -- the numbers in its places are the sinks of the set, where there are at most 64 places
  pub set_word-sinks : length H.listed ≤ sink_max → map (λ k. get_or H.listed k 0) (set_bits sink_max (set_word H h) 0) ≡ sinks_at H h
  unfolding set_word sinks_at
  set_word-sinks p =
      ap (map (λ k. get_or H.listed k 0)) (set_bits-bits_of (λ k. in_set H h (get_or H.listed k 0)) sink_max 0) ∙ from_place sink_max 0 (omega arith)

-- ---- two heaps

-- the word depends on the places and on what members point at
pub set_word-alike : (H G : Heap) (h g : ℕ) → ((k : ℕ) → k < sink_max → in_set H h (get_or H.listed k 0) ≡ in_set G g (get_or G.listed k 0))
    → set_word H h ≡ set_word G g
unfolding set_word
set_word-alike H G h g f = bits_of-same (λ k. in_set H h (get_or H.listed k 0)) (λ k. in_set G g (get_or G.listed k 0)) sink_max 0
    (λ k l. let z : 0 + k ≡ k = omega arith in rw z (f k l))

pub set_word-same : (H G : Heap) (h : ℕ) → H.n ≡ G.n → H.listed ≡ G.listed → ((x : ℕ) → Obj H.n x → (H.cluster x ≡ h) ↔ (G.cluster x ≡ h))
    → ((x : ℕ) → Obj H.n x → H.cluster x ≡ h → H.kids x ≡ G.kids x) → set_word H h ≡ set_word G h
set_word-same H G h e l f k =
    set_word-alike H G h h (λ j p. in_set-same H G h (get_or H.listed j 0) e f k ∙ ap (λ (m : List ℕ). in_set G h (get_or m j 0)) l)

-- ---- the words of all sets

pub length-exact : (H : Heap) (sets : List ℕ) → length (exact_sets H sets) ≡ length sets
unfolding exact_sets each_record
length-exact H sets = length-each 1 H.n (λ h w. set_word H h) sets

pub exact-at : (H : Heap) (sets : List ℕ) (h : ℕ) → Obj H.n h → H.n ≤ length sets → rec_of H.n (exact_sets H sets) h ≡ set_word H h
unfolding exact_sets
exact-at H sets h o l = rec_of-each H.n (λ h w. set_word H h) sets h o.0 o.1 l

pub exact_same : (H G : Heap) (sets : List ℕ) → H.n ≡ G.n → ((h : ℕ) → Obj H.n h → set_word H h ≡ set_word G h) → exact_sets H sets ≡ exact_sets G sets
unfolding exact_sets
exact_same H G sets e f =
    records-alike H.n (λ h w. set_word H h) (λ h w. set_word G h) sets (λ h p q. f h (p, q))
    ∙ ap (λ (m : ℕ). each_record m (λ h w. set_word G h) sets) e

-- made exact once more
pub exact-exact : (H G : Heap) (sets : List ℕ) → H.n ≡ G.n → exact_sets G (exact_sets H sets) ≡ exact_sets G sets
unfolding exact_sets each_record
exact-exact H G sets e =
    ap (λ (m : ℕ). each_from 1 G.n (λ h w. set_word G h) (each_from 1 m (λ h w. set_word H h) sets)) e
    ∙ each-each 1 G.n (λ h w. set_word H h) (λ h w. set_word G h) sets

module _ (n : ℕ) (recs slots list sets : List ℕ) where
  abbrev heap : Heap
  heap = heap_in n recs slots list

  -- sets that pass the test are exact
  pub sets-at : sets_ok n recs slots list sets ≡ true → (h : ℕ) → Obj n h → rec_of n sets h ≡ set_word heap h
  unfolding sets_ok
  sets-at e h o = eqb-true (rec_of n sets h) (set_word heap h) (all_to-at n (λ h. eqb (rec_of n sets h) (set_word heap h)) e h o.0 o.1)

  pub sets-exact : sets_ok n recs slots list sets ≡ true → exact_sets heap sets ≡ sets
  unfolding exact_sets each_record view
  sets-exact e =
      records-alike n (λ h w. set_word heap h) (λ h w. w) sets (λ h p q. sym (sets-at e h (p, q))) ∙ each-id 1 n sets

  -- and those made exact pass it
  pub exact-ok : n ≤ length sets → sets_ok n recs slots list (exact_sets heap sets) ≡ true
  unfolding sets_ok view
  exact-ok l =
      all_to-all n (λ h. eqb (rec_of n (exact_sets heap sets) h) (set_word heap h))
      (λ h p q. eq-eqb (rec_of n (exact_sets heap sets) h) (set_word heap h) (exact-at heap sets h (p, q) l))
