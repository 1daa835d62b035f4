-- The sets that are made by place are exact; of a number that is in the list twice its last place counts.
-- Assumes nothing.
use Prim.Native.Nat.{ℕ, zero, suc, ◌+◌, ◌-◌, ◌*◌, ◌/◌, ◌%◌, ◌≤◌, ◌<◌}
use mathlib.Core.Path.{◌≡◌, refl, sym, ap, ap₂, ◌∙◌}
use mathlib.Core.Bool.{Bool, true, false, not, cond, ◌&&◌, ◌||◌, false≢true}
use mathlib.Core.List.{List, [], ◌∷◌, Memᴰ}
use mathlib.Core.Logic.{◌≢◌}
use native.Mathlib.Decide.{dec_lt, ℕ_discrete}
use native.Mathlib.Omega.{arith}
use lib.Dec.{eqb, leb, eqb-suc-zero}
use lib.ListN.{length, get_or, set, length-take, replicate, length-replicate, get_or-replicate, get_or-eq_default}
use lib.Seq.{get_or-set_same, get_or-set_other, ext_get_or}
use borrow.Author.Tests.{eq-eqb, ne_eqb, le-leb, lt-leb, lt-ltb, le-ltb}
use Rattle.layout.specs.Limits.{object_max, sink_max, within}
use Rattle.layout.specs.Field.{flag}
use Rattle.layout.specs.Word.{is_pointer}
use Rattle.layout.proofs.FieldLaws.{zero_flag}
use Rattle.layout.proofs.LimitLaws.{within-true, in_within}
use Rattle.bitmap.specs.Bits.{holds}
use Rattle.graph.specs.Numbers.{Obj, has, gather, some}
use Rattle.graph.specs.Heap.{Heap}
use Rattle.graph.specs.Clusters.{pointed, in_set}
use Rattle.graph.proofs.NumberLaws.{has-at, some-ext, some-none, gather-from}
use Rattle.rules.specs.Buffers.{short, rec_of, used_words, each_from, each_record, zeros, all_to}
use Rattle.rules.specs.View.{view, heap_in, set_word, exact_sets}
use Rattle.rules.specs.WellFormed.{once, sets_ok}
use Rattle.rules.proofs.BoolLaws.{and-false}
use Rattle.rules.proofs.ListLaws.{length-each, get-each, each_same}
use Rattle.rules.proofs.PassLaws.{get-past}
use Rattle.rules.proofs.BufferLaws.{zeros-from}
use Rattle.rules.proofs.ViewLaws.{targets-low}
use Rattle.rules.proofs.SetLaws.{set_word-is, exact-at}
use Rattle.table.specs.Clusters.{cluster_of}
use Rattle.places.specs.Places.{put_all, kids_of, placed, place_bits, is_member, object_bits, last_places}
use Rattle.places.proofs.PutLaws.{length-put, put-all, put_keeps, put-fits, has-append, has-gather, place-cons}
use Rattle.places.proofs.SeenLaws.{places, all_to-same}
use Rattle.places.proofs.FillLaws.{placed-other, placed_at, has-index, length-placed}
use Rattle.places.proofs.LatestLaws.{latest-empty, places-latest, places-once, table-latest}
use Rattle.places.proofs.WordLaws.{word-empty}

-- ---- the place of a number

module _ (list : List ℕ) (ones : once (places list) ≡ true) where
  -- as the code fills it
  abbrev pub table : List ℕ
  table = set (placed 0 (places list) (replicate 4096 0)) 0 0

  long : length (placed 0 (places list) (replicate 4096 0)) ≡ 4096
  long = length-placed (places list) 0 (replicate 4096 0) ∙ length-replicate {A = ℕ} 4096 0

  none_of : get_or table 0 0 ≡ 0
  none_of = get_or-set_same (placed 0 (places list) (replicate 4096 0)) 0 0 0 (omega (arith, long))

  -- a number has the place where it is listed, and 0 where it is not
  data Place (w : ℕ) : Type 0 where
    nowhere : get_or table w 0 ≡ 0 → has w (places list) ≡ false → Place w
    there : (j : ℕ) → get_or table w 0 ≡ suc j → j < 64 → get_or (places list) j 0 ≡ w → Place w

  module _ (w : ℕ) (nz : w ≢ 0) (l : w < 4096) where
    same : get_or table w 0 ≡ get_or (placed 0 (places list) (replicate 4096 0)) w 0
    same = get_or-set_other (placed 0 (places list) (replicate 4096 0)) 0 w 0 0 nz

    at_place : (j : ℕ) → j < length (places list) → get_or (places list) j 0 ≡ w → get_or table w 0 ≡ suc j
    at_place j p e =
        let q : w < length {A = ℕ} (replicate 4096 0) = rw (length-replicate {A = ℕ} 4096 0) l in
        let z : suc (0 + j) ≡ suc j = omega arith in
        same ∙ placed_at (places list) 0 (replicate 4096 0) w j nz q ones p e ∙ z

    place_of : Place w
    place_of = go (has w (places list)) refl
      where
        go : (b : Bool) → has w (places list) ≡ b → Place w
        go false e = nowhere (same ∙ placed-other (places list) 0 (replicate 4096 0) w e ∙ get_or-replicate 4096 w 0 0 l) e
        go true e =
            let r = has-index w (places list) e in
            let m = length-take sink_max list in
            there r.0 (at_place r.0 r.1 r.2) (omega (arith, r.1, m)) r.2

  -- ---- the bits of pointers

  -- the number of place k in the set at head h
  abbrev bit : ℕ → ℕ → ℕ
  bit h k = 64 * (h - 1) + k

  module _ (h k : ℕ) (low : 1 ≤ h) (small : k < 64) where
    abbrev y : ℕ
    y = get_or (places list) k 0

    -- a number that is not 0 is listed, in place k alone
    inside : y ≢ 0 → k < length (places list)
    inside nz = go (dec_lt k (length (places list)))
      where
        go : Dec (k < length (places list)) → k < length (places list)
        go (yes l) = l
        go (no l) = absurd (nz (get_or-eq_default (places list) 0 (omega (arith, l))))

    found : y ≢ 0 → has y (places list) ≡ true
    found nz = has-at y (places list) k (inside nz) refl

    unique : (j w : ℕ) → get_or table w 0 ≡ suc j → w ≢ 0 → w < 4096 → y ≡ w → k ≡ j
    unique j w e nz l q = omega (arith, sym (at_place w nz l k (inside (λ z. nz (sym q ∙ z))) q) ∙ e)

    module _ (c : ℕ) (high : 1 ≤ c) where
      -- one pointer
      one : (w : ℕ) → w < 4096
          → has (bit h k) (place_bits table c (w ∷ [])) ≡ (eqb c h && (not (eqb y 0) && eqb y w))
      unfolding place_bits has
      one w l = go (ℕ_discrete w 0)
        where
          and_none : (a b : Bool) → (a && (b && false)) ≡ false
          and_none true true = refl
          and_none true false = refl
          and_none false b = refl

          same-zero : (z : ℕ) → w ≡ 0 → (eqb c h && (not (eqb z 0) && eqb z w)) ≡ false
          same-zero zero e = and-false (eqb c h)
          same-zero (suc z) e = rw (ne_eqb (suc z) w (λ q. omega (arith, e))) (and_none (eqb c h) (not (eqb (suc z) 0)))

          other : y ≢ w → false ≡ (eqb c h && (not (eqb y 0) && eqb y w))
          other d = sym (rw (ne_eqb y w d) (and_none (eqb c h) (not (eqb y 0))))

          listed : w ≢ 0 → Place w
              → has (bit h k) (cond (eqb (get_or table w 0) 0) [] ((64 * (c - 1) + (get_or table w 0 - 1)) ∷ [])) ≡ (eqb c h && (not (eqb y 0) && eqb y w))
          listed nz (nowhere e f) = rw (eq-eqb (get_or table w 0) 0 e) (other (λ q. false≢true (sym f ∙ ap (λ (v : ℕ). has v (places list)) (sym q) ∙ found (λ z. nz (sym q ∙ z)))))
          listed nz (there j e p q) = rw (e, eqb-suc-zero j) (here (ℕ_discrete k j) (ℕ_discrete c h))
            where
              here : Dec (k ≡ j) → Dec (c ≡ h) → (eqb (bit h k) (64 * (c - 1) + (suc j - 1)) || false) ≡ (eqb c h && (not (eqb y 0) && eqb y w))
              here (yes a) (yes b) =
                  let s : y ≡ w = ap (λ (i : ℕ). get_or (places list) i 0) a ∙ q in
                  let t : bit h k ≡ 64 * (c - 1) + (suc j - 1) = omega (arith, a, b) in
                  rw (eq-eqb (bit h k) (64 * (c - 1) + (suc j - 1)) t, eq-eqb c h b, ne_eqb y 0 (λ z. nz (sym s ∙ z)), eq-eqb y w s) refl
              here (yes a) (no b) =
                  let t : bit h k ≡ 64 * (c - 1) + (suc j - 1) → ⊥ = λ i. b (omega (arith, a, i, low, high)) in
                  rw (ne_eqb (bit h k) (64 * (c - 1) + (suc j - 1)) t, ne_eqb c h b) refl
              here (no a) d =
                  let t : bit h k ≡ 64 * (c - 1) + (suc j - 1) → ⊥ = λ i. a (omega (arith, i, p, small)) in
                  rw (ne_eqb (bit h k) (64 * (c - 1) + (suc j - 1)) t) (other (λ v. a (unique j w e nz l v)))

          go : Dec (w ≡ 0)
              → has (bit h k) (cond (eqb (get_or table w 0) 0) [] ((64 * (c - 1) + (get_or table w 0 - 1)) ∷ [])) ≡ (eqb c h && (not (eqb y 0) && eqb y w))
          go (yes e) = let z : get_or table w 0 ≡ 0 = ap (λ (v : ℕ). get_or table v 0) e ∙ none_of in rw (eq-eqb (get_or table w 0) 0 z) (sym (same-zero y e))
          go (no e) = listed e (place_of w e l)

      and_none : (a b : Bool) → (a && (b && false)) ≡ false
      and_none true true = refl
      and_none true false = refl
      and_none false b = refl

      or-both : (a b u v : Bool) → ((a && (b && u)) || (a && (b && v))) ≡ (a && (b && (u || v)))
      or-both true true u v = refl
      or-both true false u v = refl
      or-both false b u v = refl

      -- all pointers of an object
      many : (l : List ℕ) → ((w : ℕ) → Memᴰ w l → w < 4096) → has (bit h k) (place_bits table c l) ≡ (eqb c h && (not (eqb y 0) && has y l))
      many [] p = unfold place_bits has in (sym (and_none (eqb c h) (not (eqb y 0))))
      many (w ∷ l) p =
          ap (has (bit h k)) (place-cons table c w l) ∙ has-append (bit h k) (place_bits table c (w ∷ [])) (place_bits table c l)
          ∙ ap₂ (λ (a b : Bool). a || b) (one w (p w (Memᴰ.head refl))) (many l (λ v m. p v (Memᴰ.tail m)))
          ∙ or-both (eqb c h) (not (eqb y 0)) (eqb y w) (has y l) ∙ (unfold has in refl)

  -- a bit is in the word of its head
  bits-word : (c : ℕ) (l : List ℕ) → ((w : ℕ) → Memᴰ w l → w < 4096) → (z : ℕ) → Memᴰ z (place_bits table c l) → z / 64 ≡ c - 1
  unfolding place_bits
  bits-word c [] p z m = elim m [ ]
  bits-word c (w ∷ l) p z m = go (ℕ_discrete w 0) (bits-word c l (λ v i. p v (Memᴰ.tail i)) z)
    where
      there-in : Place w → (Memᴰ z (place_bits table c l) → z / 64 ≡ c - 1) → z / 64 ≡ c - 1
      there-in (nowhere e f) r = r (rw (eq-eqb (get_or table w 0) 0 e) at m)
      there-in (there j e q g) r = first (rw (e, eqb-suc-zero j) at m)
        where
          first : Memᴰ z ((64 * (c - 1) + (suc j - 1)) ∷ place_bits table c l) → z / 64 ≡ c - 1
          first (Memᴰ.head i) = omega (arith, i, q)
          first (Memᴰ.tail i) = r i

      go : Dec (w ≡ 0) → (Memᴰ z (place_bits table c l) → z / 64 ≡ c - 1) → z / 64 ≡ c - 1
      go (yes e) r = r (rw (eq-eqb (get_or table w 0) 0 (ap (λ (v : ℕ). get_or table v 0) e ∙ none_of)) at m)
      go (no e) r = there-in (place_of w e (p w (Memᴰ.head refl))) r

  -- ---- all objects

  module _ (n : ℕ) (recs slots : List ℕ) (small : n ≤ object_max) where
    abbrev heap : Heap
    heap = heap_in n recs slots list

    -- the bits that are put
    abbrev pub bits : List ℕ
    bits = gather n (is_member n recs) (object_bits n recs slots table)

    kids-low : (x w : ℕ) → Memᴰ w (kids_of n recs slots x) → w < 4096
    unfolding kids_of
    kids-low x w m = let h = targets-low n (used_words n recs slots x) w m in omega (arith, small)

    module _ (h : ℕ) (o : Obj n h) (k : ℕ) (l : k < 64) where
      and-swap : (a b d : Bool) → (a && (b && d)) ≡ (b && (a && d))
      and-swap true b d = refl
      and-swap false true d = refl
      and-swap false false d = refl

      object : (x : ℕ) → (is_member n recs x && has (bit h k) (object_bits n recs slots table x))
          ≡ (not (eqb (get_or (places list) k 0) 0) && (eqb (cluster_of n recs x) h && has (get_or (places list) k 0) (kids_of n recs slots x)))
      unfolding is_member is_pointer object_bits
      object x = go (within 1 n (cluster_of n recs x)) refl
        where
          go : (b : Bool) → within 1 n (cluster_of n recs x) ≡ b → (b && has (bit h k) (place_bits table (cluster_of n recs x) (kids_of n recs slots x)))
              ≡ (not (eqb (get_or (places list) k 0) 0) && (eqb (cluster_of n recs x) h && has (get_or (places list) k 0) (kids_of n recs slots x)))
          go true e =
              many h k o.0 l (cluster_of n recs x) (within-true 1 n (cluster_of n recs x) e).0 (kids_of n recs slots x) (kids-low x)
              ∙ and-swap (eqb (cluster_of n recs x) h) (not (eqb (get_or (places list) k 0) 0)) (has (get_or (places list) k 0) (kids_of n recs slots x))
          go false e =
              let d : cluster_of n recs x ≢ h = λ q. false≢true (sym e ∙ rw q (in_within 1 n h o.0 o.1)) in
              sym (rw (ne_eqb (cluster_of n recs x) h d) (and-false (not (eqb (get_or (places list) k 0) 0))))

      some-and : (a : Bool) (t : ℕ → Bool) → some n (λ x. a && t x) ≡ (a && some n t)
      some-and true t = refl
      some-and false t = some-none n (λ x. false) (λ x i. refl)

      whole : has (bit h k) bits ≡ in_set heap h (get_or (places list) k 0)
      unfolding in_set pointed view kids_of
      whole =
          has-gather (bit h k) n (is_member n recs) (object_bits n recs slots table)
          ∙ some-ext n (λ x. is_member n recs x && has (bit h k) (object_bits n recs slots table x))
          (λ x. not (eqb (get_or (places list) k 0) 0) && (eqb (cluster_of n recs x) h && has (get_or (places list) k 0) (kids_of n recs slots x))) (λ x i. object x)
          ∙ some-and (not (eqb (get_or (places list) k 0) 0)) (λ x. eqb (cluster_of n recs x) h && has (get_or (places list) k 0) (kids_of n recs slots x))

    module _ (sets next : List ℕ) (e : next ≡ put_all bits (zeros n sets)) where
      zero-at : (i : ℕ) → i < n → i < length sets → get_or (zeros n sets) i 0 ≡ 0
      unfolding zeros
      zero-at i p q = get-each 0 n (λ _ w. 0) sets i 0 p q

      length-zeros : length (zeros n sets) ≡ length sets
      unfolding zeros
      length-zeros = length-each 0 n (λ _ w. 0) sets

      or-none : (b : Bool) → (b || false) ≡ b
      or-none true = refl
      or-none false = refl

      word : (i : ℕ) → i < n → i < length sets → get_or next i 0 ≡ set_word heap (1 + i)
      unfolding view
      word i p q = set_word-is heap (1 + i) (get_or next i 0) (rw e (put-fits bits (zeros n sets) i (rw (zero-at i p q) (lib.Dec.lit< tt)))) at-bit
        where
          at-bit : (k : ℕ) → k < 64 → flag k (get_or next i 0) ≡ in_set heap (1 + i) (get_or (places list) k 0)
          at-bit k l =
              let r : bit (1 + i) k % 64 ≡ k = omega arith in
              let d : bit (1 + i) k / 64 ≡ i = omega arith in
              let f : holds (bit (1 + i) k) (zeros n sets) ≡ false = rw (d, zero-at i p q) (zero_flag (bit (1 + i) k % 64)) in
              ap₂ (λ (a b : ℕ). flag a (get_or next b 0)) (sym r) (sym d) ∙ ap (holds (bit (1 + i) k)) e
              ∙ put-all bits (zeros n sets) (bit (1 + i) k) (rw (d, length-zeros) q)
              ∙ ap (λ (b : Bool). has (bit (1 + i) k) bits || b) f ∙ or-none (has (bit (1 + i) k) bits)
              ∙ whole (1 + i) (omega arith, omega arith) k l

      below : (z : ℕ) → Memᴰ z bits → z / 64 < n
      unfolding is_member is_pointer object_bits
      below z m =
          let g = gather-from n (is_member n recs) (object_bits n recs slots table) z m in
          let r = within-true 1 n (cluster_of n recs g.0) g.2 in
          omega (arith, r.0, r.1, bits-word (cluster_of n recs g.0) (kids_of n recs slots g.0) (kids-low g.0) z g.3)

      kept : (i : ℕ) → n ≤ i → get_or next i 0 ≡ get_or sets i 0
      unfolding zeros
      kept i p =
          ap (λ (l : List ℕ). get_or l i 0) e ∙ put_keeps bits (zeros n sets) i (λ z m q. let l = below z m in omega arith) ∙ get-past 0 n (λ _ w. 0) sets i 0 p

      pub filled : next ≡ exact_sets heap sets
      unfolding exact_sets each_record view
      filled = ext_get_or 0 next (each_from 1 n (λ h w. set_word heap h) sets) (ap length e ∙ length-put bits (zeros n sets) ∙ length-zeros ∙ sym (length-each 1 n (λ h w. set_word heap h) sets))
          (λ i p. go i p (dec_lt i n))
        where
          long-next : length next ≡ length sets
          long-next = ap length e ∙ length-put bits (zeros n sets) ∙ length-zeros

          go : (i : ℕ) → i < length next → Dec (i < n) → get_or next i 0 ≡ get_or (each_from 1 n (λ h w. set_word heap h) sets) i 0
          go i p (yes q) = word i q (omega (arith, long-next)) ∙ sym (get-each 1 n (λ h w. set_word heap h) sets i 0 q (omega (arith, long-next)))
          go i p (no q) = kept i (omega (arith, q)) ∙ sym (get-past 1 n (λ h w. set_word heap h) sets i 0 (omega (arith, q)))

-- with no number in the places the sets are 0
filled-empty : (n : ℕ) (recs slots list sets next : List ℕ) → ((k : ℕ) → get_or (places list) k 0 ≡ 0) → next ≡ zeros n sets
    → next ≡ exact_sets (heap_in n recs slots list) sets
unfolding exact_sets each_record view
filled-empty n recs slots list sets next h e =
    e ∙ sym (each_same 1 n (λ x w. set_word (heap_in n recs slots list) x) (λ x w. 0) sets (λ x w p q. word-empty n recs slots list h x) ∙ zeros-from 1 n sets)

-- ---- any list

-- of empty places the last ones are empty
none_last : (list : List ℕ) → ((k : ℕ) → get_or (places list) k 0 ≡ 0) → (k : ℕ) → get_or (places (last_places list)) k 0 ≡ 0
none_last list h k = ap (λ (l : List ℕ). get_or l k 0) (places-latest list) ∙ (unfold last_places in (latest-empty (places list) h k))

-- where n is no size
pub fill-large : (n : ℕ) (exact sets : List ℕ) → object_max < n → sets ≡ cond (leb n object_max) exact sets
fill-large n exact sets p = rw (lt-leb n object_max p) refl

module _ (n : ℕ) (recs slots list sets next : List ℕ) (small : n ≤ object_max) where
  abbrev last : List ℕ
  last = exact_sets (heap_in n recs slots (last_places list)) sets

  by_size : next ≡ last → next ≡ cond (leb n object_max) last sets
  by_size e = e ∙ rw (le-leb n object_max small) refl

  pub filled_none : ((k : ℕ) → get_or (places list) k 0 ≡ 0) → next ≡ zeros n sets → next ≡ cond (leb n object_max) last sets
  filled_none h e = by_size (filled-empty n recs slots (last_places list) sets next (none_last list h) e)

  pub filled-last : next ≡ put_all (gather n (is_member n recs) (object_bits n recs slots (set (placed 0 (places list) (replicate 4096 0)) 0 0))) (zeros n sets)
      → next ≡ cond (leb n object_max) last sets
  filled-last e =
      by_size (filled (last_places list) (places-once list) n recs slots small sets next
      (e ∙ ap (λ (t : List ℕ). put_all (gather n (is_member n recs) (object_bits n recs slots t)) (zeros n sets)) same))
    where
      same : set (placed 0 (places list) (replicate 4096 0)) 0 0 ≡ table (last_places list) (places-once list)
      same =
          table-latest (places list) (replicate 4096 0) (rw (length-replicate {A = ℕ} 4096 0) (lib.Dec.lit≤ tt))
          ∙ ap (λ (l : List ℕ). set (placed 0 l (replicate 4096 0)) 0 0) (sym (places-latest list ∙ (unfold last_places in refl)))

pub sets-large : (n : ℕ) (b : Bool) → object_max < n → false ≡ leb n object_max && b
sets-large n b p = rw (lt-leb n object_max p) refl

pub sets-short : (n : ℕ) (sets : List ℕ) (b : Bool) → length sets < n → false ≡ leb n object_max && (not (short n sets) && b)
unfolding short
sets-short n sets b p = rw (lt-ltb (length sets) n p) (sym (and-false (leb n object_max)))

-- with no number in the places the exact ones are 0
pub exact_none : (n : ℕ) (recs slots list sets : List ℕ) (b : Bool) → n ≤ object_max → n ≤ length sets → ((k : ℕ) → get_or (places list) k 0 ≡ 0)
    → b ≡ all_to n (λ h. eqb (rec_of n sets h) 0) → b ≡ leb n object_max && (not (short n sets) && sets_ok n recs slots (last_places list) sets)
unfolding sets_ok short
exact_none n recs slots list sets b small long h f =
    f ∙ rw (le-leb n object_max small, le-ltb (length sets) n long)
    (all_to-same n (λ x. eqb (rec_of n sets x) 0) (λ x. eqb (rec_of n sets x) (set_word (heap_in n recs slots (last_places list)) x))
    (λ x p q. ap (eqb (rec_of n sets x)) (sym (word-empty n recs slots (last_places list) (none_last list h) x))))

-- sets that are equal to the exact ones
pub exact-last : (n : ℕ) (recs slots list sets exact : List ℕ) (b : Bool) → n ≤ object_max → n ≤ length sets
    → exact ≡ cond (leb n object_max) (exact_sets (heap_in n recs slots (last_places list)) (replicate 4096 0)) (replicate 4096 0)
    → b ≡ all_to n (λ h. eqb (rec_of n sets h) (rec_of n exact h))
    → b ≡ leb n object_max && (not (short n sets) && sets_ok n recs slots (last_places list) sets)
unfolding sets_ok view short
exact-last n recs slots list sets exact b small long e f =
    f ∙ rw (le-leb n object_max small, le-ltb (length sets) n long)
    (all_to-same n (λ h. eqb (rec_of n sets h) (rec_of n exact h)) (λ h. eqb (rec_of n sets h) (set_word (heap_in n recs slots (last_places list)) h))
    (λ h p q. ap (eqb (rec_of n sets h)) (ap (λ (l : List ℕ). rec_of n l h) (e ∙ rw (le-leb n object_max small) refl)
    ∙ exact-at (heap_in n recs slots (last_places list)) (replicate 4096 0) h (p, q) (rw (length-replicate {A = ℕ} 4096 0) (omega (arith, small))))))
