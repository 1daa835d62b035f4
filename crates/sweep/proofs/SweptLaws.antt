-- The pieces of the sweep, one after the other, are the sweep of the definitions. Assumes nothing.
use Prim.Native.Nat.{ℕ, zero, suc, ◌+◌, ◌-◌, ◌*◌, ◌/◌, ◌≤◌, ◌<◌}
use mathlib.Core.Path.{◌≡◌, refl, sym, ap, ap₂, ◌∙◌, fun_ext}
use mathlib.Core.Bool.{Bool, true, false, not, cond, ◌&&◌}
use mathlib.Core.List.{List, [], ◌∷◌, ◌++◌, append-nil}
use native.Mathlib.Decide.{dec_le}
use native.Mathlib.Omega.{arith}
use lib.Dec.{leb}
use lib.ListN.{length, get_or, take, drop, set, length-set, length-append, length-take, take-append-drop}
use lib.Seq.{length-take-le, take_all}
use borrow.Author.Tests.{le-leb, lt-leb, lt-ltb, le-ltb}
use Rattle.layout.specs.Limits.{object_max, sink_max, slots_len, map_len}
use Rattle.layout.specs.Field.{field, flag}
use Rattle.records.specs.Record.{in_use}
use Rattle.bitmap.specs.Bits.{numbers_in, word_of, holds, map_max}
use Rattle.bitmap.proofs.BitLaws.{passers, passers-add, numbers_in-words, holds-past, word_of-holds}
use Rattle.graph.specs.Numbers.{bit, sum, count}
use Rattle.rules.specs.Buffers.{short, rec_of, each_from, each_record, each_slot}
use Rattle.rules.specs.View.{view, listing, heap_in, exact_sets}
use Rattle.rules.specs.WellFormed.{once}
use Rattle.rules.specs.Sweep.{Swept, freed, kept_record, swept_record, swept_records, swept_slots, swept_sinks, sweep}
use Rattle.rules.proofs.SweepLaws.{sweep-alike, once-cleared}
use Rattle.rules.proofs.ListLaws.{length-each, get-each, take-each, each_map, each_same, each-id, rec_of-above}
use Rattle.rules.proofs.PassLaws.{pass_from, pass-begin, pass-turn, pass-skip, pass-end}
use Rattle.rules.proofs.StoreLaws.{rec_of-zero}
use Rattle.places.specs.Places.{last_places}
use Rattle.places.proofs.LatestLaws.{places_same}
use Rattle.table.specs.Cleared.{cleared}
use Rattle.sweep.specs.Sweep.{unflagged_record, unflagged, marked_at, marked_count, freed_at, by_marks, sets_by_marks, fits, AfterSweep, Marked, in_turn, clear_record, clear_slots, emptied}
use Rattle.sweep.proofs.UnflaggedLaws.{unflagged-used, unflagged-freed, unflagged-kept, rec-unflagged}
use Rattle.sweep.proofs.FreedLaws.{eight-pass}
use Rattle.rules.proofs.ListLaws.{each-each}

-- ---- passes

module _ (base : ℕ) where
  pass_same : (i k : ℕ) (f g : ℕ → ℕ → ℕ) (l : List ℕ) → ((j w : ℕ) → base + i ≤ j → j < base + i + k → f j w ≡ g j w) → pass_from base i k f l ≡ pass_from base i k g l
  unfolding pass_from
  pass_same i k f g l h = ap (λ m. take i l ++ m) (each_same (base + i) k f g (drop i l) h)

  pass-id : (i k : ℕ) (l : List ℕ) → pass_from base i k (λ x w. w) l ≡ l
  unfolding pass_from
  pass-id i k l = ap (λ m. take i l ++ m) (each-id (base + i) k (drop i l)) ∙ take-append-drop i l

  pass-length : (i k : ℕ) (f : ℕ → ℕ → ℕ) (l : List ℕ) → length (pass_from base i k f l) ≡ length l
  unfolding pass_from
  pass-length i k f l =
      length-append (take i l) (each_from (base + i) k f (drop i l))
      ∙ ap (λ (m : ℕ). length (take i l) + m) (length-each (base + i) k f (drop i l))
      ∙ sym (length-append (take i l) (drop i l)) ∙ ap length (take-append-drop i l)

  -- first m words, then k more
  pass-split : (m k i : ℕ) (f : ℕ → ℕ → ℕ) (l : List ℕ) → i + m ≤ length l → pass_from base i (m + k) f l ≡ pass_from base (i + m) k f (pass_from base i m f l)
  pass-split zero k i f l p =
      let z : 0 + k ≡ k = omega arith in
      let y : i + 0 ≡ i = omega arith in
      rw (z, y, pass-end base i f l) refl
  pass-split (suc m) k i f l p =
      let z : suc m + k ≡ suc (m + k) = omega arith in
      let y : i + suc m ≡ suc i + m = omega arith in
      let v = f (base + i) (get_or l i 0) in
      let s = length-set l i v in
      rw (z, y) (sym (pass-turn base i (m + k) f l 0 (omega arith))
      ∙ pass-split m k (suc i) f (set l i v) (omega (arith, s))
      ∙ ap (pass_from base (suc i + m) k f) (pass-turn base i m f l 0 (omega arith)))

-- ---- the numbers that pass a test

module _ (t : ℕ → Bool) where
  none_from : (k b : ℕ) → ((x : ℕ) → b ≤ x → t x ≡ false) → passers t b k ≡ []
  unfolding passers
  none_from zero b h = refl
  none_from (suc k) b h = rw (h b (omega arith)) (none_from k (suc b) (λ x p. h x (omega arith)))

  -- neither 0 nor a number above n passes
  within-n : (n m : ℕ) → t 0 ≡ false → ((x : ℕ) → n < x → t x ≡ false) → n < m → passers t 0 m ≡ passers t 1 n
  unfolding passers
  within-n n m z h p =
      let s : m ≡ 1 + (n + (m - suc n)) = omega arith in
      ap (passers t 0) s ∙ passers-add t 1 (n + (m - suc n)) 0
      ∙ rw z (passers-add t n (m - suc n) 1 ∙ ap (λ l. passers t 1 n ++ l) (none_from (m - suc n) (1 + n) (λ x q. h x (omega arith))) ∙ append-nil (passers t 1 n))

  pub passers-count : (n : ℕ) → length (passers t 1 n) ≡ count n t
  unfolding passers count sum
  passers-count zero = refl
  passers-count (suc n) =
      let s : suc n ≡ n + 1 = omega arith in
      let o : 1 + n ≡ suc n = omega arith in
      ap (λ (k : ℕ). length (passers t 1 k)) s ∙ ap length (passers-add t n 1 1) ∙ length-append (passers t 1 n) (passers t (1 + n) 1)
      ∙ ap₂ (λ (a b : ℕ). a + b) (passers-count n) (ap (λ (x : ℕ). length (passers t x 1)) o ∙ go (t (suc n)))
    where
      go : (d : Bool) → length (cond d (suc n ∷ []) []) ≡ bit d
      go true = refl
      go false = refl

  -- their records cleared, one after the other
  records-cleared : (k i : ℕ) (recs : List ℕ) → i + k ≤ length recs
      → in_turn clear_record (passers t (suc i) k) recs ≡ pass_from 1 i k (λ x r. cond (t x) 0 r) recs
  unfolding in_turn passers clear_record
  records-cleared zero i recs p = sym (pass-end 1 i _ recs)
  records-cleared (suc k) i recs p =
      let o : 1 + i ≡ suc i = omega arith in
      go (t (suc i)) refl o (records-cleared k (suc i) (set recs i 0) (let s = length-set recs i 0 in omega arith)) (records-cleared k (suc i) recs (omega arith))
    where
      go : (d : Bool) → t (suc i) ≡ d → 1 + i ≡ suc i
          → in_turn clear_record (passers t (suc (suc i)) k) (set recs i 0) ≡ pass_from 1 (suc i) k (λ x r. cond (t x) 0 r) (set recs i 0)
          → in_turn clear_record (passers t (suc (suc i)) k) recs ≡ pass_from 1 (suc i) k (λ x r. cond (t x) 0 r) recs
          → in_turn clear_record (cond d (suc i ∷ passers t (suc (suc i)) k) (passers t (suc (suc i)) k)) recs ≡ pass_from 1 i (suc k) (λ x r. cond (t x) 0 r) recs
      go true e o a b =
          a ∙ ap (λ (v : ℕ). pass_from 1 (suc i) k (λ x r. cond (t x) 0 r) (set recs i v)) (rw (o, e) refl)
          ∙ pass-turn 1 i k (λ x r. cond (t x) 0 r) recs 0 (omega arith)
      go false e o a b = b ∙ pass-skip 1 i k (λ x r. cond (t x) 0 r) recs 0 (omega arith) (rw (o, e) refl)

  -- and their slots
  abbrev cleared_at : ℕ → ℕ → ℕ
  cleared_at j w = cond (t (j / 8 + 1)) 0 w

  eight-words : (i : ℕ) (d : Bool) (slots : List ℕ) → t (suc i) ≡ d → pass_from 0 (8 * i) 8 cleared_at slots ≡ cond d (cleared (8 * i) (8 * i + 8) slots) slots
  eight-words i true slots e =
      pass_same 0 (8 * i) 8 cleared_at (λ x w. 0) slots (λ j w a b. ap (λ (d : Bool). cond d 0 w) (ap t (omega arith) ∙ e)) ∙ eight-pass (8 * i) slots
  eight-words i false slots e =
      pass_same 0 (8 * i) 8 cleared_at (λ x w. w) slots (λ j w a b. ap (λ (d : Bool). cond d 0 w) (ap t (omega arith) ∙ e)) ∙ pass-id 0 (8 * i) 8 slots

  slots-cleared : (k i : ℕ) (slots : List ℕ) → 8 * (i + k) ≤ length slots → in_turn clear_slots (passers t (suc i) k) slots ≡ pass_from 0 (8 * i) (8 * k) cleared_at slots
  unfolding in_turn passers clear_slots
  slots-cleared zero i slots p = sym (pass-end 0 (8 * i) _ slots)
  slots-cleared (suc k) i slots p =
      let z : 8 * suc k ≡ 8 + 8 * k = omega arith in
      let y : 8 * i + 8 ≡ 8 * suc i = omega arith in
      let n = ap length (eight-pass (8 * i) slots) in
      let m = pass-length 0 (8 * i) 8 (λ x w. 0) slots in
      go (t (suc i)) refl (slots-cleared k (suc i) (cleared (8 * i) (8 * i + 8) slots) (omega (arith, n, m))) (slots-cleared k (suc i) slots (omega arith))
      ∙ sym (ap (λ (j : ℕ). pass_from 0 (8 * i) j cleared_at slots) z ∙ pass-split 0 8 (8 * k) (8 * i) cleared_at slots (omega arith)
      ∙ ap (λ (j : ℕ). pass_from 0 j (8 * k) cleared_at (pass_from 0 (8 * i) 8 cleared_at slots)) y)
    where
      go : (d : Bool) → t (suc i) ≡ d
          → in_turn clear_slots (passers t (suc (suc i)) k) (cleared (8 * i) (8 * i + 8) slots) ≡ pass_from 0 (8 * suc i) (8 * k) cleared_at (cleared (8 * i) (8 * i + 8) slots)
          → in_turn clear_slots (passers t (suc (suc i)) k) slots ≡ pass_from 0 (8 * suc i) (8 * k) cleared_at slots
          → in_turn clear_slots (cond d (suc i ∷ passers t (suc (suc i)) k) (passers t (suc (suc i)) k)) slots
          ≡ pass_from 0 (8 * suc i) (8 * k) cleared_at (pass_from 0 (8 * i) 8 cleared_at slots)
      go true e a b = a ∙ ap (pass_from 0 (8 * suc i) (8 * k) cleared_at) (sym (eight-words i true slots e))
      go false e a b = b ∙ ap (pass_from 0 (8 * suc i) (8 * k) cleared_at) (sym (eight-words i false slots e))

-- ---- the freed objects of the records

more : (n : ℕ) → n < 64 * map_len n
unfolding map_len
more n = omega arith

part-whole : (n : ℕ) (map part : List ℕ) → n ≤ 4095 → part ≡ take (map_len n) map → take map_max part ≡ part
unfolding map_len
part-whole n map part p e = take_all 64 part (let a = length-take (n / 64 + 1) map in let b = ap length e in omega (arith, a, b))

module _ (n : ℕ) (recs : List ℕ) where
  unused : (x : ℕ) → rec_of n recs x ≡ 0 → freed_at n recs x ≡ false
  unfolding freed flag field
  unused x e = rw e refl

  -- the lent part of the filled map
  module _ (map : List ℕ) (p : map_len n ≤ length map) where
    abbrev filled : List ℕ
    filled = take (map_len n) (each_from 0 (map_len n) (λ j w. word_of (freed_at n recs) j) map)

    filled-long : length filled ≡ map_len n
    filled-long =
        let f : ℕ → ℕ → ℕ = λ j w. word_of (freed_at n recs) j in
        length-take-le (map_len n) (each_from 0 (map_len n) f map) (let a = length-each 0 (map_len n) f map in omega arith)

    filled-word : (i : ℕ) → i < map_len n → get_or filled i 0 ≡ word_of (freed_at n recs) i
    filled-word i q =
        let k = map_len n in
        let f : ℕ → ℕ → ℕ = λ j w. word_of (freed_at n recs) j in
        let long : length (take k map) ≡ k = length-take-le k map p in
        let z : 0 + i ≡ i = omega arith in
        ap (λ (l : List ℕ). get_or l i 0) (take-each 0 k f map k (omega arith))
        ∙ get-each 0 k f (take k map) i 0 q (omega (arith, long))
        ∙ ap (word_of (freed_at n recs)) z

    freed-numbers : numbers_in 0 filled ≡ passers (freed_at n recs) 1 n
    freed-numbers =
        numbers_in-words (freed_at n recs) filled 0 (λ i q. let z : i ≡ 0 + i = omega arith in filled-word i (omega (arith, filled-long)) ∙ ap (word_of (freed_at n recs)) z)
        ∙ ap (λ (m : ℕ). passers (freed_at n recs) 0 (64 * m)) filled-long
        ∙ within-n (freed_at n recs) n (64 * map_len n) (unused 0 (rec_of-zero n recs)) (λ x q. unused x (rec_of-above n recs x q)) (more n)

    -- it has the freed and no other number
    freed-held : (y : ℕ) → holds y filled ≡ freed_at n recs y
    freed-held y = go (dec_le (map_len n) (y / 64))
      where
        go : Dec (map_len n ≤ y / 64) → holds y filled ≡ freed_at n recs y
        go (yes q) = holds-past y filled (omega (arith, filled-long)) ∙ sym (unused y (rec_of-above n recs y (omega (arith, more n))))
        go (no q) = word_of-holds (freed_at n recs) y filled (filled-word (y / 64) (omega (arith, q)))

    emptied-freed : (list : List ℕ) → emptied filled list ≡ swept_sinks n recs (marked_at n recs) list
    unfolding emptied swept_sinks
    emptied-freed list = each_same 0 64 (λ k y. cond (holds y filled) 0 y) (λ k y. cond (freed_at n recs y) 0 y) list (λ k y a b. ap (λ (d : Bool). cond d 0 y) (freed-held y))

  module _ (long : n ≤ length recs) where
    abbrev m : ℕ → Bool
    m = marked_at n recs

    -- the flags say nothing of who is in use
    pub freed-same : freed_at n recs ≡ freed n (unflagged n recs) m
    unfolding freed
    freed-same = fun_ext (λ x. ap (λ (u : Bool). u && not (m x)) (sym (ap in_use (rec-unflagged n recs long x) ∙ unflagged-used (rec_of n recs x))))

    pub swept-records : unflagged n (in_turn clear_record (passers (freed_at n recs) 1 n) (each_record n (λ x r. kept_record m r) recs))
        ≡ each_record n (swept_record n (unflagged n recs) m m) (unflagged n recs)
    unfolding unflagged each_record swept_record
    swept-records =
        let t = freed_at n recs in
        let kept = each_from 1 n (λ x r. kept_record m r) recs in
        let l = length-each 1 n (λ x r. kept_record m r) recs in
        ap (each_from 1 n (λ x r. unflagged_record r)) (records-cleared t n 0 kept (omega (arith, l)) ∙ pass-begin 1 n (λ x r. cond (t x) 0 r) kept)
        ∙ each-each 1 n (λ x r. cond (t x) 0 r) (λ x r. unflagged_record r) kept
        ∙ each-each 1 n (λ x r. kept_record m r) (λ x r. unflagged_record (cond (t x) 0 r)) recs
        ∙ each_same 1 n (λ x r. unflagged_record (cond (t x) 0 (kept_record m r))) (λ x r. cond (freed n (unflagged n recs) m x) 0 (kept_record m (unflagged_record r))) recs
        (λ x r a b. unflagged-freed (t x) (kept_record m r) ∙ (λ i. cond (freed-same i x) 0 (unflagged-kept m r i)))
        ∙ sym (each-each 1 n (λ x r. unflagged_record r) (λ x r. cond (freed n (unflagged n recs) m x) 0 (kept_record m r)) recs)

  pub swept-slots : (slots : List ℕ) → slots_len n ≤ length slots
      → in_turn clear_slots (passers (freed_at n recs) 1 n) slots ≡ each_slot n (λ x w. cond (freed_at n recs x) 0 w) slots
  unfolding slots_len each_slot
  swept-slots slots p = slots-cleared (freed_at n recs) n 0 slots (omega arith) ∙ pass-begin 0 (8 * n) (cleared_at (freed_at n recs)) slots

-- ---- the list

-- no number is in it twice, where none was
once-swept : (n : ℕ) (recs : List ℕ) (kept : ℕ → Bool) (list : List ℕ) → once (take sink_max list) ≡ true
    → once (take sink_max (swept_sinks n recs kept list)) ≡ true
unfolding swept_sinks
once-swept n recs kept list h =
    ap once (take-each 0 64 (λ k y. cond (freed n recs kept y) 0 y) list 64 (omega arith)
    ∙ each_map 0 64 (λ y. cond (freed n recs kept y) 0 y) (take sink_max list) (let e = length-take sink_max list in omega arith))
    ∙ once-cleared (freed n recs kept) (take sink_max list) h

-- ---- where the slices are long enough, and where one is not

pub refused : (n : ℕ) (recs slots list sets map : List ℕ) → fits n recs slots map ≡ false
    → AfterSweep n recs slots list sets map recs slots list sets map 0
refused n recs slots list sets map e =
    record { records = rw e refl; slot_words = rw e refl; sinks = rw e refl; set_words = rw e refl; map_words = rw e refl; freed = rw e refl }

module _ (n : ℕ) (recs slots map : List ℕ) where
  pub too_many : 4095 < n → fits n recs slots map ≡ false
  unfolding fits
  too_many p = rw (lt-leb n 4095 p) refl

  module _ (most : n ≤ 4095) where
    pub few-records : length recs < n → fits n recs slots map ≡ false
    unfolding fits short
    few-records p = rw (le-leb n 4095 most, lt-ltb (length recs) n p) refl

    module _ (long : n ≤ length recs) where
      pub few-slots : length slots < slots_len n → fits n recs slots map ≡ false
      unfolding fits short
      few-slots p = rw (le-leb n 4095 most, le-ltb (length recs) n long, lt-ltb (length slots) (slots_len n) p) refl

      module _ (wide : slots_len n ≤ length slots) where
        pub few_words : length map < map_len n → fits n recs slots map ≡ false
        unfolding fits short
        few_words p =
            rw (le-leb n 4095 most, le-ltb (length recs) n long, le-ltb (length slots) (slots_len n) wide, lt-ltb (length map) (map_len n) p) refl

        module _ (room : map_len n ≤ length map) where
          pub all_fit : fits n recs slots map ≡ true
          unfolding fits short
          all_fit =
              rw
              (le-leb n 4095 most, le-ltb (length recs) n long, le-ltb (length slots) (slots_len n) wide, le-ltb (length map) (map_len n) room) refl

          pub swept : (list sets recs₁ recs₂ recs₃ slots₁ list₁ sets₁ map₁ part : List ℕ) (k : ℕ)
              → map₁ ≡ each_from 0 (map_len n) (λ j w. word_of (freed_at n recs) j) map → part ≡ take (map_len n) map₁
              → k ≡ length (numbers_in 0 (take map_max part)) → recs₁ ≡ each_record n (λ x r. kept_record (marked_at n recs) r) recs
              → recs₂ ≡ in_turn clear_record (numbers_in 0 part) recs₁ → slots₁ ≡ in_turn clear_slots (numbers_in 0 part) slots
              → list₁ ≡ emptied part list → recs₃ ≡ unflagged n recs₂
              → sets₁ ≡ cond (leb n object_max) (exact_sets (heap_in n recs₃ slots₁ (last_places list₁)) sets) sets
              → AfterSweep n recs slots list sets map recs₃ slots₁ list₁ sets₁ map₁ k
          unfolding sweep swept_records swept_slots swept_sinks
          swept list sets recs₁ recs₂ recs₃ slots₁ list₁ sets₁ map₁ part k em ep ek e₁ e₂ es el e₃ et =
              record {
                records = rw all_fit ruled-records;
                slot_words = rw all_fit ruled-slots;
                sinks = rw all_fit ruled-sinks;
                set_words = rw all_fit ruled-sets;
                map_words = rw all_fit (em ∙ ap (λ (d : ℕ → Bool). each_from 0 (map_len n) (λ j w. word_of d j) map) f);
                freed = rw all_fit (ek ∙ ap (λ l. length (numbers_in 0 l)) whole ∙ ap length nums ∙ passers-count t n ∙ ap (count n) f);
              }
            where
              t : ℕ → Bool
              t = freed_at n recs

              part-is : part ≡ filled n recs map room
              part-is = ep ∙ ap (take (map_len n)) em

              nums : numbers_in 0 part ≡ passers t 1 n
              nums = ap (numbers_in 0) part-is ∙ freed-numbers n recs map room

              whole : take map_max part ≡ part
              whole = part-whole n map₁ part most ep

              f : t ≡ freed n (unflagged n recs) (marked_at n recs)
              f = freed-same n recs long

              ruled-records : recs₃ ≡ swept_records n (unflagged n recs) (marked_at n recs) (marked_at n recs)
              ruled-records = e₃ ∙ ap (unflagged n) (e₂ ∙ ap₂ (in_turn clear_record) nums e₁) ∙ swept-records n recs long

              ruled-slots : slots₁ ≡ swept_slots n (unflagged n recs) (marked_at n recs) slots
              ruled-slots =
                  es ∙ ap (λ l. in_turn clear_slots l slots) nums ∙ swept-slots n recs slots wide ∙ ap (λ (d : ℕ → Bool). each_slot n (λ x w. cond (d x) 0 w) slots) f

              ruled-sinks : list₁ ≡ swept_sinks n (unflagged n recs) (marked_at n recs) list
              ruled-sinks =
                  el ∙ ap (λ (l : List ℕ). emptied l list) part-is ∙ emptied-freed n recs map room list
                  ∙ ap (λ (d : ℕ → Bool). each_from 0 sink_max (λ k y. cond (d y) 0 y) list) f

              ruled-sets : sets₁ ≡ sets_by_marks n recs slots list sets map
              ruled-sets =
                  et ∙ rw (le-leb n object_max most) (λ i. exact_sets (heap_in n (ruled-records i) (ruled-slots i) (last_places (ruled-sinks i))) sets)

-- ---- where the marks say who is kept and whose head is reached, it is the sweep of the rules by that

module _ (n : ℕ) (recs₀ recs slots list sets map : List ℕ) (kept heads : ℕ → Bool) (h : Marked n recs₀ recs kept heads) where
  abbrev ruled : Swept
  ruled = sweep n recs₀ slots list sets map kept heads

  marked-sweep : by_marks n recs slots list sets map ≡ ruled
  marked-sweep =
      ap (λ (l : List ℕ). sweep n l slots list sets map (marked_at n recs) (marked_at n recs)) h.same
      ∙ sym (sweep-alike n recs₀ slots list sets map kept heads (marked_at n recs) (marked_at n recs) h.kept-is h.heads-is)

  pub kept-ruled : marked_count n recs ≡ (sweep n recs₀ slots list sets map kept heads).kept
  unfolding marked_count sweep
  kept-ruled = ap (λ (s : Swept). s.kept) marked-sweep

  -- what a sweep leaves is what the rules say
  pub record Ruled (recs' slots' list' sets' map' : List ℕ) (k : ℕ) : Type 0 where
    pub records : recs' ≡ (sweep n recs₀ slots list sets map kept heads).records
    pub slot_words : slots' ≡ (sweep n recs₀ slots list sets map kept heads).slots
    pub sinks : list' ≡ (sweep n recs₀ slots list sets map kept heads).sinks
    pub set_words : sets' ≡ (sweep n recs₀ slots list sets map kept heads).sets
    pub map_words : map' ≡ (sweep n recs₀ slots list sets map kept heads).map
    pub freed : k ≡ (sweep n recs₀ slots list sets map kept heads).freed

  pub sweep-ruled : n ≤ 4095 → n ≤ length recs → slots_len n ≤ length slots → map_len n ≤ length map → once (take sink_max list) ≡ true
      → (recs' slots' list' sets' map' : List ℕ) (k : ℕ) → AfterSweep n recs slots list sets map recs' slots' list' sets' map' k
      → Ruled recs' slots' list' sets' map' k
  unfolding sweep swept_sinks
  sweep-ruled most long wide room o recs' slots' list' sets' map' k l =
      let once-sets = ap (λ (m : List ℕ). exact_sets (listing m (view n (by_marks n recs slots list sets map).records (by_marks n recs slots list sets map).slots)) sets)
      (places_same (by_marks n recs slots list sets map).sinks (once-swept n (unflagged n recs) (marked_at n recs) list o)) in
      let f = all_fit n recs slots map most long wide room in
      record {
        records = (rw f at l.records) ∙ ap (λ (s : Swept). s.records) marked-sweep;
        slot_words = (rw f at l.slot_words) ∙ ap (λ (s : Swept). s.slots) marked-sweep;
        sinks = (rw f at l.sinks) ∙ ap (λ (s : Swept). s.sinks) marked-sweep;
        set_words = (rw f at l.set_words) ∙ once-sets ∙ ap (λ (s : Swept). s.sets) marked-sweep;
        map_words = (rw f at l.map_words) ∙ ap (λ (s : Swept). s.map) marked-sweep;
        freed = (rw f at l.freed) ∙ ap (λ (s : Swept). s.freed) marked-sweep;
      }
