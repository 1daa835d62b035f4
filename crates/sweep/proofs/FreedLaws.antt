-- The freed map word by word, and the freed objects one after the other. Assumes nothing.
use Prim.Native.Nat.{ℕ, zero, suc, ◌+◌, ◌-◌, ◌*◌, ◌^◌, ◌≤◌, ◌<◌}
use mathlib.Core.Path.{◌≡◌, refl, sym, ap, ◌∙◌}
use mathlib.Core.Bool.{Bool, true, false, not, cond}
use mathlib.Core.Logic.{◌≢◌}
use mathlib.Core.List.{List, [], ◌∷◌, ◌++◌}
use native.Mathlib.Numerals.{add-one}
use native.Mathlib.Omega.{arith}
use lib.Pow.{pow_mono}
use lib.Bits.{bit_and}
use lib.Count.{count_trailing_zeros}
use lib.ListN.{length, get_or, take, drop, set, drop_of_length-le}
use lib.Seq.{set_out, drop-cons}
use Rattle.layout.specs.Limits.{map_len, slots_len}
use Rattle.records.specs.Record.{in_use, is_marked}
use Rattle.graph.specs.Numbers.{bit}
use Rattle.bitmap.specs.Bits.{set_bits, numbers_in, bits_of}
use Rattle.bitmap.proofs.BitLaws.{bits_of-lt, set_bits-step, set_bits-none}
use Rattle.rules.specs.Buffers.{rec_of, zeros}
use Rattle.rules.specs.Sweep.{freed}
use Rattle.rules.proofs.PassLaws.{pass_from}
use Rattle.rules.proofs.BufferLaws.{zeros-from}
use Rattle.table.specs.Cleared.{cleared}
use Rattle.sweep.specs.Sweep.{marked_at, freed_at, in_turn, clear_record, clear_slots}

-- ---- the test

module _ (n x r : ℕ) (recs : List ℕ) (e : r ≡ rec_of n recs x) where
  pub freed-used : (u m : Bool) → u ≡ in_use r → m ≡ is_marked r → u ≡ true → not m ≡ freed_at n recs x
  unfolding freed marked_at
  freed-used u m a b t = rw (← e, ← a, t, b) refl

  pub freed-none : (u : Bool) → u ≡ in_use r → u ≡ false → u ≡ freed_at n recs x
  unfolding freed marked_at
  freed-none u a t = rw (← e, ← a, t) refl

-- ---- a word of the map, from its highest bit down

bit_is : (b : Bool) → bit b ≡ cond b 1 0
bit_is true = refl
bit_is false = refl

module _ (t : ℕ → Bool) (base b word : ℕ) (p : 0 < b) (q : b ≤ 64) (e : word ≡ bits_of t (base + b) (64 - b)) where
  pub bits-room : word < 2 ^ 63
  bits-room =
      let l = bits_of-lt t (64 - b) (base + b) in
      let m : 2 ^ (64 - b) ≤ 2 ^ 63 = pow_mono {i = 64 - b} {j = 63} (omega arith) in
      omega (arith, e, l, m)

  pub bits-down : word * 2 + bit (t (base + (b - 1))) ≡ bits_of t (base + (b - 1)) (64 - (b - 1))
  unfolding bits_of
  bits-down =
      let s : 64 - (b - 1) ≡ suc (64 - b) = omega arith in
      let n : suc (base + (b - 1)) ≡ base + b = omega arith in
      rw (s, n, ← e, bit_is (t (base + (b - 1)))) (omega arith)

-- ---- the map

pub map-most : (n : ℕ) → n ≤ 4095 → map_len n ≤ 64
unfolding map_len
map-most n p = omega arith

-- ---- one object

module _ (x : ℕ) (recs : List ℕ) where
  pub clear_none : x ≡ 0 → recs ≡ clear_record x recs
  unfolding clear_record
  clear_none e = rw e refl

  pub clear_in : x ≢ 0 → set recs (x - 1) 0 ≡ clear_record x recs
  clear_in = go x
    where
      go : (y : ℕ) → y ≢ 0 → set recs (y - 1) 0 ≡ clear_record y recs
      go zero h = absurd (h refl)
      go (suc y) h = let z : suc y - 1 ≡ y = omega arith in rw z (unfold clear_record in refl)

  pub clear-past : x ≢ 0 → length recs ≤ x - 1 → recs ≡ clear_record x recs
  clear-past h p = sym (set_out recs (x - 1) 0 p) ∙ clear_in h

  pub slots-none : x ≡ 0 → recs ≡ clear_slots x recs
  unfolding clear_slots
  slots-none e = rw e refl

  pub slots-in : (a : ℕ) → a ≡ slots_len (x - 1) → x ≢ 0 → cleared a (a + 8) recs ≡ clear_slots x recs
  unfolding slots_len
  slots-in a e h = ap (λ (b : ℕ). cleared b (b + 8) recs) e ∙ go x h
    where
      go : (y : ℕ) → y ≢ 0 → cleared (8 * (y - 1)) (8 * (y - 1) + 8) recs ≡ clear_slots y recs
      go zero h = absurd (h refl)
      go (suc y) h = let z : suc y - 1 ≡ y = omega arith in rw z (unfold clear_slots in refl)

-- the eight words, as a pass
pub eight-pass : (a : ℕ) (slots : List ℕ) → pass_from 0 a 8 (λ x w. 0) slots ≡ cleared a (a + 8) slots
unfolding pass_from cleared
eight-pass a slots =
    let z : 8 ≡ a + 8 - a = omega arith in
    ap (λ l. take a slots ++ l) (zeros-from (0 + a) 8 (drop a slots)) ∙ ap (λ (k : ℕ). take a slots ++ zeros k (drop a slots)) z

-- ---- one object after the other

module _ (f : ℕ → List ℕ → List ℕ) where
  turns-append : (a b s : List ℕ) → in_turn f (a ++ b) s ≡ in_turn f b (in_turn f a s)
  unfolding in_turn
  turns-append [] b s = refl
  turns-append (x ∷ a) b s = turns-append a b (f x s)

  -- the bits of a word: no more, or the lowest and then the rest
  pub bits-end : (base : ℕ) (s : List ℕ) (w : ℕ) → w ≡ 0 → s ≡ in_turn f (set_bits 64 w base) s
  unfolding in_turn
  bits-end base s w e = rw (e, set_bits-none 64 base) refl

  pub bits-turn : (base w : ℕ) (s : List ℕ) → w ≢ 0 → w < 2 ^ 64
      → in_turn f (set_bits 64 (bit_and w (w - 1)) base) (f (base + count_trailing_zeros 64 w) s) ≡ in_turn f (set_bits 64 w base) s
  unfolding in_turn
  bits-turn base w s h p = rw (set_bits-step 64 w base h p) refl

  -- the words of a map: from place j on
  unfoldable pub map_left : ℕ → List ℕ → List ℕ → List ℕ
  map_left j map s = in_turn f (numbers_in (64 * j) (drop j map)) s

  pub left-start : (map s : List ℕ) → map_left 0 map s ≡ in_turn f (numbers_in 0 map) s
  unfolding map_left
  left-start map s = refl

  pub left_end : (j : ℕ) (map s : List ℕ) → length map ≤ j → s ≡ map_left j map s
  unfolding map_left in_turn numbers_in
  left_end j map s p = rw (drop_of_length-le map {i = j} p) refl

  pub left-turn : (j : ℕ) (map s : List ℕ) → j < length map
      → map_left (j + 1) map (in_turn f (set_bits 64 (get_or map j 0) (64 * j)) s) ≡ map_left j map s
  unfolding map_left numbers_in
  left-turn j map s p =
      let z : 64 * suc j ≡ 64 * j + 64 = omega arith in
      rw (add-one j, z) (sym (turns-append (set_bits 64 (get_or map j 0) (64 * j)) (numbers_in (64 * j + 64) (drop (suc j) map)) s)
      ∙ ap (λ m. in_turn f (numbers_in (64 * j) m) s) (sym (drop-cons map j 0 p)))

-- the loop over the bits of a word: what is left of it does the rest
pub record Freeing (f : ℕ → List ℕ → List ℕ) (base word : ℕ) (s₀ s : List ℕ) (rest : ℕ) : Type 0 where
  pub same : in_turn f (set_bits 64 rest base) s ≡ in_turn f (set_bits 64 word base) s₀
  pub long : length s ≡ length s₀

module _ (f : ℕ → List ℕ → List ℕ) (base word : ℕ) (s₀ : List ℕ) where
  pub freeing-start : Freeing f base word s₀ s₀ word
  freeing-start = record { same = refl; long = refl }

  module _ (s : List ℕ) (rest : ℕ) (h : Freeing f base word s₀ s rest) where
    pub freeing-turn : (x v : ℕ) (s' : List ℕ) → rest ≢ 0 → rest < 2 ^ 64 → x ≡ base + count_trailing_zeros 64 rest → v ≡ bit_and rest (rest - 1)
        → s' ≡ f x s → length s' ≡ length s → Freeing f base word s₀ s' v
    freeing-turn x v s' nz p ex ev es l =
        record { same = rw (es, ex, ev) (bits-turn f base rest s nz p ∙ h.same); long = l ∙ h.long }

    pub freeing-end : rest ≡ 0 → s ≡ in_turn f (set_bits 64 word base) s₀
    freeing-end z = bits-end f base s rest z ∙ h.same

-- the loop over the words of a map
pub record Mapping (f : ℕ → List ℕ → List ℕ) (map s₀ s : List ℕ) (j : ℕ) : Type 0 where
  pub same : map_left f j map s ≡ in_turn f (numbers_in 0 map) s₀
  pub long : length s ≡ length s₀

module _ (f : ℕ → List ℕ → List ℕ) (map s₀ : List ℕ) where
  pub mapping-start : Mapping f map s₀ s₀ 0
  mapping-start = record { same = left-start f map s₀; long = refl }

  module _ (s : List ℕ) (j : ℕ) (h : Mapping f map s₀ s j) where
    pub mapping-turn : (base : ℕ) (s' : List ℕ) → j < length map → base ≡ 64 * j → s' ≡ in_turn f (set_bits 64 (get_or map j 0) base) s → length s' ≡ length s
        → Mapping f map s₀ s' (j + 1)
    mapping-turn base s' p eb es l = record { same = rw (es, eb) (left-turn f j map s p ∙ h.same); long = l ∙ h.long }

    pub mapping-end : length map ≤ j → s ≡ in_turn f (numbers_in 0 map) s₀
    mapping-end p = left_end f j map s p ∙ h.same

-- ---- the places

-- by whether the bit is set
pub place-empty : (y : ℕ) (b h : Bool) → b ≡ h → b ≡ true → 0 ≡ cond h 0 y
place-empty y b h e t = rw (← e, t) refl

pub place-left : (y : ℕ) (b h : Bool) → b ≡ h → b ≡ false → y ≡ cond h 0 y
place-left y b h e t = rw (← e, t) refl
