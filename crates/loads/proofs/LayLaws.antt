-- The stores of load: words stored one by one are `each_from` with them.
-- Assumes nothing.
use Prim.Native.Nat.{ℕ, zero, suc, ◌+◌, ◌-◌, ◌*◌, ◌/◌, ◌%◌, ◌≤◌, ◌<◌}
use mathlib.Core.Path.{◌≡◌, refl, sym, ap, ap₂, ◌∙◌}
use mathlib.Core.Bool.{Bool, true, false, cond, ◌&&◌, and-false}
use mathlib.Core.List.{List, [], ◌∷◌}
use mathlib.Core.Logic.{◌≢◌, ◌⊎◌, inl, inr}
use native.Mathlib.Decide.{dec_le, dec_lt, ℕ_discrete}
use native.Mathlib.Omega.{arith}
use borrow.Author.Tests.{le-leb, lt-leb, lt-ltb, le-ltb, eq-eqb, ne_eqb}
use lib.Dec.{eqb, leb, ltb}
use lib.ListN.{length, get_or, set, length-set}
use lib.Seq.{get_or-drop}
use Rattle.layout.specs.Limits.{slots_len}
use Rattle.endian.specs.Bytes.{number_at}
use Rattle.records.specs.Record.{new_record, with_sink}
use Rattle.rules.specs.Buffers.{each_from, each_record}
use Rattle.rules.specs.Image.{head_len, listed, saved_width, saved_sink, saved_word}
use Rattle.rules.proofs.ListLaws.{each_same, each-id, length-each}
use Rattle.loads.specs.Bodies.{shape_ok, Reached, number_of, width_at, sink_at, Fit}
use Rattle.loads.specs.Laid.{laid, record_or, slot_or}
use Rattle.loads.proofs.PlaceLaws.{number-drop}
use Rattle.loads.proofs.EntryLaws.{Entry, entry, fits, fit-reached, unlisted, ended, start}

-- ---- stores into a list that was changed element by element

-- one element more is changed
pub each-put : (i k : ℕ) (f g : ℕ → ℕ → ℕ) (l : List ℕ) (j v : ℕ) → j < k → ((w : ℕ) → g (i + j) w ≡ v)
    → ((m w : ℕ) → i ≤ m → m < i + k → m ≢ i + j → g m w ≡ f m w) → set (each_from i k f l) j v ≡ each_from i k g l
unfolding each_from
each-put i zero f g l j v p e h = absurd (omega arith)
each-put i (suc k) f g [] zero v p e h = refl
each-put i (suc k) f g [] (suc j) v p e h = refl
each-put i (suc k) f g (w ∷ l) zero v p e h =
    let z : i ≡ i + 0 = omega arith in
    ap₂ (λ x r. x ∷ r) (sym (ap (λ (y : ℕ). g y w) z ∙ e w))
    (sym (each_same (suc i) k g f l (λ m u a b. h m u (omega arith) (omega arith) (λ q. omega arith))))
each-put i (suc k) f g (w ∷ l) (suc j) v p e h =
    let z : suc i + j ≡ i + suc j = omega arith in
    ap₂ (λ x r. x ∷ r) (sym (h i w (omega arith) (omega arith) (λ q. omega arith)))
    (each-put (suc i) k f g l j v (omega arith) (λ u. ap (λ (y : ℕ). g y u) z ∙ e u) (λ m u a b q. h m u (omega arith) (omega arith) (λ r. q (omega arith))))

-- k elements more
pub laid_each : (n base k : ℕ) (f g : ℕ → ℕ → ℕ) (h : ℕ → ℕ) (l : List ℕ) → base + k ≤ n → ((i w : ℕ) → i < k → g (base + i) w ≡ h i)
    → ((m w : ℕ) → m < n → (m < base) ⊎ (base + k ≤ m) → g m w ≡ f m w) → laid base k h (each_from 0 n f l) ≡ each_from 0 n g l
unfolding laid
laid_each n base zero f g h l p e o = sym (each_same 0 n g f l (λ m w a b. o m w (omega arith) (side m (dec_lt m base))))
  where
    side : (m : ℕ) → Dec (m < base) → (m < base) ⊎ (base + 0 ≤ m)
    side m (yes q) = inl q
    side m (no q) = inr (omega (arith, q))
laid_each n base (suc k) f g h l p e o =
    ap (λ (r : List ℕ). set r (base + k) (h k)) (laid_each n base k f before h l (omega arith) early late)
    ∙ each-put 0 n before g l (base + k) (h k) (omega arith) (λ w. let z : 0 + (base + k) ≡ base + k = omega arith in ap (λ (y : ℕ). g y w) z ∙ e k w (omega arith)) (λ m w a b q. sym (other m w (λ r. q (omega arith))))
  where
    before : ℕ → ℕ → ℕ
    before m w = cond (eqb m (base + k)) (f m w) (g m w)

    other : (m w : ℕ) → m ≢ base + k → before m w ≡ g m w
    other m w q = rw (ne_eqb m (base + k) q) refl

    early : (i w : ℕ) → i < k → before (base + i) w ≡ h i
    early i w q = other (base + i) w (λ r. omega arith) ∙ e i w (omega arith)

    late : (m w : ℕ) → m < n → (m < base) ⊎ (base + k ≤ m) → before m w ≡ f m w
    late m w q s = go (ℕ_discrete m (base + k)) s
      where
        go : Dec (m ≡ base + k) → (m < base) ⊎ (base + k ≤ m) → before m w ≡ f m w
        go (yes r) s = rw (eq-eqb m (base + k) r) refl
        go (no r) (inl a) = other m w r ∙ o m w q (inl a)
        go (no r) (inr a) = other m w r ∙ o m w q (inr (omega (arith, r)))

pub length-laid : (base k : ℕ) (h : ℕ → ℕ) (l : List ℕ) → length (laid base k h l) ≡ length l
unfolding laid
length-laid base zero h l = refl
length-laid base (suc k) h l = length-set (laid base k h l) (base + k) (h k) ∙ length-laid base k h l

pub laid_none : (base : ℕ) (h : ℕ → ℕ) (l : List ℕ) → l ≡ laid base 0 h l
unfolding laid
laid_none base h l = refl

pub laid-turn : (base k : ℕ) (h : ℕ → ℕ) (l m : List ℕ) (v : ℕ) → m ≡ laid base k h l → v ≡ h k → set m (base + k) v ≡ laid base (k + 1) h l
unfolding laid
laid-turn base k h l m v e f = let o : k + 1 ≡ suc k = omega arith in rw (o, e, f) refl

-- words that are the same
pub laid_same : (base k : ℕ) (f g : ℕ → ℕ) (l : List ℕ) → ((i : ℕ) → f i ≡ g i) → laid base k f l ≡ laid base k g l
unfolding laid
laid_same base zero f g l e = refl
laid_same base (suc k) f g l e = ap₂ (λ r v. set r (base + k) v) (laid_same base k f g l e) (e k)

-- k words behind a others
pub laid_more : (base a k : ℕ) (h : ℕ → ℕ) (l : List ℕ) → laid (base + a) k (λ i. h (a + i)) (laid base a h l) ≡ laid base (a + k) h l
unfolding laid
laid_more base a zero h l = let z : a + 0 ≡ a = omega arith in rw z refl
laid_more base a (suc k) h l =
    let z : a + suc k ≡ suc (a + k) = omega arith in
    let y : base + a + k ≡ base + (a + k) = omega arith in
    rw (z, y) (ap (λ (r : List ℕ). set r (base + (a + k)) (h (a + k))) (laid_more base a k h l))

-- four words that were read
pub laid-four : (body : List ℕ) (at base : ℕ) (l : List ℕ) (a b c d : ℕ) → a ≡ number_at 4 at body → b ≡ number_at 4 (at + 4) body
    → c ≡ number_at 4 (at + 8) body → d ≡ number_at 4 (at + 12) body
    → set (set (set (set l base a) (base + 1) b) (base + 2) c) (base + 3) d ≡ laid base 4 (λ i. number_at 4 (at + 4 * i) body) l
unfolding laid
laid-four body at base l a b c d ea eb ec ed =
    let z : base + 0 ≡ base = omega arith in
    let y : at + 0 ≡ at = omega arith in
    rw (z, y, ea, eb, ec, ed) refl

-- some of the words from a place on are stored, and so many are left
pub record Storing (body : List ℕ) (from k : ℕ) (words₀ : List ℕ) (base : ℕ) (words : List ℕ) (at to left : ℕ) : Type 0 where
  pub few : left ≤ k
  pub place : at ≡ from + 4 * (k - left)
  pub target : to ≡ base + (k - left)
  pub long : length words ≡ length words₀
  pub stored : words ≡ laid base (k - left) (λ i. number_at 4 (from + 4 * i) body) words₀

module _ (body : List ℕ) (from k : ℕ) (words₀ : List ℕ) (base : ℕ) where
  -- the first four are stored
  pub storing-four : 3 < k → (words : List ℕ) (at to left : ℕ) → words ≡ laid base 4 (λ i. number_at 4 (from + 4 * i) body) words₀ → at ≡ from + 16
      → to ≡ base + 4 → left ≡ k - 4 → Storing body from k words₀ base words at to left
  storing-four p words at to left e ea et el =
      let z : k - left ≡ 4 = omega (arith, el, p) in
      record {
        few = omega (arith, el);
        place = omega (arith, ea, el, p);
        target = omega (arith, et, el, p);
        long = ap (λ (r : List ℕ). length r) e ∙ length-laid base 4 _ words₀;
        stored = rw z e;
      }

  -- none is
  pub storing-none : (words : List ℕ) (at to left : ℕ) → words ≡ words₀ → at ≡ from → to ≡ base → left ≡ k → Storing body from k words₀ base words at to left
  storing-none words at to left e ea et el =
      let z : k - k ≡ 0 = omega arith in
      rw (e, ea, et, el) (record { few = omega arith; place = omega arith; target = omega arith; long = refl; stored = rw z (laid_none base _ words₀) })

  -- one word more
  pub storing-turn : (words : List ℕ) (at to left : ℕ) → Storing body from k words₀ base words at to left → left ≢ 0 → (v : ℕ) → v ≡ number_at 4 at body
      → Storing body from k words₀ base (set words to v) (at + 4) (to + 1) (left - 1)
  storing-turn words at to left s d v e =
      let z : k - (left - 1) ≡ k - left + 1 = omega (arith, s.few, d) in
      record {
        few = omega (arith, s.few);
        place = omega (arith, s.place, s.few, d);
        target = omega (arith, s.target, s.few, d);
        long = length-set words to v ∙ s.long;
        stored = rw (z, s.target) (laid-turn base (k - left) _ words₀ words v s.stored (e ∙ ap (λ (a : ℕ). number_at 4 a body) s.place));
      }

  -- the others behind them
  pub storing-end : (words : List ℕ) (at to left : ℕ) → Storing body from k words₀ base words at to left → (e : ℕ) (out : List ℕ)
      → (e ≡ at + 4 * left) × (out ≡ laid to left (λ i. number_at 4 (at + 4 * i) body) words)
      → (e ≡ from + 4 * k) × (out ≡ laid base k (λ i. number_at 4 (from + 4 * i) body) words₀)
  storing-end words at to left s e out f =
      let a : ℕ = k - left in
      let z : a + left ≡ k = omega (arith, s.few) in
      (omega (arith, f.0, s.place, s.few), f.1 ∙ moved ∙ laid_more base a left (λ i. number_at 4 (from + 4 * i) body) words₀ ∙ ap (λ (j : ℕ). laid base j (λ i. number_at 4 (from + 4 * i) body) words₀) z)
    where
      moved : laid to left (λ i. number_at 4 (at + 4 * i) body) words
          ≡ laid (base + (k - left)) left (λ i. number_at 4 (from + 4 * (k - left + i)) body) (laid base (k - left) (λ i. number_at 4 (from + 4 * i) body) words₀)
      moved =
          laid_same to left _ _ words (λ i. ap (λ (x : ℕ). number_at 4 x body) (omega (arith, s.place)))
          ∙ ap₂ (λ (t : ℕ) (r : List ℕ). laid t left (λ i. number_at 4 (from + 4 * (k - left + i)) body) r) s.target s.stored

  -- they are there, and have room
  pub storing-room : (words : List ℕ) (at to left : ℕ) → Storing body from k words₀ base words at to left → from + 4 * k ≤ length body
      → base + k ≤ length words₀ → (at + 4 * left ≤ length body) × (to + left ≤ length words)
  storing-room words at to left s p q = (omega (arith, s.place, s.few, p), omega (arith, s.target, s.few, s.long, q))

-- words that all of a list's first k become
pub laid-all : (k : ℕ) (h : ℕ → ℕ) (l : List ℕ) → laid 0 k h l ≡ each_from 0 k (λ j w. h j) l
laid-all k h l =
    ap (laid 0 k h) (sym (each-id 0 k l))
    ∙ laid_each k 0 k (λ j w. w) (λ j w. h j) h l (omega arith) (λ i w p. ap h (omega arith)) (λ m w p s. none m w p s)
  where
    none : (m w : ℕ) → m < k → (m < 0) ⊎ (0 + k ≤ m) → h m ≡ w
    none m w p (inl a) = absurd (omega arith)
    none m w p (inr a) = absurd (omega arith)

-- ---- the objects in turn

-- the change g to those up to x
abbrev pub up_to : ℕ → (ℕ → ℕ → ℕ) → ℕ → ℕ → ℕ
up_to x g z w = cond (leb z x) (g z w) w

-- the change g to those before place p
abbrev pub before : ℕ → (ℕ → ℕ → ℕ) → ℕ → ℕ → ℕ
before p g j w = cond (ltb j p) (g j w) w

-- the objects before place `at` are laid
pub record Laying (n : ℕ) (body recs₀ slots₀ recs slots : List ℕ) (at : ℕ) : Type 0 where
  pub last : ℕ
  pub most : last ≤ n
  pub reached : Reached body last at
  pub records-are : recs ≡ each_from 1 n (up_to last (record_or body)) recs₀
  pub slots-are : slots ≡ each_from 0 (slots_len n) (before (8 * last) (slot_or body)) slots₀

module _ (n : ℕ) (body recs₀ slots₀ : List ℕ) where
  pub laying-start : Laying n body recs₀ slots₀ recs₀ slots₀ 0
  laying-start =
      record {
        last = 0;
        most = omega arith;
        reached = start body;
        records-are =
            sym (each_same 1 n (up_to 0 (record_or body)) (λ z w. w) recs₀ (λ z w a b. ap (λ (t : Bool). cond t (record_or body z w) w) (lt-leb z 0 (omega arith)))
            ∙ each-id 1 n recs₀);
        slots-are =
            sym (each_same 0 (slots_len n) (before (8 * 0) (slot_or body)) (λ j w. w) slots₀ (λ j w a b. ap (λ (t : Bool). cond t (slot_or body j w) w) (le-ltb j (8 * 0) (omega arith)))
            ∙ each-id 0 (slots_len n) slots₀);
      }

  module _ (recs slots : List ℕ) (at : ℕ) (s : Laying n body recs₀ slots₀ recs slots at) where
    pub laying-records : length recs ≡ length recs₀
    laying-records = ap length s.records-are ∙ length-each 1 n (up_to s.last (record_or body)) recs₀

    pub laying-slots : length slots ≡ length slots₀
    laying-slots = ap length s.slots-are ∙ length-each 0 (slots_len n) (before (8 * s.last) (slot_or body)) slots₀

    module _ (ok : shape_ok n body ≡ true) (more : at < length body) where
      pub laying-fit : Fit n body s.last at
      laying-fit = fits body s.last at s.reached n ok s.most more

      abbrev x : ℕ
      x = s.last

      abbrev y : ℕ
      y = number_of body at

      here : Entry body x at
      here = entry body x at s.reached laying-fit.head laying-fit.above

      -- its record
      record-here : (w : ℕ) → record_or body y w ≡ with_sink (eqb (sink_at body at) 1) (new_record (width_at body at))
      unfolding record_or saved_sink saved_width
      record-here w = rw (here.listed_here, here.from-here, get_or-drop at body 2 0, get_or-drop at body 3 0) refl

      skipped-record : (z w : ℕ) → x < z → z < y → record_or body z w ≡ w
      unfolding record_or
      skipped-record z w p q = rw (here.skipped z p q) refl

      records-next : (v : ℕ) → v ≡ with_sink (eqb (sink_at body at) 1) (new_record (width_at body at))
          → set recs (y - 1) v ≡ each_from 1 n (up_to y (record_or body)) recs₀
      records-next v e =
          ap (λ (l : List ℕ). set l (y - 1) v) s.records-are
          ∙ each-put 1 n (up_to x (record_or body)) (up_to y (record_or body)) recs₀ (y - 1) v (let a = laying-fit.above in let b = laying-fit.most in omega arith) same other
        where
          same : (w : ℕ) → up_to y (record_or body) (1 + (y - 1)) w ≡ v
          same w =
              let z : 1 + (y - 1) ≡ y = let a = laying-fit.above in omega arith in
              ap (λ (u : ℕ). up_to y (record_or body) u w) z
              ∙ ap (λ (t : Bool). cond t (record_or body y w) w) (le-leb y y (omega arith))
              ∙ record-here w
              ∙ sym e

          other : (m w : ℕ) → 1 ≤ m → m < 1 + n → m ≢ 1 + (y - 1) → up_to y (record_or body) m w ≡ up_to x (record_or body) m w
          other m w p q d = go (dec_le m x) (dec_le m y)
            where
              go : Dec (m ≤ x) → Dec (m ≤ y) → up_to y (record_or body) m w ≡ up_to x (record_or body) m w
              go (yes a) b = rw (le-leb m x a, le-leb m y (let c = laying-fit.above in omega arith)) refl
              go (no a) (yes b) =
                  rw (lt-leb m x (omega (arith, a)), le-leb m y b) (skipped-record m w (omega (arith, a)) (let c = laying-fit.above in omega (arith, d)))
              go (no a) (no b) = rw (lt-leb m x (omega (arith, a)), lt-leb m y (omega (arith, b))) refl

      -- its slots
      abbrev base : ℕ
      base = 8 * (y - 1)

      width-here : saved_width body y ≡ width_at body at
      unfolding saved_width
      width-here = ap (λ (b : List ℕ). get_or b 2 0) here.from-here ∙ get_or-drop at body 2 0

      -- slot j, of object z
      slot_of : (j z w : ℕ) → j / 8 + 1 ≡ z → listed body z && ltb (j % 8) (saved_width body z) ≡ false → slot_or body j w ≡ w
      unfolding slot_or
      slot_of j z w e f = rw (e, f) refl

      slot-here : (i w : ℕ) → i < width_at body at → slot_or body (base + i) w ≡ number_at 4 ((at + head_len) + 4 * i) body
      unfolding slot_or saved_word
      slot-here i w p =
          let a = laying-fit.above in
          let b = laying-fit.wide in
          let d : (base + i) / 8 + 1 ≡ y = omega arith in
          let m : (base + i) % 8 ≡ i = omega arith in
          rw (d, m, here.listed_here, width-here, lt-ltb i (width_at body at) p)
          (ap (number_at 4 (head_len + 4 * i)) here.from-here ∙ number-drop 4 (head_len + 4 * i) at body ∙ ap (λ (k : ℕ). number_at 4 k body) (omega arith))

      slots_next : (h : ℕ → ℕ) → ((i : ℕ) → h i ≡ number_at 4 ((at + head_len) + 4 * i) body)
          → laid base (width_at body at) h slots ≡ each_from 0 (slots_len n) (before (8 * y) (slot_or body)) slots₀
      unfolding slots_len
      slots_next h e =
          ap (laid base (width_at body at) h) s.slots-are
          ∙ laid_each (slots_len n) base (width_at body at) (before (8 * x) (slot_or body)) (before (8 * y) (slot_or body)) h slots₀
          (let a = laying-fit.above in let b = laying-fit.most in let c = laying-fit.wide in omega arith)
          same other
        where
          same : (i w : ℕ) → i < width_at body at → before (8 * y) (slot_or body) (base + i) w ≡ h i
          same i w p =
              let a = laying-fit.above in
              let b = laying-fit.wide in
              ap (λ (t : Bool). cond t (slot_or body (base + i) w) w) (lt-ltb (base + i) (8 * y) (omega arith)) ∙ slot-here i w p ∙ sym (e i)

          -- a slot between those of x and those of y, or behind those that y uses
          quiet : (m : ℕ) → 8 * x ≤ m → m < 8 * y → (m < base) ⊎ (base + width_at body at ≤ m)
              → listed body (m / 8 + 1) && ltb (m % 8) (saved_width body (m / 8 + 1)) ≡ false
          quiet m p q (inl a) = rw (here.skipped (m / 8 + 1) (omega arith) (let c = laying-fit.above in omega arith)) refl
          quiet m p q (inr a) =
              let c = laying-fit.above in
              let d : m / 8 + 1 ≡ y = omega arith in
              rw (d, width-here, le-ltb (m % 8) (width_at body at) (omega arith)) (and-false (listed body y))

          other : (m w : ℕ) → m < slots_len n → (m < base) ⊎ (base + width_at body at ≤ m) → before (8 * y) (slot_or body) m w ≡ before (8 * x) (slot_or body) m w
          other m w p o = go (dec_lt m (8 * x)) (dec_lt m (8 * y))
            where
              go : Dec (m < 8 * x) → Dec (m < 8 * y) → before (8 * y) (slot_or body) m w ≡ before (8 * x) (slot_or body) m w
              go (yes a) b = rw (lt-ltb m (8 * x) a, lt-ltb m (8 * y) (let c = laying-fit.above in omega arith)) refl
              go (no a) (yes b) =
                  rw (le-ltb m (8 * x) (omega (arith, a)), lt-ltb m (8 * y) b) (slot_of m (m / 8 + 1) w refl (quiet m (omega (arith, a)) b o))
              go (no a) (no b) = rw (le-ltb m (8 * x) (omega (arith, a)), le-ltb m (8 * y) (omega (arith, b))) refl

      pub laying-turn : (i v k : ℕ) (recs' slots' : List ℕ) → i ≡ y - 1 → v ≡ with_sink (eqb (sink_at body at) 1) (new_record (width_at body at)) → recs' ≡ set recs i v
          → k ≡ width_at body at → slots' ≡ laid (8 * i) k (λ j. number_at 4 (at + 4 + 4 * j) body) slots
          → Laying n body recs₀ slots₀ recs' slots' (at + (4 + 4 * k))
      laying-turn i v k recs' slots' e f g h j =
          record {
            last = y;
            most = laying-fit.most;
            reached = rw h (fit-reached body x at s.reached n laying-fit);
            records-are = rw (g, e) (records-next v f);
            slots-are = rw (j, e, h) (slots_next (λ j. number_at 4 (at + 4 + 4 * j) body) (λ i. refl));
          }

    -- behind the last object
    module _ (over : length body ≤ at) where
      none : (z : ℕ) → s.last < z → listed body z ≡ false
      none z p = unlisted body s.last z (λ v a b. ended body s.last at s.reached over v) z p (omega arith)

      pub laid-records : recs ≡ each_record n (record_or body) recs₀
      unfolding each_record record_or
      laid-records = s.records-are ∙ each_same 1 n (up_to s.last (record_or body)) (record_or body) recs₀ (λ z w a b. go z w (dec_le z s.last))
        where
          go : (z w : ℕ) → Dec (z ≤ s.last) → up_to s.last (record_or body) z w ≡ record_or body z w
          go z w (yes a) = rw (le-leb z s.last a) refl
          go z w (no a) = rw (lt-leb z s.last (omega (arith, a)), none z (omega (arith, a))) refl

      pub laid-slots : slots ≡ each_from 0 (slots_len n) (slot_or body) slots₀
      unfolding slot_or
      laid-slots = s.slots-are ∙ each_same 0 (slots_len n) (before (8 * s.last) (slot_or body)) (slot_or body) slots₀ (λ j w a b. go j w (dec_lt j (8 * s.last)))
        where
          go : (j w : ℕ) → Dec (j < 8 * s.last) → before (8 * s.last) (slot_or body) j w ≡ slot_or body j w
          go j w (yes a) = rw (lt-ltb j (8 * s.last) a) refl
          go j w (no a) = rw (le-ltb j (8 * s.last) (omega (arith, a)), none (j / 8 + 1) (omega (arith, a))) refl
