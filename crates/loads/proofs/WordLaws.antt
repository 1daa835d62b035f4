-- Words tested one by one, by the set of the listed numbers.
-- Assumes nothing.
use Prim.Native.Nat.{ℕ, zero, suc, ◌+◌, ◌-◌, ◌*◌, ◌/◌, ◌%◌, ◌^◌, ◌≤◌, ◌<◌}
use Rattle.std.specs.Prelude.{Option, Some, None}
use mathlib.Core.Path.{◌≡◌, refl, sym, ap, ap₂, ◌∙◌}
use mathlib.Core.Bool.{Bool, true, false, ◌&&◌, ◌||◌, true≢false}
use mathlib.Core.List.{List, [], ◌∷◌, map}
use native.Mathlib.Decide.{dec_le, ℕ_discrete}
use native.Mathlib.Omega.{arith}
use borrow.Author.Tests.{lt-ltb, eqb-false}
use lib.Dec.{eqb, leb}
use lib.ListN.{length, get_or}
use lib.Seq.{get_or-drop}
use Rattle.layout.specs.Word.{is_nil, is_pointer, is_immediate}
use Rattle.layout.proofs.LimitLaws.{in_within, above_within}
use Rattle.layout.proofs.WordLaws.{pointer-bound}
use Rattle.endian.specs.Bytes.{number_at}
use Rattle.bitmap.specs.Bits.{holds}
use Rattle.rules.specs.Buffers.{all_of, all_to, numbers}
use Rattle.rules.specs.Image.{head_len, listed, saved_width, saved_word, saved_words, saved_root, names_listed, words_ok, objects_ok, roots_ok}
use Rattle.rules.proofs.ListLaws.{all_to-at, all_to-all, same_numbers}
use Rattle.rules.proofs.BoolLaws.{is_false, or_split}
use Rattle.loads.specs.Bodies.{shape_ok, Reached, number_of, width_at, entry_end, Fit, Listed, passes, words_at, four_pass, words_end, roots_pass, Checked}
use Rattle.loads.proofs.PlaceLaws.{number-drop}
use Rattle.loads.proofs.EntryLaws.{Entry, entry, fits, fit-reached, unlisted, ended, start}

-- ---- one word

module _ (i : Bool) (n : ℕ) (words : List ℕ) (w : ℕ) where
  -- nil, or an immediate where these may stand
  abbrev plain : Bool
  plain = eqb w 0 || (i && leb (2 ^ 31) w)

  module _ (f : w < 2 ^ 32) where
    -- the first two tests and the third
    as_plain : passes i n words w ≡ plain || (is_pointer n w && holds w words)
    unfolding passes is_nil is_immediate
    as_plain = rw (lt-ltb w (2 ^ 32) f) (ap (λ (b : Bool). (eqb w 0 || (i && b)) || (is_pointer n w && holds w words)) (go (leb (2 ^ 31) w)))
      where
        go : (b : Bool) → b && true ≡ b
        go true = refl
        go false = refl

    pub pass-plain : plain ≡ true → true ≡ passes i n words w
    pass-plain e = sym (as_plain ∙ rw e refl)

    module _ (e : plain ≡ false) where
      pub pass-above : n < w → false ≡ passes i n words w
      unfolding is_pointer
      pass-above p = sym (as_plain ∙ rw (e, above_within 1 n w p) refl)

      pub pass-number : w ≤ n → holds w words ≡ passes i n words w
      unfolding is_pointer
      pass-number p =
          let d = eqb-false w 0 (or_split (eqb w 0) (i && leb (2 ^ 31) w) e).0 in
          sym (as_plain ∙ rw (e, in_within 1 n w (omega (arith, d)) p) refl)

-- ---- words in turn

module _ (t : ℕ → Bool) (f : ℕ → ℕ) (i k : ℕ) where
  abbrev rest : ℕ → Bool
  rest j = all_of t (map f (numbers j (k - j)))

  pub all-stop : i < k → t (f i) ≡ false → rest i ≡ false
  unfolding all_of numbers
  all-stop p e = let s : k - i ≡ suc (k - suc i) = omega arith in rw (s, e) refl

  pub all-turn : i < k → t (f i) ≡ true → rest (i + 1) ≡ rest i
  unfolding all_of numbers
  all-turn p e =
      let s : k - i ≡ suc (k - suc i) = omega arith in
      let o : i + 1 ≡ suc i = omega arith in
      rw (o, s, e) refl

  pub all_end : k ≤ i → rest i ≡ true
  unfolding all_of numbers
  all_end p = let z : k - i ≡ 0 = omega arith in rw z refl

pub all_start : (t : ℕ → Bool) (at k : ℕ) (body : List ℕ)
    → all_of t (map (λ i. number_at 4 (at + 4 * i) body) (numbers 0 (k - 0))) ≡ all_of t (words_at at k body)
unfolding words_at
all_start t at k body =
    let z : k - 0 ≡ k = omega arith in
    ap (λ (j : ℕ). all_of t (map (λ i. number_at 4 (at + 4 * i) body) (numbers 0 j))) z

-- ---- word after word

-- the first i words pass, and the others decide
pub record Testing (t : ℕ → Bool) (from k : ℕ) (body : List ℕ) (at i : ℕ) : Type 0 where
  pub place : at ≡ from + 4 * i
  pub rest : all_of t (map (λ j. number_at 4 (from + 4 * j) body) (numbers i (k - i))) ≡ all_of t (words_at from k body)

module _ (t : ℕ → Bool) (from k : ℕ) (body : List ℕ) where
  abbrev word : ℕ → ℕ
  word i = number_at 4 (from + 4 * i) body

  pub testing-start : Testing t from k body from 0
  testing-start = record { place = omega arith; rest = all_start t from k body }

  module _ (at i : ℕ) (s : Testing t from k body at i) where
    word-here : (b : Bool) → t (number_at 4 at body) ≡ b → t (word i) ≡ b
    word-here b e = ap (λ (a : ℕ). t (number_at 4 a body)) (sym s.place) ∙ e

    pub testing-stop : i < k → t (number_at 4 at body) ≡ false → None ≡ words_end from k (all_of t (words_at from k body))
    testing-stop p e = let no = sym s.rest ∙ all-stop t word i k p (word-here false e) in rw no refl

    pub testing-turn : i < k → t (number_at 4 at body) ≡ true → Testing t from k body (at + 4) (i + 1)
    testing-turn p e = record { place = omega (arith, s.place); rest = all-turn t word i k p (word-here true e) ∙ s.rest }

    pub testing-end : i ≤ k → k ≤ i → Some at ≡ words_end from k (all_of t (words_at from k body))
    testing-end p q =
        let yes = sym s.rest ∙ all_end t word i k q in
        let z : at ≡ from + 4 * k = omega (arith, s.place) in
        rw (yes, z) refl

-- ---- the first four of k words, and the others

shift : (f : ℕ → ℕ) (a k : ℕ) → map f (numbers (suc a) k) ≡ map (λ i. f (suc i)) (numbers a k)
unfolding numbers
shift f a zero = refl
shift f a (suc k) = ap (λ (l : List ℕ). f (suc a) ∷ l) (shift f (suc a) k)

module _ (t : ℕ → Bool) (from : ℕ) (body : List ℕ) where
  past-four : (k : ℕ) → map (λ i. number_at 4 (from + 4 * i) body) (numbers 4 k) ≡ words_at (from + 16) k body
  unfolding words_at
  past-four k =
      shift (λ i. number_at 4 (from + 4 * i) body) 3 k ∙ shift (λ i. number_at 4 (from + 4 * suc i) body) 2 k
      ∙ shift (λ i. number_at 4 (from + 4 * suc (suc i)) body) 1 k ∙ shift (λ i. number_at 4 (from + 4 * suc (suc (suc i))) body) 0 k
      ∙ same_numbers _ _ 0 k (λ i p q. ap (λ (a : ℕ). number_at 4 a body) (let e : from + 4 * suc (suc (suc (suc i))) ≡ from + 16 + 4 * i = omega arith in e))

  joined : (a b c d r : Bool) → a && (b && (c && (d && r))) ≡ (a && b && c && d) && r
  joined true true true d r = refl
  joined true true false d r = refl
  joined true false c d r = refl
  joined false b c d r = refl

  by-four : (j : ℕ) → all_of t (words_at from (suc (suc (suc (suc j)))) body) ≡ four_pass t from body && all_of t (words_at (from + 16) j body)
  unfolding four_pass words_at all_of numbers
  by-four j =
      let z : from + 0 ≡ from = omega arith in
      rw (z, past-four j)
      (joined (t (number_at 4 from body)) (t (number_at 4 (from + 4) body)) (t (number_at 4 (from + 8) body)) (t (number_at 4 (from + 12) body)) (all_of t (words_at (from + 16) j body)))

  pub four-first : (k : ℕ) → 4 ≤ k → all_of t (words_at from k body) ≡ four_pass t from body && all_of t (words_at (from + 16) (k - 4) body)
  four-first k p =
      let e : k ≡ suc (suc (suc (suc (k - 4)))) = omega arith in
      ap (λ (m : ℕ). all_of t (words_at from m body)) e ∙ by-four (k - 4)

-- the first i fours of words pass, and the others decide
pub record Halfway (t : ℕ → Bool) (from k : ℕ) (body : List ℕ) (at i : ℕ) : Type 0 where
  pub place : at ≡ from + 16 * i
  pub same : all_of t (words_at at (k - 4 * i) body) ≡ all_of t (words_at from k body)

module _ (t : ℕ → Bool) (from k : ℕ) (body : List ℕ) where
  pub halfway-start : Halfway t from k body from 0
  halfway-start = let z : k - 4 * 0 ≡ k = omega arith in record { place = omega arith; same = rw z refl }

  module _ (at i : ℕ) (s : Halfway t from k body at i) where
    first-four : i < k / 4 → (b : Bool) → four_pass t at body ≡ b
        → all_of t (words_at from k body) ≡ b && all_of t (words_at (at + 16) (k - 4 * i - 4) body)
    first-four p b e =
        sym s.same ∙ four-first t at body (k - 4 * i) (omega arith) ∙ ap (λ (c : Bool). c && all_of t (words_at (at + 16) (k - 4 * i - 4) body)) e

    pub halfway-stop : i < k / 4 → four_pass t at body ≡ false → None ≡ words_end from k (all_of t (words_at from k body))
    halfway-stop p e = let no = first-four p false e in rw no refl

    pub halfway-turn : i < k / 4 → four_pass t at body ≡ true → Halfway t from k body (at + 16) (i + 1)
    halfway-turn p e =
        let z : k - 4 * (i + 1) ≡ k - 4 * i - 4 = omega arith in
        record { place = omega (arith, s.place); same = rw z (sym (first-four p true e)) }

    pub halfway-end : i ≤ k / 4 → k / 4 ≤ i → (e : Option ℕ) → e ≡ words_end at (k % 4) (all_of t (words_at at (k % 4) body))
        → e ≡ words_end from k (all_of t (words_at from k body))
    halfway-end p q e w =
        let z : k - 4 * i ≡ k % 4 = omega arith in
        let y : at + 4 * (k % 4) ≡ from + 4 * k = omega (arith, s.place) in
        w ∙ rw (y, rw z at s.same) refl

-- ---- the place behind the words

pub end-some : (from k e : ℕ) (all : Bool) → Some e ≡ words_end from k all → (all ≡ true) × (e ≡ from + 4 * k)
end-some from k e true w = (refl, cc)
end-some from k e false w = absurd (cc)

pub end-none : (from k : ℕ) (all : Bool) → None ≡ words_end from k all → all ≡ false
end-none from k true w = absurd (cc)
end-none from k false w = refl

all_of-same : (t u : ℕ → Bool) (l : List ℕ) → ((w : ℕ) → t w ≡ u w) → all_of t l ≡ all_of u l
unfolding all_of
all_of-same t u [] h = refl
all_of-same t u (w ∷ l) h = ap₂ ◌&&◌ (h w) (all_of-same t u l h)

-- ---- by the set

module _ (n : ℕ) (body words : List ℕ) (has : Listed n body words) where
  named : (w : ℕ) → is_pointer n w && holds w words ≡ names_listed body n w
  unfolding names_listed
  named w = go (is_pointer n w) refl
    where
      go : (b : Bool) → is_pointer n w ≡ b → b && holds w words ≡ b && listed body w
      go true e = has w (pointer-bound n w e)
      go false e = refl

  pub slot-word : (w : ℕ) → (is_nil w || is_immediate w || names_listed body n w) ≡ passes true n words w
  unfolding passes
  slot-word w = ap (λ (b : Bool). is_nil w || is_immediate w || b) (sym (named w))

  root-word : (w : ℕ) → (is_nil w || names_listed body n w) ≡ passes false n words w
  unfolding passes
  root-word w = go (is_nil w) ∙ ap (λ (b : Bool). (is_nil w || false) || b) (sym (named w))
    where
      go : (b : Bool) → (b || names_listed body n w) ≡ (b || false) || names_listed body n w
      go true = refl
      go false = refl

  -- the roots
  pub roots-pass : (r : ℕ) (roots : List ℕ) → roots_ok n r body roots ≡ roots_pass n r words roots
  unfolding roots_ok roots_pass saved_root words_at
  roots-pass r roots =
      ap (λ (b : Bool). eqb (length roots) (4 * r) && b)
      (all_of-same (λ w. is_nil w || names_listed body n w) (passes false n words) _ root-word
      ∙ ap (all_of (passes false n words))
      (same_numbers (λ j. number_at 4 (4 * j) roots) (λ j. number_at 4 (0 + 4 * j) roots) 0 r (λ j p q. ap (λ (a : ℕ). number_at 4 a roots) (omega arith))))

  -- ---- the objects in turn

  module _ (x at : ℕ) (r : Reached body x at) (f : Fit n body x at) where
    abbrev y : ℕ
    y = number_of body at

    pub words-here : words_ok body n y ≡ all_of (passes true n words) (words_at (at + head_len) (width_at body at) body)
    unfolding words_ok saved_words saved_width saved_word words_at
    words-here =
        let e = entry body x at r f.head f.above in
        let w : saved_width body y ≡ width_at body at = ap (λ (b : List ℕ). get_or b 2 0) e.from-here ∙ get_or-drop at body 2 0 in
        rw e.listed_here
        (all_of-same (λ w. is_nil w || is_immediate w || names_listed body n w) (passes true n words) (saved_words body y) slot-word
        ∙ ap (all_of (passes true n words))
        (ap (λ (k : ℕ). map (saved_word body y) (numbers 0 k)) w
        ∙ same_numbers (saved_word body y) (λ k. number_at 4 ((at + head_len) + 4 * k) body) 0 (width_at body at)
        (λ k p q. ap (number_at 4 (head_len + 4 * k)) e.from-here ∙ number-drop 4 (head_len + 4 * k) at body ∙ ap (λ (a : ℕ). number_at 4 a body) (omega arith))))

pub unlisted-words : (n : ℕ) (body : List ℕ) (z : ℕ) → listed body z ≡ false → words_ok body n z ≡ true
unfolding words_ok
unlisted-words n body z e = rw e refl

pub checked-start : (n : ℕ) (body : List ℕ) → Checked n body 0
unfolding listed
checked-start n body = record { last = 0; most = omega arith; reached = start body; legal = λ z p. unlisted-words n body z (first z p) }
  where
    first : (z : ℕ) → z ≤ 0 → listed body z ≡ false
    first zero p = refl
    first (suc z) p = absurd (omega arith)

module _ (n : ℕ) (body : List ℕ) (at : ℕ) (c : Checked n body at) where
  module _ (ok : shape_ok n body ≡ true) (more : at < length body) where
    pub checked-fit : Fit n body c.last at
    checked-fit = fits body c.last at c.reached n ok c.most more

    module _ (words : List ℕ) (has : Listed n body words) where
      here : words_ok body n (number_of body at) ≡ all_of (passes true n words) (words_at (at + head_len) (width_at body at) body)
      here = words-here n body words has c.last at c.reached checked-fit

      pub checked-turn : all_of (passes true n words) (words_at (at + head_len) (width_at body at) body) ≡ true → Checked n body (entry_end body at)
      checked-turn e =
          record {
            last = number_of body at;
            most = checked-fit.most;
            reached = fit-reached body c.last at c.reached n checked-fit;
            legal = λ z p. legal z p (dec_le z c.last) (ℕ_discrete z (number_of body at));
          }
        where
          k : Entry body c.last at
          k = entry body c.last at c.reached checked-fit.head checked-fit.above

          legal : (z : ℕ) → z ≤ number_of body at → Dec (z ≤ c.last) → Dec (z ≡ number_of body at) → words_ok body n z ≡ true
          legal z p (yes l) d = c.legal z l
          legal z p (no l) (yes q) = ap (words_ok body n) q ∙ here ∙ e
          legal z p (no l) (no q) = unlisted-words n body z (k.skipped z (omega (arith, l)) (omega (arith, q)))

      pub checked-stop : all_of (passes true n words) (words_at (at + head_len) (width_at body at) body) ≡ false → false ≡ all_to n (words_ok body n)
      checked-stop e =
          sym (is_false (all_to n (words_ok body n)) (λ a.
          true≢false (sym (all_to-at n (words_ok body n) a (number_of body at) (omega (arith, checked-fit.above)) checked-fit.most) ∙ here ∙ e)))

  pub checked-end : length body ≤ at → true ≡ all_to n (words_ok body n)
  checked-end over = sym (all_to-all n (words_ok body n) (λ z p q. legal z q (dec_le z c.last)))
    where
      legal : (z : ℕ) → z ≤ n → Dec (z ≤ c.last) → words_ok body n z ≡ true
      legal z q (yes l) = c.legal z l
      legal z q (no l) =
          unlisted-words n body z
          (unlisted body c.last n (λ v a b. ended body c.last at c.reached over v) z (omega (arith, l)) q)

-- the two tests of the objects
pub objects-are : (n : ℕ) (body : List ℕ) (a b : Bool) → a ≡ shape_ok n body → b ≡ all_to n (words_ok body n) → a && b ≡ objects_ok body n
unfolding objects_ok shape_ok
objects-are n body a b e f = rw (e, f) refl
