-- The sinks of an image as a set: how many they are, and a list of sinks that takes its numbers out of the set.
-- Assumes nothing.
use Prim.Native.Nat.{ℕ, zero, suc, ◌+◌, ◌-◌, ◌*◌, ◌/◌, ◌%◌, ◌≤◌, ◌<◌}
use mathlib.Core.Path.{◌≡◌, refl, sym, ap, ap₂, ◌∙◌, fun_ext}
use mathlib.Core.Bool.{Bool, true, false, not, cond, ◌&&◌, ◌||◌, and-true, and-false, true≢false, false≢true}
use mathlib.Core.List.Memᴰ
use mathlib.Core.List.{List, [], ◌∷◌, ◌++◌, map, Memᴰ}
use mathlib.Core.Logic.{◌≢◌}
use native.Mathlib.Nat.{add-zero, mod-lt}
use native.Mathlib.Decide.{dec_le, dec_lt, ℕ_discrete}
use native.Mathlib.Omega.{arith}
use borrow.Author.Tests.{eq-eqb, ne_eqb, eqb-true, eqb-false, le-leb, lt-leb, leb-true, lt-ltb, le-ltb, not-true, not-false}
use lib.Dec.{eqb, leb}
use lib.Pow.{pow_pos}
use lib.ListN.{length, get_or, take, length-set}
use lib.Seq.{take_all, get_or-set_same, get_or-set_other}
use Rattle.layout.specs.Field.{field, flag, put_flag}
use Rattle.layout.specs.Limits.{object_max, sink_max, map_len}
use Rattle.layout.proofs.FieldLaws.{flag-put-same, flag-put-other}
use Rattle.endian.specs.Bytes.{number_at}
use Rattle.bitmap.specs.Bits.{map_max, holds, cons_if, set_bits, numbers_in}
use Rattle.bitmap.proofs.BitLaws.{half-power, holds-past, passers, passers-add}
use Rattle.graph.specs.Numbers.{Obj, has, bit, count}
use Rattle.graph.proofs.NumberLaws.{sum_bump, count-ext, count_none, count-back}
use Rattle.rules.specs.Buffers.{numbers}
use Rattle.rules.specs.WellFormed.{once, lists}
use Rattle.rules.specs.Image.{listed, saved_as_sink, saved_list, sinks_ok, objects_ok}
use Rattle.rules.proofs.BoolLaws.{is_false, and_split, or_split}
use Rattle.rules.proofs.ListLaws.{length-numbers}
use Rattle.rules.proofs.MapLaws.{count_past, length-passers}
use Rattle.rules.proofs.ListedLaws.{Lists, lists-facts, facts-lists, listed-count, pointers-same, has-not, once_more, once-rest, once-other}
use Rattle.loads.specs.Bodies.{shape_ok, objects_pass, Sunk, Empty, NoZero, take_bit}

-- ---- how many numbers a set has

-- the set bits of a word are the numbers that pass a test that says of each bit whether it is set
bits-passers : (t : ℕ → Bool) (k w b : ℕ) → ((j : ℕ) → j < k → flag j w ≡ t (b + j)) → set_bits k w b ≡ passers t b k
unfolding flag field set_bits passers
bits-passers t zero w b h = refl
bits-passers t (suc k) w b h =
    let one : w / 1 ≡ w = omega arith in
    let low : eqb (w % 2) 1 ≡ t b = rw (one, add-zero b) at (h 0 (omega arith)) in
    digits (w % 2) (t b) refl low (bits-passers t k (w / 2) (suc b) upper)
  where
    upper : (j : ℕ) → j < k → flag j (w / 2) ≡ t (suc b + j)
    upper j p = let e : b + suc j ≡ suc b + j = omega arith in rw (half-power w j, e) at (h (suc j) (omega arith))

    digits : (d : ℕ) (u : Bool) → w % 2 ≡ d → eqb d 1 ≡ u → set_bits k (w / 2) (suc b) ≡ passers t (suc b) k
        → cons_if d b (set_bits k (w / 2) (suc b)) ≡ cond u (b ∷ passers t (suc b) k) (passers t (suc b) k)
    digits zero u e q r = rw (sym q) r
    digits (suc zero) u e q r = rw (sym q) (ap (λ (l : List ℕ). b ∷ l) r)
    digits (suc (suc d)) u e q r = absurd (omega (arith, mod-lt w (pow_pos 1)))

words-passers : (t : ℕ → Bool) (ws : List ℕ) (j : ℕ) → ((i k : ℕ) → i < length ws → k < 64 → flag k (get_or ws i 0) ≡ t (64 * (j + i) + k))
    → numbers_in (64 * j) ws ≡ passers t (64 * j) (64 * length ws)
unfolding numbers_in passers
words-passers t [] j h = refl
words-passers t (w ∷ ws) j h =
    let next : 64 * j + 64 ≡ 64 * suc j = omega arith in
    let size : 64 * suc (length ws) ≡ 64 + 64 * length ws = omega arith in
    ap₂ (λ (a b : List ℕ). a ++ b)
    (bits-passers t 64 w (64 * j) (λ k p. h 0 k (omega arith) p ∙ ap (λ (m : ℕ). t (64 * m + k)) (add-zero j)))
    (ap (λ (b : ℕ). numbers_in b ws) next
    ∙ words-passers t ws (suc j) (λ i k p q. h (suc i) k (omega arith) q ∙ ap (λ (m : ℕ). t (64 * m + k)) (omega arith))
    ∙ ap (λ (b : ℕ). passers t b (64 * length ws)) (sym next))
    ∙ sym (passers-add t 64 (64 * length ws) (64 * j)) ∙ ap (passers t (64 * j)) (sym size)

-- how many numbers a set has
abbrev pub size : List ℕ → ℕ
size words = count object_max (λ z. holds z words)

pub ones-size : (words : List ℕ) → NoZero words → length (numbers_in 0 (take map_max words)) ≡ size words
unfolding map_len
ones-size words z =
    ap (λ (l : List ℕ). length (numbers_in 0 l)) (take_all 64 words (omega (arith, z.0)))
    ∙ ap length (words-passers (λ y. holds y words) words 0 bits)
    ∙ ap (λ (k : ℕ). length (passers (λ y. holds y words) 0 (64 * k))) z.0
    ∙ length-passers (λ y. holds y words) object_max
    ∙ ap (λ (b : Bool). bit b + size words) z.1
    ∙ omega arith
  where
    bits : (i k : ℕ) → i < length words → k < 64 → flag k (get_or words i 0) ≡ holds (64 * (0 + i) + k) words
    bits i k p q =
        let a : (64 * (0 + i) + k) % 64 ≡ k = omega arith in
        let b : (64 * (0 + i) + k) / 64 ≡ i = omega arith in
        rw (a, b) refl

module _ (n : ℕ) (body words : List ℕ) (s : Sunk n body words) where
  pub sunk-zero : NoZero words
  unfolding saved_as_sink listed
  sunk-zero = (s.0, s.1 0 ∙ and-false (leb 0 n))

  sunk-size : n ≤ object_max → size words ≡ count n (saved_as_sink body)
  sunk-size l =
      let e : object_max ≡ object_max - n + n = omega arith in
      ap (λ (m : ℕ). count m (λ z. holds z words)) e
      ∙ count_past (λ z. holds z words) n (object_max - n) (λ z p. s.1 z ∙ ap (λ (b : Bool). b && saved_as_sink body z) (lt-leb z n p))
      ∙ count-ext n (λ z. holds z words) (saved_as_sink body) (λ z o. s.1 z ∙ ap (λ (b : Bool). b && saved_as_sink body z) (le-leb z n o.1))

  -- the test of their number
  module _ (l : n ≤ object_max) (k : ℕ) (is : k ≡ length (numbers_in 0 (take map_max words))) where
    pub many-sinks : sink_max < k → false ≡ objects_pass n body
    unfolding objects_pass
    many-sinks p =
        sym (rw (lt-ltb sink_max (count n (saved_as_sink body)) (omega (arith, p, is, ones-size words sunk-zero, sunk-size l))) (and-false (objects_ok body n)))

    pub few-sinks : k ≤ sink_max → (b : Bool) → b ≡ objects_ok body n → b ≡ objects_pass n body
    unfolding objects_pass
    few-sinks p b e =
        e ∙ sym (rw (le-ltb sink_max (count n (saved_as_sink body)) (omega (arith, p, is, ones-size words sunk-zero, sunk-size l))) (and-true (objects_ok body n)))

-- the shape is tested first
pub bad-shape : (n : ℕ) (body : List ℕ) → shape_ok n body ≡ false → false ≡ objects_pass n body
unfolding objects_pass objects_ok shape_ok
bad-shape n body e = sym (rw e refl)

-- ---- one number taken out of a set

module _ (words : List ℕ) (x : ℕ) (inside : x / 64 < length words) where
  abbrev old : ℕ
  old = get_or words (x / 64) 0

  abbrev new : ℕ
  new = put_flag (x % 64) false old

  take-holds : (z : ℕ) → holds z (take_bit x words) ≡ (holds z words && not (eqb z x))
  take-holds z = go (ℕ_discrete z x) (ℕ_discrete (z / 64) (x / 64))
    where
      go : Dec (z ≡ x) → Dec (z / 64 ≡ x / 64) → holds z (take_bit x words) ≡ (holds z words && not (eqb z x))
      go (yes e) d =
          rw e
          (ap (flag (x % 64)) (get_or-set_same words (x / 64) new 0 inside) ∙ flag-put-same (x % 64) false old
          ∙ sym (ap (λ (b : Bool). holds x words && not b) (eq-eqb x x refl) ∙ and-false (holds x words)))
      go (no h) (yes e) =
          rw (ne_eqb z x h, and-true (holds z words), e)
          (ap (flag (z % 64)) (get_or-set_same words (x / 64) new 0 inside) ∙ flag-put-other (x % 64) false old (z % 64) (λ q. h (omega arith)))
      go (no h) (no e) =
          rw (ne_eqb z x h, and-true (holds z words))
          (ap (flag (z % 64)) (get_or-set_other words (x / 64) (z / 64) new 0 e))

-- ---- lists of the numbers of a set

same_bool : (a b : Bool) → (a ≡ true → b ≡ true) → (b ≡ true → a ≡ true) → a ≡ b
same_bool true b f g = sym (f refl)
same_bool false true f g = g refl
same_bool false false f g = refl

-- the list has each number of 1 to n that passes once, and no other
abbrev exact : ℕ → (ℕ → Bool) → List ℕ → Bool
exact n t l = not (has 0 l) && lists n t l

exact-facts : (n : ℕ) (t : ℕ → Bool) (l : List ℕ) → exact n t l ≡ true → (has 0 l ≡ false) × Lists n t l
exact-facts n t l e = let s = and_split (not (has 0 l)) (lists n t l) e in (not-true _ s.0, lists-facts n t l s.1)

facts-exact : (n : ℕ) (t : ℕ → Bool) (l : List ℕ) → has 0 l ≡ false → Lists n t l → exact n t l ≡ true
facts-exact n t l z f = rw z (facts-lists n t l f)

-- a body has them: its length says how many they are
module _ (n : ℕ) (t : ℕ → Bool) (body : List ℕ) where
  parts : sinks_ok n t body ≡ true → (length body ≢ 0) × (length body % 2 ≡ 0) × (exact n t (saved_list body) ≡ true)
  unfolding sinks_ok
  parts e =
      let s = and_split (not (eqb (length body) 0) && eqb (length body % 2) 0 && not (has 0 (saved_list body))) (lists n t (saved_list body)) e in
      let u = and_split (not (eqb (length body) 0) && eqb (length body % 2) 0) (not (has 0 (saved_list body))) s.0 in
      let v = and_split (not (eqb (length body) 0)) (eqb (length body % 2) 0) u.0 in
      (eqb-false (length body) 0 (not-true _ v.0), eqb-true (length body % 2) 0 v.1, rw u.1 s.1)

  pub list_length : length (saved_list body) ≡ length body / 2
  unfolding saved_list
  list_length = length-numbers (λ k. number_at 2 (2 * k) body) 0 (length body / 2)

  pub sinks-length : sinks_ok n t body ≡ true → length body ≡ 2 * count n t
  sinks-length e =
      let p = parts e in
      let x = exact-facts n t (saved_list body) p.2 in
      let c = listed-count n t (saved_list body) x.1 in
      let l = ap length (pointers-same (saved_list body) x.0) in
      omega (arith, c, l, list_length, p.1)

  pub sinks-some : sinks_ok n t body ≡ true → length body ≢ 0
  sinks-some e = (parts e).0

  -- an empty set has none
  pub sinks-none : ((z : ℕ) → t z ≡ false) → sinks_ok n t body ≡ false
  sinks-none h = is_false (sinks_ok n t body) (λ e. sinks-some e (omega (arith, sinks-length e, count_none n t (λ z o. h z))))

  -- the list decides
  whole-list : length body ≢ 0 → length body % 2 ≡ 0 → sinks_ok n t body ≡ exact n t (saved_list body)
  unfolding sinks_ok
  whole-list p q = rw (ne_eqb (length body) 0 p, eq-eqb (length body % 2) 0 q) refl

-- a set of numbers up to n is one of numbers up to m
pub sinks-bound : (n m : ℕ) (s t : ℕ → Bool) (body : List ℕ) → n ≤ m → ((z : ℕ) → s z ≡ (leb z n && t z)) → sinks_ok m s body ≡ sinks_ok n t body
unfolding sinks_ok
sinks-bound n m s t body p h =
    ap (λ (b : Bool). not (eqb (length body) 0) && eqb (length body % 2) 0 && not (has 0 (saved_list body)) && b)
    (same_bool (lists m s l) (lists n t l) (λ e. facts-lists n t l (down (lists-facts m s l e))) (λ e. facts-lists m s l (up (lists-facts n t l e))))
  where
    l : List ℕ
    l = saved_list body

    here : (z : ℕ) → s z ≡ true → (z ≤ n) × (t z ≡ true)
    here z e = let a = and_split (leb z n) (t z) (sym (h z) ∙ e) in (leb-true z n a.0, a.1)

    there : (z : ℕ) → z ≤ n → t z ≡ true → s z ≡ true
    there z q e = h z ∙ rw (le-leb z n q, e) refl

    down : Lists m s l → Lists n t l
    down f =
        record {
          from = λ y i d. (let a = f.from y i d in let b = here y a.1 in ((a.0.0, b.0), b.1));
          all = λ x o e. f.all x (o.0, (let q = o.1 in omega arith)) (there x o.1 e);
          single = f.single;
        }

    up : Lists n t l → Lists m s l
    up f =
        record {
          from = λ y i d. (let a = f.from y i d in ((a.0.0, (let q = a.0.1 in omega arith)), there y a.0.1 a.1));
          all = λ x o e. (let a = here x e in f.all x (o.0, a.0) a.1);
          single = f.single;
        }

-- ---- number after number

module _ (n : ℕ) (t : ℕ → Bool) (y : ℕ) (l : List ℕ) where
  -- a number that does not pass
  exact-stop : t y ≡ false → exact n t (y ∷ l) ≡ false
  unfolding has
  exact-stop e = is_false (exact n t (y ∷ l)) (λ q. no (exact-facts n t (y ∷ l) q))
    where
      no : (has 0 (y ∷ l) ≡ false) × Lists n t (y ∷ l) → ⊥
      no x =
          let d = eqb-false 0 y (or_split (eqb 0 y) (has 0 l) x.0).0 in
          false≢true (sym e ∙ (x.1.from y (Memᴰ.head refl) (λ q. d (sym q))).1)

  module _ (o : Obj n y) (e : t y ≡ true) where
    -- those that pass, but y
    abbrev others : ℕ → Bool
    others z = t z && not (eqb z y)

    positive : y ≢ 0
    positive q = omega (arith, o.0, q)

    same-has : has 0 (y ∷ l) ≡ has 0 l
    unfolding has
    same-has = rw (ne_eqb 0 y (λ q. positive (sym q))) refl

    away : (z : ℕ) → others z ≡ true → (t z ≡ true) × (z ≢ y)
    away z q = let a = and_split (t z) (not (eqb z y)) q in (a.0, eqb-false z y (not-true _ a.1))

    back : (z : ℕ) → t z ≡ true → z ≢ y → others z ≡ true
    back z q d = rw (q, ne_eqb z y d) refl

    rest : Lists n t (y ∷ l) → Lists n others l
    rest f =
        record {
          from = λ z i d. (let a = f.from z (Memᴰ.tail i) d in (a.0, back z a.1 (λ q. has-not y l (once-other y l f.single positive) (rw q at i))));
          all = λ x p q. tail x (away x q) (f.all x p (away x q).0);
          single = once-rest y l f.single;
        }
      where
        tail : (x : ℕ) → (t x ≡ true) × (x ≢ y) → Memᴰ x (y ∷ l) → Memᴰ x l
        tail x a (Memᴰ.head q) = absurd (a.1 q)
        tail x a (Memᴰ.tail i) = i

    more : Lists n others l → Lists n t (y ∷ l)
    more f =
        record {
          from = from;
          all = λ x p q. all x p q (ℕ_discrete x y);
          single = once_more y l (λ d i. (away y (f.from y i d).1).1 refl) f.single;
        }
      where
        from : (z : ℕ) → Memᴰ z (y ∷ l) → z ≢ 0 → Obj n z × (t z ≡ true)
        from z (Memᴰ.head q) d = rw q (o, e)
        from z (Memᴰ.tail i) d = let a = f.from z i d in (a.0, (away z a.1).0)

        all : (x : ℕ) → Obj n x → t x ≡ true → Dec (x ≡ y) → Memᴰ x (y ∷ l)
        all x p q (yes d) = Memᴰ.head d
        all x p q (no d) = Memᴰ.tail (f.all x p (back x q d))

    -- a number that passes; the others have to be in the rest
    exact-turn : exact n others l ≡ exact n t (y ∷ l)
    exact-turn =
        same_bool (exact n others l) (exact n t (y ∷ l))
        (λ q. (let x = exact-facts n others l q in facts-exact n t (y ∷ l) (same-has ∙ x.0) (more x.1)))
        (λ q. (let x = exact-facts n t (y ∷ l) q in facts-exact n others l (sym same-has ∙ x.0) (rest x.1)))

    fewer : count n t ≡ count n others + 1
    unfolding count
    fewer = sum_bump n y 1 (λ z. bit (others z)) (λ z. bit (t z)) o.0 o.1 (rw (e, eq-eqb y y refl) refl) (λ z d. rw (ne_eqb z y d, and-true (t z)) refl)

exact_none : (n : ℕ) (t : ℕ → Bool) → ((x : ℕ) → Obj n x → t x ≡ false) → exact n t [] ≡ true
exact_none n t h = facts-exact n t [] (unfold has in refl) (record { from = λ y i d. absurd (Memᴰ.not-nil i); all = λ x o e. absurd (true≢false (sym e ∙ h x o)); single = unfold once in refl })

-- ---- the numbers of a body in turn

-- so far all of them were in the set, and those left decide
pub record Taking (body words₀ words : List ℕ) (k turn : ℕ) : Type 0 where
  pub long : length body ≡ 2 * k
  pub zero : NoZero words
  pub same : exact object_max (λ z. holds z words) (map (λ k. number_at 2 (2 * k) body) (numbers turn (k - turn))) ≡ sinks_ok object_max (λ z. holds z words₀) body
  pub left : size words ≡ k - turn

module _ (body words₀ : List ℕ) (z : NoZero words₀) where
  -- a body of another length
  pub taking-no : (k : ℕ) → k ≡ length (numbers_in 0 (take map_max words₀)) → eqb k 0 || not (eqb (length body) (2 * k)) ≡ true
      → false ≡ sinks_ok object_max (λ y. holds y words₀) body
  taking-no k is e = sym (is_false _ (λ q. false≢true (sym (no q) ∙ e)))
    where
      no : sinks_ok object_max (λ y. holds y words₀) body ≡ true → eqb k 0 || not (eqb (length body) (2 * k)) ≡ false
      no q =
          let d = sinks-some object_max (λ y. holds y words₀) body q in
          let l : length body ≡ 2 * k = omega (arith, sinks-length object_max (λ y. holds y words₀) body q, is, ones-size words₀ z) in
          rw (ne_eqb k 0 (λ e. d (omega arith)), eq-eqb (length body) (2 * k) l) refl

  pub taking-start : (k : ℕ) → k ≡ length (numbers_in 0 (take map_max words₀)) → eqb k 0 || not (eqb (length body) (2 * k)) ≡ false → Taking body words₀ words₀ k 0
  unfolding saved_list
  taking-start k is e =
      let s = or_split (eqb k 0) (not (eqb (length body) (2 * k))) e in
      let d = eqb-false k 0 s.0 in
      let l = eqb-true (length body) (2 * k) (not-false (eqb (length body) (2 * k)) s.1) in
      let m : k - 0 ≡ length body / 2 = omega arith in
      record {
        long = l;
        zero = z;
        same = rw m (sym (whole-list object_max (λ y. holds y words₀) body (λ e. d (omega arith)) (omega arith)));
        left = omega (arith, l, is, ones-size words₀ z);
      }

  module _ (words : List ℕ) (k i : ℕ) (s : Taking body words₀ words k i) where
    module _ (more : i < k) (x : ℕ) (is : x ≡ number_at 2 (2 * i) body) where
      abbrev later : List ℕ
      later = map (λ k. number_at 2 (2 * k) body) (numbers (suc i) (k - suc i))

      here : sinks_ok object_max (λ y. holds y words₀) body ≡ exact object_max (λ y. holds y words) (x ∷ later)
      unfolding numbers
      here =
          let e : k - i ≡ suc (k - suc i) = omega arith in
          sym s.same
          ∙ ap (λ (k : ℕ). exact object_max (λ y. holds y words) (map (λ k. number_at 2 (2 * k) body) (numbers i k))) e
          ∙ ap (λ (v : ℕ). exact object_max (λ y. holds y words) (v ∷ later)) (sym is)

      pub taking-stop : holds x words ≡ false → false ≡ sinks_ok object_max (λ y. holds y words₀) body
      taking-stop e = sym (here ∙ exact-stop object_max (λ y. holds y words) x later e)

      module _ (e : holds x words ≡ true) where
        pub taking-inside : x / 64 < length words
        taking-inside = go (dec_lt (x / 64) (length words))
          where
            go : Dec (x / 64 < length words) → x / 64 < length words
            go (yes l) = l
            go (no l) = absurd (false≢true (sym (holds-past x words (omega (arith, l))) ∙ e))

        object : Obj object_max x
        object = (positive (ℕ_discrete x 0), omega (arith, taking-inside, s.zero.0))
          where
            positive : Dec (x ≡ 0) → 1 ≤ x
            positive (yes q) = absurd (false≢true (sym s.zero.1 ∙ ap (λ (y : ℕ). holds y words) (sym q) ∙ e))
            positive (no q) = omega (arith, q)

        pub taking-turn : Taking body words₀ (take_bit x words) k (i + 1)
        taking-turn =
            let f : (y : ℕ) → holds y (take_bit x words) ≡ (holds y words && not (eqb y x)) = take-holds words x taking-inside in
            let o : i + 1 ≡ suc i = omega arith in
            record {
              long = s.long;
              zero = (length-set words (x / 64) _ ∙ s.zero.0, f 0 ∙ ap (λ (b : Bool). b && not (eqb 0 x)) s.zero.1);
              same =
                  rw o (ap (λ (t : ℕ → Bool). exact object_max t later) (fun_ext f)
                  ∙ exact-turn object_max (λ y. holds y words) x later object e ∙ sym here);
              left =
                  let a = count-ext object_max (λ y. holds y (take_bit x words)) (λ y. holds y words && not (eqb y x)) (λ y o. f y) in
                  let b = fewer object_max (λ y. holds y words) x later object e in
                  omega (arith, a, b, s.left);
            }

    module _ (over : k ≤ i) where
      nothing : size words ≡ 0
      nothing = omega (arith, s.left)

      none : (x : ℕ) → Obj object_max x → holds x words ≡ false
      none x o = is_false (holds x words) (λ e. false≢true (count-back object_max (λ y. false) (λ y. holds y words) (λ y p q. absurd (false≢true q)) (omega (arith, nothing)) x o e))

      pub taking-ok : true ≡ sinks_ok object_max (λ y. holds y words₀) body
      taking-ok =
          let e : k - i ≡ 0 = omega arith in
          sym (sym s.same
          ∙ ap (λ (k : ℕ). exact object_max (λ y. holds y words) (map (λ k. number_at 2 (2 * k) body) (numbers i k))) e
          ∙ unfold numbers in exact_none object_max (λ y. holds y words) none)

      pub taking-empty : Empty words
      taking-empty = (s.zero.0, λ x. go x (ℕ_discrete x 0) (dec_le x object_max))
        where
          go : (x : ℕ) → Dec (x ≡ 0) → Dec (x ≤ object_max) → holds x words ≡ false
          go x (yes q) d = rw q s.zero.1
          go x (no q) (yes l) = none x (omega (arith, q), l)
          go x (no q) (no l) = holds-past x words (omega (arith, l, s.zero.0))
