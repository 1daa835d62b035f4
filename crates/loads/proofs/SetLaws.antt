-- Sets of numbers, a bit for each, while the objects are read: the listed ones, and the sinks among them.
-- Assumes nothing.
use Prim.Native.Nat.{ℕ, ◌≤◌, ◌<◌}
use mathlib.Core.Path.{◌≡◌, refl, sym, ap, ◌∙◌}
use mathlib.Core.Bool.{Bool, true, false, cond, ◌&&◌}
use mathlib.Core.List.{List}
use native.Mathlib.Decide.{dec_le, ℕ_discrete}
use native.Mathlib.Omega.{arith}
use borrow.Author.Tests.{eq-eqb, le-leb, lt-leb}
use lib.Dec.{eqb, leb}
use lib.ListN.{length}
use lib.Seq.{get_or-drop}
use Rattle.layout.specs.Limits.{object_max}
use Rattle.bitmap.specs.Bits.{holds, put_bit}
use Rattle.bitmap.proofs.BitLaws.{put_same, put_other, put-length}
use Rattle.rules.specs.Image.{left, listed, saved_sink, saved_as_sink, shaped}
use Rattle.rules.proofs.ListLaws.{all_to-all}
use Rattle.rules.proofs.BoolLaws.{is_false}
use Rattle.loads.specs.Bodies.{shape_ok, Reached, number_of, sink_at, entry_end, Fit, Listed, Sunk, Empty}
use Rattle.loads.proofs.EntryLaws.{Entry, unlisted, ended, fits, entry, fit-shaped, fit-reached, unlisted-shaped, all_left, start}

-- ---- numbers put into a set in their order

-- the set has exactly those up to x that pass a test
pub record Marking (t : ℕ → Bool) (words : List ℕ) (x : ℕ) : Type 0 where
  pub has : (z : ℕ) → z ≤ x → holds z words ≡ t z
  pub clear : (z : ℕ) → x < z → holds z words ≡ false
  pub long : length words ≡ 64

marking-start : (t : ℕ → Bool) (words : List ℕ) → t 0 ≡ false → Empty words → Marking t words 0
marking-start t words z e =
    record {
      has = λ y p. (let q : y ≡ 0 = omega arith in e.1 y ∙ sym (ap t q ∙ z));
      clear = λ y p. e.1 y;
      long = e.0;
    }

module _ (t : ℕ → Bool) (words : List ℕ) (x y : ℕ) (m : Marking t words x) (up : x < y) (skipped : (z : ℕ) → x < z → z < y → t z ≡ false) where
  -- the next number passes
  marking-put : y ≤ object_max → t y ≡ true → Marking t (put_bit y words) y
  marking-put small e =
      record {
        has = λ z p. has z p (dec_le z x) (ℕ_discrete z y);
        clear = λ z p. put_other words y z (λ q. omega arith) ∙ m.clear z (omega arith);
        long = put-length words y ∙ m.long;
      }
    where
      has : (z : ℕ) → z ≤ y → Dec (z ≤ x) → Dec (z ≡ y) → holds z (put_bit y words) ≡ t z
      has z p d (yes q) = rw q (put_same words y (omega (arith, m.long)) ∙ sym e)
      has z p (yes l) (no q) = put_other words y z q ∙ m.has z l
      has z p (no l) (no q) = put_other words y z q ∙ m.clear z (omega (arith, l)) ∙ sym (skipped z (omega (arith, l)) (omega (arith, q)))

  -- it does not
  marking-stay : t y ≡ false → Marking t words y
  marking-stay e = record { has = λ z p. has z p (dec_le z x) (ℕ_discrete z y); clear = λ z p. m.clear z (omega arith); long = m.long }
    where
      has : (z : ℕ) → z ≤ y → Dec (z ≤ x) → Dec (z ≡ y) → holds z words ≡ t z
      has z p (yes l) d = m.has z l
      has z p (no l) (yes q) = m.clear z (omega (arith, l)) ∙ sym (ap t q ∙ e)
      has z p (no l) (no q) = m.clear z (omega (arith, l)) ∙ sym (skipped z (omega (arith, l)) (omega (arith, q)))

-- ---- the sinks of a body

pub unlisted-sink : (body : List ℕ) (z : ℕ) → listed body z ≡ false → saved_as_sink body z ≡ false
unfolding saved_as_sink
unlisted-sink body z e = rw e refl

-- the object at a place
pub sink-here : (body : List ℕ) (x at : ℕ) → Entry body x at → saved_as_sink body (number_of body at) ≡ eqb (sink_at body at) 1
unfolding saved_as_sink saved_sink
sink-here body x at e = rw (e.listed_here, e.from-here, get_or-drop at body 3 0) refl

-- ---- the objects read so far

-- up to object x all fit, the sets have those that are listed and those that are sinks, and place `at` is behind them
pub record Shaping (n : ℕ) (body words sinks : List ℕ) (x at : ℕ) : Type 0 where
  pub most : x ≤ n
  pub reached : Reached body x at
  pub good : (z : ℕ) → z ≤ x → shaped body z ≡ true
  pub all : Marking (listed body) words x
  pub sunk : Marking (saved_as_sink body) sinks x

pub shaping-start : (n : ℕ) (body words sinks : List ℕ) → Empty words → Empty sinks → Shaping n body words sinks 0 0
unfolding listed
shaping-start n body words sinks e f =
    record {
      most = omega arith;
      reached = start body;
      good = λ z p. (let q : z ≡ 0 = omega arith in unlisted-shaped body z (ap (listed body) q));
      all = marking-start (listed body) words refl e;
      sunk = marking-start (saved_as_sink body) sinks (unlisted-sink body 0 refl) f;
    }

module _ (n : ℕ) (body words sinks : List ℕ) (x at : ℕ) (s : Shaping n body words sinks x at) where
  abbrev y : ℕ
  y = number_of body at

  pub shaping-turn : n ≤ object_max → Fit n body x at → Shaping n body (put_bit y words) (cond (eqb (sink_at body at) 1) (put_bit y sinks) sinks) y (entry_end body at)
  shaping-turn small f =
      record {
        most = f.most;
        reached = fit-reached body x at s.reached n f;
        good = λ z p. good z p (dec_le z x) (ℕ_discrete z y);
        all = marking-put (listed body) words x y s.all f.above e.skipped (omega (arith, f.most)) e.listed_here;
        sunk = sunk (eqb (sink_at body at) 1) refl;
      }
    where
      e : Entry body x at
      e = entry body x at s.reached f.head f.above

      good : (z : ℕ) → z ≤ y → Dec (z ≤ x) → Dec (z ≡ y) → shaped body z ≡ true
      good z p (yes l) d = s.good z l
      good z p (no l) (yes q) = ap (shaped body) q ∙ fit-shaped body x at s.reached n f
      good z p (no l) (no q) = unlisted-shaped body z (e.skipped z (omega (arith, l)) (omega (arith, q)))

      none : (z : ℕ) → x < z → z < y → saved_as_sink body z ≡ false
      none z p q = unlisted-sink body z (e.skipped z p q)

      sunk : (b : Bool) → eqb (sink_at body at) 1 ≡ b → Marking (saved_as_sink body) (cond b (put_bit y sinks) sinks) y
      sunk true q = marking-put (saved_as_sink body) sinks x y s.sunk f.above none (omega (arith, f.most)) (sink-here body x at e ∙ q)
      sunk false q = marking-stay (saved_as_sink body) sinks x y s.sunk f.above none (sink-here body x at e ∙ q)

  -- an object that does not fit
  pub shaping-stop : at < length body → (Fit n body x at → ⊥) → false ≡ shape_ok n body
  shaping-stop more misfit = sym (is_false (shape_ok n body) (λ ok. misfit (fits body x at s.reached n ok s.most more)))

  module _ (over : length body ≤ at) where
    quiet : (z : ℕ) → x < z → z ≤ n → listed body z ≡ false
    quiet = unlisted body x n (λ z p q. ended body x at s.reached over z)

    -- all bytes are read
    pub shaping-ok : true ≡ shape_ok n body
    unfolding shape_ok
    shaping-ok =
        let z : length (left body n) ≡ 0 =
        all_left body x at s.reached n (λ z p q. ended body x at s.reached over z) s.most ∙ omega arith in
        sym (rw (all_to-all n (shaped body) (λ z p q. good z q (dec_le z x)), eq-eqb (length (left body n)) 0 z) refl)
      where
        good : (z : ℕ) → z ≤ n → Dec (z ≤ x) → shaped body z ≡ true
        good z q (yes l) = s.good z l
        good z q (no l) = unlisted-shaped body z (quiet z (omega (arith, l)) q)

    pub shaping-listed : Listed n body words
    shaping-listed z q = go (dec_le z x)
      where
        go : Dec (z ≤ x) → holds z words ≡ listed body z
        go (yes l) = s.all.has z l
        go (no l) = s.all.clear z (omega (arith, l)) ∙ sym (quiet z (omega (arith, l)) q)

    pub shaping-sunk : Sunk n body sinks
    shaping-sunk = (s.sunk.long, λ z. go z (dec_le z x) (dec_le z n))
      where
        go : (z : ℕ) → Dec (z ≤ x) → Dec (z ≤ n) → holds z sinks ≡ (leb z n && saved_as_sink body z)
        go z (yes l) d = rw (le-leb z n (omega (arith, s.most))) (s.sunk.has z l)
        go z (no l) (yes q) = s.sunk.clear z (omega (arith, l)) ∙ sym (rw (le-leb z n q) (unlisted-sink body z (quiet z (omega (arith, l)) q)))
        go z (no l) (no q) = s.sunk.clear z (omega (arith, l)) ∙ sym (rw (lt-leb z n (omega (arith, q))) refl)
