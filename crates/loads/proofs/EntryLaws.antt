-- A body of kind 2 read object by object: the place behind the object read last is where the bytes left begin.
-- Assumes nothing.
use Prim.Native.Nat.{ℕ, zero, suc, ◌+◌, ◌-◌, ◌*◌, ◌≤◌, ◌<◌}
use mathlib.Core.Path.{◌≡◌, refl, sym, ap, ap₂, ◌∙◌}
use mathlib.Core.Bool.{Bool, true, false, ◌&&◌, cond, and-false}
use mathlib.Core.List.{List}
use mathlib.Core.Logic.{◌≢◌, ◌⊎◌, inl, inr}
use native.Mathlib.Decide.{dec_le, dec_lt}
use native.Mathlib.Omega.{arith}
use borrow.Author.Tests.{le-leb, lt-leb, leb-true, eq-eqb, ne_eqb, eqb-true}
use lib.Dec.{eqb, leb}
use lib.ListN.{length, drop, length-drop}
use lib.Seq.{drop-drop, get_or-drop}
use Rattle.layout.specs.Limits.{width_max}
use Rattle.endian.specs.Bytes.{number_at}
use Rattle.rules.specs.Buffers.{all_to}
use Rattle.rules.specs.Image.{head_len, leads, object_len, left, listed, from, saved_width, saved_sink, shaped}
use Rattle.rules.proofs.ListLaws.{all_to-at}
use Rattle.rules.proofs.BoolLaws.{and_split}
use Rattle.loads.specs.Bodies.{shape_ok, Reached, number_of, width_at, sink_at, entry_end, Fit}
use Rattle.loads.proofs.PlaceLaws.{number-here}

module _ (body : List ℕ) where
  -- where no number up to x + k leads, none of their bytes are taken
  stays-add : (x k : ℕ) → ((z : ℕ) → x < z → z ≤ x + k → leads z (left body x) ≡ false) → left body (x + k) ≡ left body x
  unfolding left
  stays-add x zero h = let e : x + 0 ≡ x = omega arith in ap (left body) e
  stays-add x (suc k) h =
      let e : x + suc k ≡ suc (x + k) = omega arith in
      let r = stays-add x k (λ z p q. h z p (omega arith)) in
      ap (left body) e
      ∙ ap (λ (l : List ℕ). cond (leads (suc (x + k)) l) (drop (object_len l) l) l) r
      ∙ ap (λ (t : Bool). cond t (drop (object_len (left body x)) (left body x)) (left body x)) (h (suc (x + k)) (omega arith) (omega arith))

  pub stays : (x m : ℕ) → x ≤ m → ((z : ℕ) → x < z → z ≤ m → leads z (left body x) ≡ false) → left body m ≡ left body x
  stays x m p h =
      let e : m ≡ x + (m - x) = omega arith in
      ap (left body) e ∙ stays-add x (m - x) (λ z q r. h z q (omega arith))

  -- and none of them is listed
  pub unlisted : (x m : ℕ) → ((z : ℕ) → x < z → z ≤ m → leads z (left body x) ≡ false) → (z : ℕ) → x < z → z ≤ m → listed body z ≡ false
  unfolding listed
  unlisted x m h zero p q = absurd (omega arith)
  unlisted x m h (suc u) p q =
      ap (leads (suc u)) (stays x u (omega arith) (λ z r s. h z r (omega arith))) ∙ h (suc u) p q

-- the parts of `shaped`, of an object at a place
shaped-parts : (body : List ℕ) (z at : ℕ) → listed body z ≡ true → from body z ≡ drop at body
    → ((width_at body at ≤ width_max) × (sink_at body at ≤ 1) × (head_len + 4 * width_at body at ≤ length body - at) → shaped body z ≡ true)
    × (shaped body z ≡ true → (width_at body at ≤ width_max) × (sink_at body at ≤ 1) × (head_len + 4 * width_at body at ≤ length body - at))
unfolding shaped saved_width saved_sink object_len
shaped-parts body z at l f = (
  λ p. same ∙ rw (le-leb (width_at body at) width_max p.0, le-leb (sink_at body at) 1 p.1, le-leb (head_len + 4 * width_at body at) (length body - at) p.2) refl,
  λ e.
      let a = and_split (leb (width_at body at) width_max && leb (sink_at body at) 1) (leb (head_len + 4 * width_at body at) (length body - at)) (sym same ∙ e) in
      let b = and_split (leb (width_at body at) width_max) (leb (sink_at body at) 1) a.0 in
      (leb-true (width_at body at) width_max b.0, leb-true (sink_at body at) 1 b.1, leb-true (head_len + 4 * width_at body at) (length body - at) a.1),
)
  where
    same : shaped body z ≡ leb (width_at body at) width_max && leb (sink_at body at) 1 && leb (head_len + 4 * width_at body at) (length body - at)
    same = rw (l, f, get_or-drop at body 2 0, get_or-drop at body 3 0, length-drop at body) refl

-- an object that stands at a place
pub record Entry (body : List ℕ) (x at : ℕ) : Type 0 where
  pub listed_here : listed body (number_of body at) ≡ true
  pub from-here : from body (number_of body at) ≡ drop at body
  pub skipped : (z : ℕ) → x < z → z < number_of body at → listed body z ≡ false
  pub next : drop (entry_end body at) body ≡ left body (number_of body at)

module _ (body : List ℕ) (x at : ℕ) (r : Reached body x at) where
  abbrev y : ℕ
  y = number_of body at

  number-left : number_at 2 0 (left body x) ≡ y
  number-left = ap (number_at 2 0) (sym r.same) ∙ number-here 2 at body

  pub length-left : length (left body x) ≡ length body - at
  length-left = ap length (sym r.same) ∙ length-drop at body

  leads-here : at + head_len ≤ length body → leads y (left body x) ≡ true
  unfolding leads
  leads-here p =
      rw (number-left, le-leb head_len (length (left body x)) (let e = length-left in let q = r.inside in omega arith), eq-eqb y y refl) refl

  leads-other : (z : ℕ) → z ≢ y → leads z (left body x) ≡ false
  unfolding leads
  leads-other z d =
      rw (number-left, ne_eqb y z (λ e. d (sym e))) (and-false (leb head_len (length (left body x))))

  leads-short : length body < at + head_len → (z : ℕ) → leads z (left body x) ≡ false
  unfolding leads
  leads-short p z =
      rw (lt-leb head_len (length (left body x)) (let q = length-left in let i = r.inside in omega arith)) refl

  -- the object that stands there
  pub entry : at + head_len ≤ length body → x < y → Entry body x at
  unfolding left listed from object_len
  entry p q = go y refl q
    where
      go : (m : ℕ) → y ≡ m → x < m → Entry body x at
      go zero e l = absurd (omega arith)
      go (suc u) e l =
          let same : left body u ≡ left body x = stays body x u (omega arith) (λ z s t. leads-other z (λ i. omega arith)) in
          let here : left body u ≡ drop at body = same ∙ sym r.same in
          let lead : leads (suc u) (left body u) ≡ true = ap₂ leads (sym e) same ∙ leads-here p in
          record {
            listed_here = ap (listed body) e ∙ lead;
            from-here = ap (from body) e ∙ here;
            skipped = λ z s t. unlisted body x u (λ v a b. leads-other v (λ i. omega arith)) z s (omega arith);
            next =
                sym (drop-drop (head_len + 4 * width_at body at) at body)
                ∙ ap (λ (w : ℕ). drop (head_len + 4 * w) (drop at body)) (sym (get_or-drop at body 2 0))
                ∙ ap (λ (b : List ℕ). drop (object_len b) b) (sym here)
                ∙ sym (ap (λ (t : Bool). cond t (drop (object_len (left body u)) (left body u)) (left body u)) lead)
                ∙ ap (left body) (sym e);
          }

  -- no object stands there: the numbers up to m are not listed, and the bytes stay
  module _ (m : ℕ) (none : (z : ℕ) → x < z → z ≤ m → leads z (left body x) ≡ false) where
    pub all_left : x ≤ m → length (left body m) ≡ length body - at
    all_left p = ap length (stays body x m p none) ∙ length-left

  -- at the end none leads
  pub ended : length body ≤ at → (z : ℕ) → leads z (left body x) ≡ false
  ended p = leads-short (omega arith)

  module _ (n : ℕ) (ok : shape_ok n body ≡ true) (most : x ≤ n) (more : at < length body) where
    nothing : length (left body n) ≡ 0
    unfolding shape_ok
    nothing = eqb-true _ 0 (and_split (all_to n (shaped body)) (eqb (length (left body n)) 0) ok).1

    head : at + head_len ≤ length body
    head = go (dec_le (at + head_len) (length body))
      where
        go : Dec (at + head_len ≤ length body) → at + head_len ≤ length body
        go (yes l) = l
        go (no l) = absurd (let a = all_left n (λ z p q. leads-short (omega (arith, l)) z) most in omega (arith, nothing))

    some : (x < y) × (y ≤ n)
    some = go (dec_lt x y) (dec_le y n)
      where
        none : (y ≤ x) ⊎ (n < y) → (x < y) × (y ≤ n)
        none b = absurd (let a = all_left n (λ z p q. leads-other z (λ e. other b z p q e)) most in omega (arith, nothing))
          where
            other : (y ≤ x) ⊎ (n < y) → (z : ℕ) → x < z → z ≤ n → z ≡ y → ⊥
            other (inl l) z p q e = omega arith
            other (inr l) z p q e = omega arith

        go : Dec (x < y) → Dec (y ≤ n) → (x < y) × (y ≤ n)
        go (yes l) (yes k) = (l, k)
        go (yes l) (no k) = none (inr (omega (arith, k)))
        go (no l) k = none (inl (omega (arith, l)))

    pub fits : Fit n body x at
    unfolding shape_ok
    fits =
        let e = entry head some.0 in
        let s = all_to-at n (shaped body) (and_split (all_to n (shaped body)) (eqb (length (left body n)) 0) ok).0 y (let a = some in omega arith) some.1 in
        let p = (shaped-parts body y at e.listed_here e.from-here).1 s in
        record { head = head; above = some.0; most = some.1; wide = p.0; sink = p.1; whole = let a = p.2 in let b = head in omega arith }

  -- an object that fits is shaped
  pub fit-shaped : (n : ℕ) → Fit n body x at → shaped body y ≡ true
  fit-shaped n f =
      let e = entry f.head f.above in
      (shaped-parts body y at e.listed_here e.from-here).0 (f.wide, f.sink, let a = f.whole in omega arith)

  pub fit-reached : (n : ℕ) → Fit n body x at → Reached body y (entry_end body at)
  fit-reached n f = record { same = (entry f.head f.above).next; inside = f.whole }

-- at the start nothing is read
pub start : (body : List ℕ) → Reached body 0 0
unfolding left
start body = record { same = refl; inside = omega arith }

-- what is shaped once for all: numbers that are not listed
pub unlisted-shaped : (body : List ℕ) (z : ℕ) → listed body z ≡ false → shaped body z ≡ true
unfolding shaped
unlisted-shaped body z e = rw e refl
