-- The chunks of an image by their places, and the refusal that the tests of all give.
-- Assumes nothing.
use Prim.Native.Nat.{ℕ, zero, suc, ◌+◌, ◌-◌, ◌≤◌, ◌<◌}
use mathlib.Core.Path.{◌≡◌, refl, sym, ap, ap₂, ◌∙◌}
use mathlib.Core.Bool.{Bool, true, false, not, ◌&&◌, ◌||◌, cond, or-true, or-false, true≢false, false≢true}
use mathlib.Core.List.{List, [], ◌∷◌}
use mathlib.Core.Logic.{◌≢◌}
use native.Mathlib.Decide.{ℕ_discrete}
use native.Mathlib.Omega.{arith}
use borrow.Author.Tests.{lt-ltb, le-ltb, ne_eqb, eqb-true, leb-false, not-false}
use lib.Dec.{eqb, ltb}
use lib.ListN.{length, take, drop, length-drop}
use lib.Seq.{drop-drop}
use Rattle.layout.specs.Limits.{within}
use Rattle.layout.specs.declared.refusals.Refusal.{Refusal}
use Rattle.layout.specs.Refusal.{number, first, by}
use Rattle.layout.proofs.LimitLaws.{within-true}
use Rattle.layout.proofs.RefusalLaws.{numbered, by_zero, by_number}
use Rattle.endian.specs.Bytes.{number_at}
use Rattle.rules.specs.Image.{front_len, sinks_kind, body_len, kind_of, body_of, past, cut}
use Rattle.rules.specs.Load.{known, passed, misplaced, bad_body, bad_sinks, chunk_tests, image_tests}
use Rattle.rules.proofs.BoolLaws.{or_split}
use Rattle.rules.proofs.ImageLaws.{past-suc}
use Rattle.rules.proofs.AcceptedLaws.{fronted}
use Rattle.loads.specs.Chunks.{kind_refusal, front_refusal, chunk_refusal, refusal_from, Chunk}
use Rattle.loads.proofs.PlaceLaws.{number-drop, number-here}

-- ---- the front

pub kind_at : (image : List ℕ) (at k : ℕ) → k ≡ number_at 2 (at + 4) image → k ≡ kind_of (drop at image)
unfolding kind_of
kind_at image at k is = is ∙ sym (number-drop 2 4 at image)

module _ (t : ℕ) (image : List ℕ) (at : ℕ) (p : at ≤ length image) where
  abbrev b : List ℕ
  b = drop at image

  len : length b ≡ length image - at
  len = length-drop at image

  pub front-short : length image - at < front_len → 26 ≡ front_refusal t b
  unfolding front_refusal cut
  front-short q = sym (rw (lt-ltb (length b) front_len (let e = len in omega arith)) refl)

  module _ (q : front_len ≤ length image - at) (v : ℕ) (is : v ≡ number_at 4 at image) where
    is-len : body_len b ≡ v
    unfolding body_len
    is-len = number-here 4 at image ∙ sym is

    pub front_cut : length image - at - front_len < v → 26 ≡ front_refusal t b
    unfolding front_refusal cut
    front_cut l =
        sym (rw (lt-ltb (length b - front_len) (body_len b) (let e = len in let f = is-len in omega arith), or-true (ltb (length b) front_len)) refl)

    pub front-kind : v ≤ length image - at - front_len → (k w : ℕ) → w ≡ number_at 2 (at + 4) image → k ≡ kind_refusal t w → k ≡ front_refusal t b
    unfolding front_refusal cut kind_of
    front-kind l k w e f =
        f
        ∙ ap (kind_refusal t) (e ∙ sym (number-drop 2 4 at image))
        ∙ sym (rw (
          le-ltb (length b) front_len (let e = len in omega arith),
          le-ltb (length b - front_len) (body_len b) (let e = len in let f = is-len in omega arith),
        ) refl)

-- a chunk that is not cut
uncut : (b : List ℕ) → cut b ≡ false → front_len + body_len b ≤ length b
uncut b e = let f = fronted b e in omega (arith, f.0, f.1)

pub front-uncut : (t : ℕ) (b : List ℕ) → 0 ≡ front_refusal t b → cut b ≡ false
unfolding front_refusal
front-uncut t b e = go (cut b) refl (sym e)
  where
    go : (c : Bool) → cut b ≡ c → cond c 26 (kind_refusal t (kind_of b)) ≡ 0 → cut b ≡ false
    go true q z = absurd (omega arith)
    go false q z = q

pub chunk-fits : (image : List ℕ) (at : ℕ) → at ≤ length image → cut (drop at image) ≡ false → at + (front_len + body_len (drop at image)) ≤ length image
chunk-fits image at p e = let u = uncut (drop at image) e in let l = length-drop at image in omega arith

pub chunk-at : (image : List ℕ) (at v : ℕ) → at ≤ length image → cut (drop at image) ≡ false → v ≡ number_at 4 at image → Chunk image at (at + front_len + v)
unfolding body_of
chunk-at image at v p e is =
    let f = chunk-fits image at p e in
    let q : body_len (drop at image) ≡ v = is-len 0 image at p (let u = uncut (drop at image) e in let l = length-drop at image in omega arith) v is in
    let a : at + front_len + v ≡ at + (front_len + body_len (drop at image)) = omega arith in
    let d : at + front_len + v - (at + front_len) ≡ body_len (drop at image) = omega arith in
    record {
      start = omega arith;
      inside = omega arith;
      next = ap (λ (k : ℕ). drop k image) a ∙ sym (drop-drop (front_len + body_len (drop at image)) at image);
      body = ap₂ (λ (k : ℕ) (l : List ℕ). take k l) d (sym (drop-drop front_len at image));
    }

-- ---- a whole chunk

module _ (t : ℕ) (b : List ℕ) (bad : Bool) where
  pub chunk_front : (e : Refusal) → number e ≡ front_refusal t b → number e ≡ chunk_refusal t b bad
  unfolding chunk_refusal by
  chunk_front e is = go (number e) is (numbered e)
    where
      go : (k : ℕ) → k ≡ front_refusal t b → k ≢ 0 → k ≡ by (front_refusal t b) (cond bad 27 0) (λ j. j)
      go zero e d = absurd (d refl)
      go (suc k) e d = rw (sym e) refl

  pub chunk-body : 0 ≡ front_refusal t b → cond bad 27 0 ≡ chunk_refusal t b bad
  unfolding chunk_refusal by
  chunk-body e = rw (sym e) refl

  -- and back: what 0 says
  pub chunk-none : 0 ≡ chunk_refusal t b bad → (0 ≡ front_refusal t b) × (bad ≡ false)
  unfolding chunk_refusal by
  chunk-none e = go (front_refusal t b) bad refl refl e
    where
      go : (k : ℕ) (c : Bool) → front_refusal t b ≡ k → bad ≡ c → 0 ≡ by k (cond c 27 0) (λ j. j) → (0 ≡ front_refusal t b) × (bad ≡ false)
      go zero true p q z = absurd (omega arith)
      go zero false p q z = (sym p, q)
      go (suc k) c p q z = absurd (omega arith)

-- ---- the tests of all chunks

-- the bytes after one chunk more
pub past_next : (t : ℕ) (l : List ℕ) → past (suc t) l ≡ drop (front_len + body_len (past t l)) (past t l)
past_next t l = past-suc t l ∙ unfold past in refl

module _ (image : List ℕ) where
  past-shorter : (t : ℕ) → cut (past t image) ≡ false → length (past (suc t) image) + front_len ≤ length (past t image)
  past-shorter t e =
      let a = ap length (past_next t image) ∙ length-drop (front_len + body_len (past t image)) (past t image) in
      let u = uncut (past t image) e in
      omega arith

  -- chunk t is one of sinks that does not pass
  abbrev pub sinks_bad : ℕ → Bool
  sinks_bad t = eqb (kind_of (past t image)) sinks_kind && bad_sinks image t

  -- its test with number 27, and that with 28
  abbrev test27 : ℕ → Bool
  test27 t = misplaced t (kind_of (past t image)) || (known (kind_of (past t image)) && bad_body image t) || sinks_bad t

  abbrev test28 : ℕ → Bool
  test28 t = not (known (kind_of (past t image))) && not (passed (kind_of (past t image)))

  -- more fuel than bytes is enough
  enough : (f g t : ℕ) → length (past t image) < f → length (past t image) < g → first (chunk_tests image f t) ≡ first (chunk_tests image g t)
  unfolding chunk_tests first
  enough zero g t p q = absurd (omega arith)
  enough (suc f) zero t p q = absurd (omega arith)
  enough (suc f) (suc g) t p q = go (eqb (length (past t image)) 0) (cut (past t image)) refl (λ a b. enough f g (suc t) a b)
    where
      go : (z c : Bool) → cut (past t image) ≡ c
          → (length (past (suc t) image) < f → length (past (suc t) image) < g → first (chunk_tests image f (suc t)) ≡ first (chunk_tests image g (suc t)))
          → first (cond z ((26, ltb t 3) ∷ []) ((26, c) ∷ (27, test27 t) ∷ (28, test28 t) ∷ chunk_tests image f (suc t)))
          ≡ first (cond z ((26, ltb t 3) ∷ []) ((26, c) ∷ (27, test27 t) ∷ (28, test28 t) ∷ chunk_tests image g (suc t)))
      go true c e h = refl
      go false true e h = refl
      go false false e h =
          let s = past-shorter t e in
          ap (λ (r : ℕ). cond (test27 t) 27 (cond (test28 t) 28 r)) (h (omega arith) (omega arith))

  -- one chunk, then the others
  after : (t : ℕ) → cut (past t image) ≡ false → first (chunk_tests image (length (past t image)) (suc t)) ≡ refusal_from image (suc t)
  unfolding refusal_from
  after t e = let s = past-shorter t e in enough (length (past t image)) (suc (length (past (suc t) image))) (suc t) (omega arith) (omega arith)

  pub refusal-all : refusal_from image 0 ≡ first (image_tests image)
  unfolding refusal_from image_tests past
  refusal-all = refl

  -- the tests of one chunk as one choice
  choice : (m k s p q bad : Bool) (rest : ℕ) → (m ≡ false → (k || s) ≡ true → (p || q) ≡ bad) → (k ≡ false → s ≡ false → (p || q) ≡ false)
      → cond (m || p || q) 27 (cond (not k && not s) 28 rest)
      ≡ by (by (cond m 27 (cond (not k && not s) 28 0)) (cond bad 27 0) (λ j. j)) rest (λ j. j)
  unfolding by
  choice true k s p q bad rest h g = refl
  choice false true s p q bad rest h g = rw (h refl refl) (sure bad)
    where
      sure : (b : Bool) → cond b 27 rest ≡ by (cond b 27 0) rest (λ j. j)
      sure true = refl
      sure false = refl
  choice false false true p q bad rest h g = rw (h refl refl) (sure bad)
    where
      sure : (b : Bool) → cond b 27 rest ≡ by (cond b 27 0) rest (λ j. j)
      sure true = refl
      sure false = refl
  choice false false false p q bad rest h g = rw (g refl refl) refl

  module _ (t : ℕ) where
    abbrev bytes : List ℕ
    bytes = past t image

    -- what is tested of its body: of one of the first three by its place, and behind them of the sinks alone
    abbrev pub bad_at : Bool
    bad_at = cond (ltb t 3) (bad_body image t) (sinks_bad t)

    quiet : misplaced t (kind_of bytes) ≡ false → (known (kind_of bytes) || passed (kind_of bytes)) ≡ true
        → ((known (kind_of bytes) && bad_body image t) || sinks_bad t) ≡ bad_at
    unfolding misplaced known
    quiet m o = go (within 1 3 (kind_of bytes)) (passed (kind_of bytes)) refl refl m o
      where
        place : (b : Bool) → not b || false ≡ false → b ≡ true
        place true e = refl
        place false e = absurd (true≢false e)

        go : (k s : Bool) → within 1 3 (kind_of bytes) ≡ k → passed (kind_of bytes) ≡ s → ((k && not (eqb (kind_of bytes) (suc t))) || (s && ltb t 3)) ≡ false → (k || s) ≡ true
            → ((k && bad_body image t) || sinks_bad t) ≡ bad_at
        go true s a b m o =
            let w = within-true 1 3 (kind_of bytes) a in
            let e = eqb-true (kind_of bytes) (suc t) (not-false _ (or_split (not (eqb (kind_of bytes) (suc t))) (s && ltb t 3) m).0) in
            rw (lt-ltb t 3 (omega arith), ne_eqb (kind_of bytes) sinks_kind (λ q. omega arith)) (or-false (bad_body image t))
        go false true a b m o = rw m refl
        go false false a b m o = absurd (false≢true o)

    strange : known (kind_of bytes) ≡ false → passed (kind_of bytes) ≡ false → ((known (kind_of bytes) && bad_body image t) || sinks_bad t) ≡ false
    unfolding passed
    strange k s = let l = leb-false 0x8000 (kind_of bytes) s in rw (k, ne_eqb (kind_of bytes) sinks_kind (λ q. omega arith)) refl

    is_cut : cut bytes ≡ true → (A : ℕ) → cond (cut bytes) 26 A ≡ by (chunk_refusal t bytes bad_at) (refusal_from image (suc t)) (λ j. j)
    unfolding chunk_refusal front_refusal by
    is_cut e A = rw e refl

    is_whole : cut bytes ≡ false
        → cond (cut bytes) 26 (cond (test27 t) 27 (cond (test28 t) 28 (first (chunk_tests image (length bytes) (suc t)))))
        ≡ by (chunk_refusal t bytes bad_at) (refusal_from image (suc t)) (λ j. j)
    unfolding chunk_refusal front_refusal kind_refusal
    is_whole e =
        rw (e, after t e)
        (choice (misplaced t (kind_of bytes)) (known (kind_of bytes)) (passed (kind_of bytes)) (known (kind_of bytes) && bad_body image t) (sinks_bad t) bad_at (refusal_from image (suc t)) quiet strange)

    -- a chunk, then the others
    some : length bytes ≢ 0 → refusal_from image t ≡ by (chunk_refusal t bytes bad_at) (refusal_from image (suc t)) (λ j. j)
    unfolding refusal_from chunk_tests first
    some d = rw (ne_eqb (length bytes) 0 d) (go (cut bytes) refl)
      where
        go : (c : Bool) → cut bytes ≡ c
            → cond (cut bytes) 26 (cond (test27 t) 27 (cond (test28 t) 28 (first (chunk_tests image (length bytes) (suc t)))))
            ≡ by (chunk_refusal t bytes bad_at) (refusal_from image (suc t)) (λ j. j)
        go true e = is_cut e _
        go false e = is_whole e

    -- the first three chunks have to be there
    step : t < 3 → refusal_from image t ≡ by (chunk_refusal t bytes (bad_body image t)) (refusal_from image (suc t)) (λ j. j)
    unfolding refusal_from chunk_tests first chunk_refusal front_refusal cut by
    step l = go (ℕ_discrete (length bytes) 0)
      where
        go : Dec (length bytes ≡ 0) → refusal_from image t ≡ by (chunk_refusal t bytes (bad_body image t)) (refusal_from image (suc t)) (λ j. j)
        go (yes e) = rw (e, lt-ltb t 3 l) refl
        go (no d) = some d ∙ ap (λ (b : Bool). by (chunk_refusal t bytes (cond b (bad_body image t) (sinks_bad t))) (refusal_from image (suc t)) (λ j. j)) (lt-ltb t 3 l)

    module _ (l : t < 3) where
      pub step-stop : (e : Refusal) → number e ≡ chunk_refusal t bytes (bad_body image t) → number e ≡ refusal_from image t
      step-stop e is =
          sym (by_number (refusal_from image (suc t)) (λ j. j) (number e) (numbered e))
          ∙ ap (λ (m : ℕ). by m (refusal_from image (suc t)) (λ j. j)) is ∙ sym (step l)

      pub step-on : 0 ≡ chunk_refusal t bytes (bad_body image t) → refusal_from image t ≡ refusal_from image (suc t)
      step-on is = step l ∙ by_zero (refusal_from image (suc t)) (λ j. j) _ (sym is)

    -- ---- behind the third

    module _ (late : 3 ≤ t) where
      late-kind : (k : ℕ) → misplaced t k ≡ misplaced 3 k
      unfolding misplaced known
      late-kind k = rw (le-ltb t 3 late) (go (within 1 3 k) refl)
        where
          go : (w : Bool) → within 1 3 k ≡ w → (w && not (eqb k (suc t))) || (passed k && false) ≡ (w && not (eqb k 4)) || (passed k && false)
          go true e = let b = within-true 1 3 k e in rw (ne_eqb k (suc t) (λ q. omega arith), ne_eqb k 4 (λ q. omega arith)) refl
          go false e = refl

      late-front : chunk_refusal t bytes bad_at ≡ chunk_refusal 3 bytes (sinks_bad t)
      unfolding chunk_refusal front_refusal kind_refusal
      late-front = rw (le-ltb t 3 late, late-kind (kind_of bytes)) refl

      pub late-end : length bytes ≡ 0 → 0 ≡ refusal_from image t
      unfolding refusal_from chunk_tests first
      late-end e = sym (rw (e, le-ltb t 3 late) refl)

      module _ (d : length bytes ≢ 0) where
        pub late-stop : (e : Refusal) → number e ≡ chunk_refusal 3 bytes (sinks_bad t) → number e ≡ refusal_from image t
        late-stop e is =
            sym (by_number (refusal_from image (suc t)) (λ j. j) (number e) (numbered e))
            ∙ ap (λ (m : ℕ). by m (refusal_from image (suc t)) (λ j. j)) (is ∙ sym late-front)
            ∙ sym (some d)

        pub late-on : 0 ≡ chunk_refusal 3 bytes (sinks_bad t) → refusal_from image (suc t) ≡ refusal_from image t
        late-on is = sym (some d ∙ by_zero (refusal_from image (suc t)) (λ j. j) _ (late-front ∙ sym is))

-- ---- a chunk whose body was tested

module _ (t : ℕ) (b : List ℕ) (ok : Bool) (e : 0 ≡ front_refusal t b) where
  pub chunk-good : ok ≡ true → 0 ≡ chunk_refusal t b (not ok)
  chunk-good o = rw o (chunk-body t b false e)

  pub chunk-bad : ok ≡ false → 27 ≡ chunk_refusal t b (not ok)
  chunk-bad o = rw o (chunk-body t b true e)
