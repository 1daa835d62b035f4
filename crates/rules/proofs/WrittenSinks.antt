-- Chunks behind the three chunks of a heap pass the tests if one at most is of sinks, and that one is right; the sinks are read in its order, and without one by number.
-- Assumes nothing.
use Prim.Native.Nat.{ℕ, zero, suc, ◌+◌, ◌-◌, ◌^◌, ◌%◌, ◌≤◌, ◌<◌}
use mathlib.Core.Path.{◌≡◌, refl, sym, ap, ◌∙◌, subst}
use mathlib.Core.Bool.{Bool, true, false, cond}
use mathlib.Core.List.{List, [], ◌∷◌, ◌++◌, append_assoc, Memᴰ}
use native.Mathlib.Omega.{arith}
use lib.Dec.{eqb, leb}
use lib.ListN.{length, length-append}
use borrow.Author.Tests.{ne_eqb, le-leb}
use Rattle.layout.specs.Refusal.{first}
use Rattle.layout.proofs.ControlLaws.{sizes-facts}
use Rattle.endian.specs.Bytes.{number, number_at, bytes_of}
use Rattle.endian.proofs.BytesLaws.{length-numbers}
use Rattle.graph.specs.Numbers.{has, gather}
use Rattle.rules.specs.WellFormed.{lists}
use Rattle.rules.specs.Image.{sinks_kind, chunk, image, sinks_chunk, kind_of, body_of, past, saved_as_sink, saved_list, sinks_ok}
use Rattle.rules.specs.Load.{objects, image_n, sinks_before, bad_sinks, chunk_tests, image_tests, loaded_sinks}
use Rattle.rules.specs.Demands.{Passed, none, more, Behind, unlisted, listed}
use Rattle.rules.proofs.BoolLaws.{and-false}
use Rattle.rules.proofs.ListedLaws.{Lists, lists-facts, facts-lists, lists-same, listed-count, pointers-same, gather-length, has-not}
use Rattle.rules.proofs.ImageLaws.{chunk-kind, chunk-body, chunk-past, chunk-length, past-suc, past-nil, past-add, length_none, list_read, gather-same}
use Rattle.rules.proofs.WrittenLaws.{Writable, late-passes, passed-passes, image-size, past_three, n-read, as-sink-read, written-passes}

-- ---- chunks that are passed over are not of sinks

other-kinds : (z : List ℕ) → Passed z → (k : ℕ) → eqb (kind_of (past k z)) sinks_kind ≡ false
other-kinds [] none k = ap (λ (b : List ℕ). eqb (kind_of b) sinks_kind) (past-nil k) ∙ unfold kind_of number_at number in refl
other-kinds _ (more kind body {z} o h k l p) zero =
    let e : kind_of (past 0 (chunk kind body ++ z)) ≡ kind = unfold past in chunk-kind kind body z l k in
    ap (λ (m : ℕ). eqb m sinks_kind) e ∙ ne_eqb kind sinks_kind o
other-kinds _ (more kind body {z} o h k l p) (suc j) =
    let e : past (suc j) (chunk kind body ++ z) ≡ past j z = unfold past in ap (past j) (chunk-past kind body z l k) in
    ap (λ (b : List ℕ). eqb (kind_of b) sinks_kind) e ∙ other-kinds z p j

module _ (b : List ℕ) (t : ℕ) (z : List ℕ) (e : past t b ≡ z) (p : Passed z) where
  -- the sinks are those of a chunk before
  before-other : (k : ℕ) → sinks_before b (k + t) ≡ sinks_before b t
  before-other zero = ap (sinks_before b) (let q : 0 + t ≡ t = omega arith in q)
  before-other (suc k) = ap (sinks_before b) (let q : suc k + t ≡ suc (k + t) = omega arith in q) ∙ same ∙ before-other k
    where
      same : sinks_before b (suc (k + t)) ≡ sinks_before b (k + t)
      same = unfold sinks_before in (rw (past-add k t b, e, other-kinds z p k, and-false (leb 3 (k + t))) refl)

-- another chunk changes nothing
pub before-step : (b : List ℕ) (t : ℕ) → eqb (kind_of (past t b)) sinks_kind ≡ false → sinks_before b (suc t) ≡ sinks_before b t
unfolding sinks_before
before-step b t e = rw (e, and-false (leb 3 t)) refl

-- ---- a chunk of sinks, behind chunks that are passed over and in front of such

module _ (b : List ℕ) (body z : List ℕ) (room : length body < 256 ^ 4) (p : Passed z) where
  abbrev part : List ℕ
  part = chunk sinks_kind body ++ z

  -- what is left behind one chunk more
  next-part : (t kind : ℕ) (c y : List ℕ) → length c < 256 ^ 4 → kind < 256 ^ 2 → past t b ≡ chunk kind c ++ y ++ part
      → (past t b ≡ chunk kind c ++ (y ++ part)) × (past (suc t) b ≡ y ++ part) × (kind_of (past t b) ≡ kind)
  next-part t kind c y m k e =
      let q = e ∙ append_assoc (chunk kind c) y part in
      (q, past-suc t b ∙ ap (past 1) q ∙ chunk-past kind c (y ++ part) m k, ap kind_of q ∙ chunk-kind kind c (y ++ part) m k)

  pub tail-passes : sinks_ok (image_n b) (saved_as_sink (objects b)) body ≡ true → (f t : ℕ) (a : List ℕ) → Passed a
      → past (suc (suc (suc t))) b ≡ a ++ part → sinks_before b (suc (suc (suc t))) ≡ [] → first (chunk_tests b f (suc (suc (suc t)))) ≡ 0
  tail-passes ok zero t a q e s = unfold chunk_tests first in refl
  tail-passes ok (suc f) t [] none e s =
      late-passes b f t sinks_kind body z (omega arith) room (omega arith) e right (λ r. passed-passes b f (suc t) z p r)
    where
      right : bad_sinks b (suc (suc (suc t))) ≡ false
      right = unfold bad_sinks in (rw (s, ap body_of e ∙ chunk-body sinks_kind body z room (omega arith), ok) refl)
  tail-passes ok (suc f) t _ (more kind c {z = y} o h k m q) e s =
      let r = next-part (suc (suc (suc t))) kind c y m k e in
      let d : eqb kind sinks_kind ≡ false = ne_eqb kind sinks_kind o in
      late-passes b f t kind c (y ++ part) h m k r.0 (rw d refl)
      (λ i. tail-passes ok f (suc t) y q i (before-step b (suc (suc (suc t))) (ap (λ (j : ℕ). eqb j sinks_kind) r.2 ∙ d) ∙ s))

  -- its body is what is read of all chunks
  pub tail-read : (m t : ℕ) (a : List ℕ) → Passed a → 3 ≤ t → past t b ≡ a ++ part → length (past t b) < m → sinks_before b (m + t) ≡ body
  tail-read zero t a q l e h = absurd (omega arith)
  tail-read (suc m) t [] none l e h =
      let four : past (suc t) b ≡ z = past-suc t b ∙ ap (past 1) e ∙ chunk-past sinks_kind body z room (omega arith) in
      let i : suc m + t ≡ m + suc t = omega arith in
      ap (sinks_before b) i ∙ before-other b (suc t) z four p m ∙ its
    where
      its : sinks_before b (suc t) ≡ body
      its = unfold sinks_before in
          (rw (e, chunk-kind sinks_kind body z room (omega arith), le-leb 3 t l) (chunk-body sinks_kind body z room (omega arith)))
  tail-read (suc m) t _ (more kind c {z = y} o h k n q) l e g =
      let r = next-part t kind c y n k e in
      let i : suc m + t ≡ m + suc t = omega arith in
      let size = ap length r.0 ∙ length-append (chunk kind c) (y ++ part) in
      ap (sinks_before b) i ∙ tail-read m (suc t) y q (omega arith) r.1 (omega (arith, size, ap length r.1, chunk-length kind c))

-- ---- the sinks that are read

module _ (b z : List ℕ) (p : Passed z) (h : 3 + length (past 3 b) ≤ length b) where
  none_before : sinks_before b 3 ≡ []
  none_before = unfold sinks_before in refl

  pub read-unlisted : past 3 b ≡ z → loaded_sinks b ≡ gather (image_n b) (saved_as_sink (objects b)) (λ x. x ∷ [])
  unfolding loaded_sinks
  read-unlisted e =
      let c : suc (length b) ≡ length b - 2 + 3 = omega arith in
      rw (ap (sinks_before b) c ∙ before-other b 3 z e p (length b - 2) ∙ none_before) refl

  pub read-listed : (a body : List ℕ) → Passed a → length body < 256 ^ 4 → 1 ≤ length body → past 3 b ≡ a ++ (chunk sinks_kind body ++ z)
      → loaded_sinks b ≡ saved_list body
  unfolding loaded_sinks
  read-listed a body q room some e =
      let c : suc (length b) ≡ length b - 2 + 3 = omega arith in
      rw (
        ap (sinks_before b) c ∙ tail-read b body z room p (length b - 2) 3 a q (omega arith) e (omega arith),
        ne_eqb (length body) 0 (λ i. omega arith),
      ) refl

-- ---- behind the three chunks of a heap

-- the chunk of sinks that save writes, where there is a sink
pub behind-chunk : (n : ℕ) (sink : ℕ → Bool) (l z : List ℕ) → Lists n sink l → has 0 l ≡ false → Passed z → Behind n sink l (sinks_chunk l ++ z)
unfolding sinks_chunk
behind-chunk n sink [] z L s p = subst (λ (m : List ℕ). Behind n sink m z) no-sinks (unlisted p)
  where
    no-sinks : gather n sink (λ x. x ∷ []) ≡ []
    no-sinks = length_none _ (gather-length n sink ∙ sym (listed-count n sink [] L) ∙ ap length (pointers-same [] s))
behind-chunk n sink (y ∷ l) z L s p = listed (y ∷ l) none (omega arith) s (facts-lists n sink (y ∷ l) L) p

module _ (n last : ℕ) (used sink : ℕ → Bool) (words : ℕ → List ℕ) (roots : List ℕ) (w : Writable n last used sink words roots) where
  -- what is read, with anything behind
  module _ (z : List ℕ) where
    abbrev b : List ℕ
    b = image n last used sink words roots ++ z

    three : past 3 b ≡ z
    three = past_three n last used sink words roots w z

    long : 3 + length (past 3 b) ≤ length b
    long = omega (arith, ap length three, length-append (image n last used sink words roots) z, image-size n used sink words last roots)

    lists-read : (l : List ℕ) → Lists n sink l → lists (image_n b) (saved_as_sink (objects b)) l ≡ true
    lists-read l L =
        rw (n-read n last used sink words roots w z)
        (facts-lists n (saved_as_sink (objects b)) l (lists-same n sink (saved_as_sink (objects b)) l (λ x o. sym (as-sink-read n last used sink words roots w z x o)) L))

    by_number : gather (image_n b) (saved_as_sink (objects b)) (λ x. x ∷ []) ≡ gather n sink (λ x. x ∷ [])
    by_number =
        ap (λ (k : ℕ). gather k (saved_as_sink (objects b)) (λ x. x ∷ [])) (n-read n last used sink words roots w z)
        ∙ gather-same n (saved_as_sink (objects b)) sink (λ x. x ∷ []) (λ x. x ∷ [])
        (λ x p q. ap (λ (t : Bool). cond t (x ∷ []) []) (as-sink-read n last used sink words roots w z x (p, q)))

  module _ (l : List ℕ) (s : has 0 l ≡ false) (L : Lists n sink l) where
    listed_small : (v : ℕ) → Memᴰ v l → v < 256 ^ 2
    listed_small v m =
        let f = L.from v m (λ i. has-not 0 l s (rw i at m)) in
        omega (arith, sizes-facts n (length roots) w.sized, f.0.1)

    body-room : length (bytes_of 2 l) < 256 ^ 4
    body-room = omega (arith, length-numbers 2 l, ap length (pointers-same l s), listed-count n sink l L, w.few)

    body_ok : 1 ≤ length l → (z : List ℕ) → sinks_ok (image_n (b z)) (saved_as_sink (objects (b z))) (bytes_of 2 l) ≡ true
    unfolding sinks_ok
    body_ok h z =
        let e = length-numbers 2 l in
        let m : length (bytes_of 2 l) % 2 ≡ 0 = omega arith in
        rw (list_read l listed_small, ne_eqb (length (bytes_of 2 l)) 0 (λ i. omega arith), m, s, lists-read z l L) refl

  -- the tests pass, and the sinks are read in this order
  pub behind-read : (l z : List ℕ) → Behind n sink l z → (first (image_tests (b z)) ≡ 0) × (loaded_sinks (b z) ≡ l)
  behind-read _ z (unlisted p) = (
    written-passes n last used sink words roots w z (λ f. passed-passes (b z) f 0 z p (three z)),
    read-unlisted (b z) z p (long z) (three z) ∙ by_number z,
  )
  behind-read _ _ (listed {a} {z} l q h s e p) =
      let L = lists-facts n sink l e in
      let y = a ++ (chunk sinks_kind (bytes_of 2 l) ++ z) in (
        written-passes n last used sink words roots w y
            (λ f. tail-passes (b y) (bytes_of 2 l) z (body-room l s L) p (body_ok l s L h y) f 0 a q (three y) (none_before (b y) z p (long y))),
        read-listed (b y) z p (long y) a (bytes_of 2 l) q (body-room l s L) (omega (arith, length-numbers 2 l)) (three y) ∙ list_read l (listed_small l s L),
      )
