-- The three chunks of a heap are read as that heap, and no test of load holds of them, with a chunk of its sinks behind them and whatever chunks that are passed over.
-- Assumes nothing.
use Prim.Native.Nat.{ℕ, zero, suc, ◌+◌, ◌*◌, ◌^◌, ◌≤◌, ◌<◌}
use mathlib.Core.Path.{◌≡◌, refl, sym, ap, ap₂, ◌∙◌}
use mathlib.Core.Bool.{Bool, true, false, not, cond, ◌&&◌, ◌||◌, and-false}
use mathlib.Core.List.{List, [], ◌∷◌, ◌++◌, map, append_assoc, append-nil, Memᴰ}
use mathlib.Core.Logic.{⊎_elim}
use native.Mathlib.Omega.{arith}
use lib.Dec.{eqb, leb, ltb}
use lib.ListN.{length, length-append}
use borrow.Author.Tests.{eq-eqb, ne_eqb, le-leb, le-ltb, eqb-true}
use Rattle.layout.specs.Field.{digit}
use Rattle.layout.specs.Limits.{object_max, sink_max, within}
use Rattle.layout.specs.ControlRecord.{bad_sizes}
use Rattle.layout.specs.Refusal.{first}
use Rattle.layout.specs.Word.{is_nil, is_pointer, is_immediate}
use Rattle.layout.proofs.BoolLaws.{or_cases, and_split}
use Rattle.layout.proofs.LimitLaws.{within-true, above_within}
use Rattle.layout.proofs.ControlLaws.{Sizes, sizes-facts}
use Rattle.layout.proofs.WordLaws.{pointer-bound, immediate-bounds}
use Rattle.endian.specs.Bytes.{bytes, number, number_at, bytes_of, word_bytes}
use Rattle.endian.proofs.BytesLaws.{number-front, length-numbers, number-at}
use Rattle.graph.specs.Numbers.{Obj, count}
use Rattle.graph.proofs.NumberLaws.{length-gather, sum-most, count-ext}
use Rattle.rules.specs.Buffers.{numbers, all_of}
use Rattle.rules.specs.Image.{sinks_kind, chunk, sizes_body, objects_body, image, sinks_chunk, body_of, past, saved_n, saved_r, saved_last, sizes_ok, listed, saved_sink, saved_as_sink, saved_width, saved_words, object_len, from, shaped, names_listed, words_ok, objects_ok, saved_root, roots_ok}
use Rattle.rules.specs.Load.{known, passed, misplaced, sizes, objects, root_words, image_n, image_r, bad_body, bad_sinks, chunk_tests, image_tests}
use Rattle.rules.specs.Demands.{Passed, none, more}
use Rattle.rules.proofs.ListLaws.{all_of-all, all_to-all}
use Rattle.rules.proofs.ImageLaws.{chunk-kind, chunk-body, chunk-past, chunk_whole, chunk-length, past-suc, numbered, entry, entry_length, listed-is, width_is, sink-is, as-sink-is, fits-is, words-is, none_left}

-- ---- a heap whose image can be read again

pub record Writable (n last : ℕ) (used sink : ℕ → Bool) (words : ℕ → List ℕ) (roots : List ℕ) : Type 0 where
  pub sized : bad_sizes n (length roots) ≡ false
  pub given : last ≤ n
  pub sunk : (x : ℕ) → sink x ≡ true → used x ≡ true
  pub few : count n sink ≤ sink_max
  pub narrow : (x : ℕ) → length (words x) ≤ 8
  pub worded : (x w : ℕ) → used x ≡ true → Memᴰ w (words x) → (is_nil w || is_immediate w || (is_pointer n w && used w)) ≡ true
  pub rooted : (w : ℕ) → Memᴰ w roots → (is_nil w || (is_pointer n w && used w)) ≡ true

-- ---- how long an image is

module _ (n : ℕ) (used sink : ℕ → Bool) (words : ℕ → List ℕ) where
  pub objects-length : ((x : ℕ) → length (words x) ≤ 8) → length (objects_body n used sink words) ≤ 36 * n
  unfolding objects_body
  objects-length h =
      let a = length-gather n used (entry sink words) in
      let b = sum-most n 36 (λ x. cond (used x) (length (entry sink words x)) 0) (λ x o. go x (used x)) in
      omega arith
    where
      go : (x : ℕ) (b : Bool) → cond b (length (entry sink words x)) 0 ≤ 36
      go x true = omega (arith, entry_length sink words x, h x)
      go x false = omega arith

  module _ (last : ℕ) (roots : List ℕ) where
    pub image-size : length (image n last used sink words roots) ≡ 26 + length (objects_body n used sink words) + 4 * length roots
    unfolding image sizes_body
    image-size =
        let body = sizes_body n (length roots) last in
        let a = length-append (chunk 1 body ++ chunk 2 (objects_body n used sink words)) (chunk 3 (word_bytes roots)) in
        let b = length-append (chunk 1 body) (chunk 2 (objects_body n used sink words)) in
        let c = chunk-length 1 body in
        let d = chunk-length 2 (objects_body n used sink words) in
        let e = chunk-length 3 (word_bytes roots) in
        let f = length-numbers 4 roots in
        omega (arith, sizes-length n (length roots) last)
      where
        sizes-length : (n r last : ℕ) → length (sizes_body n r last) ≡ 8
        sizes-length n r last = unfold bytes in refl

    pub image-length : ((x : ℕ) → length (words x) ≤ 8) → length (image n last used sink words roots) ≤ 26 + 36 * n + 4 * length roots
    image-length h = omega (arith, image-size, objects-length h)

-- the chunk of sinks
pub sinks-length : (l : List ℕ) → length (sinks_chunk l) ≡ cond (eqb (length l) 0) 0 (6 + 2 * length l)
unfolding sinks_chunk
sinks-length [] = refl
sinks-length (y ∷ l) =
    rw (ne_eqb (suc (length l)) 0 (λ e. omega arith)) (chunk-length sinks_kind (bytes_of 2 (y ∷ l)) ∙ ap (λ (k : ℕ). 6 + k) (length-numbers 2 (y ∷ l)))

pub sinks-most : (l : List ℕ) → length l ≤ sink_max → length (sinks_chunk l) ≤ 134
sinks-most l h = go (eqb (length l) 0) (sinks-length l)
  where
    go : (b : Bool) → length (sinks_chunk l) ≡ cond b 0 (6 + 2 * length l) → length (sinks_chunk l) ≤ 134
    go true e = omega arith
    go false e = omega arith

-- ---- words and roots of such a heap

pointer-small : (n w : ℕ) (u : Bool) → n ≤ object_max → (is_pointer n w && u) ≡ true → w < 256 ^ 4
pointer-small n w u h e = let b = pointer-bound n w (and_split (is_pointer n w) u e).0 in omega arith

nil-small : (w : ℕ) → is_nil w ≡ true → w < 256 ^ 4
unfolding is_nil
nil-small w e = let z = eqb-true w 0 e in omega arith

root-small : (n w : ℕ) (u : Bool) → n ≤ object_max → (is_nil w || (is_pointer n w && u)) ≡ true → w < 256 ^ 4
root-small n w u h e = ⊎_elim (nil-small w) (pointer-small n w u h) (or_cases (is_nil w) (is_pointer n w && u) e)

word_small : (n w : ℕ) (u : Bool) → n ≤ object_max → (is_nil w || is_immediate w || (is_pointer n w && u)) ≡ true → w < 256 ^ 4
word_small n w u h e = ⊎_elim (λ f. ⊎_elim (nil-small w) immediate (or_cases (is_nil w) (is_immediate w) f)) (pointer-small n w u h) (or_cases (is_nil w || is_immediate w) (is_pointer n w && u) e)
  where
    immediate : is_immediate w ≡ true → w < 256 ^ 4
    immediate i = let b = (immediate-bounds w i).1 in omega arith

-- ---- a chunk that passes

module _ (b : List ℕ) where
  chunk-passes : (f t kind : ℕ) (body z : List ℕ) → length body < 256 ^ 4 → kind < 256 ^ 2 → past t b ≡ chunk kind body ++ z
      → (misplaced t kind || (known kind && bad_body b t) || (eqb kind sinks_kind && bad_sinks b t)) ≡ false → (not (known kind) && not (passed kind)) ≡ false
      → first (chunk_tests b f (suc t)) ≡ 0 → first (chunk_tests b (suc f) t) ≡ 0
  unfolding chunk_tests first
  chunk-passes f t kind body z l k e m u r =
      let some : length (chunk kind body ++ z) ≡ 6 + length body + length z = length-append (chunk kind body) z ∙ omega (arith, chunk-length kind body) in
      rw (e, ne_eqb (length (chunk kind body ++ z)) 0 (λ q. omega arith), chunk_whole kind body z l k, chunk-kind kind body z l k, m, u) r

  -- the image ends behind the third chunk or later
  end-passes : (f t : ℕ) → past (suc (suc (suc t))) b ≡ [] → first (chunk_tests b f (suc (suc (suc t)))) ≡ 0
  unfolding chunk_tests first
  end-passes zero t e = refl
  end-passes (suc f) t e = rw (e, le-ltb (suc (suc (suc t))) 3 (omega arith)) refl

  -- a chunk there, of a kind from 0x8000 up, that is not of sinks or right
  pub late-passes : (f t kind : ℕ) (body z : List ℕ) → 0x8000 ≤ kind → length body < 256 ^ 4 → kind < 256 ^ 2
      → past (suc (suc (suc t))) b ≡ chunk kind body ++ z → (eqb kind sinks_kind && bad_sinks b (suc (suc (suc t)))) ≡ false
      → (past (suc (suc (suc (suc t)))) b ≡ z → first (chunk_tests b f (suc (suc (suc (suc t))))) ≡ 0) → first (chunk_tests b (suc f) (suc (suc (suc t)))) ≡ 0
  unfolding misplaced known passed bad_body
  late-passes f t kind body z h l k e s r =
      let out = above_within 1 3 kind (omega arith) in
      chunk-passes f (suc (suc (suc t))) kind body z l k e
      (rw (out, le-leb 0x8000 kind h, le-ltb (suc (suc (suc t))) 3 (omega arith), s) refl)
      (rw (out, le-leb 0x8000 kind h) refl)
      (r (past-suc (suc (suc (suc t))) b ∙ ap (past 1) e ∙ chunk-past kind body z l k))

  -- chunks there that are passed over
  pub passed-passes : (f t : ℕ) (z : List ℕ) → Passed z → past (suc (suc (suc t))) b ≡ z → first (chunk_tests b f (suc (suc (suc t)))) ≡ 0
  passed-passes zero t z p e = unfold chunk_tests first in refl
  passed-passes (suc f) t [] none e = end-passes (suc f) t e
  passed-passes (suc f) t _ (more kind body {z} o h k l p) e =
      late-passes f t kind body z h l k e (rw (ne_eqb kind sinks_kind o) refl) (λ q. passed-passes f (suc t) z p q)

-- ---- what is read of it

module _ (n last : ℕ) (used sink : ℕ → Bool) (words : ℕ → List ℕ) (roots : List ℕ) (w : Writable n last used sink words roots) (z : List ℕ) where
  abbrev b : List ℕ
  b = image n last used sink words roots ++ z

  sizes-of : Sizes n (length roots)
  sizes-of = sizes-facts n (length roots) w.sized

  abbrev sizes₀ : List ℕ
  sizes₀ = sizes_body n (length roots) last

  abbrev objects₀ : List ℕ
  objects₀ = objects_body n used sink words

  -- the image, chunk by chunk
  whole : b ≡ chunk 1 sizes₀ ++ (chunk 2 objects₀ ++ (chunk 3 (word_bytes roots) ++ z))
  unfolding image
  whole =
      append_assoc (chunk 1 sizes₀ ++ chunk 2 objects₀) (chunk 3 (word_bytes roots)) z
      ∙ append_assoc (chunk 1 sizes₀) (chunk 2 objects₀) (chunk 3 (word_bytes roots) ++ z)

  sizes-room : length sizes₀ < 256 ^ 4
  unfolding sizes_body bytes
  sizes-room = omega arith

  objects-room : length objects₀ < 256 ^ 4
  objects-room = omega (arith, objects-length n used sink words w.narrow, sizes-of)

  roots-room : length (word_bytes roots) < 256 ^ 4
  roots-room = omega (arith, length-numbers 4 roots, sizes-of)

  pub past_one : past 1 b ≡ chunk 2 objects₀ ++ (chunk 3 (word_bytes roots) ++ z)
  past_one = ap (past 1) whole ∙ chunk-past 1 sizes₀ _ sizes-room (omega arith)

  pub past_two : past 2 b ≡ chunk 3 (word_bytes roots) ++ z
  past_two = past-suc 1 b ∙ ap (past 1) past_one ∙ chunk-past 2 objects₀ _ objects-room (omega arith)

  pub past_three : past 3 b ≡ z
  past_three = past-suc 2 b ∙ ap (past 1) past_two ∙ chunk-past 3 (word_bytes roots) z roots-room (omega arith)

  pub sizes-body : sizes b ≡ sizes₀
  sizes-body = ap body_of whole ∙ chunk-body 1 sizes₀ _ sizes-room (omega arith)

  pub objects-body : objects b ≡ objects₀
  objects-body = ap body_of past_one ∙ chunk-body 2 objects₀ _ objects-room (omega arith)

  pub roots-body : root_words b ≡ word_bytes roots
  roots-body = ap body_of past_two ∙ chunk-body 3 (word_bytes roots) z roots-room (omega arith)

  -- ---- the sizes

  n-of : saved_n sizes₀ ≡ n
  unfolding saved_n sizes_body bytes number_at
  n-of = number-front 2 n (bytes 2 (length roots) ++ bytes 2 last) (omega (arith, sizes-of))

  r-of : saved_r sizes₀ ≡ length roots
  unfolding saved_r sizes_body bytes number_at
  r-of = number-front 2 (length roots) (bytes 2 last) (omega (arith, sizes-of))

  last_of : saved_last sizes₀ ≡ last
  unfolding saved_last sizes_body bytes number_at
  last_of = number-front 2 last [] (omega (arith, sizes-of, w.given))

  pub n-read : image_n b ≡ n
  n-read = ap saved_n sizes-body ∙ n-of

  pub r-read : image_r b ≡ length roots
  r-read = ap saved_r sizes-body ∙ r-of

  pub last-read : saved_last (sizes b) ≡ last
  last-read = ap saved_last sizes-body ∙ last_of

  sizes-ok : sizes_ok sizes₀ ≡ true
  unfolding sizes_ok
  sizes-ok = rw (n-of, r-of, last_of, w.sized, le-leb last n w.given) (unfold number number_at sizes_body bytes in refl)

  -- ---- the objects

  small : n < 256 ^ 2
  small = omega (arith, sizes-of)

  bounded : (x : ℕ) → used x ≡ true → (v : ℕ) → Memᴰ v (words x) → v < 256 ^ 4
  bounded x u v m = word_small n v (used v) sizes-of.most (w.worded x v u m)

  module _ (x : ℕ) (p : 1 ≤ x) (q : x ≤ n) where
    pub listed-read : listed (objects b) x ≡ used x
    listed-read = ap (λ (o : List ℕ). listed o x) objects-body ∙ listed-is n used sink words small x p q

    pub words-read : used x ≡ true → saved_words (objects b) x ≡ words x
    words-read u = ap (λ (o : List ℕ). saved_words o x) objects-body ∙ words-is n used sink words small x p q u (bounded x u)

    pub sink-read : used x ≡ true → saved_sink (objects b) x ≡ digit (sink x)
    sink-read u = ap (λ (o : List ℕ). saved_sink o x) objects-body ∙ sink-is n used sink words small x p q u

    shaped-is : shaped objects₀ x ≡ true
    unfolding shaped
    shaped-is = rw (listed-is n used sink words small x p q) (go (used x) refl)
      where
        one : (t : Bool) → digit t ≤ 1
        one true = unfold digit in omega arith
        one false = unfold digit in omega arith

        go : (u : Bool) → used x ≡ u
            → (not u || (leb (saved_width objects₀ x) 8 && leb (saved_sink objects₀ x) 1 && leb (object_len (from objects₀ x)) (length (from objects₀ x)))) ≡ true
        go true u = rw (
          le-leb (saved_width objects₀ x) 8 (omega (arith, width_is n used sink words small x p q u, w.narrow x)),
          le-leb (saved_sink objects₀ x) 1 (omega (arith, sink-is n used sink words small x p q u, one (sink x))),
          le-leb (object_len (from objects₀ x)) (length (from objects₀ x)) (fits-is n used sink words small x p q u),
        ) refl
        go false u = refl

  names-is : (v : ℕ) → names_listed objects₀ n v ≡ (is_pointer n v && used v)
  unfolding names_listed
  names-is v = go (is_pointer n v) refl
    where
      go : (t : Bool) → is_pointer n v ≡ t → (t && listed objects₀ v) ≡ (t && used v)
      go true e = unfold is_pointer in (let r = within-true 1 n v e in listed-is n used sink words small v r.0 r.1)
      go false e = refl

  words-ok : (x : ℕ) → 1 ≤ x → x ≤ n → words_ok objects₀ n x ≡ true
  unfolding words_ok
  words-ok x p q = rw (listed-is n used sink words small x p q) (go (used x) refl)
    where
      go : (u : Bool) → used x ≡ u → (not u || all_of (λ v. is_nil v || is_immediate v || names_listed objects₀ n v) (saved_words objects₀ x)) ≡ true
      go true u =
          rw (words-is n used sink words small x p q u (bounded x u))
          (all_of-all (λ v. is_nil v || is_immediate v || names_listed objects₀ n v) (words x) (λ v m. rw (names-is v) (w.worded x v u m)))
      go false u = refl

  objects-ok : objects_ok objects₀ n ≡ true
  unfolding objects_ok
  objects-ok =
      rw (all_to-all n (shaped objects₀) shaped-is, none_left n used sink words small, all_to-all n (words_ok objects₀ n) words-ok) refl

  -- ---- the roots

  roots-of : map (saved_root (word_bytes roots)) (numbers 0 (length roots)) ≡ roots
  unfolding saved_root
  roots-of =
      numbered (saved_root (word_bytes roots)) 0 roots 0 (λ i l.
      let e : 0 + i ≡ i = omega arith in
      rw e (ap (number_at 4 (4 * i)) (sym (append-nil (word_bytes roots)))
      ∙ number-at 4 roots [] i (λ v m. root-small n v (used v) sizes-of.most (w.rooted v m)) l))

  pub roots-read : map (saved_root (root_words b)) (numbers 0 (image_r b)) ≡ roots
  roots-read = ap₂ (λ (o : List ℕ) (k : ℕ). map (saved_root o) (numbers 0 k)) roots-body r-read ∙ roots-of

  roots-ok : roots_ok n (length roots) objects₀ (word_bytes roots) ≡ true
  unfolding roots_ok
  roots-ok =
      rw (roots-of, eq-eqb (length (word_bytes roots)) (4 * length roots) (length-numbers 4 roots))
      (all_of-all (λ v. is_nil v || names_listed objects₀ n v) roots (λ v m. rw (names-is v) (w.rooted v m)))

  -- ---- the sinks

  pub as-sink-read : (x : ℕ) → Obj n x → saved_as_sink (objects b) x ≡ sink x
  as-sink-read x o = ap (λ (o : List ℕ). saved_as_sink o x) objects-body ∙ as-sink-is n used sink words small x o.0 o.1 ∙ go (sink x) refl
    where
      go : (s : Bool) → sink x ≡ s → (used x && s) ≡ s
      go true e = rw (w.sunk x e) refl
      go false e = and-false (used x)

  few-sinks : ltb sink_max (count (image_n b) (saved_as_sink (objects b))) ≡ false
  few-sinks =
      rw n-read (le-ltb sink_max (count n (saved_as_sink (objects b))) (omega (arith, count-ext n (saved_as_sink (objects b)) sink as-sink-read, w.few)))

  -- ---- the tests

  -- whatever is behind the three chunks, if it passes
  pub written-passes : ((f : ℕ) → first (chunk_tests b f 3) ≡ 0) → first (image_tests b) ≡ 0
  unfolding image_tests
  written-passes from-fourth = from_first (suc (length b))
    where
      from-third : (f : ℕ) → first (chunk_tests b f 2) ≡ 0
      from-third zero = unfold chunk_tests first in refl
      from-third (suc f) =
          chunk-passes b f 2 3 (word_bytes roots) z roots-room (omega arith) past_two
          (unfold within misplaced known passed bad_body in (rw (n-read, r-read, objects-body, roots-body, roots-ok) refl)) (unfold within known in refl) (from-fourth f)

      from_second : (f : ℕ) → first (chunk_tests b f 1) ≡ 0
      from_second zero = unfold chunk_tests first in refl
      from_second (suc f) =
          chunk-passes b f 1 2 objects₀ (chunk 3 (word_bytes roots) ++ z) objects-room (omega arith) past_one
          (unfold within misplaced known passed bad_body in (rw (few-sinks, n-read, objects-body, objects-ok) refl)) (unfold within known in refl) (from-third f)

      from_first : (f : ℕ) → first (chunk_tests b f 0) ≡ 0
      from_first zero = unfold chunk_tests first in refl
      from_first (suc f) =
          chunk-passes b f 0 1 sizes₀ (chunk 2 objects₀ ++ (chunk 3 (word_bytes roots) ++ z)) sizes-room (omega arith) (unfold past in whole)
          (unfold within misplaced known passed bad_body in (rw (sizes-body, sizes-ok) refl)) (unfold within known in refl) (from_second f)
