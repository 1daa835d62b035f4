-- An image that is accepted begins with the three chunks of the heap that it holds.
-- Assumes nothing.
use Prim.Native.Nat.{ℕ, zero, suc, ◌+◌, ◌*◌, ◌^◌, ◌/◌, ◌%◌, ◌≤◌, ◌<◌}
use mathlib.Core.Path.{◌≡◌, refl, sym, ap, ap₂, ◌∙◌}
use mathlib.Core.Bool.{Bool, true, false, not, cond}
use mathlib.Core.List.{List, [], ◌∷◌, ◌++◌, map, append_assoc, append-nil}
use native.Mathlib.Omega.{arith}
use lib.Dec.{eqb, leb}
use lib.ListN.{length, get_or, take, drop, length-drop, take-append-drop}
use lib.Seq.{length-take-le, drop-drop, take-add, take_all}
use borrow.Author.Tests.{leb-true, eqb-true}
use Rattle.layout.specs.Field.{digit}
use Rattle.layout.specs.Refusal.{first}
use Rattle.layout.proofs.BoolLaws.{and_split}
use Rattle.endian.specs.Bytes.{Octets, bytes, number_at, bytes_of, word_bytes}
use Rattle.endian.proofs.BytesLaws.{octets-take, octets-drop, bytes-at, number-below}
use Rattle.graph.specs.Numbers.{gather}
use Rattle.rules.specs.Buffers.{numbers, all_to}
use Rattle.rules.specs.Image.{chunk, sizes_body, object_bytes, objects_body, image, body_len, kind_of, body_of, past, cut, saved_n, saved_r, saved_last, sizes_ok, leads, object_len, left, listed, from, saved_width, saved_sink, saved_word, saved_words, shaped, objects_ok, saved_root, roots_ok, saved_list}
use Rattle.rules.specs.Load.{sizes, objects, root_words, image_n, image_r, image_tests}
use Rattle.rules.specs.Plain.{vacant, object, is_free, words_in, is_sink, cell_at, plain_size, plain_words, plain_sink, plain_chunks, cell_from, plain_loaded}
use Rattle.rules.proofs.ListLaws.{all_to-at, length-numbers}
use Rattle.rules.proofs.ImageLaws.{past-suc, length_none, gather-same}
use Rattle.rules.proofs.AcceptedLaws.{Placed, Places, accepted-places, fronted, sizes-held, shape-facts, objects-held, sizes-right, objects-right, roots-right, loaded-size, loaded-roots, loaded-cell, used_in}

-- ---- a chunk

module _ (b : List ℕ) (h : Octets b) (c : cut b ≡ false) where
  body-length : length (body_of b) ≡ body_len b
  unfolding body_of
  body-length = length-take-le (body_len b) (drop 6 b) (omega (arith, length-drop 6 b, fronted b c))

  pub body-octets : Octets (body_of b)
  unfolding body_of
  body-octets = octets-take (body_len b) (drop 6 b) (octets-drop 6 b h)

  pub body-room : length (body_of b) < 256 ^ 4
  unfolding body_len
  body-room = let e = body-length in let f = (fronted b c).0 in omega (arith, number-below 4 0 b h (omega arith))

  pub kind-room : kind_of b < 256 ^ 2
  unfolding kind_of
  kind-room = let f = (fronted b c).0 in number-below 2 4 b h (omega arith)

  front : take 6 b ++ take (body_len b) (drop 6 b) ≡ chunk (kind_of b) (body_of b)
  unfolding chunk body_of body_len kind_of
  front =
      let f = (fronted b c).0 in
      ap (λ (r : List ℕ). r ++ body_of b)
      (take-add 4 2 b
      ∙ ap₂ (λ (r s : List ℕ). r ++ s) (sym (bytes-at 4 0 b h (omega arith)) ∙ ap (bytes 4) (sym body-length)) (sym (bytes-at 2 4 b h (omega arith))))

  -- it is written again as it was
  pub chunk-again : b ≡ chunk (kind_of b) (body_of b) ++ past 1 b
  unfolding past
  chunk-again =
      sym (take-append-drop (6 + body_len b) b) ∙ ap (λ (r : List ℕ). r ++ drop (6 + body_len b) b) (take-add 6 (body_len b) b ∙ front)

pub octets-past : (t : ℕ) (b : List ℕ) → Octets b → Octets (past t b)
unfolding past
octets-past zero b h = h
octets-past (suc t) b h = octets-past t (drop (6 + body_len b) b) (octets-drop (6 + body_len b) b h)

-- ---- the chunks

module _ (b : List ℕ) (h : Octets b) where
  -- one of the first three
  place-again : (t : ℕ) → Placed b t → past t b ≡ chunk (suc t) (body_of (past t b)) ++ past (suc t) b
  place-again t p =
      chunk-again (past t b) (octets-past t b h) p.whole
      ∙ ap₂ (λ (i : ℕ) (r : List ℕ). chunk i (body_of (past t b)) ++ r) p.kind (sym (past-suc t b))

  pub place-octets : (t : ℕ) → Placed b t → Octets (body_of (past t b))
  place-octets t p = body-octets (past t b) (octets-past t b h) p.whole

-- ---- the body of kind 1

sizes-again : (body : List ℕ) → Octets body → sizes_ok body ≡ true → sizes_body (saved_n body) (saved_r body) (saved_last body) ≡ body
unfolding sizes_body saved_n saved_r saved_last
sizes-again body h e =
    let s = sizes-held body e in
    let l = s.eight in
    let two : List ℕ → List ℕ → List ℕ = λ r t. r ++ t in
    ap₂ two
    (ap₂ two
    (ap₂ two (ap (bytes 2) (sym s.version) ∙ bytes-at 2 0 body h (omega arith)) (bytes-at 2 2 body h (omega arith)) ∙ sym (take-add 2 2 body))
    (bytes-at 2 4 body h (omega arith))
    ∙ sym (take-add 4 2 body))
    (bytes-at 2 6 body h (omega arith))
    ∙ sym (take-add 6 2 body)
    ∙ take_all 8 body (omega arith)

-- ---- numbers of k bytes

module _ (k : ℕ) (l : List ℕ) (h : Octets l) (o : ℕ) (f : ℕ → ℕ) (e : (j : ℕ) → f j ≡ number_at k (o + k * j) l) where
  -- those from place o on, written again
  numbers-again : (a m : ℕ) → o + k * (a + m) ≤ length l → bytes_of k (map f (numbers a m)) ≡ take (k * m) (drop (o + k * a) l)
  unfolding bytes_of numbers
  numbers-again a zero p = ap (λ (i : ℕ). take i (drop (o + k * a) l)) (let q : 0 ≡ k * 0 = omega arith in q)
  numbers-again a (suc m) p =
      let s : k + k * m ≡ k * suc m = omega arith in
      let t : o + k * suc a ≡ o + k * a + k = omega arith in
      ap₂ (λ (r t : List ℕ). r ++ t) (ap (bytes k) (e a) ∙ bytes-at k (o + k * a) l h (omega arith))
      (numbers-again (suc a) m (omega arith) ∙ ap (take (k * m)) (ap (λ (i : ℕ). drop i l) t ∙ sym (drop-drop k (o + k * a) l)))
      ∙ sym (take-add k (k * m) (drop (o + k * a) l))
      ∙ ap (λ (i : ℕ). take i (drop (o + k * a) l)) s

pub roots-again : (r : ℕ) (body : List ℕ) → Octets body → length body ≡ 4 * r → word_bytes (map (saved_root body) (numbers 0 r)) ≡ body
unfolding saved_root
roots-again r body h e =
    numbers-again 4 body h 0 (saved_root body) (λ j. ap (λ (m : ℕ). number_at 4 m body) (let q : 4 * j ≡ 0 + 4 * j = omega arith in q)) 0 r (omega arith)
    ∙ take_all (4 * r) body (omega arith)

-- ---- the body of sinks

pub list-again : (body : List ℕ) → Octets body → length body % 2 ≡ 0 → bytes_of 2 (saved_list body) ≡ body
unfolding saved_list
list-again body h e =
    let half : 2 * (length body / 2) ≡ length body = omega arith in
    numbers-again 2 body h 0 (λ k. number_at 2 (2 * k) body) (λ j. ap (λ (m : ℕ). number_at 2 m body) (let q : 2 * j ≡ 0 + 2 * j = omega arith in q)) 0 (length body / 2) (omega arith)
    ∙ take_all (2 * (length body / 2)) body (omega arith)

-- ---- the body of kind 2

-- the four bytes before the words
four : (l r : List ℕ) → 4 ≤ length l → take 2 l ++ (get_or l 2 0 ∷ get_or l 3 0 ∷ r) ≡ take 4 l ++ r
four [] r p = absurd (omega arith)
four (a ∷ []) r p = absurd (omega arith)
four (a ∷ b ∷ []) r p = absurd (omega arith)
four (a ∷ b ∷ c ∷ []) r p = absurd (omega arith)
four (a ∷ b ∷ c ∷ d ∷ l) r p = refl

digit-again : (v : ℕ) → v ≤ 1 → digit (eqb v 1) ≡ v
unfolding digit
digit-again zero p = refl
digit-again (suc zero) p = refl
digit-again (suc (suc v)) p = absurd (omega arith)

module _ (body : List ℕ) where
  -- whether it is a sink
  abbrev pub sink_read : ℕ → Bool
  sink_read x = eqb (saved_sink body x) 1

  -- and its bytes, as they are written
  abbrev entry_read : ℕ → List ℕ
  entry_read x = object_bytes x (sink_read x) (saved_words body x)

module _ (body : List ℕ) (h : Octets body) where
  left-octets : (x : ℕ) → Octets (left body x)
  unfolding left
  left-octets zero = h
  left-octets (suc x) = go (leads (suc x) (left body x)) (left-octets x)
    where
      go : (t : Bool) → Octets (left body x) → Octets (cond t (drop (object_len (left body x)) (left body x)) (left body x))
      go true r = octets-drop (object_len (left body x)) (left body x) r
      go false r = r

  -- a listed object, written again
  entry-again : (x : ℕ) → listed body (suc x) ≡ true → shaped body (suc x) ≡ true → entry_read body (suc x) ≡ take (object_len (left body x)) (left body x)
  unfolding listed leads from saved_width saved_sink saved_word saved_words object_len object_bytes
  entry-again x u v =
      let l : List ℕ = left body x in
      let k : ℕ = get_or (left body x) 2 0 in
      let i = and_split (leb 4 (length l)) (eqb (number_at 2 0 l) (suc x)) u in
      let long = leb-true 4 (length l) i.0 in
      let s = shape-facts body (suc x) u v in
      let f = s.fits in
      ap₂ (λ (r t : List ℕ). r ++ t)
      (ap (bytes 2) (sym (eqb-true (number_at 2 0 l) (suc x) i.1)) ∙ bytes-at 2 0 l (left-octets x) (omega arith))
      (ap₂ (λ (a : ℕ) (r : List ℕ). a ∷ r) (length-numbers (saved_word body (suc x)) 0 k)
      (ap₂ (λ (a : ℕ) (r : List ℕ). a ∷ r) (digit-again (get_or l 3 0) s.sunk)
      (numbers-again 4 l (left-octets x) 4 (saved_word body (suc x)) (λ j. refl) 0 k (omega arith))))
      ∙ four l (take (4 * k) (drop 4 l)) long
      ∙ sym (take-add 4 (4 * k) l)

  -- the objects up to x, written again, with the bytes left behind them
  objects-so-far : (n x : ℕ) → all_to n (shaped body) ≡ true → x ≤ n → gather x (listed body) (entry_read body) ++ left body x ≡ body
  unfolding gather left listed
  objects-so-far n zero a p = refl
  objects-so-far n (suc x) a p =
      append_assoc (gather x (listed body) (entry_read body)) (cond (listed body (suc x)) (entry_read body (suc x)) []) _
      ∙ ap (λ (r : List ℕ). gather x (listed body) (entry_read body) ++ r) (go (listed body (suc x)) refl)
      ∙ objects-so-far n x a (omega arith)
    where
      go : (t : Bool) → listed body (suc x) ≡ t
          → cond t (entry_read body (suc x)) [] ++ cond t (drop (object_len (left body x)) (left body x)) (left body x) ≡ left body x
      go true e =
          ap (λ (r : List ℕ). r ++ drop (object_len (left body x)) (left body x)) (entry-again x e (all_to-at n (shaped body) a (suc x) (omega arith) p))
          ∙ take-append-drop (object_len (left body x)) (left body x)
      go false e = refl

  pub objects-again : (n : ℕ) → objects_ok body n ≡ true → objects_body n (listed body) (sink_read body) (saved_words body) ≡ body
  unfolding objects_body
  objects-again n e =
      let s = objects-held body n e in
      sym (append-nil _)
      ∙ ap (λ (r : List ℕ). gather n (listed body) (entry_read body) ++ r) (sym (length_none (left body n) s.end))
      ∙ objects-so-far n n s.shape (omega arith)

-- ---- the image

module _ (b : List ℕ) (h : Octets b) (e : first (image_tests b) ≡ 0) where
  places : Places b
  places = accepted-places b e

  sizes-same : sizes_body (plain_size (plain_loaded b)) (length (plain_loaded b).roots) (plain_loaded b).last ≡ sizes b
  unfolding plain_loaded
  sizes-same =
      ap₂ (λ (n r : ℕ). sizes_body n r (saved_last (sizes b))) (loaded-size b) (loaded-roots b)
      ∙ sizes-again (sizes b) (unfold past in place-octets b h 0 places.one) (sizes-right b e)

  roots-same : word_bytes (plain_loaded b).roots ≡ root_words b
  unfolding plain_loaded roots_ok
  roots-same =
      roots-again (image_r b) (root_words b) (place-octets b h 2 places.three)
      (eqb-true (length (root_words b)) (4 * image_r b) (and_split (eqb (length (root_words b)) (4 * image_r b)) _ (roots-right b e)).0)

  entry-same : (x : ℕ) → 1 ≤ x → x ≤ image_n b
      → cond (not (is_free (cell_at (plain_loaded b).cells x))) (object_bytes x (plain_sink (plain_loaded b) x) (plain_words (plain_loaded b) x)) []
      ≡ cond (listed (objects b) x) (object_bytes x (sink_read (objects b) x) (saved_words (objects b) x)) []
  unfolding plain_words plain_sink cell_from
  entry-same x p q = rw (loaded-cell b x p q) (go (listed (objects b) x))
    where
      go : (t : Bool)
          → (let c = cond t (object (saved_words (objects b) x) (eqb (saved_sink (objects b) x) 1)) vacant in
          cond (not (is_free c)) (object_bytes x (is_sink c) (words_in c)) [])
          ≡ cond t (object_bytes x (eqb (saved_sink (objects b) x) 1) (saved_words (objects b) x)) []
      go true = unfold is_free is_sink words_in in refl
      go false = unfold is_free in refl

  objects-same : objects_body (plain_size (plain_loaded b)) (used_in b) (plain_sink (plain_loaded b)) (plain_words (plain_loaded b)) ≡ objects b
  unfolding objects_body
  objects-same =
      ap (λ (n : ℕ). objects_body n (used_in b) (plain_sink (plain_loaded b)) (plain_words (plain_loaded b))) (loaded-size b)
      ∙ gather-same (image_n b) (used_in b) (listed (objects b))
      (λ x. object_bytes x (plain_sink (plain_loaded b) x) (plain_words (plain_loaded b) x)) (entry_read (objects b)) entry-same
      ∙ objects-again (objects b) (place-octets b h 1 places.two) (image_n b) (objects-right b e)

  pub image-again : b ≡ plain_chunks (plain_loaded b) ++ past 3 b
  unfolding plain_chunks image past
  image-again =
      place-again b h 0 places.one
      ∙ ap (λ (r : List ℕ). chunk 1 (sizes b) ++ r) (place-again b h 1 places.two ∙ ap (λ (r : List ℕ). chunk 2 (objects b) ++ r) (place-again b h 2 places.three))
      ∙ sym (append_assoc (chunk 1 (sizes b)) (chunk 2 (objects b)) (chunk 3 (root_words b) ++ past 3 b))
      ∙ sym (append_assoc (chunk 1 (sizes b) ++ chunk 2 (objects b)) (chunk 3 (root_words b)) (past 3 b))
      ∙ ap₂ (λ (r s : List ℕ). r ++ chunk 3 s ++ past 3 b)
      (ap₂ (λ (r s : List ℕ). chunk 1 r ++ chunk 2 s) (sym sizes-same) (sym objects-same))
      (sym roots-same)
