-- The image as it is written: stores one after the other are one store, and a part that is lent and filled is a store.
-- Assumes nothing.
use Prim.Native.Nat.{ℕ, zero, suc, ◌+◌, ◌-◌, ◌*◌, ◌/◌, ◌%◌, ◌≤◌, ◌<◌}
use mathlib.Core.Path.{◌≡◌, refl, sym, ap, ap₂, ◌∙◌}
use mathlib.Core.Bool.{Bool, true, false, not, cond, or-false}
use mathlib.Core.Logic.{◌≢◌}
use mathlib.Core.List.{List, [], ◌∷◌, ◌++◌, append_assoc, append-nil}
use native.Mathlib.Nat.{add-zero}
use native.Mathlib.Numerals.{add-one}
use native.Mathlib.Decide.{dec_le}
use native.Mathlib.Omega.{arith}
use lib.Dec.{eqb}
use lib.ListN.{length, get_or, take, drop, set, length-append, length-take, length-drop, drop_of_length-le}
use lib.Seq.{sets, sets-eq, length-sets, take-suc, length-take-le}
use borrow.Rule.Slice.PartMut.{put_mid, Post-is, mid_of, mid_len}
use borrow.Author.Tests.{eq-eqb, ne_eqb, lt-ltb, le-ltb, not-false}
use Rattle.layout.specs.declared.answers.Control.{Control}
use Rattle.layout.specs.ControlRecord.{bad_control}
use Rattle.std.specs.Prelude.{Ok, Err}
use Rattle.std.specs.List.{count_by}
use Rattle.std.proofs.lemmas.List.{take_all}
use Rattle.std.proofs.lemmas.List.Recursion.{is_count_by}
use Rattle.layout.specs.declared.refusals.Refusal.{Refusal}
use Rattle.layout.specs.declared.refusals.Refusal.TheVariants.{TooShort}
use Rattle.layout.specs.Refusal.{Test, number, first}
use Rattle.layout.proofs.BoolLaws.{or_split}
use Rattle.layout.proofs.ControlLaws.{control-facts}
use Rattle.layout.proofs.RefusalLaws.{numbered, nil, cons, first_holds, first-fails, first-passed, first-front, first-skip, first-zero, outcome-zero, outcome-number}
use Rattle.layout.specs.Field.{field, digit}
use Rattle.layout.specs.Limits.{object_max, root_max, width_max, sink_max}
use Rattle.records.specs.Record.{in_use, is_sink, width}
use Rattle.endian.specs.Bytes.{bytes, bytes_of, word_bytes}
use Rattle.endian.proofs.BytesLaws.{length-bytes, length-numbers}
use Rattle.rules.specs.Image.{head_len, sinks_kind, chunk, sizes_body, object_bytes, objects_body, image, sinks_chunk}
use Rattle.graph.specs.Numbers.{sum, gather}
use Rattle.graph.specs.Heap.{pointers}
use Rattle.graph.proofs.NumberLaws.{sum-most}
use Rattle.graph.proofs.ReachLaws.{length-pointers}
use Rattle.rules.specs.Buffers.{short, short_heap, rec_of, used_words}
use Rattle.rules.specs.WellFormed.{well_formed}
use Rattle.rules.specs.Save.{gives, heap_chunks, heap_image, save_tests, save}
use Rattle.rules.proofs.ListLaws.{rec-get}
use Rattle.rules.proofs.BufferLaws.{used-part}
use Rattle.rules.proofs.WellFormedLaws.{formed-of, sane}
use Rattle.rules.proofs.SaneLaws.{sane-width}
use Rattle.rules.proofs.ImageLaws.{chunk-length}
use Rattle.table.proofs.RoomLaws.{heap-long}
use Rattle.wellformed.specs.Check.{heap_tests}
use Rattle.saves.specs.Saves.{record_len, objects_len, objects_to, object_at, sinks_len, Writable, ObjectRoom, ObjectPut, Savable, answer_of}

-- ---- stores

-- two stores, the second behind the first, are one
pub sets-join : (vs ws l : List ℕ) (i j : ℕ) → j ≡ i + length vs → sets (sets l i vs) j ws ≡ sets l i (vs ++ ws)
sets-join [] ws l i j e = ap (λ (m : ℕ). sets l m ws) (e ∙ add-zero i)
sets-join (a ∷ vs) ws l i j e = sets-join vs ws (set l i a) (suc i) j (omega arith)

-- a store of as many bytes as there are
pub sets-all : (vs l : List ℕ) → length l ≡ length vs → sets l 0 vs ≡ vs
sets-all vs l e = sets-eq vs l 0 (omega arith) ∙ ap (λ (m : List ℕ). vs ++ m) (drop_of_length-le l {i = 0 + length vs} (omega arith)) ∙ append-nil vs

-- a store in front
pub sets-front : (vs l : List ℕ) → length vs ≤ length l → sets l 0 vs ≡ vs ++ drop (length vs) l
sets-front vs l h = sets-eq vs l 0 (omega arith) ∙ ap (λ (m : ℕ). vs ++ drop m l) (let e : 0 + length vs ≡ length vs = omega arith in e)

-- a part is lent and comes back as vs
pub part-sets : (vs l : List ℕ) (a e : ℕ) → e ≡ a + length vs → e ≤ length l → put_mid a (e - a) l vs ≡ sets l a vs
part-sets vs l a e q h =
    ap (λ (m : List ℕ). take a l ++ (vs ++ m)) (Post-is a e l (omega arith) ∙ ap (λ (m : ℕ). drop m l) q)
    ∙ sym (append_assoc (take a l) vs (drop (a + length vs) l)) ∙ sym (sets-eq vs l a (omega arith))

-- the bytes of two lists of numbers
numbers-join : (k : ℕ) (l m : List ℕ) → bytes_of k (l ++ m) ≡ bytes_of k l ++ bytes_of k m
unfolding bytes_of
numbers-join k [] m = refl
numbers-join k (x ∷ l) m = ap (λ (r : List ℕ). bytes k x ++ r) (numbers-join k l m) ∙ sym (append_assoc (bytes k x) (bytes_of k l) (bytes_of k m))

one_number : (k v : ℕ) → bytes_of k (v ∷ []) ≡ bytes k v
unfolding bytes_of
one_number k v = append-nil (bytes k v)

-- a word is put into its part
pub word-part : (l : List ℕ) (at v : ℕ) → at + 4 ≤ length l → put_mid at (at + 4 - at) l (sets (mid_of at (at + 4 - at) l) 0 (bytes 4 v)) ≡ sets l at (bytes 4 v)
word-part l at v h =
    let k = length-bytes 4 v in
    ap (put_mid at (at + 4 - at) l) (sets-all (bytes 4 v) (mid_of at (at + 4 - at) l) (omega (arith, mid_len at (at + 4) l h)))
    ∙ part-sets (bytes 4 v) l at (at + 4) (omega arith) h

-- a word more
pub words_step : (b words : List ℕ) (at j : ℕ) → j < length words
    → sets (sets b at (word_bytes (take j words))) (at + 4 * j) (bytes 4 (get_or words j 0)) ≡ sets b at (word_bytes (take (j + 1) words))
words_step b words at j h =
    let w = get_or words j 0 in
    let l : length (word_bytes (take j words)) ≡ 4 * j = length-numbers 4 (take j words) ∙ ap (λ (m : ℕ). 4 * m) (length-take-le j words (omega arith)) in
    sets-join (word_bytes (take j words)) (bytes 4 w) b at (at + 4 * j) (omega arith)
    ∙ ap (sets b at)
    (ap (λ (r : List ℕ). word_bytes (take j words) ++ r) (sym (one_number 4 w)) ∙ sym (numbers-join 4 (take j words) (w ∷ []))
    ∙ ap word_bytes (sym (ap (λ (m : ℕ). take m words) (add-one j) ∙ take-suc words j 0 h)))

pub words-none : (b : List ℕ) (at : ℕ) → b ≡ sets b at (word_bytes [])
unfolding bytes_of
words-none b at = refl

pub roots-length : (r : ℕ) (roots : List ℕ) → r ≤ length roots → length (word_bytes (take r roots)) ≡ 4 * r
roots-length r roots h = length-numbers 4 (take r roots) ∙ ap (λ (m : ℕ). 4 * m) (length-take-le r roots h)

-- ---- a chunk: its front, and its body in the part behind
pub chunk-put : (kind : ℕ) (body l : List ℕ) (at a e m : ℕ) → a ≡ at + 6 → e ≡ a + length body → m ≡ length body → e ≤ length l
    → put_mid a (e - a) (sets l at (bytes 4 m ++ bytes 2 kind)) body ≡ sets l at (chunk kind body)
unfolding chunk
chunk-put kind body l at a e m p q s h =
    let f = bytes 4 m ++ bytes 2 kind in
    let k : length f ≡ 6 = length-append (bytes 4 m) (bytes 2 kind) ∙ omega (arith, length-bytes 4 m, length-bytes 2 kind) in
    part-sets body (sets l at f) a e q (omega (arith, length-sets l at f)) ∙ sets-join f body l at a (omega arith)
    ∙ ap (λ (x : ℕ). sets l at (bytes 4 x ++ bytes 2 kind ++ body)) s

-- the lowest byte of a sum
byte_step : (k y z : ℕ) → y < 256 → bytes (suc k) (y + 256 * z) ≡ y ∷ bytes k z
unfolding bytes
byte_step k y z h =
    let a : (y + 256 * z) % 256 ≡ y = omega arith in
    let b : (y + 256 * z) / 256 ≡ z = omega arith in
    rw (a, b) refl

-- the four bytes of a head as one word
pub head_bytes : (x w d : ℕ) → x < 65536 → w < 256 → d < 256 → bytes 4 (x + 65536 * w + 16777216 * d) ≡ bytes 2 x ++ (w ∷ d ∷ [])
unfolding bytes
head_bytes x w d p q h =
    let a : x + 65536 * w + 16777216 * d ≡ x % 256 + 256 * (x / 256 + 256 * (w + 256 * (d + 256 * 0))) = omega arith in
    let b : x / 256 % 256 ≡ x / 256 = omega arith in
    ap (bytes 4) a ∙ byte_step 3 (x % 256) (x / 256 + 256 * (w + 256 * (d + 256 * 0))) (omega arith)
    ∙ ap (λ (l : List ℕ). x % 256 ∷ l)
    (byte_step 2 (x / 256) (w + 256 * (d + 256 * 0)) (omega arith)
    ∙ ap₂ (λ (y : ℕ) (l : List ℕ). y ∷ l) (sym b) (byte_step 1 w (d + 256 * 0) q ∙ ap (λ (l : List ℕ). w ∷ l) (byte_step 0 d 0 h)))

module _ (x w : ℕ) (sink : Bool) (p : x < 65536) (q : w < 16) where
  pub head-sink : sink ≡ true → bytes 4 (x + 65536 * w + 16777216) ≡ bytes 2 x ++ (w ∷ digit sink ∷ [])
  unfolding digit
  head-sink e = rw e (head_bytes x w 1 p (omega arith) (omega arith))

  pub head_plain : sink ≡ false → bytes 4 (x + 65536 * w) ≡ bytes 2 x ++ (w ∷ digit sink ∷ [])
  unfolding digit
  head_plain e = let z : x + 65536 * w ≡ x + 65536 * w + 16777216 * 0 = omega arith in rw e (ap (bytes 4) z ∙ head_bytes x w 0 p (omega arith) (omega arith))

-- the body of the sizes
pub sizes-length : (n r last : ℕ) → length (sizes_body n r last) ≡ 8
unfolding sizes_body bytes
sizes-length n r last = refl

pub sizes-put : (b : List ℕ) (n r last : ℕ) → length b ≡ 8
    → sets (sets (sets (sets b 0 (bytes 2 1)) 2 (bytes 2 n)) 4 (bytes 2 r)) 6 (bytes 2 last) ≡ sizes_body n r last
unfolding sizes_body bytes
sizes-put b n r last h = sets-all (bytes 2 1 ++ bytes 2 n ++ bytes 2 r ++ bytes 2 last) b h

-- ---- objects

-- a width field has four bits
pub width-bound : (r : ℕ) → width r < 16
unfolding field
width-bound r = omega arith

pub len-used : (r : ℕ) → in_use r ≡ true → head_len + 4 * width r ≡ record_len r
unfolding record_len
len-used r u = rw u refl

pub len-free : (r : ℕ) → in_use r ≡ false → 0 ≡ record_len r
unfolding record_len
len-free r u = rw u refl

pub len-bound : (r : ℕ) → record_len r ≤ 64
unfolding record_len
len-bound r = go (in_use r)
  where
    go : (b : Bool) → cond b (head_len + 4 * width r) 0 ≤ 64
    go true = omega (arith, width-bound r)
    go false = omega arith

-- an object that is not in use
pub object-free : (i r at : ℕ) (slots body : List ℕ) → in_use r ≡ false → ObjectPut i r slots body at body at
unfolding object_at
object-free i r at slots body u = record { stored = rw u refl; after = omega (arith, len-free r u) }

module _ (i r : ℕ) (slots : List ℕ) (narrow : width r ≤ width_max) (long : width_max * i + width_max ≤ length slots) where
  words-length : length (take (width r) (drop (width_max * i) slots)) ≡ width r
  words-length = length-take-le (width r) (drop (width_max * i) slots) (let d = length-drop (width_max * i) slots in omega (arith, narrow, long))

  -- an object that is, as its head and its words
  pub object-used : in_use r ≡ true → (v w : ℕ) → w ≡ width r → bytes 4 v ≡ bytes 2 (i + 1) ++ (w ∷ digit (is_sink r) ∷ []) → (body : List ℕ) (at : ℕ) (body' : List ℕ) (e : ℕ)
      → body' ≡ sets (sets body at (bytes 4 v)) (at + 4) (word_bytes (take w (drop (width_max * i) slots))) → e ≡ at + 4 + 4 * w → ObjectPut i r slots body at body' e
  unfolding object_at object_bytes
  object-used u v w p q body at body' e s t =
      let words = take (width r) (drop (width_max * i) slots) in
      record {
        stored =
            s ∙ sets-join (bytes 4 v) (word_bytes (take w (drop (width_max * i) slots))) body at (at + 4) (omega (arith, length-bytes 4 v))
            ∙ ap (sets body at)
            (ap₂ (λ (x : List ℕ) (y : ℕ). x ++ word_bytes (take y (drop (width_max * i) slots))) (q ∙ ap (λ (y : ℕ). bytes 2 (i + 1) ++ (y ∷ digit (is_sink r) ∷ [])) p) p
            ∙ append_assoc (bytes 2 (i + 1)) (width r ∷ digit (is_sink r) ∷ []) (word_bytes words)
            ∙ ap (λ (y : ℕ). bytes 2 (i + 1) ++ (y ∷ digit (is_sink r) ∷ word_bytes words)) (sym words-length)
            ∙ sym (ap (λ (b : Bool). cond b (bytes 2 (i + 1) ++ (length words ∷ digit (is_sink r) ∷ word_bytes words)) []) u));
        after = omega (arith, len-used r u);
      }

  pub object-length : length (object_at i r slots) ≡ record_len r
  unfolding object_at object_bytes record_len
  object-length = go (in_use r)
    where
      go : (b : Bool) → length (cond b (bytes 2 (i + 1) ++ (length (take (width r) (drop (width_max * i) slots)) ∷ digit (is_sink r) ∷ word_bytes (take (width r) (drop (width_max * i) slots)))) [])
          ≡ cond b (head_len + 4 * width r) 0
      go true =
          length-append (bytes 2 (i + 1)) (length (take (width r) (drop (width_max * i) slots)) ∷ digit (is_sink r) ∷ word_bytes (take (width r) (drop (width_max * i) slots)))
          ∙ omega (arith, length-bytes 2 (i + 1), length-numbers 4 (take (width r) (drop (width_max * i) slots)), words-length)
      go false = refl

module _ (n : ℕ) (recs : List ℕ) where
  pub len-none : 0 ≡ objects_len n recs 0
  unfolding objects_len sum
  len-none = refl

  pub len-step : (i : ℕ) → i < n → objects_len n recs (i + 1) ≡ objects_len n recs i + record_len (get_or recs i 0)
  unfolding objects_len sum
  len-step i h = rw (add-one i) (ap (λ (r : ℕ). sum i (λ x. record_len (rec_of n recs x)) + record_len r) (rec-get n recs i h))

  pub len-most : (i : ℕ) → objects_len n recs i ≤ 64 * i
  unfolding objects_len
  len-most i = sum-most i 64 (λ x. record_len (rec_of n recs x)) (λ x o. len-bound (rec_of n recs x))

  pub len-mono : (i k : ℕ) → i ≤ k → objects_len n recs i ≤ objects_len n recs k
  unfolding objects_len sum
  len-mono i zero h = let e : i ≡ 0 = omega arith in rw e (omega arith)
  len-mono i (suc k) h = go (dec_le i k) (len-mono i k)
    where
      go : Dec (i ≤ k) → (i ≤ k → objects_len n recs i ≤ objects_len n recs k) → objects_len n recs i ≤ objects_len n recs (suc k)
      go (yes p) f = let a = f p in omega arith
      go (no p) f = let e : i ≡ suc k = omega arith in rw e (omega arith)

module _ (n : ℕ) (recs slots : List ℕ) where
  pub to_none : (b : List ℕ) → b ≡ sets b 0 (objects_to n recs slots 0)
  unfolding objects_to objects_body gather
  to_none b = refl

  module _ (W : Writable n recs slots) (i : ℕ) (h : i < n) where
    pub object-narrow : width (get_or recs i 0) ≤ width_max
    object-narrow = rw (rec-get n recs i h) at (W.widths (suc i))

    pub object-slots : width_max * i + width_max ≤ length slots
    object-slots = omega (arith, W.room.slots-long)

    same_object : (r : ℕ) (ws : List ℕ) → r ≡ get_or recs i 0 → ws ≡ take (width r) (drop (width_max * i) slots)
        → cond (in_use r) (object_bytes (suc i) (is_sink r) ws) [] ≡ object_at i (get_or recs i 0) slots
    unfolding object_at
    same_object r ws p q = rw (q, p, add-one i) refl

    pub to_step : objects_to n recs slots (i + 1) ≡ objects_to n recs slots i ++ object_at i (get_or recs i 0) slots
    unfolding objects_to objects_body gather
    to_step =
        let e : suc i - 1 ≡ i = omega arith in
        rw (add-one i)
        (ap (λ (l : List ℕ). objects_to n recs slots i ++ l)
        (same_object (rec_of n recs (suc i)) (used_words n recs slots (suc i)) (rec-get n recs i h)
        (used-part n recs slots (suc i) (omega arith) (W.widths (suc i)) ∙ ap (λ (j : ℕ). take (width (rec_of n recs (suc i))) (drop (width_max * j) slots)) e)))

  module _ (W : Writable n recs slots) where
    pub to-length : (i : ℕ) → i ≤ n → length (objects_to n recs slots i) ≡ objects_len n recs i
    unfolding objects_to objects_body gather objects_len sum
    to-length zero h = refl
    to-length (suc i) h =
        let p : i < n = omega arith in
        ap (λ (k : ℕ). length (objects_to n recs slots k)) (sym (add-one i)) ∙ ap length (to_step W i p)
        ∙ length-append (objects_to n recs slots i) (object_at i (get_or recs i 0) slots)
        ∙ ap₂ (λ (a b : ℕ). a + b) (to-length i (omega arith)) (object-length i (get_or recs i 0) slots (object-narrow W i p) (object-slots W i p))
        ∙ sym (len-step n recs i p) ∙ ap (objects_len n recs) (add-one i)

    -- a turn of the loop over the objects
    module _ (i : ℕ) (h : i < n) (at : ℕ) (p : at ≡ objects_len n recs i) where
      pub object-room : (body : List ℕ) → length body ≡ objects_len n recs n → ObjectRoom i (get_or recs i 0) slots body at
      object-room body e =
          let s = len-step n recs i h in
          let m = len-mono n recs (i + 1) n (omega arith) in
          record { most = omega (arith, W.room.most); narrow = object-narrow W i h; slots-long = object-slots W i h; body-long = omega arith }

      pub objects-turn : (b : List ℕ) → sets (sets b 0 (objects_to n recs slots i)) at (object_at i (get_or recs i 0) slots) ≡ sets b 0 (objects_to n recs slots (i + 1))
      objects-turn b =
          sets-join (objects_to n recs slots i) (object_at i (get_or recs i 0) slots) b 0 at (omega (arith, to-length i (omega arith))) ∙ ap (sets b 0) (sym (to_step W i h))

    pub objects-end : (i : ℕ) (b : List ℕ) → i ≤ n → n ≤ i → length b ≡ objects_len n recs n → sets b 0 (objects_to n recs slots i) ≡ objects_to n recs slots n
    objects-end i b p q l =
        let j : i ≡ n = omega arith in
        ap (λ (k : ℕ). sets b 0 (objects_to n recs slots k)) j ∙ sets-all (objects_to n recs slots n) b (omega (arith, to-length n (omega arith)))

-- ---- the list of sinks

-- one place more
place-more : (l : List ℕ) (y : ℕ) → pointers (l ++ (y ∷ [])) ≡ pointers l ++ pointers (y ∷ [])
unfolding pointers
place-more [] y = refl
place-more (x ∷ l) y = go (eqb x 0) (place-more l y)
  where
    go : (b : Bool) → pointers (l ++ (y ∷ [])) ≡ pointers l ++ pointers (y ∷ [])
        → cond b (pointers (l ++ (y ∷ []))) (x ∷ pointers (l ++ (y ∷ []))) ≡ cond b (pointers l) (x ∷ pointers l) ++ pointers (y ∷ [])
    go true e = e
    go false e = ap (λ (r : List ℕ). x ∷ r) e

pub place-empty : (y : ℕ) → y ≡ 0 → pointers (y ∷ []) ≡ []
unfolding pointers
place-empty y e = rw (eq-eqb y 0 e) refl

pub place-filled : (y : ℕ) → y ≢ 0 → pointers (y ∷ []) ≡ y ∷ []
unfolding pointers
place-filled y d = rw (ne_eqb y 0 d) refl

-- the words that are not 0 are the pointers
pub pointers-count : (l : List ℕ) → count_by (λ y. not (eqb y 0)) l ≡ length (pointers l)
unfolding pointers
pointers-count l = sym (is_count_by (λ m. length (pointers m)) (λ y. not (eqb y 0)) refl turn l)
  where
    turn : (y : ℕ) (m : List ℕ) → length (pointers (y ∷ m)) ≡ cond (not (eqb y 0)) (1 + length (pointers m)) (length (pointers m))
    turn y m = go (eqb y 0)
      where
        go : (b : Bool) → length (cond b (pointers m) (y ∷ pointers m)) ≡ cond (not b) (1 + length (pointers m)) (length (pointers m))
        go true = refl
        go false = omega arith

module _ (list : List ℕ) where
  -- the sinks in the first i places
  abbrev pub first_sinks : ℕ → List ℕ
  first_sinks i = pointers (take i list)

  pub sinks-none : first_sinks 0 ≡ []
  unfolding pointers
  sinks-none = refl

  pub sinks-start : (b : List ℕ) → b ≡ sets b 0 (bytes_of 2 (first_sinks 0))
  unfolding pointers bytes_of
  sinks-start b = refl

  pub sinks-step : (i : ℕ) → i < length list → first_sinks (i + 1) ≡ first_sinks i ++ pointers (get_or list i 0 ∷ [])
  sinks-step i h = ap pointers (ap (λ (m : ℕ). take m list) (add-one i) ∙ take-suc list i 0 h) ∙ place-more (take i list) (get_or list i 0)

  pub count-step : (i : ℕ) → i < length list → length (first_sinks (i + 1)) ≡ length (first_sinks i) + length (pointers (get_or list i 0 ∷ []))
  count-step i h = ap length (sinks-step i h) ∙ length-append (first_sinks i) (pointers (get_or list i 0 ∷ []))

  pub count_most : (i : ℕ) → length (first_sinks i) ≤ i
  count_most i = omega (arith, length-pointers (take i list), length-take i list)

  -- a turn of the loop over the places
  pub sinks-turn : (i at : ℕ) (b body : List ℕ) → i < length list → at ≡ 2 * length (first_sinks i) → body ≡ sets b 0 (bytes_of 2 (first_sinks i)) → (at' : ℕ) (body' : List ℕ)
      → (at' ≡ at + 2 * length (pointers (get_or list i 0 ∷ []))) × (body' ≡ sets body at (bytes_of 2 (pointers (get_or list i 0 ∷ []))))
      → (at' ≡ 2 * length (first_sinks (i + 1))) × (body' ≡ sets b 0 (bytes_of 2 (first_sinks (i + 1))))
  sinks-turn i at b body h e f at' body' s =
      let v = bytes_of 2 (pointers (get_or list i 0 ∷ [])) in (
        omega (arith, s.0, e, count-step i h),
        s.1 ∙ ap (λ (m : List ℕ). sets m at v) f
            ∙ sets-join (bytes_of 2 (first_sinks i)) v b 0 at (omega (arith, e, length-numbers 2 (first_sinks i)))
            ∙ ap (sets b 0) (sym (ap (bytes_of 2) (sinks-step i h) ∙ numbers-join 2 (first_sinks i) (pointers (get_or list i 0 ∷ [])))),
      )

  pub sinks-end : (i : ℕ) (b : List ℕ) → length list ≤ i → length b ≡ 2 * length (pointers list) → sets b 0 (bytes_of 2 (first_sinks i)) ≡ bytes_of 2 (pointers list)
  sinks-end i b h e =
      ap (λ (l : List ℕ). sets b 0 (bytes_of 2 (pointers l))) (take_all i list h) ∙ sets-all (bytes_of 2 (pointers list)) b (omega (arith, e, length-numbers 2 (pointers list)))

-- a sink in its place
pub place-put : (y at : ℕ) (body body' : List ℕ) → y ≢ 0 → body' ≡ sets body at (bytes 2 y)
    → (at + 2 ≡ at + 2 * length (pointers (y ∷ []))) × (body' ≡ sets body at (bytes_of 2 (pointers (y ∷ []))))
place-put y at body body' d e = rw (place-filled y d) (refl, e ∙ ap (sets body at) (sym (one_number 2 y)))

pub place-skip : (y at : ℕ) (body : List ℕ) → y ≡ 0 → (at ≡ at + 2 * length (pointers (y ∷ []))) × (body ≡ sets body at (bytes_of 2 (pointers (y ∷ []))))
unfolding bytes_of
place-skip y at body e = rw (place-empty y e) (omega arith, refl)

-- their chunk
pub len-zero : (k : ℕ) → k ≡ 0 → 0 ≡ sinks_len k
unfolding sinks_len
len-zero k e = sym (ap sinks_len e)

pub len-some : (k : ℕ) → k ≢ 0 → 6 + 2 * k ≡ sinks_len k
unfolding sinks_len
len-some zero d = absurd (d refl)
len-some (suc k) d = refl

pub sinks-small : (k : ℕ) → k ≤ sink_max → sinks_len k ≤ 134
unfolding sinks_len
sinks-small zero p = omega arith
sinks-small (suc k) p = omega arith

pub chunk-none : (l : List ℕ) → length l ≡ 0 → sinks_chunk l ≡ []
unfolding sinks_chunk
chunk-none [] e = refl
chunk-none (y ∷ l) e = absurd (omega arith)

pub chunk-some : (l : List ℕ) → length l ≢ 0 → sinks_chunk l ≡ chunk sinks_kind (bytes_of 2 l)
unfolding sinks_chunk
chunk-some [] d = absurd (d refl)
chunk-some (y ∷ l) d = refl

sinks-chunk-length : (l : List ℕ) → length (sinks_chunk l) ≡ sinks_len (length l)
unfolding sinks_len sinks_chunk
sinks-chunk-length [] = refl
sinks-chunk-length (y ∷ l) = chunk-length sinks_kind (bytes_of 2 (y ∷ l)) ∙ omega (arith, length-numbers 2 (y ∷ l))

-- ---- the whole image

module _ (c : Control) (len k : ℕ) (recs slots roots list : List ℕ) (S : Savable c len k recs slots roots list) where
  abbrev sizes : List ℕ
  sizes = chunk 1 (sizes_body c.n c.r c.last)

  abbrev objects : List ℕ
  objects = chunk 2 (objects_to c.n recs slots c.n)

  abbrev rooted : List ℕ
  rooted = chunk 3 (word_bytes (take c.r roots))

  sizes-len : length sizes ≡ 14
  sizes-len = chunk-length 1 (sizes_body c.n c.r c.last) ∙ ap (λ (k : ℕ). 6 + k) (sizes-length c.n c.r c.last)

  objects-len : length objects ≡ 6 + len
  objects-len =
      chunk-length 2 (objects_to c.n recs slots c.n) ∙ ap (λ (k : ℕ). 6 + k) (to-length c.n recs slots S.heap c.n (omega arith) ∙ sym S.len_is)

  abbrev sunk : List ℕ
  sunk = sinks_chunk (pointers (take sink_max list))

  rooted-len : length rooted ≡ 6 + 4 * c.r
  rooted-len = chunk-length 3 (word_bytes (take c.r roots)) ∙ ap (λ (m : ℕ). 6 + m) (roots-length c.r roots S.roots-long)

  sunk-len : length sunk ≡ sinks_len k
  sunk-len = sinks-chunk-length (pointers (take sink_max list)) ∙ ap sinks_len (sym S.listed)

  image-parts : heap_image c recs slots roots list ≡ sizes ++ objects ++ rooted ++ sunk
  unfolding heap_image heap_chunks image objects_to
  image-parts = ap (λ (m : ℕ). chunk 1 (sizes_body c.n m c.last) ++ objects ++ rooted ++ sunk) (length-take-le c.r roots S.roots-long)

  pub image-length : length (heap_image c recs slots roots list) ≡ 26 + len + 4 * c.r + sinks_len k
  image-length =
      ap length image-parts
      ∙ omega (arith, length-append (sizes ++ objects ++ rooted) sunk, length-append (sizes ++ objects) rooted, length-append sizes objects, sizes-len, objects-len, rooted-len, sunk-len)

  pub list-few : k ≤ sink_max
  list-few = omega (arith, S.listed, count_most list sink_max)

  -- it is short enough for a word
  pub image-small : 26 + len + 4 * c.r + sinks_len k ≤ 26 + 64 * object_max + 4 * root_max + 134
  image-small = omega (arith, len-most c.n recs c.n, S.heap.room.most, S.few, S.len_is, sinks-small k list-few)

  pub image-put : (out one two three four : List ℕ) → one ≡ sets out 0 sizes → two ≡ sets one 14 objects → three ≡ sets two (20 + len) rooted
      → four ≡ sets three (20 + len + 6 + 4 * c.r) sunk → four ≡ sets out 0 (heap_image c recs slots roots list)
  image-put out one two three four e f g h =
      h
      ∙ ap (λ (m : List ℕ). sets m (20 + len + 6 + 4 * c.r) sunk)
      (g
      ∙ ap (λ (m : List ℕ). sets m (20 + len) rooted) (f ∙ ap (λ (m : List ℕ). sets m 14 objects) e ∙ sets-join sizes objects out 0 14 (omega (arith, sizes-len)))
      ∙ sets-join (sizes ++ objects) rooted out 0 (20 + len) (omega (arith, length-append sizes objects, sizes-len, objects-len)))
      ∙ sets-join (sizes ++ objects ++ rooted) sunk out 0 (20 + len + 6 + 4 * c.r)
      (omega (arith, length-append (sizes ++ objects) rooted, length-append sizes objects, sizes-len, objects-len, rooted-len)) ∙ ap (sets out 0) (sym image-parts)

-- ---- the call

module _ (c : Control) (recs slots roots list cluster_sets out : List ℕ) where
  abbrev answer : ℕ
  answer = first (heap_tests c recs slots roots list cluster_sets false)

  abbrev last-test : List Test
  last-test = (2, short (length (heap_image c recs slots roots list)) out) ∷ []

  save-tests : save_tests c recs slots roots list cluster_sets out ≡ heap_tests c recs slots roots list cluster_sets false ++ last-test
  unfolding save_tests heap_tests
  save-tests =
      ap (λ (b : Bool). (20, bad_control c) ∷ (2, b) ∷ (21, not (well_formed c recs slots roots list cluster_sets)) ∷ last-test)
      (sym (or-false (short_heap c.n c.r recs slots roots list cluster_sets)))

  pub refused : (e : Refusal) → number e ≡ answer → gives (answer_of c (Err e)) out ≡ save c recs slots roots list cluster_sets out
  unfolding save
  refused e h =
      sym
      (outcome-number _ _ (save_tests c recs slots roots list cluster_sets out) (number e)
      (ap first save-tests ∙ first-front (heap_tests c recs slots roots list cluster_sets false) last-test (λ z. numbered e (h ∙ z)) ∙ sym h)
      (numbered e))

  module _ (z : 0 ≡ answer) where
    passed : first (save_tests c recs slots roots list cluster_sets out) ≡ first last-test
    unfolding heap_tests
    passed =
        ap first save-tests
        ∙ first-skip (heap_tests c recs slots roots list cluster_sets false) last-test
        (first-zero (heap_tests c recs slots roots list cluster_sets false) (cons (omega arith) (cons (omega arith) (cons (omega arith) nil))) (sym z))

    pub savable : (len m : ℕ) → len ≡ objects_len c.n recs c.n → m ≡ length (pointers (take sink_max list)) → Savable c len m recs slots roots list
    unfolding heap_tests
    savable len m q p =
        let a = first-passed 19 _ _ (sym z) in
        let b = first-passed 1 _ _ a.1 in
        let l = heap-long c.n c.r recs slots roots list cluster_sets (or_split _ _ b.0).0 in
        let s = (control-facts c a.0).sizes in
        record {
          heap = record {
            room = record { most = s.most; recs-long = l.recs-long; slots-long = l.slots-long };
            widths = sane-width (sane _ _ _ _ _ (formed-of c recs slots roots list cluster_sets (not-false _ (first-passed 20 _ _ b.1).0)));
          };
          few = s.roots;
          roots-long = l.roots-long;
          len_is = q;
          list-long = l.sinks-long;
          listed = p;
        }

    -- the length of the image is a number of 32 bits
    pub image-most : (len m : ℕ) → len ≡ objects_len c.n recs c.n → m ≡ length (pointers (take sink_max list))
        → 26 + len + 4 * c.r + sinks_len m ≤ 26 + 64 * object_max + 4 * root_max + 134
    image-most len m q p = image-small c len m recs slots roots list (savable len m q p)

    module _ (len m : ℕ) (q : len ≡ objects_len c.n recs c.n) (p : m ≡ length (pointers (take sink_max list))) where
      pub too_small : length out < 26 + len + 4 * c.r + sinks_len m → gives (answer_of c (Err TooShort)) out ≡ save c recs slots roots list cluster_sets out
      unfolding save short
      too_small h =
          let b = heap_image c recs slots roots list in
          sym
          (outcome-number _ _ (save_tests c recs slots roots list cluster_sets out) 2
          (passed ∙ first_holds 2 [] (short (length b) out) (lt-ltb (length out) (length b) (omega (arith, image-length c len m recs slots roots list (savable len m q p)))))
          (λ z. omega arith))

      pub saved : 26 + len + 4 * c.r + sinks_len m ≤ length out → (out' : List ℕ) → out' ≡ sets out 0 (heap_image c recs slots roots list)
          → gives (answer_of c (Ok (26 + len + 4 * c.r + sinks_len m))) out' ≡ save c recs slots roots list cluster_sets out
      unfolding save short first
      saved h out' s =
          let b = heap_image c recs slots roots list in
          let e = image-length c len m recs slots roots list (savable len m q p) in
          ap₂ (λ (j : ℕ) (l : List ℕ). gives (answer_of c (Ok j)) l) (sym e) (s ∙ sets-front b out (omega arith))
          ∙ sym
          (outcome-zero _ _ (save_tests c recs slots roots list cluster_sets out)
          (passed ∙ first-fails 2 [] (short (length b) out) (le-ltb (length out) (length b) (omega arith))))
