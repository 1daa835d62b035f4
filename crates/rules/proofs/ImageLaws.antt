-- Chunks and objects that were written are read as what was written.
-- Assumes nothing.
use Prim.Native.Nat.{ℕ, zero, suc, ◌+◌, ◌-◌, ◌*◌, ◌/◌, ◌%◌, ◌^◌, ◌≤◌, ◌<◌}
use mathlib.Core.Path.{◌≡◌, refl, sym, ap, ap₂, ◌∙◌}
use mathlib.Core.Bool.{Bool, true, false, cond, ◌&&◌}
use mathlib.Core.List.{List, [], ◌∷◌, ◌++◌, map, append_assoc, append-nil, Memᴰ}
use native.Mathlib.Omega.{arith}
use lib.ListN.{length, get_or, take, drop, length-append}
use lib.Seq.{take_at, drop_at, drop-drop, drop-nil}
use lib.Dec.{eqb}
use borrow.Author.Tests.{eq-eqb, ne_eqb, le-leb, le-ltb}
use Rattle.layout.specs.Field.{digit}
use Rattle.graph.specs.Numbers.{gather}
use Rattle.endian.specs.Bytes.{bytes, number_at, bytes_of, word_bytes}
use Rattle.endian.proofs.BytesLaws.{length-bytes, number-front, number_behind, length-numbers, number-at}
use Rattle.rules.specs.Buffers.{numbers}
use Rattle.rules.specs.Image.{chunk, object_bytes, objects_body, body_len, kind_of, body_of, past, cut, leads, object_len, left, listed, from, saved_width, saved_sink, saved_as_sink, saved_word, saved_words, saved_list}

-- ---- a chunk in front of other bytes

module _ (kind : ℕ) (body z : List ℕ) (h : length body < 256 ^ 4) (k : kind < 256 ^ 2) where
  abbrev front : List ℕ
  front = bytes 4 (length body) ++ bytes 2 kind

  whole : chunk kind body ++ z ≡ front ++ (body ++ z)
  unfolding chunk
  whole = append_assoc front body z

  parts : chunk kind body ++ z ≡ bytes 4 (length body) ++ (bytes 2 kind ++ (body ++ z))
  parts = whole ∙ append_assoc (bytes 4 (length body)) (bytes 2 kind) (body ++ z)

  pub chunk-len : body_len (chunk kind body ++ z) ≡ length body
  unfolding body_len
  chunk-len = ap (number_at 4 0) parts ∙ number-front 4 (length body) _ h

  pub chunk-kind : kind_of (chunk kind body ++ z) ≡ kind
  unfolding kind_of
  chunk-kind =
      ap (number_at 2 4) parts
      ∙ ap (λ (i : ℕ). number_at 2 i (bytes 4 (length body) ++ (bytes 2 kind ++ (body ++ z)))) (let e = length-bytes 4 (length body) in omega arith)
      ∙ number_behind 2 0 (bytes 4 (length body)) (bytes 2 kind ++ (body ++ z)) ∙ number-front 2 kind (body ++ z) k

  front_length : length front ≡ 6
  front_length = length-append (bytes 4 (length body)) (bytes 2 kind) ∙ omega (arith, length-bytes 4 (length body), length-bytes 2 kind)

  behind : drop 6 (chunk kind body ++ z) ≡ body ++ z
  behind = ap (drop 6) whole ∙ drop_at front (body ++ z) 6 front_length

  pub chunk-body : body_of (chunk kind body ++ z) ≡ body
  unfolding body_of
  chunk-body = ap₂ take chunk-len behind ∙ take_at body z (length body) refl

  -- the bytes after it
  pub chunk-past : past 1 (chunk kind body ++ z) ≡ z
  unfolding past
  chunk-past =
      ap (λ (m : ℕ). drop (6 + m) (chunk kind body ++ z)) chunk-len ∙ sym (drop-drop (length body) 6 (chunk kind body ++ z))
      ∙ ap (drop (length body)) behind ∙ drop_at body z (length body) refl

  -- it ends in the input
  pub chunk_whole : cut (chunk kind body ++ z) ≡ false
  unfolding cut
  chunk_whole =
      let e : length (chunk kind body ++ z) ≡ 6 + (length body + length z) = ap length whole ∙ length-append front (body ++ z) ∙ omega (arith, front_length, length-append body z) in
      rw (le-ltb (length (chunk kind body ++ z)) 6 (omega arith), le-ltb (length (chunk kind body ++ z) - 6) (body_len (chunk kind body ++ z)) (omega (arith, chunk-len))) refl

-- one chunk more
pub past-suc : (t : ℕ) (b : List ℕ) → past (suc t) b ≡ past 1 (past t b)
unfolding past
past-suc zero b = refl
past-suc (suc t) b = past-suc t (drop (6 + body_len b) b)

pub past-nil : (t : ℕ) → past t [] ≡ []
unfolding past
past-nil zero = refl
past-nil (suc t) = ap (past t) (drop-nil (6 + body_len [])) ∙ past-nil t

pub past-add : (k t : ℕ) (b : List ℕ) → past (k + t) b ≡ past k (past t b)
past-add zero t b = unfold past in (ap (λ (m : ℕ). past m b) (let e : 0 + t ≡ t = omega arith in e))
past-add (suc k) t b =
    let e : suc k + t ≡ suc (k + t) = omega arith in
    ap (λ (m : ℕ). past m b) e ∙ past-suc (k + t) b ∙ ap (past 1) (past-add k t b) ∙ sym (past-suc k (past t b))

pub chunk-length : (kind : ℕ) (body : List ℕ) → length (chunk kind body) ≡ 6 + length body
unfolding chunk bytes
chunk-length kind body = omega arith

pub length_none : (l : List ℕ) → length l ≡ 0 → l ≡ []
length_none [] e = refl
length_none (a ∷ l) e = absurd (omega arith)

-- a list read again by number
pub numbered : {A : Type 0} (f : ℕ → A) (a : ℕ) (l : List A) (d : A) → ((i : ℕ) → i < length l → f (a + i) ≡ get_or l i d) → map f (numbers a (length l)) ≡ l
unfolding numbers
numbered f a [] d h = refl
numbered f a (w ∷ l) d h =
    ap₂ (λ x r. x ∷ r) (ap f (let e : a ≡ a + 0 = omega arith in e) ∙ h 0 (omega arith))
    (numbered f (suc a) l d (λ i p. ap f (let e : suc a + i ≡ a + suc i = omega arith in e) ∙ h (suc i) (omega arith)))

-- numbers of two bytes
pub list_read : (l : List ℕ) → ((v : ℕ) → Memᴰ v l → v < 256 ^ 2) → saved_list (bytes_of 2 l) ≡ l
unfolding saved_list
list_read l h =
    let e : length (bytes_of 2 l) / 2 ≡ length l = omega (arith, length-numbers 2 l) in
    ap (λ (k : ℕ). map (λ (i : ℕ). number_at 2 (2 * i) (bytes_of 2 l)) (numbers 0 k)) e
    ∙ numbered (λ (i : ℕ). number_at 2 (2 * i) (bytes_of 2 l)) 0 l 0 (λ i p.
    let e : 0 + i ≡ i = omega arith in
    rw e (ap (number_at 2 (2 * i)) (sym (append-nil (bytes_of 2 l))) ∙ number-at 2 l [] i h p))

-- a sink byte
pub digit-one : (t : Bool) → eqb (digit t) 1 ≡ t
unfolding digit
digit-one true = refl
digit-one false = refl

-- ---- the objects, met by number

-- the lists of those of x + 1 to x + k that pass
unfoldable pub above : (ℕ → Bool) → (ℕ → List ℕ) → ℕ → ℕ → List ℕ
above t f x zero = []
above t f x (suc k) = cond (t (suc x)) (f (suc x)) [] ++ above t f (suc x) k

above-snoc : (t : ℕ → Bool) (f : ℕ → List ℕ) (x k : ℕ) → above t f x (suc k) ≡ above t f x k ++ cond (t (suc (x + k))) (f (suc (x + k))) []
unfolding above
above-snoc t f x zero = let e : x + 0 ≡ x = omega arith in rw e (append-nil (cond (t (suc x)) (f (suc x)) []))
above-snoc t f x (suc k) =
    let e : suc x + k ≡ x + suc k = omega arith in
    ap (λ (l : List ℕ). cond (t (suc x)) (f (suc x)) [] ++ l) (above-snoc t f (suc x) k ∙ ap (λ (y : ℕ). above t f (suc x) k ++ cond (t (suc y)) (f (suc y)) []) e)
    ∙ sym (append_assoc (cond (t (suc x)) (f (suc x)) []) (above t f (suc x) k) (cond (t (suc (x + suc k))) (f (suc (x + suc k))) []))

pub gather-above : (t : ℕ → Bool) (f : ℕ → List ℕ) (n : ℕ) → gather n t f ≡ above t f 0 n
unfolding gather above
gather-above t f zero = refl
gather-above t f (suc n) =
    let e : 0 + n ≡ n = omega arith in
    ap (λ (l : List ℕ). l ++ cond (t (suc n)) (f (suc n)) []) (gather-above t f n)
    ∙ ap (λ (y : ℕ). above t f 0 n ++ cond (t (suc y)) (f (suc y)) []) (sym e) ∙ sym (above-snoc t f 0 n)

-- lists gathered of the same parts
pub gather-same : (n : ℕ) (t u : ℕ → Bool) (f g : ℕ → List ℕ) → ((x : ℕ) → 1 ≤ x → x ≤ n → cond (t x) (f x) [] ≡ cond (u x) (g x) [])
    → gather n t f ≡ gather n u g
unfolding gather
gather-same zero t u f g h = refl
gather-same (suc n) t u f g h =
    ap₂ (λ (r s : List ℕ). r ++ s) (gather-same n t u f g (λ x p q. h x p (omega arith))) (h (suc n) (omega arith) (omega arith))

module _ (sink : ℕ → Bool) (words : ℕ → List ℕ) where
  abbrev pub entry : ℕ → List ℕ
  entry x = object_bytes x (sink x) (words x)

  pub entry_length : (x : ℕ) → length (entry x) ≡ 4 + 4 * length (words x)
  unfolding object_bytes
  entry_length x = length-append (bytes 2 x) _ ∙ omega (arith, length-bytes 2 x, length-numbers 4 (words x))

  -- an object in front
  number_of : (x : ℕ) (z : List ℕ) → x < 256 ^ 2 → number_at 2 0 (entry x ++ z) ≡ x
  unfolding object_bytes
  number_of x z h = ap (number_at 2 0) (append_assoc (bytes 2 x) _ z) ∙ number-front 2 x _ h

  width_of : (x : ℕ) (z : List ℕ) → get_or (entry x ++ z) 2 0 ≡ length (words x)
  unfolding object_bytes bytes
  width_of x z = refl

  sink-of : (x : ℕ) (z : List ℕ) → get_or (entry x ++ z) 3 0 ≡ digit (sink x)
  unfolding object_bytes bytes
  sink-of x z = refl

  word_of : (x : ℕ) (z : List ℕ) (k : ℕ) → ((w : ℕ) → Memᴰ w (words x) → w < 256 ^ 4) → k < length (words x)
      → number_at 4 (4 + 4 * k) (entry x ++ z) ≡ get_or (words x) k 0
  unfolding object_bytes bytes
  word_of x z k h p =
      number_behind 4 (4 * k) (x % 256 ∷ x / 256 % 256 ∷ length (words x) ∷ digit (sink x) ∷ []) (word_bytes (words x) ++ z) ∙ number-at 4 (words x) z k h p

  takes : (x : ℕ) (z : List ℕ) → object_len (entry x ++ z) ≤ length (entry x ++ z)
  unfolding object_len
  takes x z = omega (arith, width_of x z, length-append (entry x) z, entry_length x)

  pub in-front : (x : ℕ) (z : List ℕ) → x < 256 ^ 2 → leads x (entry x ++ z) ≡ true
  unfolding leads
  in-front x z h =
      rw (le-leb 4 (length (entry x ++ z)) (omega (arith, length-append (entry x) z, entry_length x)), number_of x z h, eq-eqb x x refl) refl

  past-it : (x : ℕ) (z : List ℕ) → drop (object_len (entry x ++ z)) (entry x ++ z) ≡ z
  unfolding object_len
  past-it x z = drop_at (entry x) z (4 + 4 * get_or (entry x ++ z) 2 0) (entry_length x ∙ ap (λ (w : ℕ). 4 + 4 * w) (sym (width_of x z)))

  module _ (used : ℕ → Bool) where
    -- what comes later is no lower number
    pub not_yet : (y x k : ℕ) → y ≤ x → x + k < 256 ^ 2 → leads y (above used entry x k) ≡ false
    unfolding above
    not_yet y x zero h l = unfold leads in refl
    not_yet y x (suc k) h l = go (used (suc x)) (not_yet y (suc x) k (omega arith) (omega arith))
      where
        go : (b : Bool) → leads y (above used entry (suc x) k) ≡ false → leads y (cond b (entry (suc x)) [] ++ above used entry (suc x) k) ≡ false
        go true r = unfold leads in
            (rw (
              le-leb 4 (length (entry (suc x) ++ above used entry (suc x) k))
                  (omega (arith, length-append (entry (suc x)) (above used entry (suc x) k), entry_length (suc x))),
              number_of (suc x) (above used entry (suc x) k) (omega arith),
              ne_eqb (suc x) y (λ e. absurd (omega arith)),
            ) refl)
        go false r = r

    whole-body : (n : ℕ) → objects_body n used sink words ≡ above used entry 0 n
    unfolding objects_body
    whole-body n = gather-above used entry n

    -- what is left when the objects up to x are read
    pub left_is : (n x k : ℕ) → x + k ≡ n → n < 256 ^ 2 → left (objects_body n used sink words) x ≡ above used entry x k
    unfolding left
    left_is n zero k e h = whole-body n ∙ ap (above used entry 0) (let q : n ≡ k = omega arith in q)
    left_is n (suc x) k e h = ap₃' (left_is n x (suc k) (omega arith) h) ∙ go (used (suc x)) refl
      where
        body : List ℕ
        body = objects_body n used sink words

        ap₃' : {l : List ℕ} → left body x ≡ l → cond (leads (suc x) (left body x)) (drop (object_len (left body x)) (left body x)) (left body x)
            ≡ cond (leads (suc x) l) (drop (object_len l) l) l
        ap₃' q = ap (λ (l : List ℕ). cond (leads (suc x) l) (drop (object_len l) l) l) q

        go : (b : Bool) → used (suc x) ≡ b
            → cond (leads (suc x) (above used entry x (suc k))) (drop (object_len (above used entry x (suc k))) (above used entry x (suc k))) (above used entry x (suc k))
            ≡ above used entry (suc x) k
        go true f = unfold above in
            (rw (f, in-front (suc x) (above used entry (suc x) k) (omega arith)) (past-it (suc x) (above used entry (suc x) k)))
        go false f = unfold above in (rw (f, not_yet (suc x) (suc x) k (omega arith) (omega arith)) refl)

-- ---- an object in the whole body

module _ (n : ℕ) (used sink : ℕ → Bool) (words : ℕ → List ℕ) (small : n < 256 ^ 2) where
  abbrev pub body : List ℕ
  body = objects_body n used sink words

  -- nothing is left behind the last
  pub none_left : left body n ≡ []
  none_left = left_is sink words used n n 0 (omega arith) small ∙ unfold above in refl

  pub listed-is : (x : ℕ) → 1 ≤ x → x ≤ n → listed body x ≡ used x
  unfolding listed
  listed-is zero p q = absurd (omega arith)
  listed-is (suc y) p q =
      ap (leads (suc y)) (left_is sink words used n y (suc (n - suc y)) (omega arith) small) ∙ go (used (suc y)) refl
    where
      rest : List ℕ
      rest = above used (entry sink words) (suc y) (n - suc y)

      go : (b : Bool) → used (suc y) ≡ b → leads (suc y) (above used (entry sink words) y (suc (n - suc y))) ≡ b
      go true f = unfold above in (rw f (in-front sink words (suc y) rest (omega arith)))
      go false f = unfold above in (rw f (not_yet sink words used (suc y) (suc y) (n - suc y) (omega arith) (omega arith)))

  -- the bytes from an object in use on begin with it
  pub from_is : (x : ℕ) → 1 ≤ x → x ≤ n → used x ≡ true → from body x ≡ entry sink words x ++ above used (entry sink words) x (n - x)
  unfolding from
  from_is zero p q u = absurd (omega arith)
  from_is (suc y) p q u =
      left_is sink words used n y (suc (n - suc y)) (omega arith) small
      ∙ unfold above in ap (λ (b : Bool). cond b (entry sink words (suc y)) [] ++ above used (entry sink words) (suc y) (n - suc y)) u

  module _ (x : ℕ) (p : 1 ≤ x) (q : x ≤ n) (u : used x ≡ true) where
    pub width_is : saved_width body x ≡ length (words x)
    unfolding saved_width
    width_is = ap (λ (b : List ℕ). get_or b 2 0) (from_is x p q u) ∙ width_of sink words x _

    pub sink-is : saved_sink body x ≡ digit (sink x)
    unfolding saved_sink
    sink-is = ap (λ (b : List ℕ). get_or b 3 0) (from_is x p q u) ∙ sink-of sink words x _

    pub fits-is : object_len (from body x) ≤ length (from body x)
    fits-is = rw (from_is x p q u) (takes sink words x _)

    pub words-is : ((w : ℕ) → Memᴰ w (words x) → w < 256 ^ 4) → saved_words body x ≡ words x
    unfolding saved_words saved_word
    words-is h =
        ap (λ (k : ℕ). map (saved_word body x) (numbers 0 k)) width_is
        ∙ numbered (saved_word body x) 0 (words x) 0 (λ i l.
        let e : 0 + i ≡ i = omega arith in
        rw e (ap (number_at 4 (4 + 4 * i)) (from_is x p q u) ∙ word_of sink words x _ i h l))

  -- a sink in use is listed as one
  pub as-sink-is : (x : ℕ) → 1 ≤ x → x ≤ n → saved_as_sink body x ≡ (used x && sink x)
  unfolding saved_as_sink
  as-sink-is x p q = rw (listed-is x p q) (go (used x) refl)
    where
      go : (u : Bool) → used x ≡ u → (u && eqb (saved_sink body x) 1) ≡ (u && sink x)
      go true u = ap (λ (k : ℕ). eqb k 1) (sink-is x p q u) ∙ digit-one (sink x)
      go false u = refl
