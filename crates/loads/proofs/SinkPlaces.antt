-- The list of the sinks of an image that is not refused: its chunk is found, or the objects are read in turn, and their numbers are put into places.
-- Assumes nothing.
use Rattle.std.specs.Prelude.{Option, Some, None, MatchOption}
use Prim.Native.Nat.{ℕ, zero, suc, ◌+◌, ◌-◌, ◌*◌, ◌/◌, ◌≤◌, ◌<◌}
use mathlib.Core.Path.{◌≡◌, refl, sym, ap, ap₂, ◌∙◌}
use mathlib.Core.Bool.{Bool, true, false, not, ◌&&◌, cond, and-false}
use mathlib.Core.List.{List, [], ◌∷◌, ◌++◌, map, append-nil}
use mathlib.Core.Logic.{◌≢◌, inl, inr}
use native.Mathlib.Nat.{add-zero}
use native.Mathlib.Decide.{dec_le}
use native.Mathlib.Omega.{arith}
use borrow.Author.Tests.{eq-eqb, ne_eqb, le-leb, not-false}
use lib.Dec.{eqb, leb}
use lib.ListN.{length, get_or, drop, set, length-append, length-drop}
use lib.Seq.{sets, sets-eq, length-sets}
use Rattle.layout.specs.Limits.{sink_max}
use Rattle.layout.specs.Refusal.{first}
use Rattle.endian.specs.Bytes.{number, number_at}
use Rattle.graph.specs.Numbers.{count, sum, gather}
use Rattle.rules.specs.Buffers.{all_to, each_from, numbers, zeros}
use Rattle.rules.specs.Image.{front_len, sinks_kind, body_of, kind_of, past, cut, left, shaped, words_ok, saved_as_sink, saved_list, sinks_ok, objects_ok}
use Rattle.rules.specs.Load.{objects, image_n, chunk_tests, sinks_before, bad_sinks, loaded_sinks}
use Rattle.rules.proofs.BoolLaws.{or_split, and_split}
use Rattle.rules.proofs.ListLaws.{length-numbers, length-each}
use Rattle.rules.proofs.ListedLaws.{gather-length}
use Rattle.rules.proofs.ImageLaws.{past-nil, past-add}
use Rattle.rules.proofs.AcceptedLaws.{Sound, Passes, Next, next, enough-behind, accepted-places, fronted, few-sinks, objects-right}
use Rattle.loads.specs.Bodies.{shape_ok, Reached, number_of, width_at, sink_at, Fit}
use Rattle.loads.specs.Chunks.{Chunk}
use Rattle.loads.specs.Laid.{singles, Listable, Tail, Found, SinksAt, Placed}
use Rattle.loads.proofs.EntryLaws.{Entry, entry, fits, fit-reached, unlisted, ended, start}
use Rattle.loads.proofs.SetLaws.{unlisted-sink, sink-here}
use Rattle.loads.proofs.SinkLaws.{list_length, sinks-length, sinks-some}
use Rattle.loads.proofs.ChunkLaws.{kind_at}
use Rattle.loads.proofs.ImageLaws.{place-next}

-- the objects that are tested are shaped
pub shape_of : (n : ℕ) (body : List ℕ) → objects_ok body n ≡ true → shape_ok n body ≡ true
unfolding objects_ok shape_ok
shape_of n body e = (and_split (all_to n (shaped body) && eqb (length (left body n)) 0) (all_to n (words_ok body n)) e).0

-- ---- the chunk of sinks

either-way : {P P' : Type 0} {Q Q' : ℕ → Type 0} (r : Option ℕ) → MatchOption r P Q → (P → P') → ((x : ℕ) → Q x → Q' x) → MatchOption r P' Q'
either-way None p f g = f p
either-way (Some x) q f g = g x q

-- one chunk more that passes
passes-next : (b : List ℕ) (t : ℕ) → Passes b t → length (past t b) ≢ 0 → Sound b t × Passes b (suc t)
passes-next b t a d = go a.fuel a.enough a.none
  where
    by_next : (f : ℕ) → length (past t b) < suc f → Next b f t → Sound b t × Passes b (suc t)
    by_next f p (inl z) = absurd (d z.0)
    by_next f p (inr q) = (q.0, record { fuel = f; enough = enough-behind b f t p q.0; none = q.1 })

    go : (f : ℕ) → length (past t b) < f → first (chunk_tests b f t) ≡ 0 → Sound b t × Passes b (suc t)
    go zero p e = absurd (omega arith)
    go (suc f) p e = by_next f p (next b f t e)

-- the chunks before place `at` are read, and `found` is where one of sinks is
pub record Seeking (image : List ℕ) (found : Option ℕ) (at : ℕ) : Type 0 where
  pub chunk : ℕ
  pub late : 3 ≤ chunk
  pub below : chunk ≤ at
  pub inside : at ≤ length image
  pub here : past chunk image ≡ drop at image
  pub passes : Passes image chunk
  pub sought : MatchOption found (sinks_before image chunk ≡ []) (Found image chunk)

pub seeking-start : (image : List ℕ) (from : ℕ) → Tail image from → Seeking image None from
seeking-start image from t =
    record {
      chunk = 3;
      late = omega arith;
      below = t.low;
      inside = t.inside;
      here = t.here;
      passes = (accepted-places image t.none).behind;
      sought = unfold sinks_before in refl;
    }

module _ (image : List ℕ) (found : Option ℕ) (at : ℕ) (s : Seeking image found at) where
  abbrev t : ℕ
  t = s.chunk

  module _ (p : at < length image) where
    seeking-next : Sound image t × Passes image (suc t)
    seeking-next = passes-next image t s.passes (λ e. (let a = ap length s.here ∙ length-drop at image in omega arith))

    pub seeking-whole : cut (drop at image) ≡ false
    seeking-whole = ap cut (sym s.here) ∙ seeking-next.0.whole

    pub seeking-room : at + front_len ≤ length image
    seeking-room = let f = fronted (drop at image) seeking-whole in let a = length-drop at image in omega (arith, f.0)

    module _ (e k : ℕ) (found' : Option ℕ) (c : Chunk image at e) (kind : k ≡ number_at 2 (at + 4) image) (is : found' ≡ cond (eqb k sinks_kind) (Some at) found) where
      found-by : (b : Bool) → eqb (kind_of (drop at image)) sinks_kind ≡ b → found' ≡ cond b (Some at) found
      found-by b q = is ∙ ap (λ (c : Bool). cond c (Some at) found) (ap (λ (j : ℕ). eqb j sinks_kind) (kind_at image at k kind) ∙ q)

      before-next : (b : Bool) → eqb (kind_of (drop at image)) sinks_kind ≡ b → sinks_before image (suc t) ≡ cond b (body_of (past t image)) (sinks_before image t)
      unfolding sinks_before
      before-next b q = rw (le-leb 3 t s.late, s.here, q) refl

      right : eqb (kind_of (drop at image)) sinks_kind ≡ true → sinks_ok (image_n image) (saved_as_sink (objects image)) (body_of (past t image)) ≡ true
      unfolding bad_sinks
      right q = not-false _ (or_split (not (eqb (length (sinks_before image t)) 0)) _ (rw (ap (λ (b : List ℕ). eqb (kind_of b) sinks_kind) s.here ∙ q) at seeking-next.0.listed)).1

      pub seeking-turn : Seeking image found' e
      seeking-turn = go (eqb (kind_of (drop at image)) sinks_kind) refl
        where
          go : (b : Bool) → eqb (kind_of (drop at image)) sinks_kind ≡ b → Seeking image found' e
          go true q =
              record {
                chunk = suc t;
                late = let m = s.late in omega arith;
                below = let m = s.below in omega (arith, c.start);
                inside = c.inside;
                here = place-next image t at s.here e c;
                passes = seeking-next.1;
                sought = rw (found-by true q) (record {
                  inside = s.inside;
                  whole = seeking-whole;
                  body = ap body_of (sym s.here) ∙ sym (before-next true q);
                  right = rw (before-next true q) (right q);
                });
              }
          go false q =
              record {
                chunk = suc t;
                late = let m = s.late in omega arith;
                below = let m = s.below in omega (arith, c.start);
                inside = c.inside;
                here = place-next image t at s.here e c;
                passes = seeking-next.1;
                sought = rw (found-by false q) (either-way found s.sought (λ z. before-next false q ∙ z) (λ x g. record {
                  inside = g.inside;
                  whole = g.whole;
                  body = g.body ∙ sym (before-next false q);
                  right = rw (before-next false q) g.right;
                }));
              }

  module _ (over : length image ≤ at) where
    ended_here : past t image ≡ []
    ended_here = nil (past t image) (ap length s.here ∙ length-drop at image ∙ omega arith)
      where
        nil : (l : List ℕ) → length l ≡ 0 → l ≡ []
        nil [] q = refl
        nil (y ∷ l) q = absurd (omega arith)

    still : (k : ℕ) → sinks_before image (k + t) ≡ sinks_before image t
    unfolding sinks_before kind_of number_at number
    still zero = ap (sinks_before image) (let e : 0 + t ≡ t = omega arith in e)
    still (suc k) =
        let e : suc k + t ≡ suc (k + t) = omega arith in
        let z : past (k + t) image ≡ [] = past-add k t image ∙ ap (past k) ended_here ∙ past-nil k in
        ap (sinks_before image) e ∙ rw (z, and-false (leb 3 (k + t))) (still k)

    last : sinks_before image (suc (length image)) ≡ sinks_before image t
    last = ap (sinks_before image) (let m = s.below in let i = s.inside in let e : suc (length image) ≡ suc (length image) - t + t = omega arith in e) ∙ still (suc (length image) - t)

    pub seeking-end : SinksAt image found
    seeking-end =
        either-way found s.sought (λ z. last ∙ z) (λ x g. record { inside = g.inside; whole = g.whole; body = g.body ∙ sym last; right = rw last g.right })

-- ---- numbers put into places

-- one more behind those of a list
put-more : (l list : List ℕ) (i j v : ℕ) → j ≡ i + length l → set (sets list i l) j v ≡ sets list i (l ++ (v ∷ []))
put-more [] list i j v e = let q : j ≡ i = omega arith in ap (λ (k : ℕ). set list k v) q
put-more (y ∷ l) list i j v e = put-more l (set list i y) (suc i) j v (omega arith)

numbers_more : (f : ℕ → ℕ) (a k : ℕ) → map f (numbers a (suc k)) ≡ map f (numbers a k) ++ (f (a + k) ∷ [])
unfolding numbers
numbers_more f a zero = ap (λ (x : ℕ). f x ∷ []) (sym (add-zero a))
numbers_more f a (suc k) =
    let e : suc a + k ≡ a + suc k = omega arith in
    ap (λ (l : List ℕ). f a ∷ l) (numbers_more f (suc a) k ∙ ap (λ (x : ℕ). map f (numbers (suc a) k) ++ (f x ∷ [])) e)

-- a list put into places that are clear
filled : (i k : ℕ) (f : ℕ → ℕ) (l b : List ℕ) → length l ≤ k → k ≤ length b → ((j : ℕ) → f (i + j) ≡ get_or l j 0)
    → l ++ drop (length l) (each_from i k (λ x w. 0) b) ≡ each_from i k (λ x y. f x) b
unfolding each_from
filled i zero f [] b p q h = refl
filled i zero f (y ∷ l) b p q h = absurd (omega arith)
filled i (suc k) f l [] p q h = absurd (omega arith)
filled i (suc k) f [] (w ∷ b) p q h =
    let z : i ≡ i + 0 = omega arith in
    ap₂ (λ (x : ℕ) (r : List ℕ). x ∷ r) (sym (ap f z ∙ h 0))
    (filled (suc i) k f [] b (omega arith) (omega arith) (λ j. ap f (let e : suc i + j ≡ i + suc j = omega arith in e) ∙ h (suc j)))
filled i (suc k) f (y ∷ l) (w ∷ b) p q h =
    let z : i ≡ i + 0 = omega arith in
    ap₂ (λ (x : ℕ) (r : List ℕ). x ∷ r) (sym (ap f z ∙ h 0))
    (filled (suc i) k f l b (omega arith) (omega arith) (λ j. ap f (let e : suc i + j ≡ i + suc j = omega arith in e) ∙ h (suc j)))

places-are : (l list : List ℕ) → length l ≤ sink_max → sink_max ≤ length list → sets (zeros sink_max list) 0 l ≡ each_from 0 sink_max (λ k y. get_or l k 0) list
unfolding zeros
places-are l list p q =
    let z : 0 + length l ≡ length l = omega arith in
    sets-eq l (each_from 0 sink_max (λ x w. 0) list) 0 (omega (arith, length-each 0 sink_max (λ (x w : ℕ). 0) list))
    ∙ ap (λ (m : ℕ). l ++ drop m (each_from 0 sink_max (λ x w. 0) list)) z
    ∙ filled 0 sink_max (λ k. get_or l k 0) l list p q (λ j. ap (λ (m : ℕ). get_or l m 0) (let e : 0 + j ≡ j = omega arith in e))

-- ---- those of a body of kind 0x8001

module _ (body list₀ : List ℕ) where
  -- the first i numbers
  abbrev pub first_numbers : ℕ → List ℕ
  first_numbers i = map (λ k. number_at 2 (2 * k) body) (numbers 0 i)

  pub listing_start : list₀ ≡ sets list₀ 0 (first_numbers 0)
  unfolding numbers
  listing_start = refl

  pub listing-turn : (i v : ℕ) (list : List ℕ) → list ≡ sets list₀ 0 (first_numbers i) → v ≡ number_at 2 (2 * i) body → set list i v ≡ sets list₀ 0 (first_numbers (i + 1))
  listing-turn i v list s e =
      let o : i + 1 ≡ suc i = omega arith in
      let z : 0 + i ≡ i = omega arith in
      ap (λ (l : List ℕ). set l i v) s
      ∙ put-more (first_numbers i) list₀ 0 i v (omega (arith, length-numbers (λ k. number_at 2 (2 * k) body) 0 i))
      ∙ ap (sets list₀ 0)
      (ap (λ (x : ℕ). first_numbers i ++ (x ∷ [])) (e ∙ ap (λ (k : ℕ). number_at 2 (2 * k) body) (sym z))
      ∙ sym (numbers_more (λ k. number_at 2 (2 * k) body) 0 i) ∙ ap first_numbers (sym o))

  pub listing-end : (i : ℕ) → i ≤ length body / 2 → length body / 2 ≤ i → sets list₀ 0 (first_numbers i) ≡ sets list₀ 0 (saved_list body)
  unfolding saved_list
  listing-end i p q = let e : i ≡ length body / 2 = omega arith in ap (λ (k : ℕ). sets list₀ 0 (first_numbers k)) e

-- ---- those of the objects in turn

-- none passes behind x
still-gathered : (n x : ℕ) (t : ℕ → Bool) → x ≤ n → ((z : ℕ) → x < z → z ≤ n → t z ≡ false) → singles n t ≡ singles x t
unfolding gather
still-gathered n x t p h =
    let e : n ≡ n - x + x = omega arith in
    ap (λ (m : ℕ). singles m t) e ∙ add (n - x) (λ z a b. h z a (omega arith))
  where
    add : (d : ℕ) → ((z : ℕ) → x < z → z ≤ d + x → t z ≡ false) → singles (d + x) t ≡ singles x t
    add zero h = ap (λ (m : ℕ). singles m t) (let e : 0 + x ≡ x = omega arith in e)
    add (suc d) h =
        let e : suc d + x ≡ suc (d + x) = omega arith in
        let r = add d (λ z a b. h z a (omega arith)) in
        ap (λ (m : ℕ). singles m t) e ∙ rw (h (suc (d + x)) (omega arith) (omega arith)) (append-nil (singles (d + x) t) ∙ r)

count-mono : (t : ℕ → Bool) (a n : ℕ) → a ≤ n → count a t ≤ count n t
unfolding count sum
count-mono t a zero p = let e : a ≡ 0 = omega arith in rw e (omega arith)
count-mono t a (suc n) p = go (dec_le a n) (count-mono t a n)
  where
    go : Dec (a ≤ n) → (a ≤ n → count a t ≤ count n t) → count a t ≤ count (suc n) t
    go (yes l) r = omega (arith, r l)
    go (no l) r = let e : a ≡ suc n = omega (arith, l) in rw e (omega arith)

-- the sinks among the objects before place `at` are put
pub record Numbering (n : ℕ) (body list₀ list : List ℕ) (to at : ℕ) : Type 0 where
  pub last : ℕ
  pub most : last ≤ n
  pub reached : Reached body last at
  pub next : to ≡ length (singles last (saved_as_sink body))
  pub put : list ≡ sets list₀ 0 (singles last (saved_as_sink body))

module _ (n : ℕ) (body list₀ : List ℕ) where
  pub numbering_start : Numbering n body list₀ list₀ 0 0
  unfolding gather
  numbering_start = record { last = 0; most = omega arith; reached = start body; next = refl; put = refl }

  module _ (list : List ℕ) (to at : ℕ) (s : Numbering n body list₀ list to at) where
    pub numbering-length : length list ≡ length list₀
    numbering-length = ap length s.put ∙ length-sets list₀ 0 (singles s.last (saved_as_sink body))

    abbrev sink : ℕ → Bool
    sink = saved_as_sink body

    module _ (a : Listable n body list₀) (more : at < length body) where
      pub numbering-fit : Fit n body s.last at
      numbering-fit = fits body s.last at s.reached n a.shape s.most more

      abbrev y : ℕ
      y = number_of body at

      its : Entry body s.last at
      its = entry body s.last at s.reached numbering-fit.head numbering-fit.above

      -- the sinks up to it
      upto : (b : Bool) → eqb (sink_at body at) 1 ≡ b → singles y sink ≡ singles s.last sink ++ cond b (y ∷ []) []
      unfolding gather
      upto b q = go y refl
        where
          go : (m : ℕ) → y ≡ m → singles y sink ≡ singles s.last sink ++ cond b (y ∷ []) []
          go zero e = absurd (omega (arith, numbering-fit.above))
          go (suc m) e =
              let o = numbering-fit.above in
              ap (λ (k : ℕ). singles k sink) e
              ∙ ap₂ (λ (l : List ℕ) (c : Bool). l ++ cond c (suc m ∷ []) [])
              (still-gathered m s.last sink (omega arith) (λ z p r. unlisted-sink body z (its.skipped z p (omega arith))))
              (ap sink (sym e) ∙ sink-here body s.last at its ∙ q)
              ∙ ap (λ (k : ℕ). singles s.last sink ++ cond b (k ∷ []) []) (sym e)

      pub numbering-room : (v : ℕ) → v ≡ sink_at body at → v ≡ 1 → to < length list
      numbering-room v e q =
          let b = upto true (eq-eqb (sink_at body at) 1 (sym e ∙ q)) in
          let l = ap length b ∙ length-append (singles s.last sink) (y ∷ []) in
          let g = gather-length y sink in
          let m = count-mono sink y n numbering-fit.most in
          omega (arith, l, g, m, s.next, a.places, numbering-length)

      pub numbering-turn : (x byte width to' : ℕ) (list' : List ℕ) → x ≡ y → byte ≡ sink_at body at → width ≡ width_at body at
          → to' ≡ cond (eqb byte 1) (to + 1) to → list' ≡ cond (eqb byte 1) (set list to x) list → Numbering n body list₀ list' to' (at + (4 + 4 * width))
      numbering-turn x byte width to' list' ex eb ew et el =
          record {
            last = y;
            most = numbering-fit.most;
            reached = rw ew (fit-reached body s.last at s.reached n numbering-fit);
            next = next (eqb (sink_at body at) 1) refl;
            put = put (eqb (sink_at body at) 1) refl;
          }
        where
          byte-is : (b : Bool) → eqb (sink_at body at) 1 ≡ b → eqb byte 1 ≡ b
          byte-is b q = ap (λ (v : ℕ). eqb v 1) eb ∙ q

          next : (b : Bool) → eqb (sink_at body at) 1 ≡ b → to' ≡ length (singles y sink)
          next true q =
              et ∙ ap (λ (c : Bool). cond c (to + 1) to) (byte-is true q)
              ∙ omega (arith, s.next, ap length (upto true q) ∙ length-append (singles s.last sink) (y ∷ []))
          next false q =
              et ∙ ap (λ (c : Bool). cond c (to + 1) to) (byte-is false q) ∙ s.next ∙ ap length (sym (upto false q ∙ append-nil (singles s.last sink)))

          put : (b : Bool) → eqb (sink_at body at) 1 ≡ b → list' ≡ sets list₀ 0 (singles y sink)
          put true q =
              el ∙ ap (λ (c : Bool). cond c (set list to x) list) (byte-is true q)
              ∙ ap₂ (λ (l : List ℕ) (v : ℕ). set l to v) s.put ex
              ∙ put-more (singles s.last sink) list₀ 0 to y (omega (arith, s.next)) ∙ ap (sets list₀ 0) (sym (upto true q))
          put false q =
              el ∙ ap (λ (c : Bool). cond c (set list to x) list) (byte-is false q)
              ∙ s.put ∙ ap (sets list₀ 0) (sym (upto false q ∙ append-nil (singles s.last sink)))

    pub numbering-end : length body ≤ at → list ≡ sets list₀ 0 (singles n sink)
    numbering-end over =
        s.put
        ∙ ap (sets list₀ 0)
        (sym (still-gathered n s.last sink s.most
        (λ z p q. unlisted-sink body z (unlisted body s.last n (λ v a b. ended body s.last at s.reached over v) z p q))))

-- ---- the list of the image

pub found-start : (image : List ℕ) (t e : ℕ) → Found image t e → e + front_len ≤ length image
found-start image t e f = let g = fronted (drop e image) f.whole in let l = length-drop e image in omega (arith, g.0, f.inside)

module _ (n : ℕ) (image : List ℕ) (second third tail : ℕ) (a : Placed n image second third tail) where
  few : count (image_n image) (saved_as_sink (objects image)) ≤ sink_max
  few = few-sinks image a.behind.none

  -- by number
  module _ (none : sinks_before image (suc (length image)) ≡ []) where
    pub by_number : (list list₁ list₂ body : List ℕ) → sink_max ≤ length list → list₁ ≡ zeros sink_max list → body ≡ body_of (drop second image)
        → list₂ ≡ sets list₁ 0 (singles n (saved_as_sink body)) → list₂ ≡ each_from 0 sink_max (λ k y. get_or (loaded_sinks image) k 0) list
    unfolding loaded_sinks
    by_number list list₁ list₂ body p e f g =
        let m = singles (image_n image) (saved_as_sink (objects image)) in
        rw none
        (g
        ∙ ap₂ (λ (l x : List ℕ). sets l 0 (singles n (saved_as_sink x))) e (f ∙ ap body_of (sym a.here))
        ∙ ap (λ (k : ℕ). sets (zeros sink_max list) 0 (singles k (saved_as_sink (objects image)))) a.is-n
        ∙ places-are m list (omega (arith, gather-length (image_n image) (saved_as_sink (objects image)), few)) p)

  pub listable : (list body : List ℕ) → sink_max ≤ length list → body ≡ body_of (drop second image) → Listable n body list
  listable list body p e =
      record {
        shape = rw (e ∙ ap body_of (sym a.here), a.is-n) (shape_of (image_n image) (objects image) (objects-right image a.behind.none));
        places = rw (e ∙ ap body_of (sym a.here), a.is-n) (omega (arith, few, p));
      }

  -- by the chunk
  module _ (e : ℕ) (f : Found image (suc (length image)) e) (body : List ℕ) (is : body ≡ body_of (drop e image)) where
    body_is : body ≡ sinks_before image (suc (length image))
    body_is = is ∙ f.body

    body-right : sinks_ok (image_n image) (saved_as_sink (objects image)) body ≡ true
    body-right = rw body_is f.right

    pub chunk-room : (list list₁ : List ℕ) → length list₁ ≡ length list → sink_max ≤ length list → length body / 2 ≤ length list₁
    chunk-room list list₁ q p = let l = sinks-length (image_n image) (saved_as_sink (objects image)) body body-right in omega (arith, l, few, p)

    pub by-chunk : (list list₁ list₂ : List ℕ) → sink_max ≤ length list → list₁ ≡ zeros sink_max list → list₂ ≡ sets list₁ 0 (saved_list body)
        → list₂ ≡ each_from 0 sink_max (λ k y. get_or (loaded_sinks image) k 0) list
    unfolding loaded_sinks
    by-chunk list list₁ list₂ p q g =
        let l = sinks-length (image_n image) (saved_as_sink (objects image)) body body-right in
        rw (sym body_is, ne_eqb (length body) 0 (sinks-some (image_n image) (saved_as_sink (objects image)) body body-right))
        (g ∙ ap (λ (l : List ℕ). sets l 0 (saved_list body)) q ∙ places-are (saved_list body) list (omega (arith, list_length (image_n image) (saved_as_sink (objects image)) body, l, few)) p)
