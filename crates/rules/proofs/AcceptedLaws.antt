-- What an accepted image is: three chunks in their places with bodies that are right, and the heap in them.
-- Assumes nothing.
use Prim.Native.Nat.{ℕ, zero, suc, ◌+◌, ◌-◌, ◌*◌, ◌≤◌, ◌<◌}
use mathlib.Core.Path.{◌≡◌, refl, sym, ap, ◌∙◌, subst}
use mathlib.Core.Bool.{Bool, true, false, not, cond, ◌&&◌, ◌||◌, false≢true, true≢false}
use mathlib.Core.List.{List, [], ◌∷◌, map, Memᴰ}
use mathlib.Core.Logic.{◌⊎◌, inl, inr}
use native.Mathlib.Omega.{arith}
use lib.Dec.{eqb, leb, ltb}
use lib.ListN.{length, length-drop}
use borrow.Author.Tests.{ltb-false, leb-true, eqb-true, not-true, not-false, lt-ltb, ne_eqb}
use Rattle.layout.specs.Limits.{sink_max}
use Rattle.layout.specs.ControlRecord.{bad_sizes}
use Rattle.layout.specs.Refusal.{first}
use Rattle.layout.specs.Word.{is_nil, is_immediate}
use Rattle.layout.proofs.BoolLaws.{or_split, and_split}
use Rattle.layout.proofs.LimitLaws.{within-true}
use Rattle.layout.proofs.RefusalLaws.{first-passed}
use Rattle.endian.specs.Bytes.{number, number_at}
use Rattle.graph.specs.Numbers.{Obj, has, count, gather}
use Rattle.graph.proofs.NumberLaws.{count-ext}
use Rattle.rules.specs.Buffers.{numbers, all_to}
use Rattle.rules.specs.WellFormed.{lists}
use Rattle.rules.specs.Image.{sinks_kind, body_len, kind_of, body_of, past, cut, saved_n, saved_r, saved_last, sizes_ok, object_len, left, listed, from, saved_width, saved_sink, saved_as_sink, saved_words, shaped, names_listed, words_ok, objects_ok, saved_root, roots_ok, saved_list, sinks_ok}
use Rattle.rules.specs.Load.{known, passed, misplaced, sizes, objects, root_words, image_n, image_r, bad_body, sinks_before, bad_sinks, chunk_tests, image_tests, loaded_sinks}
use Rattle.rules.specs.Plain.{vacant, object, is_free, is_sink, cell_at, plain_size, plain_sink, cell_from, plain_loaded}
use Rattle.rules.proofs.ListLaws.{all_of-at, length-numbers, get-numbers}
use Rattle.rules.proofs.ListedLaws.{Lists, lists-facts, listed-count, pointers-same, gather-lists, gather-nonzero}
use Rattle.rules.proofs.ImageLaws.{past-suc, past-nil, past-add, length_none}

-- ---- a chunk that ends in the input

module _ (b : List ℕ) (c : cut b ≡ false) where
  pub fronted : (6 ≤ length b) × (body_len b ≤ length b - 6)
  unfolding cut
  fronted = let s = or_split (ltb (length b) 6) _ c in (ltb-false (length b) 6 s.0, ltb-false (length b - 6) (body_len b) s.1)

  past-shorter : length (past 1 b) < length b
  unfolding past
  past-shorter = let f = fronted in omega (arith, length-drop (6 + body_len b) b)

-- ---- the chunks of an image that passes

-- what the tests say of chunk t where no one of them holds
pub record Sound (b : List ℕ) (t : ℕ) : Type 0 where
  pub whole : cut (past t b) ≡ false
  pub placed : (misplaced t (kind_of (past t b)) || (known (kind_of (past t b)) && bad_body b t)) ≡ false
  pub listed : (eqb (kind_of (past t b)) sinks_kind && bad_sinks b t) ≡ false
  pub named : (not (known (kind_of (past t b))) && not (passed (kind_of (past t b)))) ≡ false

-- the image ends before chunk t, or chunk t is sound and those behind it pass
abbrev pub Next : List ℕ → ℕ → ℕ → Type 0
Next b f t = ((length (past t b) ≡ 0) × (ltb t 3 ≡ false)) ⊎ (Sound b t × (first (chunk_tests b f (suc t)) ≡ 0))

-- the chunks from chunk t on pass, with fuel enough
pub record Passes (b : List ℕ) (t : ℕ) : Type 0 where
  pub fuel : ℕ
  pub enough : length (past t b) < fuel
  pub none : first (chunk_tests b fuel t) ≡ 0

-- chunk t has the kind of its place and a body that is right
pub record Placed (b : List ℕ) (t : ℕ) : Type 0 where
  pub whole : cut (past t b) ≡ false
  pub kind : kind_of (past t b) ≡ suc t
  pub right : bad_body b t ≡ false

module _ (b : List ℕ) where
  -- the image ends, or one more chunk passes
  pub next : (f t : ℕ) → first (chunk_tests b (suc f) t) ≡ 0 → Next b f t
  unfolding chunk_tests
  next f t e = go (eqb (length (past t b)) 0) refl e
    where
      go : (u : Bool) → eqb (length (past t b)) 0 ≡ u
          → first (cond u ((26, ltb t 3) ∷ [])
          ((26, cut (past t b))
          ∷ (27, misplaced t (kind_of (past t b)) || (known (kind_of (past t b)) && bad_body b t) || (eqb (kind_of (past t b)) sinks_kind && bad_sinks b t))
          ∷ (28, not (known (kind_of (past t b))) && not (passed (kind_of (past t b)))) ∷ chunk_tests b f (suc t))) ≡ 0
          → Next b f t
      go true z q = inl (eqb-true (length (past t b)) 0 z, (first-passed 25 (ltb t 3) [] q).0)
      go false z q =
          let x = first-passed 25 _ _ q in
          let y = first-passed 26 _ _ x.1 in
          let v = first-passed 27 _ _ y.1 in
          let p = or_split (misplaced t (kind_of (past t b)) || (known (kind_of (past t b)) && bad_body b t)) _ y.0 in
          inr (record { whole = x.0; placed = p.0; listed = p.1; named = v.0 }, v.1)

  -- one of the first three has the kind of its place, and its body is right
  early : (t : ℕ) → t < 3 → Sound b t → (kind_of (past t b) ≡ suc t) × (bad_body b t ≡ false)
  unfolding misplaced
  early t l s =
      let r = go (known (kind_of (past t b))) (passed (kind_of (past t b))) (eqb (kind_of (past t b)) (suc t)) (bad_body b t) (rw (lt-ltb t 3 l) at s.placed) s.named in
      (eqb-true (kind_of (past t b)) (suc t) r.0, r.1)
    where
      go : (k p e d : Bool) → ((k && not e) || (p && true) || (k && d)) ≡ false → (not k && not p) ≡ false → (e ≡ true) × (d ≡ false)
      go true true true d q r = absurd (true≢false q)
      go true true false d q r = absurd (true≢false q)
      go true false true d q r = (refl, q)
      go true false false d q r = absurd (true≢false q)
      go false true e d q r = absurd (true≢false q)
      go false false e d q r = absurd (true≢false r)

  -- one behind them is passed over
  pub late : (t : ℕ) → 3 ≤ t → Sound b t → 0x8000 ≤ kind_of (past t b)
  unfolding misplaced known passed
  late t l s = go (known (kind_of (past t b))) (passed (kind_of (past t b))) refl refl s.placed s.named
    where
      go : (k p : Bool) → known (kind_of (past t b)) ≡ k → passed (kind_of (past t b)) ≡ p
          → ((k && not (eqb (kind_of (past t b)) (suc t))) || (p && ltb t 3) || (k && bad_body b t)) ≡ false → (not k && not p) ≡ false → 0x8000 ≤ kind_of (past t b)
      go true p u v q r =
          let w = within-true 1 3 (kind_of (past t b)) u in
          absurd (true≢false (rw (ne_eqb (kind_of (past t b)) (suc t) (λ i. omega (arith, w))) at q))
      go false true u v q r = leb-true 0x8000 (kind_of (past t b)) v
      go false false u v q r = absurd (true≢false r)

  -- fuel is enough for those behind it
  pub enough-behind : (f t : ℕ) → length (past t b) < suc f → Sound b t → length (past (suc t) b) < f
  enough-behind f t p s = rw (past-suc t b) (omega (arith, past-shorter (past t b) s.whole))

  step : (t : ℕ) → t < 3 → Passes b t → Placed b t × Passes b (suc t)
  step t l a = go a.fuel a.enough a.none
    where
      by_next : (f : ℕ) → length (past t b) < suc f → Next b f t → Placed b t × Passes b (suc t)
      by_next f p (inl z) = absurd (true≢false (sym (lt-ltb t 3 l) ∙ z.1))
      by_next f p (inr q) =
          let k = early t l q.0 in
          (record { whole = q.0.whole; kind = k.0; right = k.1 }, record { fuel = f; enough = enough-behind f t p q.0; none = q.1 })

      go : (f : ℕ) → length (past t b) < f → first (chunk_tests b f t) ≡ 0 → Placed b t × Passes b (suc t)
      go zero p e = absurd (omega arith)
      go (suc f) p e = by_next f p (next f t e)

-- the first three chunks in their places
pub record Places (b : List ℕ) : Type 0 where
  pub one : Placed b 0
  pub two : Placed b 1
  pub three : Placed b 2
  pub behind : Passes b 3

pub accepted-places : (b : List ℕ) → first (image_tests b) ≡ 0 → Places b
unfolding image_tests
accepted-places b e =
    let a : Passes b 0 = record { fuel = suc (length b); enough = unfold past in omega arith; none = e } in
    let x = step b 0 (omega arith) a in
    let y = step b 1 (omega arith) x.1 in
    let v = step b 2 (omega arith) y.1 in
    record { one = x.0; two = y.0; three = v.0; behind = v.1 }

-- ---- its bodies

module _ (b : List ℕ) (e : first (image_tests b) ≡ 0) where
  pub sizes-right : sizes_ok (sizes b) ≡ true
  sizes-right = not-false _ (unfold bad_body past in (accepted-places b e).one.right)

  second-right : (not (objects_ok (objects b) (image_n b)) || ltb sink_max (count (image_n b) (saved_as_sink (objects b)))) ≡ false
  second-right = unfold bad_body in (accepted-places b e).two.right

  pub objects-right : objects_ok (objects b) (image_n b) ≡ true
  objects-right = not-false _ (or_split (not (objects_ok (objects b) (image_n b))) _ second-right).0

  -- at most 64 of them are sinks
  pub few-sinks : count (image_n b) (saved_as_sink (objects b)) ≤ sink_max
  few-sinks = ltb-false _ _ (or_split (not (objects_ok (objects b) (image_n b))) _ second-right).1

  pub roots-right : roots_ok (image_n b) (image_r b) (objects b) (root_words b) ≡ true
  roots-right = not-false _ (unfold bad_body in (accepted-places b e).three.right)

-- ---- its sinks

module _ (b : List ℕ) where
  -- chunk t passes, or the image ends before it
  abbrev Within : ℕ → Type 0
  Within t = Sound b t ⊎ (past t b ≡ [])

  ends : (t k : ℕ) → length (past t b) ≡ 0 → past (k + t) b ≡ []
  ends t k e = past-add k t b ∙ ap (past k) (length_none (past t b) e) ∙ past-nil k

  later : (f t : ℕ) → length (past t b) < f → first (chunk_tests b f t) ≡ 0 → (k : ℕ) → Within (k + t)
  later zero t p e k = absurd (omega arith)
  later (suc f) t p e k = go k (next b f t e) (λ s r. later f (suc t) (enough-behind b f t p s) r)
    where
      go : (k : ℕ) → Next b f t → (Sound b t → first (chunk_tests b f (suc t)) ≡ 0 → (k : ℕ) → Within (k + suc t)) → Within (k + t)
      go k (inl z) r = inr (ends t k z.0)
      go zero (inr q) r = subst Within (let e : t ≡ 0 + t = omega arith in e) (inl q.0)
      go (suc k) (inr q) r = subst Within (let e : k + suc t ≡ suc k + t = omega arith in e) (r q.0 q.1 k)

  -- what is read of the chunks up to t: no bytes, or a body that is right
  abbrev Right : List ℕ → Type 0
  Right body = (body ≡ []) ⊎ (sinks_ok (image_n b) (saved_as_sink (objects b)) body ≡ true)

  module _ (e : first (image_tests b) ≡ 0) where
    behind : (t : ℕ) → 3 ≤ t → Within t
    behind t l =
        let a = (accepted-places b e).behind in
        subst Within (let q : t - 3 + 3 ≡ t = omega arith in q) (later a.fuel 3 a.enough a.none (t - 3))

    read_right : (t : ℕ) → Right (sinks_before b t)
    unfolding sinks_before bad_sinks kind_of number_at number
    read_right zero = inl refl
    read_right (suc t) = go (leb 3 t && eqb (kind_of (past t b)) sinks_kind) refl (read_right t)
      where
        its : leb 3 t ≡ true → eqb (kind_of (past t b)) sinks_kind ≡ true → Within t → Right (body_of (past t b))
        its p k (inr z) = absurd (false≢true (rw z at k))
        its p k (inl s) =
            let q = or_split (not (eqb (length (sinks_before b t)) 0)) _ (rw k at s.listed) in
            inr (not-false _ q.1)

        go : (c : Bool) → (leb 3 t && eqb (kind_of (past t b)) sinks_kind) ≡ c → Right (sinks_before b t)
            → Right (cond c (body_of (past t b)) (sinks_before b t))
        go true c r = let s = and_split (leb 3 t) _ c in its s.0 s.1 (behind t (leb-true 3 t s.0))
        go false c r = r

    -- the sinks of the heap, each once and without empty places
    pub loaded-lists : Lists (image_n b) (saved_as_sink (objects b)) (loaded_sinks b) × (has 0 (loaded_sinks b) ≡ false)
    unfolding loaded_sinks
    loaded-lists = go (sinks_before b (suc (length b))) (read_right (suc (length b)))
      where
        -- a list by number, or that of the chunk
        its : List ℕ → List ℕ
        its body = cond (eqb (length body) 0) (gather (image_n b) (saved_as_sink (objects b)) (λ x. x ∷ [])) (saved_list body)

        go : (body : List ℕ) → Right body → Lists (image_n b) (saved_as_sink (objects b)) (its body) × (has 0 (its body) ≡ false)
        go body (inl z) =
            subst (λ (m : List ℕ). Lists (image_n b) (saved_as_sink (objects b)) (its m) × (has 0 (its m) ≡ false)) (sym z)
            (gather-lists (image_n b) (saved_as_sink (objects b)), gather-nonzero (image_n b) (saved_as_sink (objects b)))
        go body (inr q) = unfold sinks_ok in
            (let s = and_split _ (lists (image_n b) (saved_as_sink (objects b)) (saved_list body)) q in
            let u = and_split _ (not (has 0 (saved_list body))) s.0 in
            let v = and_split (not (eqb (length body) 0)) _ u.0 in
            rw (not-true (eqb (length body) 0) v.0) (lists-facts (image_n b) (saved_as_sink (objects b)) (saved_list body) s.1, not-true _ u.1))

    -- they are at most 64
    pub loaded-short : length (loaded_sinks b) ≤ sink_max
    loaded-short =
        let l = loaded-lists in
        omega (arith, ap length (pointers-same (loaded_sinks b) l.1), listed-count (image_n b) (saved_as_sink (objects b)) (loaded_sinks b) l.0, few-sinks b e)

-- what a body of kind 1 that is right holds
pub record Held (body : List ℕ) : Type 0 where
  pub eight : length body ≡ 8
  pub version : number_at 2 0 body ≡ 1
  pub sized : bad_sizes (saved_n body) (saved_r body) ≡ false
  pub given : saved_last body ≤ saved_n body

pub sizes-held : (body : List ℕ) → sizes_ok body ≡ true → Held body
unfolding sizes_ok
sizes-held body e =
    let c = and_split _ (leb (saved_last body) (saved_n body)) e in
    let d = and_split _ (not (bad_sizes (saved_n body) (saved_r body))) c.0 in
    let s = and_split (eqb (length body) 8) (eqb (number_at 2 0 body) 1) d.0 in
    record { eight = eqb-true _ _ s.0; version = eqb-true _ _ s.1; sized = not-true _ d.1; given = leb-true _ _ c.1 }

-- width, sink byte and bytes of an object that is right
pub record Shape (body : List ℕ) (x : ℕ) : Type 0 where
  pub narrow : saved_width body x ≤ 8
  pub sunk : saved_sink body x ≤ 1
  pub fits : object_len (from body x) ≤ length (from body x)

pub listed-true : (a c : Bool) → a ≡ true → (not a || c) ≡ true → c ≡ true
listed-true true c e q = q
listed-true false c e q = absurd (true≢false (sym e))

module _ (body : List ℕ) where
  pub shape-facts : (x : ℕ) → listed body x ≡ true → shaped body x ≡ true → Shape body x
  unfolding shaped
  shape-facts x u v =
      let s = and_split _ (leb (object_len (from body x)) (length (from body x))) (listed-true (listed body x) _ u v) in
      let t = and_split (leb (saved_width body x) 8) (leb (saved_sink body x) 1) s.0 in
      record { narrow = leb-true _ _ t.0; sunk = leb-true _ _ t.1; fits = leb-true _ _ s.1 }

-- what a body of kind 2 that is right holds
pub record Objects (body : List ℕ) (n : ℕ) : Type 0 where
  pub shape : all_to n (shaped body) ≡ true
  pub end : length (left body n) ≡ 0
  pub words : all_to n (words_ok body n) ≡ true

pub objects-held : (body : List ℕ) (n : ℕ) → objects_ok body n ≡ true → Objects body n
unfolding objects_ok
objects-held body n e =
    let s = and_split _ (all_to n (words_ok body n)) e in
    let t = and_split (all_to n (shaped body)) (eqb (length (left body n)) 0) s.0 in
    record { shape = t.0; end = eqb-true _ _ t.1; words = s.1 }

-- each word of a listed object in such a body
pub words-held : (body : List ℕ) (n x : ℕ) → listed body x ≡ true → words_ok body n x ≡ true → (w : ℕ) → Memᴰ w (saved_words body x)
    → (is_nil w || is_immediate w || names_listed body n w) ≡ true
unfolding words_ok
words-held body n x l e w m = all_of-at (λ v. is_nil v || is_immediate v || names_listed body n v) _ w (listed-true (listed body x) _ l e) m

-- each root in a body of kind 3 that is right
pub roots-held : (n r : ℕ) (objs body : List ℕ) → roots_ok n r objs body ≡ true → (w : ℕ) → Memᴰ w (map (saved_root body) (numbers 0 r))
    → (is_nil w || names_listed objs n w) ≡ true
unfolding roots_ok
roots-held n r objs body e w m = all_of-at (λ v. is_nil v || names_listed objs n v) _ w (and_split (eqb (length body) (4 * r)) _ e).1 m

-- ---- the heap in them

module _ (b : List ℕ) where
  pub loaded-size : plain_size (plain_loaded b) ≡ image_n b
  unfolding plain_loaded
  loaded-size = length-numbers (cell_from b) 1 (image_n b)

  pub loaded-roots : length (plain_loaded b).roots ≡ image_r b
  unfolding plain_loaded
  loaded-roots = length-numbers (saved_root (root_words b)) 0 (image_r b)

  pub loaded-cell : (x : ℕ) → 1 ≤ x → x ≤ image_n b → cell_at (plain_loaded b).cells x ≡ cell_from b x
  unfolding plain_loaded cell_at
  loaded-cell zero p q = absurd (omega arith)
  loaded-cell (suc i) p q = get-numbers (cell_from b) 1 (image_n b) i vacant (omega arith) ∙ ap (cell_from b) (let e : 1 + i ≡ suc i = omega arith in e)

  abbrev pub used_in : ℕ → Bool
  used_in x = not (is_free (cell_at (plain_loaded b).cells x))

  -- a number is a sink where its object is listed as one
  pub loaded-sink : (x : ℕ) → Obj (image_n b) x → plain_sink (plain_loaded b) x ≡ saved_as_sink (objects b) x
  unfolding plain_sink saved_as_sink cell_from
  loaded-sink x o = ap is_sink (loaded-cell x o.0 o.1) ∙ go (listed (objects b) x)
    where
      go : (t : Bool) → is_sink (cond t (object (saved_words (objects b) x) (eqb (saved_sink (objects b) x) 1)) vacant) ≡ (t && eqb (saved_sink (objects b) x) 1)
      go true = unfold is_sink in refl
      go false = unfold is_sink in refl

  pub loaded-few : first (image_tests b) ≡ 0 → count (plain_size (plain_loaded b)) (plain_sink (plain_loaded b)) ≤ sink_max
  loaded-few e =
      rw loaded-size (omega (arith, count-ext (image_n b) (plain_sink (plain_loaded b)) (saved_as_sink (objects b)) loaded-sink, few-sinks b e))
