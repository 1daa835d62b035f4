-- The chunks behind the third in turn: their refusal, and the set of the sinks, from which a chunk of sinks takes its numbers.
-- Assumes nothing.
use Prim.Native.Nat.{ℕ, suc, ◌+◌, ◌≤◌, ◌<◌}
use mathlib.Core.Path.{◌≡◌, refl, sym, ap, ◌∙◌}
use mathlib.Core.Bool.{Bool, true, false, not, ◌&&◌, ◌||◌, cond, false≢true}
use mathlib.Core.List.{List}
use mathlib.Core.Logic.{◌≢◌}
use native.Mathlib.Decide.{ℕ_discrete}
use native.Mathlib.Omega.{arith}
use borrow.Author.Tests.{eq-eqb, ne_eqb, le-leb, not-false}
use lib.Dec.{eqb}
use lib.ListN.{length, drop, length-drop}
use Rattle.layout.specs.Limits.{object_max}
use Rattle.layout.specs.declared.refusals.Refusal.{Refusal}
use Rattle.layout.specs.Refusal.{number}
use Rattle.endian.specs.Bytes.{number_at}
use Rattle.bitmap.specs.Bits.{holds}
use Rattle.rules.specs.Image.{sinks_kind, kind_of, body_of, past, saved_as_sink, sinks_ok}
use Rattle.rules.specs.Load.{objects, image_n, sinks_before, bad_sinks}
use Rattle.loads.specs.Bodies.{Sunk, Empty, NoZero}
use Rattle.loads.specs.Chunks.{front_refusal, chunk_refusal, refusal_from, Chunk, bad_tail, TailSet}
use Rattle.loads.proofs.SinkLaws.{sunk-zero, sinks-bound, sinks-none, sinks-some}
use Rattle.loads.proofs.ChunkLaws.{kind_at, chunk-none, chunk-good, chunk-bad, sinks_bad, late-end, late-stop, late-on}
use Rattle.loads.proofs.ImageLaws.{place-next}

-- the set before chunk t: the sinks as long as no chunk of sinks came, and then nothing
pub record SetAt (image words : List ℕ) (t : ℕ) : Type 0 where
  pub before : length (sinks_before image t) ≡ 0 → Sunk (image_n image) (objects image) words
  pub behind : length (sinks_before image t) ≢ 0 → Empty words

-- from the chunk at place `at` on the refusal is that from chunk 3 on
pub record Going (image words : List ℕ) (at : ℕ) : Type 0 where
  pub chunk : ℕ
  pub late : 3 ≤ chunk
  pub inside : at ≤ length image
  pub here : past chunk image ≡ drop at image
  pub same : refusal_from image chunk ≡ refusal_from image 3
  pub set : SetAt image words chunk

pub going_start : (image words : List ℕ) (start : ℕ) → start ≤ length image → past 3 image ≡ drop start image → Sunk (image_n image) (objects image) words
    → Going image words start
going_start image words start p e s =
    record { chunk = 3; late = omega arith; inside = p; here = e; same = refl; set = record { before = λ q. s; behind = λ d. absurd (d (unfold sinks_before in refl)) } }

module _ (image words : List ℕ) (at : ℕ) (g : Going image words at) where
  abbrev t : ℕ
  t = g.chunk

  abbrev earlier : List ℕ
  earlier = sinks_before image t

  pub going-zero : NoZero words
  going-zero = go (ℕ_discrete (length earlier) 0)
    where
      go : Dec (length earlier ≡ 0) → NoZero words
      go (yes e) = sunk-zero (image_n image) (objects image) words (g.set.before e)
      go (no d) = let s = g.set.behind d in (s.0, s.1 0)

  module _ (most : image_n image ≤ object_max) where
    -- the test of the code is that of the rule
    tail-bad : bad_tail words (drop at image) ≡ sinks_bad image t
    unfolding bad_tail bad_sinks
    tail-bad = rw (sym g.here) (ap (λ (b : Bool). eqb (kind_of (past t image)) sinks_kind && b) (go (ℕ_discrete (length earlier) 0)))
      where
        body : List ℕ
        body = body_of (past t image)

        go : Dec (length earlier ≡ 0) → not (sinks_ok object_max (λ z. holds z words) body) ≡ (not (eqb (length earlier) 0) || not (sinks_ok (image_n image) (saved_as_sink (objects image)) body))
        go (yes e) =
            rw (eq-eqb (length earlier) 0 e)
            (ap not (sinks-bound (image_n image) object_max (λ z. holds z words) (saved_as_sink (objects image)) body most (g.set.before e).1))
        go (no d) =
            rw (ne_eqb (length earlier) 0 d) (ap not (sinks-none object_max (λ z. holds z words) body (g.set.behind d).1))

    module _ (p : at < length image) where
      more_bytes : length (past t image) ≢ 0
      more_bytes e = let a = ap length g.here ∙ length-drop at image in omega arith

      as-chunk : chunk_refusal 3 (drop at image) (bad_tail words (drop at image)) ≡ chunk_refusal 3 (past t image) (sinks_bad image t)
      as-chunk = ap (chunk_refusal 3 (drop at image)) tail-bad ∙ ap (λ (b : List ℕ). chunk_refusal 3 b (sinks_bad image t)) (sym g.here)

      pub going-stop : (e : Refusal) → number e ≡ chunk_refusal 3 (drop at image) (bad_tail words (drop at image)) → number e ≡ refusal_from image 3
      going-stop e is = late-stop image t g.late more_bytes e (is ∙ as-chunk) ∙ g.same

      module _ (is : 0 ≡ chunk_refusal 3 (drop at image) (bad_tail words (drop at image))) (words' : List ℕ) (s : TailSet (drop at image) words words') where
        -- a chunk of sinks that passes has a body
        filled : eqb (kind_of (past t image)) sinks_kind ≡ true → length (body_of (past t image)) ≢ 0
        unfolding bad_tail
        filled e =
            sinks-some object_max (λ y. holds y words) (body_of (past t image))
            (not-false _ (rw (sym g.here, e) at (chunk-none 3 (drop at image) (bad_tail words (drop at image)) is).1))

        next-set : SetAt image words' (suc t)
        unfolding sinks_before
        next-set = go (eqb (kind_of (past t image)) sinks_kind) refl
          where
            next : (b : Bool) → eqb (kind_of (past t image)) sinks_kind ≡ b → sinks_before image (suc t) ≡ cond b (body_of (past t image)) earlier
            next b e = rw (le-leb 3 t g.late, e) refl

            go : (b : Bool) → eqb (kind_of (past t image)) sinks_kind ≡ b → SetAt image words' (suc t)
            go true e =
                record {
                  before = λ q. absurd (filled e (sym (ap length (next true e)) ∙ q));
                  behind = λ d. s.sinks (ap (λ (b : List ℕ). eqb (kind_of b) sinks_kind) (sym g.here) ∙ e);
                }
            go false e =
                let w = s.other (ap (λ (b : List ℕ). eqb (kind_of b) sinks_kind) (sym g.here) ∙ e) in
                record {
                  before = λ q. rw w (g.set.before (sym (ap length (next false e)) ∙ q));
                  behind = λ d. rw w (g.set.behind (λ q. d (ap length (next false e) ∙ q)));
                }

        pub going-turn : (e : ℕ) → Chunk image at e → Going image words' e
        going-turn e c =
            record {
              chunk = suc t;
              late = let m = g.late in omega arith;
              inside = c.inside;
              here = place-next image t at g.here e c;
              same = late-on image t g.late more_bytes (is ∙ as-chunk) ∙ g.same;
              set = next-set;
            }

  pub going_end : length image ≤ at → 0 ≡ refusal_from image 3
  going_end p = late-end image t g.late (ap length g.here ∙ length-drop at image ∙ omega arith) ∙ g.same

-- ---- the chunk at a place

module _ (image words : List ℕ) (at k : ℕ) (is : k ≡ number_at 2 (at + 4) image) (front : 0 ≡ front_refusal 3 (drop at image)) where
  abbrev b : List ℕ
  b = drop at image

  module _ (d : k ≢ sinks_kind) where
    other-kind : eqb (kind_of b) sinks_kind ≡ false
    other-kind = ne_eqb (kind_of b) sinks_kind (λ q. d (kind_at image at k is ∙ q))

    pub tail-passed : 0 ≡ chunk_refusal 3 b (bad_tail words b)
    unfolding bad_tail
    tail-passed = rw other-kind (chunk-good 3 b true front refl)

    pub tail-same : TailSet b words words
    tail-same = record { sinks = λ q. absurd (false≢true (sym other-kind ∙ q)); other = λ q. refl }

  module _ (e : k ≡ sinks_kind) where
    sinks-kind : eqb (kind_of b) sinks_kind ≡ true
    sinks-kind = eq-eqb (kind_of b) sinks_kind (sym (kind_at image at k is) ∙ e)

    module _ (ok : Bool) (body : List ℕ) (f : body ≡ body_of b) (g : ok ≡ sinks_ok object_max (λ z. holds z words) body) where
      tested : bad_tail words b ≡ not ok
      unfolding bad_tail
      tested = rw sinks-kind (ap not (sym (g ∙ ap (sinks_ok object_max (λ z. holds z words)) f)))

      pub tail-good : ok ≡ true → 0 ≡ chunk_refusal 3 b (bad_tail words b)
      tail-good o = rw tested (chunk-good 3 b ok front o)

      pub tail-wrong : ok ≡ false → 27 ≡ chunk_refusal 3 b (bad_tail words b)
      tail-wrong o = rw tested (chunk-bad 3 b ok front o)

    pub tail-empty : (words' : List ℕ) → Empty words' → TailSet b words words'
    tail-empty words' z = record { sinks = λ q. z; other = λ q. absurd (false≢true (sym q ∙ sinks-kind)) }
