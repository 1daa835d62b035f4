-- The first three chunks of an image in turn, and what an image that is not refused says.
-- Assumes nothing.
use Prim.Native.Nat.{ℕ, suc, ◌+◌, ◌≤◌}
use mathlib.Core.Path.{◌≡◌, refl, sym, ap, ◌∙◌}
use mathlib.Core.Bool.{Bool, true, false, not, ◌&&◌, ◌||◌}
use mathlib.Core.List.{List}
use native.Mathlib.Omega.{arith}
use borrow.Author.Tests.{eqb-true, leb-true, not-true, not-false}
use lib.Dec.{eqb, leb, ltb}
use lib.ListN.{length, drop, replicate, length-take, length-replicate}
use Rattle.layout.specs.Limits.{object_max, sink_max}
use Rattle.layout.specs.ControlRecord.{bad_sizes}
use Rattle.layout.specs.declared.refusals.Refusal.{Refusal}
use Rattle.layout.specs.Refusal.{number, first}
use Rattle.layout.proofs.ControlLaws.{Sizes, sizes-facts}
use Rattle.bitmap.proofs.BitLaws.{holds-blank}
use Rattle.endian.specs.Bytes.{number_at}
use Rattle.graph.specs.Numbers.{count}
use Rattle.rules.specs.Image.{front_len, body_len, body_of, past, cut, saved_n, saved_r, saved_last, sizes_ok, objects_ok, saved_as_sink}
use Rattle.rules.specs.Load.{objects, image_n, image_r, bad_body, image_tests}
use Rattle.rules.proofs.BoolLaws.{and_split}
use Rattle.loads.specs.Bodies.{Listed, Sunk, Empty, objects_pass, roots_pass}
use Rattle.loads.specs.Chunks.{chunk_refusal, refusal_from, Chunk}
use Rattle.loads.proofs.PlaceLaws.{number-part}
use Rattle.loads.proofs.WordLaws.{roots-pass}
use Rattle.loads.proofs.ChunkLaws.{front-uncut, chunk-none, past_next, step-stop, step-on, refusal-all}

-- words that are 0
abbrev blank : List ℕ
blank = replicate 64 0

pub empty : Empty blank
empty = (length-replicate {A = ℕ} 64 0, holds-blank 64)

-- a chunk with no refusal is whole
pub chunk-uncut : (t : ℕ) (b : List ℕ) (bad : Bool) → 0 ≡ chunk_refusal t b bad → cut b ≡ false
chunk-uncut t b bad e = front-uncut t b (chunk-none t b bad e).0

-- ---- the sizes

module _ (image : List ℕ) where
  length-long : length (body_of image) ≡ 8 → 8 ≤ body_len image
  unfolding body_of
  length-long p = let e = length-take (body_len image) (drop front_len image) in omega arith

  module _ (l : 8 ≤ body_len image) where
    -- a number of two bytes in the body
    number-at : (i : ℕ) → i + 2 ≤ 8 → number_at 2 (front_len + i) image ≡ number_at 2 i (body_of image)
    unfolding body_of
    number-at i p = sym (number-part 2 i front_len (body_len image) image (omega arith))

    number-n : number_at 2 8 image ≡ saved_n (body_of image)
    unfolding saved_n
    number-n = number-at 2 (omega arith)

    number-r : number_at 2 10 image ≡ saved_r (body_of image)
    unfolding saved_r
    number-r = number-at 4 (omega arith)

    number-last : number_at 2 12 image ≡ saved_last (body_of image)
    unfolding saved_last
    number-last = number-at 6 (omega arith)

-- the numbers of a body of kind 1, and where they stand in the image
pub record Sized (image : List ℕ) : Type 0 where
  pub sizes : Sizes (image_n image) (image_r image)
  pub n-at : number_at 2 8 image ≡ image_n image
  pub r-at : number_at 2 10 image ≡ image_r image
  pub last-at : number_at 2 12 image ≡ saved_last (body_of image)
  pub last-most : saved_last (body_of image) ≤ image_n image

pub sized : (image : List ℕ) → sizes_ok (body_of image) ≡ true → Sized image
unfolding sizes_ok
sized image e =
    let body = body_of image in
    let a = and_split (eqb (length body) 8 && eqb (number_at 2 0 body) 1 && not (bad_sizes (saved_n body) (saved_r body))) (leb (saved_last body) (saved_n body)) e in
    let b = and_split (eqb (length body) 8 && eqb (number_at 2 0 body) 1) (not (bad_sizes (saved_n body) (saved_r body))) a.0 in
    let c = and_split (eqb (length body) 8) (eqb (number_at 2 0 body) 1) b.0 in
    let l = length-long image (eqb-true (length body) 8 c.0) in
    record {
      sizes = sizes-facts (saved_n body) (saved_r body) (not-true _ b.1);
      n-at = number-n image l;
      r-at = number-r image l;
      last-at = number-last image l;
      last-most = leb-true (saved_last body) (saved_n body) a.1;
    }

-- ---- chunk after chunk

module _ (image : List ℕ) where
  first-is : chunk_refusal 0 image (not (sizes_ok (body_of image))) ≡ chunk_refusal 0 (past 0 image) (bad_body image 0)
  unfolding past bad_body
  first-is = refl

  pub first-stop : (e : Refusal) → number e ≡ chunk_refusal 0 image (not (sizes_ok (body_of image))) → number e ≡ first (image_tests image)
  first-stop e is = step-stop image 0 (omega arith) e (is ∙ first-is) ∙ refusal-all image

  -- the chunk behind chunk t, which is at a place
  pub place-next : (t at : ℕ) → past t image ≡ drop at image → (e : ℕ) → Chunk image at e → past (suc t) image ≡ drop e image
  place-next t at h e c = past_next t image ∙ ap (λ (b : List ℕ). drop (front_len + body_len b) b) h ∙ sym c.next

  -- the second chunk is at a place, and n is known
  pub record Second (at n : ℕ) : Type 0 where
    pub here : past 1 image ≡ drop at image
    pub most : n ≤ object_max
    pub is-n : n ≡ image_n image
    pub is-r : number_at 2 10 image ≡ image_r image
    pub same : refusal_from image 1 ≡ first (image_tests image)

  pub second : 0 ≡ chunk_refusal 0 image (not (sizes_ok (body_of image))) → (at n : ℕ) → Chunk image 0 at → n ≡ number_at 2 8 image → Second at n
  unfolding past
  second is at n c e =
      let s = sized image (not-false _ (chunk-none 0 image (not (sizes_ok (body_of image))) is).1) in
      record {
        here = place-next 0 0 refl at c;
        most = let a = s.sizes.most in omega (arith, e, s.n-at);
        is-n = e ∙ s.n-at;
        is-r = s.r-at;
        same = sym (step-on image 0 (omega arith) (is ∙ first-is)) ∙ refusal-all image;
      }

  module _ (at n : ℕ) (s : Second at n) where
    second_is : chunk_refusal 1 (drop at image) (not (objects_pass n (body_of (drop at image)))) ≡ chunk_refusal 1 (past 1 image) (bad_body image 1)
    unfolding bad_body objects_pass
    second_is =
        rw (s.here, s.is-n)
        (ap (chunk_refusal 1 (drop at image)) (either (objects_ok (body_of (drop at image)) (image_n image)) (ltb sink_max (count (image_n image) (saved_as_sink (body_of (drop at image)))))))
      where
        either : (a b : Bool) → not (a && not b) ≡ not a || b
        either true true = refl
        either true false = refl
        either false b = refl

    pub second-stop : (e : Refusal) → number e ≡ chunk_refusal 1 (drop at image) (not (objects_pass n (body_of (drop at image)))) → number e ≡ first (image_tests image)
    second-stop e is = step-stop image 1 (omega arith) e (is ∙ second_is) ∙ s.same

    -- the numbers of the image itself
    pub second-most : image_n image ≤ object_max
    second-most = omega (arith, s.most, s.is-n)

    pub second-sunk : (words : List ℕ) → Sunk n (body_of (drop at image)) words → Sunk (image_n image) (objects image) words
    second-sunk words h = rw (sym s.is-n, s.here) h

  -- the third chunk is at a place
  pub record Third (at : ℕ) : Type 0 where
    pub here : past 2 image ≡ drop at image
    pub same : refusal_from image 2 ≡ first (image_tests image)

  pub third : (at n : ℕ) → Second at n → 0 ≡ chunk_refusal 1 (drop at image) (not (objects_pass n (body_of (drop at image)))) → (e : ℕ) → Chunk image at e → Third e
  third at n s is e c =
      record {
        here = place-next 1 at s.here e c;
        same = sym (step-on image 1 (omega arith) (is ∙ second_is at n s)) ∙ s.same;
      }

  module _ (a b n r : ℕ) (words : List ℕ) (s : Second a n) (t : Third b) (has : Listed n (body_of (drop a image)) words) (e : r ≡ number_at 2 10 image) where
    third-is : chunk_refusal 2 (drop b image) (not (roots_pass n r words (body_of (drop b image)))) ≡ chunk_refusal 2 (past 2 image) (bad_body image 2)
    unfolding bad_body
    third-is =
        rw (t.here, s.here, sym s.is-n, sym s.is-r, sym e)
        (ap (λ (x : Bool). chunk_refusal 2 (drop b image) (not x)) (sym (roots-pass n (body_of (drop a image)) words has r (body_of (drop b image)))))

    pub third-stop : (x : Refusal) → number x ≡ chunk_refusal 2 (drop b image) (not (roots_pass n r words (body_of (drop b image)))) → number x ≡ first (image_tests image)
    third-stop x is = step-stop image 2 (omega arith) x (is ∙ third-is) ∙ t.same

    -- the chunks behind the third decide
    pub third-on : 0 ≡ chunk_refusal 2 (drop b image) (not (roots_pass n r words (body_of (drop b image)))) → (q : ℕ) → q ≡ refusal_from image 3 → q ≡ first (image_tests image)
    third-on is q h = h ∙ sym (step-on image 2 (omega arith) (is ∙ third-is)) ∙ t.same
