-- A plain heap is loaded again from its image.
-- Assumes nothing.
use Prim.Native.Nat.{ℕ, suc, ◌+◌, ◌*◌, ◌≤◌}
use mathlib.Core.Path.{◌≡◌, refl, sym, ap, ap₂, subst, ◌∙◌}
use mathlib.Core.Bool.{Bool, true, false, not, cond}
use mathlib.Core.List.{List, [], ◌++◌, map, append-nil}
use native.Mathlib.Omega.{arith}
use lib.Dec.{eqb}
use lib.ListN.{length, length-append}
use Rattle.layout.specs.Field.{digit}
use Rattle.layout.specs.Refusal.{first}
use Rattle.graph.specs.Numbers.{has}
use Rattle.rules.specs.Buffers.{numbers}
use Rattle.rules.specs.Image.{sinks_chunk, saved_words, saved_sink, saved_last, saved_root}
use Rattle.rules.specs.Load.{image_tests, sizes, objects, root_words, image_n, image_r, loaded_sinks}
use Rattle.rules.specs.Plain.{Cell, vacant, object, Plain, is_free, words_in, is_sink, cell_at, plain_size, plain_words, plain_sink, plain_sinks, plain_chunks, plain_image, cell_from, plain_loaded}
use Rattle.rules.specs.Demands.{none, Behind}
use Rattle.rules.proofs.ListLaws.{same_numbers}
use Rattle.rules.proofs.ListedLaws.{Lists, listed-count, pointers-same, gather-length}
use Rattle.rules.proofs.ImageLaws.{numbered, digit-one}
use Rattle.rules.proofs.WrittenLaws.{Writable, sinks-length, n-read, last-read, listed-read, words-read, sink-read, roots-read}
use Rattle.rules.proofs.WrittenSinks.{behind-chunk, behind-read}

-- what the image of a plain heap needs to be read again
abbrev pub PlainWritable : Plain → Type 0
PlainWritable P = Writable (plain_size P) P.last (λ x. not (is_free (cell_at P.cells x))) (plain_sink P) (plain_words P) P.roots

cells-numbered : (cells : List Cell) → map (cell_at cells) (numbers 1 (length cells)) ≡ cells
unfolding cell_at
cells-numbered cells = numbered (cell_at cells) 1 cells vacant (λ i l. ap (cell_at cells) (let e : 1 + i ≡ suc i = omega arith in e))

module _ (P : Plain) (w : PlainWritable P) where
  abbrev used : ℕ → Bool
  used x = not (is_free (cell_at P.cells x))

  -- the plain heap is read from its three chunks, whatever is behind them
  module _ (z : List ℕ) where
    abbrev b : List ℕ
    b = plain_chunks P ++ z

    cell-read : (x : ℕ) → 1 ≤ x → x ≤ plain_size P → cell_from b x ≡ cell_at P.cells x
    unfolding cell_from plain_chunks
    cell-read x p q =
        rw (listed-read (plain_size P) P.last used (plain_sink P) (plain_words P) P.roots w z x p q)
        (go (cell_at P.cells x) refl (words-read (plain_size P) P.last used (plain_sink P) (plain_words P) P.roots w z x p q)
        (sink-read (plain_size P) P.last used (plain_sink P) (plain_words P) P.roots w z x p q))
      where
        go : (c : Cell) → cell_at P.cells x ≡ c
            → (used x ≡ true → saved_words (objects b) x ≡ plain_words P x)
            → (used x ≡ true → saved_sink (objects b) x ≡ digit (plain_sink P x))
            → cond (not (is_free c)) (object (saved_words (objects b) x) (eqb (saved_sink (objects b) x) 1)) vacant ≡ c
        go vacant e a d = unfold is_free in refl
        go (object ws s) e a d = unfold is_free is_sink words_in plain_words plain_sink in
            (let u : used x ≡ true = ap (λ (c : Cell). not (is_free c)) e in
            ap₂ object (a u ∙ ap words_in e) (ap (λ (k : ℕ). eqb k 1) (d u) ∙ digit-one (is_sink (cell_at P.cells x)) ∙ ap is_sink e))

    pub plain-reloaded : plain_loaded b ≡ P
    unfolding plain_loaded
    plain-reloaded =
        λ i. record { last = last-again i; roots = roots-same i; cells = cells-again i }
      where
        last-again : saved_last (sizes b) ≡ P.last
        last-again = unfold plain_chunks in last-read (plain_size P) P.last used (plain_sink P) (plain_words P) P.roots w z

        roots-same : map (saved_root (root_words b)) (numbers 0 (image_r b)) ≡ P.roots
        roots-same = unfold plain_chunks in roots-read (plain_size P) P.last used (plain_sink P) (plain_words P) P.roots w z

        size-again : image_n b ≡ plain_size P
        size-again = unfold plain_chunks in n-read (plain_size P) P.last used (plain_sink P) (plain_words P) P.roots w z

        cells-again : map (cell_from b) (numbers 1 (image_n b)) ≡ P.cells
        cells-again =
            ap (λ (k : ℕ). map (cell_from b) (numbers 1 k)) size-again
            ∙ same_numbers (cell_from b) (cell_at P.cells) 1 (plain_size P) (λ x p q. cell-read x p (omega arith))
            ∙ cells-numbered P.cells

    -- with what may stand there, the tests pass, and the sinks are read in its order
    pub behind-passes : (l : List ℕ) → Behind (plain_size P) (plain_sink P) l z → (first (image_tests b) ≡ 0) × (loaded_sinks b ≡ l)
    unfolding plain_chunks
    behind-passes l B = behind-read (plain_size P) P.last used (plain_sink P) (plain_words P) P.roots w l z B

  -- its image with the sinks in any order
  module _ (l : List ℕ) (L : Lists (plain_size P) (plain_sink P) l) (s : has 0 l ≡ false) where
    -- the chunk of sinks, with nothing behind it
    behind : Behind (plain_size P) (plain_sink P) l (sinks_chunk l)
    behind = subst (Behind (plain_size P) (plain_sink P) l) (append-nil (sinks_chunk l)) (behind-chunk (plain_size P) (plain_sink P) l [] L s none)

    pub image-reloaded : plain_loaded (plain_image P l) ≡ P
    unfolding plain_image
    image-reloaded = plain-reloaded (sinks_chunk l)

    pub image-passes : (first (image_tests (plain_image P l)) ≡ 0) × (loaded_sinks (plain_image P l) ≡ l)
    unfolding plain_image
    image-passes = behind-passes (sinks_chunk l) l behind

-- ---- how long an image is

-- the order of the sinks does not matter
pub image-length-same : (P : Plain) (l m : List ℕ) → length l ≡ length m → length (plain_image P l) ≡ length (plain_image P m)
unfolding plain_image
image-length-same P l m e =
    length-append (plain_chunks P) (sinks_chunk l)
    ∙ ap (λ (k : ℕ). length (plain_chunks P) + k) (sinks-length l ∙ ap (λ (k : ℕ). cond (eqb k 0) 0 (6 + 2 * k)) e ∙ sym (sinks-length m))
    ∙ sym (length-append (plain_chunks P) (sinks_chunk m))

-- a list of the sinks without empty places is as long as that by number
pub sinks-listed : (P : Plain) (l : List ℕ) → Lists (plain_size P) (plain_sink P) l → has 0 l ≡ false → length l ≡ length (plain_sinks P)
unfolding plain_sinks
sinks-listed P l L s =
    sym (ap length (pointers-same l s)) ∙ listed-count (plain_size P) (plain_sink P) l L ∙ sym (gather-length (plain_size P) (plain_sink P))
