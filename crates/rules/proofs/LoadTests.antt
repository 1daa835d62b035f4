-- The tests of load: they are in order, and an image that passes them is a heap.
-- Assumes nothing.
use Prim.Native.Nat.{ℕ, zero, suc, ◌≤◌}
use mathlib.Core.Path.{◌≡◌, refl, sym, ◌∙◌}
use mathlib.Core.Bool.{Bool, true, false, cond, ◌||◌}
use mathlib.Core.List.{List, [], ◌∷◌, ◌++◌, map, Memᴰ}
use mathlib.Core.Logic.{◌≢◌}
use native.Mathlib.Decide.{ℕ_discrete}
use native.Mathlib.Omega.{arith}
use lib.Dec.{eqb, ltb}
use lib.ListN.{length}
use borrow.Author.Tests.{ltb-false, eqb-false}
use Rattle.layout.specs.Limits.{slots_len, width_max, sink_max}
use Rattle.layout.specs.ControlRecord.{bad_tuning}
use Rattle.layout.specs.declared.answers.Tuning.{Tuning}
use Rattle.layout.specs.Refusal.{Test, first}
use Rattle.layout.specs.Word.{is_nil, is_immediate}
use Rattle.layout.proofs.ControlLaws.{Sizes, sizes-facts}
use Rattle.layout.proofs.RefusalLaws.{Numbered, nil, cons, first-passed, first-fails, first-front, first-skip, first-zero}
use Rattle.graph.specs.Numbers.{Obj}
use Rattle.rules.specs.Buffers.{short, short_heap, numbers}
use Rattle.rules.specs.Image.{past, saved_last, listed, saved_width, saved_sink, saved_as_sink, saved_words, shaped, names_listed, words_ok, saved_root}
use Rattle.rules.specs.Load.{sizes, objects, root_words, image_n, image_r, chunk_tests, image_tests, input_tests, loaded_sinks, load_tests}
use Rattle.rules.specs.Demands.{Long, in_order, chunk_order, load_order}
use Rattle.rules.proofs.BoolLaws.{or_split}
use Rattle.rules.proofs.ListLaws.{all_to-at}
use Rattle.rules.proofs.ListedLaws.{Lists}
use Rattle.rules.proofs.Invariant.{enough}
use Rattle.rules.proofs.AcceptedLaws.{sizes-right, objects-right, roots-right, sizes-held, objects-held, shape-facts, words-held, roots-held, loaded-lists, loaded-short}

-- ---- every image

-- buffers that are long enough are not too short
pub long-enough : (n r : ℕ) (recs slots roots list sets : List ℕ) → Long n r recs slots roots list sets → short_heap n r recs slots roots list sets ≡ false
unfolding short_heap
long-enough n r recs slots roots list sets l =
    rw (enough n recs l.0, enough (slots_len n) slots l.1, enough r roots l.2, enough sink_max list l.3, enough n sets l.4) refl

-- a number that refuses no call in a heap that the calls made
abbrev pub Never : ℕ → Type 0
Never m = (m ≢ 20) × (m ≢ 21) × (m ≢ 25)

module _ (t : Tuning) (b : List ℕ) where
  -- what holds of the tests of all chunks, as each has a 26, a 27 and a 28, but that an end has a 26 alone
  by-chunks : (P : ℕ → List Test → Type 0) → P 0 [] → ((f : ℕ) (c : Bool) → P (suc f) ((26, c) ∷ []))
      → ((f : ℕ) (c d e : Bool) (l : List Test) → P f l → P (suc f) ((26, c) ∷ (27, d) ∷ (28, e) ∷ l)) → (f k : ℕ) → P f (chunk_tests b f k)
  unfolding chunk_tests
  by-chunks P none end more zero k = none
  by-chunks P none end more (suc f) k = go (eqb (length (past k b)) 0) (more f _ _ _ _ (by-chunks P none end more f (suc k)))
    where
      go : {l : List Test} (e : Bool) → P (suc f) l → P (suc f) (cond e ((26, ltb k 3) ∷ []) l)
      go true h = end f _
      go false h = h

  numbered : Numbered (input_tests t b)
  unfolding image_tests input_tests
  numbered =
      cons {t = (30, bad_tuning t)} (omega arith) (by-chunks (λ f l. Numbered l) nil (λ f c. cons (omega arith) nil)
      (λ f c d e l h. cons (omega arith) (cons (omega arith) (cons (omega arith) h))) (suc (length b)) 0)

  module _ (recs slots roots list sets : List ℕ) where
    -- the last test
    abbrev lacks : Bool
    lacks = short_heap (image_n b) (image_r b) recs slots roots list sets

    pub load-ordered : in_order (load_order (suc (length b))) (load_tests t b recs slots roots list sets) ≡ true
    unfolding load_tests input_tests image_tests in_order chunk_order
    load-ordered =
        by-chunks (λ f l. in_order (chunk_order f) (l ++ ((2, lacks) ∷ [])) ≡ true) refl (λ f c. last f) (λ f c d e l h. h) (suc (length b)) 0
      where
        last : (f : ℕ) → in_order (chunk_order f) ((2, lacks) ∷ []) ≡ true
        last zero = refl
        last (suc f) = last f

    -- no load meets 20, 21 or 25
    pub tests-unmet : Never (first (load_tests t b recs slots roots list sets))
    unfolding load_tests input_tests image_tests first
    tests-unmet =
        else 30 (bad_tuning t) _ (other 30 refl refl refl)
        (by-chunks (λ f l. Never (first (l ++ ((2, lacks) ∷ [])))) last (λ f c. else 26 c _ (other 26 refl refl refl) last)
        (λ f c d e l h. else 26 c _ (other 26 refl refl refl) (else 27 d _ (other 27 refl refl refl) (else 28 e _ (other 28 refl refl refl) h)))
        (suc (length b)) 0)
      where
        other : (m : ℕ) → eqb m 20 ≡ false → eqb m 21 ≡ false → eqb m 25 ≡ false → Never m
        other m p q r = (eqb-false m 20 p, eqb-false m 21 q, eqb-false m 25 r)

        else : (k : ℕ) (c : Bool) (m : ℕ) → Never k → Never m → Never (cond c k m)
        else k true m p q = p
        else k false m p q = q

        last : Never (cond lacks 2 0)
        last = else 2 lacks 0 (other 2 refl refl refl) (other 0 refl refl refl)

    -- buffers that are long enough for the heap of the image: what it is given decides
    pub load-tests : (first (input_tests t b) ≡ 0 → Long (image_n b) (image_r b) recs slots roots list sets)
        → first (load_tests t b recs slots roots list sets) ≡ first (input_tests t b)
    unfolding load_tests
    load-tests long = go (ℕ_discrete (first (input_tests t b)) 0)
      where
        go : Dec (first (input_tests t b) ≡ 0) → first (input_tests t b ++ ((2, lacks) ∷ [])) ≡ first (input_tests t b)
        go (yes z) =
            let l = long z in
            first-skip (input_tests t b) _ (first-zero (input_tests t b) numbered z)
            ∙ first-fails 2 [] lacks (long-enough (image_n b) (image_r b) recs slots roots list sets l) ∙ (unfold first in (sym z))
        go (no z) = first-front (input_tests t b) _ z

    -- and back: what an accepted load has passed
    given : first (input_tests t b) ≡ 0 → (bad_tuning t ≡ false) × (first (image_tests b) ≡ 0)
    unfolding input_tests
    given z = first-passed 29 _ _ z

    pub load-passed : first (load_tests t b recs slots roots list sets) ≡ 0
        → (bad_tuning t ≡ false) × (first (image_tests b) ≡ 0) × Long (image_n b) (image_r b) recs slots roots list sets
    unfolding load_tests short_heap short
    load-passed h = go (ℕ_discrete (first (input_tests t b)) 0)
      where
        go : Dec (first (input_tests t b) ≡ 0) → (bad_tuning t ≡ false) × (first (image_tests b) ≡ 0) × Long (image_n b) (image_r b) recs slots roots list sets
        go (no z) = absurd (z (sym (first-front (input_tests t b) _ z) ∙ h))
        go (yes z) =
            let p = first-passed 1 _ _ (sym (first-skip (input_tests t b) _ (first-zero (input_tests t b) numbered z)) ∙ h) in
            let g = given z in
            let a = or_split _ _ p.0 in
            let c = or_split _ _ a.0 in
            let d = or_split _ _ c.0 in
            let e = or_split _ _ d.0 in
            (g.0, g.1, (ltb-false _ _ e.0, ltb-false _ _ e.1, ltb-false _ _ d.1, ltb-false _ _ c.1, ltb-false _ _ a.1))

-- ---- an image that passes

module _ (b : List ℕ) where
  -- what its bodies hold
  pub record Holds : Type 0 where
    pub ranges : Sizes (image_n b) (image_r b)
    pub last : saved_last (sizes b) ≤ image_n b
    pub narrow : (x : ℕ) → Obj (image_n b) x → listed (objects b) x ≡ true → saved_width (objects b) x ≤ width_max
    pub sink : (x : ℕ) → Obj (image_n b) x → listed (objects b) x ≡ true → saved_sink (objects b) x ≤ 1
    pub words : (x : ℕ) → Obj (image_n b) x → listed (objects b) x ≡ true → (w : ℕ) → Memᴰ w (saved_words (objects b) x)
        → (is_nil w || is_immediate w || names_listed (objects b) (image_n b) w) ≡ true
    pub roots : (w : ℕ) → Memᴰ w (map (saved_root (root_words b)) (numbers 0 (image_r b)))
        → (is_nil w || names_listed (objects b) (image_n b) w) ≡ true
    pub sinks : Lists (image_n b) (saved_as_sink (objects b)) (loaded_sinks b)
    pub few : length (loaded_sinks b) ≤ sink_max

  pub holds : first (image_tests b) ≡ 0 → Holds
  holds z =
      let s = sizes-held (sizes b) (sizes-right b z) in
      let o = objects-held (objects b) (image_n b) (objects-right b z) in
      record {
        ranges = sizes-facts _ _ s.sized;
        last = s.given;
        narrow = λ x i l. (shape-facts (objects b) x l (all_to-at (image_n b) (shaped (objects b)) o.shape x i.0 i.1)).narrow;
        sink = λ x i l. (shape-facts (objects b) x l (all_to-at (image_n b) (shaped (objects b)) o.shape x i.0 i.1)).sunk;
        words = λ x i l. words-held (objects b) (image_n b) x l (all_to-at (image_n b) (words_ok (objects b) (image_n b)) o.words x i.0 i.1);
        roots = roots-held (image_n b) (image_r b) (objects b) (root_words b) (roots-right b z);
        sinks = (loaded-lists b z).0;
        few = loaded-short b z;
      }
