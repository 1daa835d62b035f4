-- What load lays and what it answers at each of its ends.
-- Assumes nothing.
use Prim.Native.Nat.{ℕ, zero, suc, ◌+◌, ◌-◌, ◌*◌, ◌/◌, ◌%◌, ◌≤◌}
use mathlib.Core.Path.{◌≡◌, refl, sym, ap, ap₂, ◌∙◌}
use mathlib.Core.Bool.{Bool, true, false, cond}
use mathlib.Core.List.{List, [], ◌∷◌, ◌++◌}
use native.Mathlib.Omega.{arith}
use borrow.Author.Tests.{eqb-true}
use lib.Dec.{eqb}
use lib.ListN.{length, get_or, take, drop}
use Rattle.layout.specs.declared.answers.Control.{Control}
use Rattle.layout.specs.declared.answers.Tuning.{Tuning}
use Rattle.layout.specs.Limits.{width_max, sink_max, slots_len}
use Rattle.layout.specs.ControlRecord.{bad_tuning, new_control, with_last}
use Rattle.std.specs.Prelude.{Ok, Err}
use Rattle.layout.specs.declared.refusals.Refusal.{Refusal}
use Rattle.layout.specs.declared.refusals.Refusal.TheVariants.{TooShort}
use Rattle.layout.specs.Refusal.{Test, number, first}
use Rattle.layout.proofs.RefusalLaws.{numbered as above, Numbered, nil, cons, first-passed, first-front, first-skip, first-zero, first_holds, first-fails, outcome-zero, outcome-number}
use Rattle.endian.specs.Bytes.{number_at}
use Rattle.rules.specs.Buffers.{short_heap, each_from, each_record, zeros}
use Rattle.rules.specs.Image.{front_len, body_of, past, cut, saved_root, roots_ok}
use Rattle.rules.specs.Load as Load
use Rattle.rules.specs.Load.{image_n, image_r, image_tests, input_tests, chunk_tests, loaded_record, loaded_word, loaded_sinks, root_words}
use Rattle.rules.proofs.ListLaws.{each_same, each-each}
use Rattle.rules.proofs.BoolLaws.{and_split}
use Rattle.rules.proofs.BufferLaws.{zeros-from}
use Rattle.rules.proofs.AcceptedLaws.{accepted-places, sizes-right, objects-right, roots-right}
use Rattle.table.proofs.RoomLaws.{heap-long}
use Rattle.loads.specs.Chunks.{Chunk}
use Rattle.loads.specs.Laid.{laid, record_or, slot_or, Roomy, Placed, Accepted, answer_of}
use Rattle.loads.proofs.ImageLaws.{place-next, Sized, sized}
use Rattle.loads.proofs.SinkPlaces.{shape_of}
use Rattle.loads.proofs.LayLaws.{laid-all}

-- ---- the places of the chunks

module _ (image : List ℕ) where
  -- the body of the chunk at a place
  pub body_at : (t at : ℕ) → past t image ≡ drop at image → (e : ℕ) → Chunk image at e → take (e - (at + front_len)) (drop (at + front_len) image) ≡ body_of (past t image)
  body_at t at h e c = c.body ∙ ap body_of (sym h)

-- ---- the room of the stores

module _ (n r : ℕ) (image recs slots roots list sets : List ℕ) (a : Accepted n r image recs slots roots list sets) where
  pub roomy : (body recs' slots' : List ℕ) → body ≡ body_of (past 1 image) → length recs' ≡ length recs → length slots' ≡ length slots → Roomy n body recs' slots'
  roomy body recs' slots' e f g =
      let s = sized image (sizes-right image a.none) in
      record {
        shape = rw (e, a.is-n) (shape_of (image_n image) (body_of (past 1 image)) (objects-right image a.none));
        most = let m = s.sizes.most in omega (arith, a.is-n);
        records-room = let m = a.records-room in omega arith;
        slots-room = let m = a.slots-room in omega arith;
      }

  pub roots-room : (body : List ℕ) → body ≡ body_of (past 2 image) → 4 * r ≤ length body
  unfolding roots_ok
  roots-room body e =
      let l = eqb-true (length (body_of (past 2 image))) (4 * image_r image) (and_split (eqb (length (body_of (past 2 image))) (4 * image_r image)) _ (roots-right image a.none)).0 in
      let f = ap length e in
      let g = a.is-r in
      omega arith

  -- its first three chunks are whole
  pub first-whole : cut image ≡ false
  unfolding past
  first-whole = (accepted-places image a.none).one.whole

  pub second-whole : cut (past 1 image) ≡ false
  second-whole = (accepted-places image a.none).two.whole

  pub third-whole : cut (past 2 image) ≡ false
  third-whole = (accepted-places image a.none).three.whole

  -- where its chunks are
  module _ (one two three : ℕ) (c : Chunk image 0 one) (d : Chunk image one two) (e : Chunk image two three) where
    pub placed : Placed n image one two three
    unfolding past
    placed =
        let h = place-next image 0 0 refl one c in
        record {
          is-n = a.is-n;
          here = h;
          chunk = d;
          behind = record {
            none = a.none;
            low = omega (arith, c.start, d.start, e.start);
            inside = e.inside;
            here = place-next image 2 two (place-next image 1 one h two d) three e;
          };
        }

-- ---- what is laid

-- a change after all was cleared
each-zeros : (i k : ℕ) (g : ℕ → ℕ → ℕ) (l : List ℕ) → each_from i k g (zeros k l) ≡ each_from i k (λ x w. g x 0) l
each-zeros i k g l = ap (each_from i k g) (sym (zeros-from i k l)) ∙ each-each i k (λ x w. 0) g l

module _ (n : ℕ) (image : List ℕ) where
  pub records-laid : (recs recs₁ recs₂ body : List ℕ) → recs₁ ≡ zeros n recs → recs₂ ≡ each_record n (record_or body) recs₁ → body ≡ body_of (past 1 image)
      → recs₂ ≡ each_record n (λ x w. loaded_record image x) recs
  unfolding each_record record_or loaded_record
  records-laid recs recs₁ recs₂ body e f g = f ∙ rw (e, g) (each-zeros 1 n (record_or (body_of (past 1 image))) recs)

  pub slots-laid : (slots slots₁ slots₂ body : List ℕ) (s : ℕ) → s ≡ slots_len n → slots₁ ≡ zeros s slots → slots₂ ≡ each_from 0 (slots_len n) (slot_or body) slots₁
      → body ≡ body_of (past 1 image)
      → slots₂ ≡ each_from 0 (slots_len n) (λ j w. loaded_word image (j / width_max + 1) (j % width_max)) slots
  unfolding slot_or loaded_word
  slots-laid slots slots₁ slots₂ body s h e f g = f ∙ rw (e, h, g) (each-zeros 0 (slots_len n) (slot_or (body_of (past 1 image))) slots)

pub roots-laid : (r : ℕ) (image roots roots₁ body : List ℕ) → roots₁ ≡ laid 0 r (λ i. number_at 4 (0 + 4 * i) body) roots → body ≡ body_of (past 2 image)
    → roots₁ ≡ each_from 0 r (λ j w. saved_root (root_words image) j) roots
unfolding saved_root
roots-laid r image roots roots₁ body e g =
    e
    ∙ laid-all r (λ i. number_at 4 (0 + 4 * i) body) roots
    ∙ each_same 0 r (λ j w. number_at 4 (0 + 4 * j) body) (λ j w. number_at 4 (4 * j) (body_of (past 2 image))) roots
    (λ j w p q. ap₂ (λ (k : ℕ) (l : List ℕ). number_at 4 k l) (omega arith) g)

-- ---- the ends

none_first : first [] ≡ 0
unfolding first
none_first = refl

-- every refusal of an image is above 0
numbered : (image : List ℕ) (f t : ℕ) → Numbered (chunk_tests image f t)
unfolding chunk_tests
numbered image zero t = nil
numbered image (suc f) t = go (eqb (length (past t image)) 0) (numbered image f (suc t)) _ _ _ _
  where
    some : (k : ℕ) (t : Bool) (l : List Test) → Numbered l → Numbered ((suc k, t) ∷ l)
    some k t l n = cons {t = (suc k, t)} (omega arith) n

    go : (z : Bool) → Numbered (chunk_tests image f (suc t)) → (a b c d : Bool) → Numbered (cond z ((26, a) ∷ []) ((26, b) ∷ (27, c) ∷ (28, d) ∷ chunk_tests image f (suc t)))
    go true n a b c d = some 25 a [] nil
    go false n a b c d = some 25 b _ (some 26 c _ (some 27 d _ n))

module _ (t : Tuning) (image recs slots roots list sets : List ℕ) where
  abbrev ends : List Test
  ends = (2, short_heap (image_n image) (image_r image) recs slots roots list sets) ∷ []

  tests : Load.load_tests t image recs slots roots list sets ≡ input_tests t image ++ ends
  unfolding Load.load_tests
  tests = refl

  refused : (e : Refusal) → first (Load.load_tests t image recs slots roots list sets) ≡ number e
      → Load.gives (answer_of (Err e)) recs slots roots list sets ≡ Load.load t image recs slots roots list sets
  unfolding Load.load
  refused e is = sym (outcome-number _ _ (Load.load_tests t image recs slots roots list sets) (number e) is (above e))

  pub image-refused : (e : Refusal) → number e ≡ first (input_tests t image) → Load.gives (answer_of (Err e)) recs slots roots list sets ≡ Load.load t image recs slots roots list sets
  image-refused e is = refused e (ap first tests ∙ first-front (input_tests t image) ends (λ z. above e (is ∙ z)) ∙ sym is)

  module _ (given : 0 ≡ first (input_tests t image)) where
    none : first (image_tests image) ≡ 0
    unfolding input_tests
    none = (first-passed 29 _ _ (sym given)).1

    short-decides : first (Load.load_tests t image recs slots roots list sets) ≡ first ends
    unfolding image_tests input_tests
    short-decides =
        ap first tests
        ∙ first-skip (input_tests t image) ends (first-zero (input_tests t image) (cons {t = (30, bad_tuning t)} (omega arith) (numbered image (suc (length image)) 0)) (sym given))

    -- the sizes stand at fixed places
    module _ (n r : ℕ) (en : n ≡ number_at 2 8 image) (er : r ≡ number_at 2 10 image) where
      pub is-sized : Sized image
      is-sized = sized image (sizes-right image none)

      same-n : n ≡ image_n image
      same-n = en ∙ is-sized.n-at

      same-r : r ≡ image_r image
      same-r = er ∙ is-sized.r-at

      pub too_short : short_heap n r recs slots roots list sets ≡ true → Load.gives (answer_of (Err TooShort)) recs slots roots list sets ≡ Load.load t image recs slots roots list sets
      too_short h =
          refused TooShort (short-decides ∙ first_holds 2 [] (short_heap (image_n image) (image_r image) recs slots roots list sets) (rw (sym same-n, sym same-r) h))

      pub accepted : short_heap n r recs slots roots list sets ≡ false → Accepted n r image recs slots roots list sets
      unfolding slots_len
      accepted h =
          let l = heap-long n r recs slots roots list sets h in
          record {
            none = none;
            is-n = same-n;
            is-r = same-r;
            records-room = l.recs-long;
            slots-room = l.slots-long;
            roots-room = l.roots-long;
            sinks-room = l.sinks-long;
            sets-room = l.sets-long;
          }

      pub loaded : short_heap n r recs slots roots list sets ≡ false → (c d : Control) (last : ℕ) (recs' slots' roots' list' sets' : List ℕ)
          → c ≡ new_control n r t → last ≡ number_at 2 12 image → d ≡ with_last last c
          → recs' ≡ each_record n (λ x w. loaded_record image x) recs
          → slots' ≡ each_from 0 (slots_len n) (λ j w. loaded_word image (j / width_max + 1) (j % width_max)) slots
          → roots' ≡ each_from 0 r (λ j w. saved_root (root_words image) j) roots
          → list' ≡ each_from 0 sink_max (λ k y. get_or (loaded_sinks image) k 0) list → sets' ≡ zeros n sets
          → Load.gives (answer_of (Ok d)) recs' slots' roots' list' sets' ≡ Load.load t image recs slots roots list sets
      unfolding Load.load
      loaded h c d last recs' slots' roots' list' sets' p q s e f g u v =
          rw (s, p, q, e, f, g, u, v, is-sized.last-at, same-n, same-r)
          (sym (outcome-zero _ _ (Load.load_tests t image recs slots roots list sets)
          (short-decides ∙ first-fails 2 [] (short_heap (image_n image) (image_r image) recs slots roots list sets) (rw (sym same-n, sym same-r) h) ∙ none_first)))

-- an image that is not refused may be laid into slices that are not too short
pub may-lay : (t : Tuning) (image recs slots roots list sets : List ℕ) (n r : ℕ) (b : Bool) → 0 ≡ first (input_tests t image)
    → n ≡ number_at 2 8 image → r ≡ number_at 2 10 image → b ≡ short_heap n r recs slots roots list sets → b ≡ false
    → Accepted n r image recs slots roots list sets
may-lay t image recs slots roots list sets n r b e en er s h = accepted t image recs slots roots list sets e n r en er (sym s ∙ h)

-- the ends of a load, for the search
pub ruleset loading = (image-refused, too_short, loaded)
