-- Save, of the buffers and of the plain heap: in a heap with the invariant the image is that of the plain heap.
-- Assumes nothing.
use Prim.Native.Nat.{ℕ, ◌+◌, ◌*◌, ◌≤◌}
use mathlib.Core.Path.{◌≡◌, refl, sym, ap, ◌∙◌, fun_ext}
use mathlib.Core.Bool.{Bool, ◌||◌, ◌&&◌, true, not, false≢true}
use mathlib.Core.List.{List, [], ◌∷◌, ◌++◌}
use mathlib.Core.Logic.{◌⊎◌, inl, inr}
use native.Mathlib.Nat.{suc-ne-zero}
use native.Mathlib.Omega.{arith}
use lib.Dec.{ltb}
use lib.ListN.{length, take, drop, length-append, length-take, length-drop}
use lib.Seq.{take_at, drop_at, length-take-le}
use borrow.Author.Tests.{ltb-false, le-ltb, ne_eqb}
use Rattle.layout.specs.Field.{field, flag}
use Rattle.layout.specs.Limits.{sink_max}
use Rattle.layout.specs.Refusal.{first}
use Rattle.layout.specs.declared.answers.Control.{Control}
use Rattle.layout.proofs.ControlLaws.{facts-sizes}
use Rattle.layout.proofs.RefusalLaws.{first-passed, first-fails}
use Rattle.layout.specs.Word.{is_pointer}
use Rattle.records.specs.Record as R
use Rattle.records.proofs.RecordLaws.{Legal, legal-nonzero}
use Rattle.graph.specs.Numbers.{count}
use Rattle.graph.specs.Heap.{pointers}
use Rattle.graph.proofs.ReachLaws.{length-pointers}
use Rattle.rules.specs.Buffers.{short, rec_of, eight, used_words}
use Rattle.rules.specs.WellFormed.{names}
use Rattle.rules.specs.Image.{image, sinks_chunk}
use Rattle.rules.specs.Save.{Outcome, heap_chunks, heap_image, save_tests, save}
use Rattle.rules.specs.Calls.{saved_as}
use Rattle.rules.specs.Calls as Calls
use Rattle.rules.specs.Plain.{Cell, vacant, object, Plain, Played, is_free, is_sink, cell_at, plain_size, plain_words, plain_sink, plain_sinks, plain_chunks, plain_image, answer, plain_step}
use Rattle.rules.specs.Steps.{State, step}
use Rattle.rules.specs.PlainOf.{plain_of}
use Rattle.rules.specs.Demands.{Within, in_order, save_order, record_in, roots_of, saved_by, image_by, listed_in}
use Rattle.rules.proofs.ListLaws.{eight-most}
use Rattle.rules.proofs.ListedLaws.{Lists, lists-same, listed-count, pointers-lists, pointers-nonzero}
use Rattle.rules.proofs.Invariant.{Inv, inv-lists, inv-control, inv-formed, inv-long}
use Rattle.rules.proofs.Abstraction.{cells-size, at-free, at-sink, at_words}
use Rattle.rules.proofs.Simulation.{Same, same_by, all-by, used-length, widths}
use Rattle.rules.proofs.Refused.{answered}
use Rattle.rules.proofs.WrittenLaws.{image-length, sinks-most}
use Rattle.rules.proofs.ReloadedLaws.{PlainWritable, image-length-same, sinks-listed}

-- ---- every input

pub save-ordered : (c : Control) (recs slots roots list sets out : List ℕ) → in_order save_order (save_tests c recs slots roots list sets out) ≡ true
unfolding in_order save_tests
save-ordered c recs slots roots list sets out = refl

-- an image at the front of the bytes
front : (b out : List ℕ) → length b ≤ length out → Within (length b) out (b ++ drop (length b) out)
front b out h =
    (length-append b (drop (length b) out) ∙ omega (arith, length-drop (length b) out), drop_at b (drop (length b) out) (length b) refl)

module _ (c : Control) (recs slots roots list sets out : List ℕ) where
  abbrev b : List ℕ
  b = heap_image c recs slots roots list

  -- the last test
  fits : first (save_tests c recs slots roots list sets out) ≡ 0 → length b ≤ length out
  unfolding save_tests short
  fits z =
      let t1 = first-passed 19 _ _ z in
      let t2 = first-passed 1 _ _ t1.1 in
      let t3 = first-passed 20 _ _ t2.1 in
      ltb-false _ _ (first-passed 1 _ _ t3.1).0

  pub save-within : let o = save c recs slots roots list sets out in Within o.answer.length out o.image
  unfolding save
  save-within =
      all-by (λ (o : Outcome). Within o.answer.length out o.image) _ _ _ (λ z. front b out (fits z)) (λ m. (refl, refl))

  pub save-control : (save c recs slots roots list sets out).answer.control ≡ c
  unfolding save
  save-control = all-by (λ (o : Outcome). o.answer.control ≡ c) _ _ _ (λ z. refl) (λ m. refl)

  -- an image is at most as long as that of n objects of eight words, r roots and 64 sinks
  pub longest : length b ≤ 160 + 36 * c.n + 4 * c.r
  unfolding heap_image heap_chunks
  longest =
      let a = length-append (heap_chunks c recs slots roots) (sinks_chunk (pointers (take sink_max list))) in
      let m = sinks-most (pointers (take sink_max list)) (omega (arith, length-pointers (take sink_max list), length-take sink_max list)) in
      let l = image-length c.n (λ x. R.in_use (rec_of c.n recs x)) (λ x. R.is_sink (rec_of c.n recs x)) (used_words c.n recs slots) c.last (take c.r roots) narrow in
      omega (arith, length-take c.r roots)
    where
      narrow : (x : ℕ) → length (used_words c.n recs slots x) ≤ 8
      narrow x = unfold used_words in
          (let k = length-take (R.width (rec_of c.n recs x)) (eight slots x) in omega (arith, eight-most slots x))

  pub save-length : let o = save c recs slots roots list sets out in
      o.answer.refusal ≡ 0 → (o.answer.length ≤ length out) × (o.answer.length ≤ 160 + 36 * c.n + 4 * c.r)
  unfolding save
  save-length =
      all-by (λ (o : Outcome). o.answer.refusal ≡ 0 → (o.answer.length ≤ length out) × (o.answer.length ≤ 160 + 36 * c.n + 4 * c.r)) _ _ _
      (λ z e. (fits z, longest)) (λ m e. absurd (suc-ne-zero m e))

-- nothing of the heap changes
pub save-stays : (s : State) (out : List ℕ) → (step (Calls.save out) s).after ≡ s
unfolding step answer
save-stays s out =
    ap (λ (c : Control). record { control = c; records = s.records; slots = s.slots; roots = s.roots; sinks = s.sinks; sets = s.sets })
    (save-control s.control s.records s.slots s.roots s.sinks s.sets out)

-- ---- a heap with the invariant

used-not-free : (n r : ℕ) → (r ≡ 0) ⊎ Legal n r → R.in_use r ≡ not (R.free r)
unfolding R.free flag field
used-not-free n r (inl e) = rw e refl
used-not-free n r (inr L) = L.used ∙ sym (ap not (ne_eqb r 0 (legal-nonzero n r L)))

module _ (s : State) (I : Inv s) where
  used : (x : ℕ) → R.in_use (record_in s x) ≡ not (is_free (cell_at (plain_of s).cells x))
  used x = used-not-free s.control.n (record_in s x) (I.legal x) ∙ sym (ap not (at-free s.control.n s.records s.slots x))

  -- save writes the chunks of the plain heap
  heap-chunks : heap_chunks s.control s.records s.slots s.roots ≡ plain_chunks (plain_of s)
  unfolding heap_chunks plain_chunks plain_words plain_sink
  heap-chunks = λ i.
      image (sym (cells-size s.control.n s.records s.slots) i) s.control.last (fun_ext used i)
      (fun_ext (λ x. sym (at-sink s.control.n s.records s.slots x)) i)
      (fun_ext (λ x. sym (at_words s.control.n s.records s.slots x)) i) (roots_of s)

  -- and its sinks, in the order of the list
  pub heap-image : heap_image s.control s.records s.slots s.roots s.sinks ≡ plain_image (plain_of s) (listed_in s)
  unfolding heap_image plain_image
  heap-image = ap (λ (l : List ℕ). l ++ sinks_chunk (listed_in s)) heap-chunks

  -- these are the sinks of the plain heap
  pub plain-lists : Lists (plain_size (plain_of s)) (plain_sink (plain_of s)) (listed_in s)
  unfolding plain_sink
  plain-lists =
      rw (cells-size s.control.n s.records s.slots)
      (lists-same s.control.n (λ x. R.is_sink (record_in s x)) _ (listed_in s) (λ x o. sym (at-sink s.control.n s.records s.slots x))
      (pointers-lists s.control.n (λ x. R.is_sink (record_in s x)) (take sink_max s.sinks) (inv-lists s I)))

  -- so that the image is as long as that with the sinks by number
  same_length : length (plain_image (plain_of s) (listed_in s)) ≡ length (plain_image (plain_of s) (plain_sinks (plain_of s)))
  same_length = image-length-same (plain_of s) (listed_in s) _ (sinks-listed (plain_of s) (listed_in s) plain-lists (pointers-nonzero (take sink_max s.sinks)))

  -- too little space is the one test left
  pub save-tests : (out : List ℕ)
      → first (save_tests s.control s.records s.slots s.roots s.sinks s.sets out)
      ≡ first ((2, ltb (length out) (length (plain_image (plain_of s) (listed_in s)))) ∷ [])
  unfolding save_tests first short
  save-tests out = rw (inv-control s I, inv-long s I, inv-formed s I, heap-image) refl

  pub save-same : (out : List ℕ) → Same (Calls.save out) s
  unfolding step save plain_step answer
  save-same out = record {
    answers = same_by _ _ _ _ _ _ (λ (o : Outcome). saved_as o.answer.refusal o.answer.length ∷ []) (λ (p : Played Plain). p.answers)
        (save-tests out ∙ ap (λ (k : ℕ). first ((2, ltb (length out) k) ∷ [])) same_length)
        (λ z. ap (λ (k : ℕ). saved_as 0 k ∷ []) (ap length heap-image ∙ same_length)) (λ m. refl);
    after = ap plain_of (save-stays s out) ∙ all-by (λ (p : Played Plain). plain_of s ≡ p.after) _ _ _ (λ z. refl) (λ m. refl);
  }

  -- where it is accepted, its image is that of the plain heap
  pub save-image : (out : List ℕ) → (saved_by s out).answer.refusal ≡ 0 → image_by s out ≡ plain_image (plain_of s) (listed_in s)
  unfolding save
  save-image out =
      all-by (λ (o : Outcome). o.answer.refusal ≡ 0 → take o.answer.length o.image ≡ plain_image (plain_of s) (listed_in s)) _ _ _
      (λ z e. take_at _ _ _ refl ∙ heap-image) (λ m e. absurd (suc-ne-zero m e))

  -- and it is where there is room
  pub save-accepted : (out : List ℕ) → length (plain_image (plain_of s) (listed_in s)) ≤ length out → (saved_by s out).answer.refusal ≡ 0
  unfolding save first
  save-accepted out h =
      answered _ _ _ (λ (o : Outcome). o.answer.refusal) refl (λ k. refl) ∙ save-tests out
      ∙ first-fails 2 [] _ (le-ltb (length out) (length (plain_image (plain_of s) (listed_in s))) h)

  -- which numbers a word names, in full
  spelled : (b : Bool) (w : ℕ) → (b || names s.control.n s.records w) ≡ true → (b || (is_pointer s.control.n w && R.in_use (record_in s w))) ≡ true
  unfolding names
  spelled b w e = e

  -- the plain heap has what it takes for its image to be read again
  pub writable : PlainWritable (plain_of s)
  unfolding plain_words is_sink plain_sink
  writable =
      let c = cells-size s.control.n s.records s.slots in
      record {
        sized = rw (c, length-take-le s.control.r s.roots I.roots-long) (facts-sizes s.control.n s.control.r I.sound.sizes);
        given = rw c I.sound.last;
        sunk = λ x e. sunk (cell_at (plain_of s).cells x) e;
        few = few;
        narrow = λ x. rw (at_words s.control.n s.records s.slots x, used-length s I x) (widths s I x);
        worded = λ x w u m. rw (c, ← used w) (spelled _ w (I.named x w (rw (at_words s.control.n s.records s.slots x) at m)));
        rooted = λ w m. rw (c, ← used w) (spelled _ w (I.rooted w m));
      }
    where
      sunk : (c : Cell) → is_sink c ≡ true → not (is_free c) ≡ true
      sunk vacant e = absurd (false≢true e)
      sunk (object ws t) e = unfold is_free in refl

      few : count (plain_size (plain_of s)) (plain_sink (plain_of s)) ≤ sink_max
      few =
          omega (
            arith,
            listed-count (plain_size (plain_of s)) (plain_sink (plain_of s)) (listed_in s) plain-lists,
            length-pointers (listed_in s),
            length-pointers (take sink_max s.sinks),
            length-take sink_max s.sinks,
          )
