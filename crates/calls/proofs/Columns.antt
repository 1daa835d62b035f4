-- Both columns of a replay give the same: each does what the plain heap does, and loads the same image.
-- Assumes nothing.
use Prim.Native.Nat.{ℕ, zero, suc, ◌*◌, ◌-◌}
use mathlib.Core.Path.{◌≡◌, refl, sym, ap, ◌∙◌, subst}
use mathlib.Core.Bool.{true, false, not, cond}
use mathlib.Core.List.{List, [], ◌∷◌}
use native.Mathlib.Nat.{suc-ne-zero}
use native.Mathlib.Omega.{arith}
use lib.Dec.{eqb, eqb-suc-zero}
use lib.ListN.{length, take, drop, get_or, set, replicate}
use lib.Seq.{length-take-le}
use borrow.Author.Tests.{eq-eqb}
use Rattle.layout.specs.Limits.{sink_max, slots_len, map_len, within}
use Rattle.records.specs.Record as R
use Rattle.layout.specs.Field.{field}
use Rattle.layout.specs.declared.answers.Control.{Control}
use Rattle.layout.specs.ControlRecord.{bad_tuning, usual_tuning, new_control, no_control, with_last}
use Rattle.layout.specs.declared.answers.Tuning.{Tuning}
use Rattle.layout.proofs.ControlLaws.{facts-tuning}
use Rattle.layout.proofs.RefusalLaws.{first-fails}
use Rattle.layout.specs.Refusal.{first, by, outcome}
use Rattle.graph.specs.Heap.{pointers}
use Rattle.rules.specs.Buffers.{rec_of, used_words, zeros}
use Rattle.rules.specs.Show as Show
use Rattle.rules.specs.Collect as Collect
use Rattle.rules.specs.Save as Save
use Rattle.rules.specs.Load as Load
use Rattle.rules.specs.Image.{past, saved_last}
use Rattle.rules.specs.Load.{sizes, image_tests, input_tests, chunk_tests, image_n, image_r}
use Rattle.rules.specs.Calls as rule
use Rattle.rules.specs.Calls.{Answer, gave, got_word, got_words, did, swept, saved_as}
use Rattle.rules.specs.Plain.{Plain, Played, is_free, is_sink, cell_at, words_in, plain_slots, plain_created, plain_step, plain_image, plain_loaded, answer}
use Rattle.rules.specs.Steps.{State, created, loaded, step}
use Rattle.rules.specs.PlainOf.{plain_of}
use Rattle.rules.specs.Demands.{Long, loads}
use Rattle.rules.proofs.BoolLaws.{or-true}
use Rattle.rules.proofs.Invariant.{Inv}
use Rattle.rules.proofs.ListLaws.{length-numbers, take-zeros}
use Rattle.rules.proofs.ListedLaws.{pointers-nonzero}
use Rattle.rules.proofs.Abstraction.{cells-size, at-free, at-sink, at_words}
use Rattle.rules.proofs.Simulation.{Same, all-by, same_by, used-length, widths}
use Rattle.rules.proofs.BufferLaws.{used-part}
use Rattle.rules.proofs.CreateLaws.{accepted, zeroed-inv, zeroed-plain}
use Rattle.rules.proofs.Calls.{step-inv}
use Rattle.rules.proofs.Frames.{analyse-within, collect-within}
use Rattle.rules.proofs.ReloadedLaws.{image-reloaded}
use Rattle.rules.proofs.SaveLaws.{heap-image, longest, save-within, save-control, save-image, save-accepted, plain-lists, writable}
use Rattle.rules.proofs.LoadTests.{load-tests}
use Rattle.rules.proofs.LoadLaws.{load-answered}
use Rattle.rules.proofs.Demand3.{LentOne, step_same, same-slots}
use Rattle.rules.proofs.Tuned.{retuned-step}
use Rattle.lines.specs.declared.kinds.Call.{Call}
use Rattle.std.proofs.Common.{Option, Some, None}
use Rattle.lines.specs.declared.kinds.Kind.{Kind}
use Rattle.lines.specs.declared.kinds.Kind.TheVariants as kind
use Rattle.lines.specs.Kinds.{number, with_number}
use Rattle.calls.specs.declared.Ran.{Ran}
use Rattle.calls.specs.Run as Run
use Rattle.calls.specs.Run.{Outcome, run}
use Rattle.calls.specs.Compare.{plain_call, as_run, is_compared, agrees}
use Rattle.calls.specs.Columns.{next, Makes, NoCreate, Lent, Unsaved, last_image, SameHeap, shown, SameOutput, Columns, Creates, SameColumns}
use Rattle.calls.proofs.SizeLaws.{Sized, Fitting, sizes-kept}
use Rattle.calls.proofs.PlacesLaws.{places_declared, places_left, places_loaded, declared-places, left-places, loaded-places}

-- the heap that the buffers of a column hold
abbrev state_of : Outcome → State
state_of o = record { control = o.answer.control; records = o.records; slots = o.slots; roots = o.roots; sinks = o.sinks; sets = o.sets }

-- a column holds the plain heap P, L are the places of its sinks, and b is its last image
record Held (n r : ℕ) (P : Plain) (L b : List ℕ) (x : Outcome) : Type 0 where
  inv : Inv (state_of x)
  objects : x.answer.control.n ≡ n
  roots : x.answer.control.r ≡ r
  plain : plain_of (state_of x) ≡ P
  list : take sink_max x.sinks ≡ L
  lent : Lent n r x
  last : last_image x ≡ b
  fits : Sized n r b

-- ---- what the plain heap tells of a column

module _ (n r : ℕ) (P : Plain) (L b : List ℕ) (x : Outcome) (H : Held n r P L b x) where
  held-slots : take (slots_len n) x.slots ≡ plain_slots P.cells
  held-slots =
      ap (λ (k : ℕ). take (slots_len k) x.slots) (sym H.objects) ∙ same-slots (state_of x) H.inv
      ∙ ap (λ (Q : Plain). plain_slots Q.cells) H.plain

  held-roots : take r x.roots ≡ P.roots
  held-roots = ap (λ (k : ℕ). take k x.roots) (sym H.roots) ∙ ap (λ (Q : Plain). Q.roots) H.plain

  held-free : (i : ℕ) → R.free (rec_of n x.records i) ≡ is_free (cell_at P.cells i)
  held-free i =
      ap (λ (k : ℕ). R.free (rec_of k x.records i)) (sym H.objects) ∙ sym (at-free x.answer.control.n x.records x.slots i)
      ∙ ap (λ (Q : Plain). is_free (cell_at Q.cells i)) H.plain

  held-sink : (i : ℕ) → R.is_sink (rec_of n x.records i) ≡ is_sink (cell_at P.cells i)
  held-sink i =
      ap (λ (k : ℕ). R.is_sink (rec_of k x.records i)) (sym H.objects) ∙ sym (at-sink x.answer.control.n x.records x.slots i)
      ∙ ap (λ (Q : Plain). is_sink (cell_at Q.cells i)) H.plain

  held-width : (i : ℕ) → R.width (rec_of n x.records i) ≡ length (words_in (cell_at P.cells i))
  held-width i =
      ap (λ (k : ℕ). R.width (rec_of k x.records i)) (sym H.objects) ∙ sym (used-length (state_of x) H.inv i)
      ∙ sym (ap length (at_words x.answer.control.n x.records x.slots i)) ∙ ap (λ (Q : Plain). length (words_in (cell_at Q.cells i))) H.plain

same_heap : (n r : ℕ) (P : Plain) (L b : List ℕ) (x y : Outcome) → Held n r P L b x → Held n r P L b y → SameHeap n r x y
same_heap n r P L b x y H K = record {
  slots = held-slots n r P L b x H ∙ sym (held-slots n r P L b y K);
  roots = held-roots n r P L b x H ∙ sym (held-roots n r P L b y K);
  objects = λ i.
      (held-free n r P L b x H i ∙ sym (held-free n r P L b y K i), held-width n r P L b x H i ∙ sym (held-width n r P L b y K i), held-sink n r P L b x H i ∙ sym (held-sink n r P L b y K i));
  sinks = H.list ∙ sym K.list;
  image = H.last ∙ sym K.last;
}

-- ---- a call in one column

-- the buffers that are lent keep their lengths
record Lengths (x x' : Outcome) : Type 0 where
  work : length x'.work ≡ length x.work
  map : length x'.map ≡ length x.map
  image : length x'.image ≡ length x.image

record Called (n r : ℕ) (call : rule.Call) (P : Plain) (L' b' : List ℕ) (x x' : Outcome) : Type 0 where
  answers : (step call (state_of x)).answers ≡ (plain_step call P).answers
  held : Held n r (plain_step call P).after L' b' x'

-- L' are the places after it, and b' the last image
called : (n r : ℕ) (call : rule.Call) (P : Plain) (L L' b b' : List ℕ) (x x' : Outcome) → Held n r P L b x → state_of x' ≡ (step call (state_of x)).after
    → Lengths x x' → LentOne n call → Fitting n r call → take sink_max x'.sinks ≡ L' → last_image x' ≡ b' → Sized n r b' → Called n r call P L' b' x x'
called n r call P L L' b b' x x' H e k h g list last fits =
    let one : LentOne x.answer.control.n call = subst (λ (k : ℕ). LentOne k call) (sym H.objects) h in
    let S = step_same call (state_of x) H.inv one in
    let z = sizes-kept n r (state_of x) (H.objects, H.roots) call g in
    record {
      answers = S.answers ∙ ap (λ (Q : Plain). (plain_step call Q).answers) H.plain;
      held = record {
        inv = subst Inv (sym e) (step-inv call (state_of x) H.inv);
        objects = ap (λ (s : State). s.control.n) e ∙ z.0;
        roots = ap (λ (s : State). s.control.r) e ∙ z.1;
        plain = ap plain_of e ∙ S.after ∙ ap (λ (Q : Plain). (plain_step call Q).after) H.plain;
        lent = (rw k.work H.lent.0, rw k.map H.lent.1, rw k.image H.lent.2);
        list = list;
        last = last;
        fits = fits;
      };
    }

-- ---- show

-- where the words of number i stand, by the refusal
abbrev start_by : ℕ → ℕ → ℕ
start_by i zero = 8 * (i - 1)
start_by i (suc m) = 0

module _ (s : State) (I : Inv s) (i : ℕ) where
  abbrev part : Show.Outcome
  part = Show.show s.control i s.records s.slots

  show-start : part.answer.start ≡ start_by i part.answer.refusal
  unfolding Show.show
  show-start = all-by (λ (o : Show.Outcome). o.answer.start ≡ start_by i o.answer.refusal) _ _ _ (λ z. refl) (λ m. refl)

  show-length : part.answer.length ≡ length part.words
  unfolding Show.show
  show-length = all-by (λ (o : Show.Outcome). o.answer.length ≡ length o.words) _ _ _ (λ z. sym (used-length s I i)) (λ m. refl)

  used-there : (j : ℕ) → take (R.width (rec_of s.control.n s.records j)) (drop (8 * (j - 1)) s.slots) ≡ used_words s.control.n s.records s.slots j
  used-there zero = unfold used_words rec_of field in refl
  used-there (suc j) = sym (used-part s.control.n s.records s.slots (suc j) (omega arith) (widths s I (suc j)))

  show-words : take part.answer.length (drop part.answer.start s.slots) ≡ part.words
  unfolding Show.show
  show-words = all-by (λ (o : Show.Outcome). take o.answer.length (drop o.answer.start s.slots) ≡ o.words) _ _ _ (λ z. used-there i) (λ m. refl)

-- ---- what a call tells

-- the refusal, the two values that are compared, and the words shown or the freed map
abbrev Parts : Type 0
Parts = ℕ × ℕ × ℕ × List ℕ

-- those of an answer; i is the number that a show names
abbrev parts : ℕ → List Answer → Parts
parts i [] = (0, 0, 0, [])
parts i (gave m x ∷ l) = (m, x, 0, [])
parts i (got_word m x ∷ l) = (m, x, 0, [])
parts i (got_words m x ∷ l) = (m, start_by i m, length x, x)
parts i (did m ∷ l) = (m, 0, 0, [])
parts i (swept m f k map ∷ l) = (m, f, k, map)
parts i (saved_as m k ∷ l) = (m, k, 0, [])

-- the outcome has the parts p
record Tells (n : ℕ) (l : Option Call) (p : Parts) (o : Outcome) : Type 0 where
  refusal : o.answer.refusal ≡ p.0
  first : o.answer.a ≡ p.1
  second : o.answer.b ≡ p.2
  words : Makes kind.Show l → shown o ≡ p.3
  freed : Makes kind.Collect l → take (map_len n) o.map ≡ p.3

-- a column after a call: what it tells, and what it holds
record Column (n r : ℕ) (l : Option Call) (p : Parts) (P : Plain) (L b : List ℕ) (o : Outcome) : Type 0 where
  tells : Tells n l p o
  held : Held n r P L b o

-- the first number of a call, which a show names
abbrev first_number : Option Call → ℕ
first_number None = 0
first_number (Some c) = number 0 c

-- a call that the plain heap plays as R, with L as the places of the sinks and b as the last image
abbrev Plays : ℕ → ℕ → Option Call → Played Plain → List ℕ → List ℕ → Outcome → Type 0
Plays n r l R L b o = Column n r l (parts (first_number l) R.answers) R.after L b o

column : (n r : ℕ) (l : Option Call) (q : rule.Call) (P : Plain) (L b : List ℕ) (x o : Outcome) → Called n r q P L b x o
    → Tells n l (parts (first_number l) (step q (state_of x)).answers) o → Plays n r l (plain_step q P) L b o
column n r l q P L b x o C T = record { tells = subst (λ (a : List Answer). Tells n l (parts (first_number l) a) o) C.answers T; held = C.held }

-- ---- a call in one column, by its kind

-- the call with another kind
abbrev of_kind : Call → Kind → Option Call
of_kind l k = Some (record { kind = k; count = l.count; numbers = l.numbers })

module _ (n r : ℕ) (P : Plain) (L b : List ℕ) (l : Call) (x : Outcome) (H : Held n r P L b x) where
  -- a call that neither shows nor collects, and saves nothing
  simple : (k : Kind) (q : rule.Call) (L' : List ℕ) → (k ≡ kind.Collect → ⊥) → state_of (next (of_kind l k) x) ≡ (step q (state_of x)).after
      → Lengths x (next (of_kind l k) x) → LentOne n q → Fitting n r q → take sink_max (next (of_kind l k) x).sinks ≡ L'
      → last_image (next (of_kind l k) x) ≡ last_image x
      → ((next (of_kind l k) x).answer.refusal, (next (of_kind l k) x).answer.a, (next (of_kind l k) x).answer.b, shown (next (of_kind l k) x)) ≡ parts (number 0 l) (step q (state_of x)).answers
      → Plays n r (of_kind l k) (plain_step q P) L' b (next (of_kind l k) x)
  simple k q L' d s w h g j i e =
      column n r (of_kind l k) q P L' b x _ (called n r q P L L' b b x _ H s w h g j (i ∙ H.last) H.fits)
      (record {
        refusal = ap (λ (p : Parts). p.0) e;
        first = ap (λ (p : Parts). p.1) e;
        second = ap (λ (p : Parts). p.2) e;
        words = λ _. ap (λ (p : Parts). p.3) e;
        freed = λ z. absurd (d z);
      })

  allocated : Plays n r (of_kind l kind.Allocate) (plain_step (rule.allocate (number 0 l)) P) L b (next (of_kind l kind.Allocate) x)
  unfolding next run Run.run_kind step answer
  allocated = simple kind.Allocate (rule.allocate _) L (λ z. cc) refl (record { work = refl; map = refl; image = refl }) tt tt H.list refl refl

  was_read : Plays n r (of_kind l kind.Read) (plain_step (rule.read (number 0 l) (number 1 l)) P) L b (next (of_kind l kind.Read) x)
  unfolding next run Run.run_kind step answer
  was_read = simple kind.Read (rule.read _ _) L (λ z. cc) refl (record { work = refl; map = refl; image = refl }) tt tt H.list refl refl

  was-shown : Plays n r (of_kind l kind.Show) (plain_step (rule.show (number 0 l)) P) L b (next (of_kind l kind.Show) x)
  unfolding next run Run.run_kind step answer
  was-shown =
      column n r (of_kind l kind.Show) (rule.show _) P L b x _
      (called n r (rule.show _) P L L b b x _ H refl (record { work = refl; map = refl; image = refl }) tt tt H.list H.last H.fits)
      (record {
        refusal = refl;
        first = show-start (state_of x) H.inv _;
        second = show-length (state_of x) H.inv _;
        words = λ _. show-words (state_of x) H.inv _;
        freed = λ z. cc;
      })

  written : Plays n r (of_kind l kind.Write) (plain_step (rule.write (number 0 l) (number 1 l) (number 2 l)) P) L b (next (of_kind l kind.Write) x)
  unfolding next run Run.run_kind step answer
  written = simple kind.Write (rule.write _ _ _) L (λ z. cc) refl (record { work = refl; map = refl; image = refl }) tt tt H.list refl refl

  root-set : Plays n r (of_kind l kind.Root) (plain_step (rule.set_root (number 0 l) (number 1 l)) P) L b (next (of_kind l kind.Root) x)
  unfolding next run Run.run_kind step answer
  root-set = simple kind.Root (rule.set_root _ _) L (λ z. cc) refl (record { work = refl; map = refl; image = refl }) tt tt H.list refl refl

  -- the places of the sinks after a declaration, by the plain heap
  abbrev list_after : ℕ → List ℕ
  list_after i = places_declared (parts 0 (plain_step (rule.declare_sink i) P).answers).0 (is_sink (cell_at P.cells i)) i L

  list-declared : (i : ℕ) → take sink_max (step (rule.declare_sink i) (state_of x)).after.sinks ≡ list_after i
  unfolding step answer
  list-declared i =
      let told = (step_same (rule.declare_sink i) (state_of x) H.inv tt).answers ∙ ap (λ (Q : Plain). (plain_step (rule.declare_sink i) Q).answers) H.plain in
      declared-places (state_of x) H.inv i
      ∙ (λ j. places_declared (parts 0 (told j)).0
      ((ap (λ (k : ℕ). R.is_sink (rec_of k x.records i)) H.objects ∙ held-sink n r P L b x H i) j) i (H.list j))

  sink-declared : Plays n r (of_kind l kind.Sink) (plain_step (rule.declare_sink (number 0 l)) P) (list_after (number 0 l)) b (next (of_kind l kind.Sink) x)
  unfolding next run Run.run_kind step answer
  sink-declared =
      simple kind.Sink (rule.declare_sink _) (list_after (number 0 l)) (λ z. cc) refl (record { work = refl; map = refl; image = refl }) tt tt (list-declared (number 0 l)) refl refl

  -- the places of the sinks after a collection
  abbrev list_left : List ℕ
  list_left = places_left (plain_step (rule.collect Collect.plainly [] []) P).after L

  collect-done : (way : Collect.Kind) → Same (rule.collect way x.work x.map) (state_of x)
      → (Collect.collect way x.answer.control x.records x.slots x.roots x.sinks x.sets x.work x.map).answer.refusal ≡ 0
  unfolding step plain_step answer
  collect-done way S = ap (λ (a : List Answer). (parts 0 a).0) S.answers

  list_left_lem : (way : Collect.Kind) → take sink_max (step (rule.collect way x.work x.map) (state_of x)).after.sinks ≡ list_left
  unfolding plain_step
  list_left_lem way =
      let one = subst (λ (k : ℕ). LentOne k (rule.collect way x.work x.map)) (sym H.objects) (H.lent.0, H.lent.1, tt) in
      let S = step_same (rule.collect way x.work x.map) (state_of x) H.inv one in
      left-places (state_of x) H.inv way x.work x.map (collect-done way S)
      ∙ (λ j. places_left ((S.after ∙ ap (λ (Q : Plain). (plain_step (rule.collect Collect.plainly [] []) Q).after) H.plain) j) (H.list j))

  -- a collection of either kind: the plain heap does not look at it
  collected : (way : Collect.Kind)
      → Plays n r (of_kind l kind.Collect) (plain_step (rule.collect Collect.plainly [] []) P) list_left b
      (Run.collect x.answer.control x.answer.saved x.records x.slots x.roots x.sinks x.sets x.work x.map x.image way)
  unfolding step answer plain_step
  collected way =
      let f = collect-within way x.answer.control x.records x.slots x.roots x.sinks x.sets x.work x.map in
      let C = called n r (rule.collect way x.work x.map) P L list_left b b x _ H refl (record { work = f.4.0; map = f.5.0; image = refl }) (H.lent.0, H.lent.1, tt) tt (list_left_lem way) H.last H.fits in
      column n r (of_kind l kind.Collect) (rule.collect way x.work x.map) P list_left b x _ C
      (record {
        refusal = refl;
        first = refl;
        second = refl;
        words = λ z. cc;
        freed = λ _. ap (λ (k : ℕ). take (map_len k) (Collect.collect way x.answer.control x.records x.slots x.roots x.sinks x.sets x.work x.map).map) (sym H.objects);
      })

  -- the heap at hand
  abbrev s : State
  s = state_of x

  -- ---- a save: there is room for it, and it is the last image from then on

  -- the image of this heap
  abbrev b' : List ℕ
  b' = plain_image P (pointers L)

  -- it is that of the plain heap and of the list
  heap_is : plain_image (plain_of s) (pointers (take sink_max x.sinks)) ≡ b'
  heap_is j = plain_image (H.plain j) (pointers (H.list j))

  abbrev written_as : Save.Outcome
  written_as = Save.save x.answer.control x.records x.slots x.roots x.sinks x.sets x.image

  save-done : written_as.answer.refusal ≡ 0
  save-done =
      let l = longest x.answer.control x.records x.slots x.roots x.sinks x.sets x.image in
      let e = ap length (heap-image s H.inv) in
      save-accepted s H.inv x.image (omega (arith, H.lent.2, H.objects, H.roots))

  saved-length : written_as.answer.length ≡ length b'
  unfolding Save.save
  saved-length =
      all-by (λ (o : Save.Outcome). o.answer.refusal ≡ 0 → o.answer.length ≡ length (Save.heap_image x.answer.control x.records x.slots x.roots x.sinks)) _ _ _
      (λ z e. refl) (λ m e. absurd (suc-ne-zero m e)) save-done
      ∙ ap length (heap-image s H.inv) ∙ ap length heap_is

  saved-last : last_image (next (of_kind l kind.Save) x) ≡ b'
  unfolding next run Run.run_kind Run.ran_save
  saved-last = rw (eq-eqb _ 0 save-done) (save-image s H.inv x.image save-done ∙ heap_is)

  saved-sized : Sized n r b'
  unfolding plain_loaded
  saved-sized _ =
      let again : plain_loaded b' ≡ plain_of s =
      ap plain_loaded (sym heap_is) ∙ image-reloaded (plain_of s) (writable s H.inv) _ (plain-lists s H.inv) (pointers-nonzero (take sink_max x.sinks)) in (
        sym (length-numbers _ 1 (image_n b')) ∙ ap (λ (Q : Plain). length Q.cells) again
            ∙ cells-size x.answer.control.n x.records x.slots ∙ H.objects,
        sym (length-numbers _ 0 (image_r b')) ∙ ap (λ (Q : Plain). length Q.roots) again
            ∙ length-take-le x.answer.control.r x.roots H.inv.roots-long ∙ H.roots,
      )

  saved : Column n r (of_kind l kind.Save) (0, length b', 0, []) P L b' (next (of_kind l kind.Save) x)
  saved = record {
    tells = unfold next run Run.run_kind Run.ran_save in (record {
      refusal = save-done;
      first = saved-length;
      second = refl;
      words = λ z. cc;
      freed = λ z. cc;
    });
    held = record {
      inv = subst Inv (sym same-state) H.inv;
      objects = ap (λ (t : State). t.control.n) same-state ∙ H.objects;
      roots = ap (λ (t : State). t.control.r) same-state ∙ H.roots;
      plain = ap plain_of same-state ∙ H.plain;
      list = ap (λ (t : State). take sink_max t.sinks) same-state ∙ H.list;
      lent = unfold next run Run.run_kind Run.ran_save in
          (H.lent.0, H.lent.1, rw (save-within x.answer.control x.records x.slots x.roots x.sinks x.sets x.image).0 H.lent.2);
      last = saved-last;
      fits = saved-sized;
    };
  }
    where
      same-state : state_of (next (of_kind l kind.Save) x) ≡ s
      same-state = unfold next run Run.run_kind Run.ran_save in
          (ap (λ (c : Control). record { control = c; records = x.records; slots = x.slots; roots = x.roots; sinks = x.sinks; sets = x.sets })
          (save-control x.answer.control x.records x.slots x.roots x.sinks x.sets x.image))

  -- ---- a load of the last image

  -- what it tells, by the image alone
  abbrev told_by : List ℕ → Parts
  told_by i = (first (image_tests i), outcome (image_tests i) n (λ k. 0), outcome (image_tests i) r (λ k. 0), [])

  load_sized : Sized n r (last_image x)
  load_sized = subst (Sized n r) (sym H.last) H.fits

  abbrev tuning : Tuning
  tuning = x.answer.control.tuning

  -- the column's numbers are legal, so the image alone decides
  load-tuned : bad_tuning tuning ≡ false
  load-tuned = facts-tuning tuning H.inv.sound.tuned

  load-input : first (input_tests tuning (last_image x)) ≡ first (image_tests (last_image x))
  unfolding input_tests
  load-input = first-fails 30 _ (bad_tuning tuning) load-tuned

  load-room : first (input_tests tuning (last_image x)) ≡ 0 → Long (image_n (last_image x)) (image_r (last_image x)) x.records x.slots x.roots x.sinks x.sets
  unfolding slots_len
  load-room z =
      let f = load_sized (sym load-input ∙ z) in
      let e = H.objects in
      let g = H.roots in
      let I = H.inv in
      (omega (arith, f, e, I.recs-long), omega (arith, f, e, I.slots-long), omega (arith, f, g, I.roots-long), I.sinks-long, omega (arith, f, e, I.sets-long))

  -- refused, the column goes on with the record that it has
  load-state : state_of (next (of_kind l kind.Load) x) ≡ (step (rule.load tuning (last_image x) x.records x.slots x.roots x.sinks x.sets) s).after
  unfolding next run Run.run_kind Run.ran_load step answer loaded Load.load by
  load-state =
      all-by
      (λ (o : Load.Outcome).
      record { control = cond (eqb o.answer.refusal 0) o.answer.control x.answer.control; records = o.records; slots = o.slots; roots = o.roots; sinks = o.sinks; sets = o.sets }
      ≡ by o.answer.refusal (record { control = o.answer.control; records = o.records; slots = o.slots; roots = o.roots; sinks = o.sinks; sets = o.sets }) (λ k. s)) _ _ _
      (λ z. refl) (λ m. rw (eqb-suc-zero m) refl)

  -- a size of the record that it answers
  load_told : (f : Control → ℕ) (k : ℕ)
      → first (Load.load_tests tuning (last_image x) x.records x.slots x.roots x.sinks x.sets) ≡ first (image_tests (last_image x))
      → (first (image_tests (last_image x)) ≡ 0
      → f (with_last (saved_last (sizes (last_image x))) (new_control (image_n (last_image x)) (image_r (last_image x)) tuning)) ≡ k)
      → f no_control ≡ 0
      → f (Load.load tuning (last_image x) x.records x.slots x.roots x.sinks x.sets).answer.control ≡ outcome (image_tests (last_image x)) k (λ m. 0)
  unfolding Load.load
  load_told f k t h e = same_by _ _ _ _ _ _ (λ (o : Load.Outcome). f o.answer.control) (λ (m : ℕ). m) t (λ z. h (sym t ∙ z)) (λ m. e)

  load-decides : first (Load.load_tests tuning (last_image x) x.records x.slots x.roots x.sinks x.sets) ≡ first (image_tests (last_image x))
  load-decides = load-tests tuning (last_image x) x.records x.slots x.roots x.sinks x.sets load-room ∙ load-input

  load-tells : Tells n (of_kind l kind.Load) (told_by (last_image x)) (next (of_kind l kind.Load) x)
  unfolding next run Run.run_kind Run.ran_load with_last new_control
  load-tells =
      let t = load-decides in
      record {
        refusal = load-answered tuning (last_image x) x.records x.slots x.roots x.sinks x.sets ∙ t;
        first = load_told (λ (c : Control). c.n) n t (λ z. (load_sized z).0) refl;
        second = load_told (λ (c : Control). c.r) r t (λ z. (load_sized z).1) refl;
        words = λ z. cc;
        freed = λ z. cc;
      }

  load-list : take sink_max (next (of_kind l kind.Load) x).sinks ≡ places_loaded (last_image x) L
  load-list =
      ap (λ (t : State). take sink_max t.sinks) load-state
      ∙ loaded-places s H.inv tuning (last_image x) x.records x.slots x.roots x.sinks x.sets load-decides
      ∙ ap (places_loaded (last_image x)) H.list

  load-held : Held n r (plain_step (rule.load usual_tuning (last_image x) [] [] [] [] []) P).after (places_loaded (last_image x) L) (last_image x) (next (of_kind l kind.Load) x)
  unfolding next run Run.run_kind Run.ran_load plain_step
  load-held =
      let C = called n r (rule.load tuning (last_image x) x.records x.slots x.roots x.sinks x.sets) P L _ b (last_image x) x (next (of_kind l kind.Load) x) H load-state (record { work = refl; map = refl; image = refl }) load-room load_sized load-list refl load_sized in
      subst (λ (Q : Played Plain). Held n r Q.after (places_loaded (last_image x) L) (last_image x) (next (of_kind l kind.Load) x))
      (retuned-step (loads tuning usual_tuning (last_image x) x.records x.slots x.roots x.sinks x.sets (load-tuned ∙ usual)) P) C.held
    where
      usual : false ≡ bad_tuning usual_tuning
      usual = unfold bad_tuning within in refl

  was-loaded : Column n r (of_kind l kind.Load) (told_by b) (plain_step (rule.load usual_tuning b [] [] [] [] []) P).after (places_loaded b L) b (next (of_kind l kind.Load) x)
  was-loaded =
      subst (λ (i : List ℕ). Column n r (of_kind l kind.Load) (told_by i) (plain_step (rule.load usual_tuning i [] [] [] [] []) P).after (places_loaded i L) i (next (of_kind l kind.Load) x)) H.last
      (record { tells = load-tells; held = load-held })

-- ---- a line that makes no call

module _ (n r : ℕ) (P : Plain) (L b : List ℕ) (x : Outcome) (H : Held n r P L b x) where
  -- its outcome
  abbrev same : Outcome
  same = Run.idle x.answer.control x.answer.saved x.records x.slots x.roots x.sinks x.sets x.work x.map x.image

  idle : Held n r P L b same
  idle = record { inv = H.inv; objects = H.objects; roots = H.roots; plain = H.plain; list = H.list; lent = H.lent; last = H.last; fits = H.fits }

  idled : (l : Option Call) → (Makes kind.Collect l → ⊥) → next l x ≡ same → Plays n r l (record { answers = []; after = P }) L b (next l x)
  idled l d e = rw e (record { tells = record { refusal = refl; first = refl; second = refl; words = λ _. refl; freed = λ z. absurd (d z) }; held = idle })

-- ---- a call in both columns

record Paired (n r : ℕ) (l : Option Call) (x y : Outcome) : Type 0 where
  after : Plain
  list : List ℕ
  image : List ℕ
  agreed : agrees l (next l x).answer (next (as_run true l) y).answer ≡ true
  output : SameOutput n l (next l x) (next (as_run true l) y)
  first : Held n r after list image (next l x)
  second : Held n r after list image (next (as_run true l) y)

agree-by : (l : Option Call) (x y : Ran) → x.refusal ≡ y.refusal → x.a ≡ y.a → x.b ≡ y.b → agrees l x y ≡ true
unfolding agrees
agree-by None x y e f g = refl
agree-by (Some l) x y e f g = rw (eq-eqb _ _ e, eq-eqb _ _ f, eq-eqb _ _ g) (or-true (not (is_compared l.kind)))

paired : (n r : ℕ) (l : Option Call) (p : Parts) (Q : Plain) (M b : List ℕ) (x y : Outcome) → Column n r l p Q M b (next l x) → Column n r l p Q M b (next (as_run true l) y)
    → Paired n r l x y
paired n r l p Q M b x y C D =
    let T = C.tells in
    let U = D.tells in
    record {
      after = Q;
      list = M;
      image = b;
      agreed = agree-by l _ _ (T.refusal ∙ sym U.refusal) (T.first ∙ sym U.first) (T.second ∙ sym U.second);
      output = record { words = λ e. T.words e ∙ sym (U.words e); freed = λ e. T.freed e ∙ sym (U.freed e) };
      first = C.held;
      second = D.held;
    }

-- the number of a collection that is run plainly
first-zero : (l : List ℕ) → get_or (set l 0 0) 0 0 ≡ 0
first-zero [] = refl
first-zero (w ∷ l) = refl

module _ (n r : ℕ) (P : Plain) (L b : List ℕ) (l : Call) (x y : Outcome) (H : Held n r P L b x) (K : Held n r P L b y) where
  -- the same call in both columns
  alike : (k : Kind) (p : Parts) (Q : Plain) (M b' : List ℕ) → as_run true (of_kind l k) ≡ of_kind l k
      → ((z : Outcome) → Held n r P L b z → Column n r (of_kind l k) p Q M b' (next (of_kind l k) z)) → Paired n r (of_kind l k) x y
  alike k p Q M b' e f = paired n r (of_kind l k) p Q M b' x y (f x H) (rw e (f y K))

  -- the plain heap leaves an analysis out
  analysed : Paired n r (of_kind l kind.Analyse) x y
  unfolding next run Run.run_kind as_run plain_call step agrees is_compared plain_step
  analysed =
      let f = analyse-within x.answer.control x.records x.slots x.roots x.sinks x.sets x.work in
      let C = called n r (rule.analyse x.work) P L L b b x (next (of_kind l kind.Analyse) x) H refl (record { work = f.2.0; map = refl; image = refl }) tt tt H.list H.last H.fits in
      record {
        after = P;
        list = L;
        image = b;
        agreed = refl;
        output = record { words = λ z. cc; freed = λ z. cc };
        first = C.held;
        second = idle n r P L b y K;
      }

  both-collected : Paired n r (of_kind l kind.Collect) x y
  unfolding next run Run.run_kind as_run plain_call with_number
  both-collected = paired n r _ _ _ _ _ x y (collected n r P L b l x H _) (rw first-zero (collected n r P L b l y K Collect.plainly))

  pair-of : (k : Kind) → (k ≡ kind.Create → ⊥) → Paired n r (of_kind l k) x y
  unfolding next run Run.run_kind as_run plain_call
  pair-of kind.Wrote d = alike kind.Wrote _ _ _ _ refl (λ z K. idled n r P L b z K _ (λ e. cc) refl)
  pair-of kind.Loaded d = alike kind.Loaded _ _ _ _ refl (λ z K. idled n r P L b z K _ (λ e. cc) refl)
  pair-of (kind.Other k) d = alike (kind.Other k) _ _ _ _ refl (λ z K. idled n r P L b z K _ (λ e. cc) refl)
  pair-of kind.Create d = absurd (d refl)
  pair-of kind.Allocate d = alike kind.Allocate _ _ _ _ refl (allocated n r P L b l)
  pair-of kind.Read d = alike kind.Read _ _ _ _ refl (was_read n r P L b l)
  pair-of kind.Show d = alike kind.Show _ _ _ _ refl (was-shown n r P L b l)
  pair-of kind.Write d = alike kind.Write _ _ _ _ refl (written n r P L b l)
  pair-of kind.Root d = alike kind.Root _ _ _ _ refl (root-set n r P L b l)
  pair-of kind.Sink d = alike kind.Sink _ _ _ _ refl (sink-declared n r P L b l)
  pair-of kind.Analyse d = analysed
  pair-of kind.Collect d = both-collected
  pair-of kind.Save d = alike kind.Save _ _ _ _ refl (saved n r P L b l)
  pair-of kind.Load d = alike kind.Load _ _ _ _ refl (was-loaded n r P L b l)

pair : (n r : ℕ) (P : Plain) (L b : List ℕ) (l : Option Call) (x y : Outcome) → Held n r P L b x → Held n r P L b y → (Makes kind.Create l → ⊥) → Paired n r l x y
unfolding next run Run.run_kind as_run
pair n r P L b None x y H K d = paired n r None _ _ _ _ x y (idled n r P L b x H None (λ z. z) refl) (idled n r P L b y K None (λ z. z) refl)
pair n r P L b (Some l) x y H K d = pair-of n r P L b l x y H K l.kind d

-- ---- lists of calls

columns : (n r : ℕ) (P : Plain) (L b : List ℕ) (calls : List (Option Call)) (x y : Outcome) → Held n r P L b x → Held n r P L b y → NoCreate calls → Columns n r calls x y
columns n r P L b [] x y H K h = same_heap n r P L b x y H K
columns n r P L b (l ∷ ls) x y H K h =
    let p = pair n r P L b l x y H K h.0 in
    (same_heap n r P L b x y H K, p.agreed, p.output, columns n r p.after p.list p.image ls _ _ p.first p.second h.1)

-- no bytes are no image
none-sized : (n r : ℕ) → Sized n r []
unfolding image_tests chunk_tests past first
none-sized n r e = absurd (suc-ne-zero 25 e)

-- a create that is accepted
abbrev create-of : Outcome → ℕ → ℕ → Tuning → Outcome
create-of x = Run.create x.answer.control x.answer.saved x.records x.slots x.roots x.sinks x.sets x.work x.map x.image

made-with : (n r : ℕ) (t : Tuning) (x : Outcome) → (create-of x n r t).answer.refusal ≡ 0 → Lent n r x → Unsaved x
    → Held n r (plain_created n r) (replicate sink_max 0) [] (create-of x n r t)
unfolding new_control created zeros
made-with n r t x e h u =
    let a = accepted n r t x.records x.slots x.roots x.sinks x.sets e in
    record {
      inv = subst Inv (sym a.1) (zeroed-inv n r t x.records x.slots x.roots x.sinks x.sets a.0);
      objects = ap (λ (s : State). s.control.n) a.1;
      roots = ap (λ (s : State). s.control.r) a.1;
      plain = ap plain_of a.1 ∙ zeroed-plain n r t x.records x.slots x.roots x.sinks x.sets a.0;
      list = ap (λ (s : State). take sink_max s.sinks) a.1 ∙ take-zeros 0 sink_max x.sinks a.0.sinks-long;
      lent = h;
      last = ap (λ (k : ℕ). take k x.image) u;
      fits = none-sized n r;
    }

begun : (n r : ℕ) (l : Call) (x : Outcome) → Creates n r l → (next (Some l) x).answer.refusal ≡ 0 → Lent n r x → Unsaved x
    → Held n r (plain_created n r) (replicate sink_max 0) [] (next (Some l) x)
begun n r l x c e h u =
    subst (Held n r (plain_created n r) (replicate sink_max 0) []) (sym made) (made-with n r (Run.tuning_in l) x (ap (λ (o : Outcome). o.answer.refusal) (sym made) ∙ e) h u)
  where
    made : next (Some l) x ≡ create-of x n r (Run.tuning_in l)
    made = unfold next run Run.run_kind in (rw (c.0, c.1, c.2) refl)

pub same-columns : SameColumns
same-columns n r l m x y a b e f h k u v calls c = columns n r (plain_created n r) _ [] calls _ _ (begun n r l x a e h u) (begun n r m y b f k v) c
