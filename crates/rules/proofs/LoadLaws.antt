-- Load: the invariant holds of the heap that it leaves, which is the plain heap that the image holds.
-- Assumes nothing.
use Prim.Native.Nat.{ℕ, zero, suc, ◌+◌, ◌-◌, ◌*◌, ◌/◌, ◌%◌, ◌≤◌, ◌<◌}
use mathlib.Core.Path.{◌≡◌, refl, sym, ap, ap₂, ◌∙◌, subst}
use mathlib.Core.Bool.{Bool, true, false, ◌&&◌, ◌||◌, false≢true}
use mathlib.Core.List.Memᴰ
use mathlib.Core.List.{List, [], ◌∷◌, ◌++◌, map, Memᴰ}
use mathlib.Core.Logic.{◌≢◌, ◌⊎◌, inl, inr}
use native.Mathlib.Decide.{dec_le}
use native.Mathlib.Omega.{arith}
use lib.Dec.{eqb}
use lib.ListN.{length, get_or, take, drop, replicate, length-drop}
use borrow.Author.Tests.{lt-ltb, le-ltb, eqb-false}
use Rattle.layout.specs.ControlRecord.{bad_tuning, new_control, with_last}
use Rattle.layout.specs.Field.{field, flag}
use Rattle.layout.specs.Limits.{sink_max, slots_len}
use Rattle.layout.specs.declared.answers.Tuning.{Tuning}
use Rattle.layout.specs.Refusal.{first, by, outcome}
use Rattle.layout.specs.Word.{is_nil, is_immediate}
use Rattle.layout.proofs.ControlLaws.{new-sound, last-sound, tuning-facts}
use Rattle.layout.proofs.FieldLaws.{apart, field-put-flag, flag-put-same, flag-put-other}
use Rattle.layout.proofs.RefusalLaws.{outcome-zero}
use Rattle.records.specs.Record.{new_record, with_sink, width, cluster, is_sink, is_out, is_written, in_use, free}
use Rattle.records.proofs.RecordLaws.{Legal, legal-nonzero, nonzero-free, clear-same, width-put-flag, cluster-put-flag, new-width, new-cluster, new-out, new-written, new-used, new-legal}
use Rattle.graph.specs.Numbers.{Obj}
use Rattle.graph.proofs.Lifecycle.{unclustered-good}
use Rattle.rules.specs.Buffers.{rec_of, each_from, each_record, zeros, eight, used_words, other_words, all_of, numbers}
use Rattle.rules.specs.View.{view}
use Rattle.rules.specs.WellFormed.{names}
use Rattle.rules.specs.Calls.{load, did}
use Rattle.rules.specs.Image.{listed, saved_width, saved_sink, saved_as_sink, saved_word, saved_words, saved_root, saved_last, names_listed}
use Rattle.rules.specs.Load.{sizes, objects, root_words, image_n, image_r, image_tests, input_tests, loaded_record, loaded_word, loaded_sinks, load_tests}
use Rattle.rules.specs.Load as Load
use Rattle.rules.specs.Plain.{cell_from, plain_loaded, answer, plain_step}
use Rattle.rules.specs.Steps.{State, loaded, step}
use Rattle.rules.specs.PlainOf.{plain_of, cell_of, cells_of}
use Rattle.rules.specs.Demands.{Fresh, Long, Within, words_of, heap_of}
use Rattle.rules.proofs.BoolLaws.{and_split, or-last}
use Rattle.rules.proofs.ListLaws.{length-each, drop-each, drop_past, rec_of-each, rec_of-above, rec_of-range, same_numbers}
use Rattle.rules.proofs.ListedLaws.{Lists, lists-same, padded-lists, places-filled, rec_of-zeros}
use Rattle.rules.proofs.SetLaws.{set_word-none}
use Rattle.rules.proofs.Invariant.{Inv, SlotWord}
use Rattle.rules.proofs.Simulation.{Same, all-by, pointer-facts}
use Rattle.rules.proofs.ViewLaws.{targets-low}
use Rattle.rules.proofs.Refused.{answered}
use Rattle.rules.proofs.LoadTests.{Never, Holds, holds, tests-unmet, load-tests, load-passed}

-- ---- lists that are filled by number

-- the first m words, where each of k becomes a function of its number
fill : (a k m : ℕ) (f : ℕ → ℕ) (l : List ℕ) → m ≤ k → m ≤ length l → take m (each_from a k (λ j w. f j) l) ≡ map f (numbers a m)
unfolding each_from numbers
fill a k zero f l p q = refl
fill a zero (suc m) f l p q = absurd (omega arith)
fill a (suc k) (suc m) f [] p q = absurd (omega arith)
fill a (suc k) (suc m) f (w ∷ l) p q = ap (λ r. f a ∷ r) (fill (suc a) k m f l (omega arith) (omega arith))

shift : (f g : ℕ → ℕ) (a c k : ℕ) → ((j : ℕ) → j < k → f (a + j) ≡ g (c + j)) → map f (numbers a k) ≡ map g (numbers c k)
unfolding numbers
shift f g a c zero h = refl
shift f g a c (suc k) h =
    let at : (d : ℕ) → d + 0 ≡ d = λ d. omega arith in
    let next : (d j : ℕ) → suc d + j ≡ d + suc j = λ d j. omega arith in
    ap₂ (λ x r. x ∷ r) (ap f (sym (at a)) ∙ h 0 (omega arith) ∙ ap g (at c))
    (shift f g (suc a) (suc c) k (λ j p. ap f (next a j) ∙ h (suc j) (omega arith) ∙ ap g (sym (next c j))))

take-numbers : (f : ℕ → ℕ) (a k m : ℕ) → m ≤ k → take m (map f (numbers a k)) ≡ map f (numbers a m)
unfolding numbers
take-numbers f a k zero p = refl
take-numbers f a zero (suc m) p = absurd (omega arith)
take-numbers f a (suc k) (suc m) p = ap (λ r. f a ∷ r) (take-numbers f (suc a) k m (omega arith))

nil-past : (f : ℕ → ℕ) (a k m : ℕ) → ((j : ℕ) → a + m ≤ j → f j ≡ 0) → all_of is_nil (drop m (map f (numbers a k))) ≡ true
unfolding numbers all_of is_nil
nil-past f a zero zero h = refl
nil-past f a zero (suc m) h = refl
nil-past f a (suc k) zero h = rw (h a (omega arith)) (nil-past f (suc a) k zero (λ j p. h j (omega arith)))
nil-past f a (suc k) (suc m) h = nil-past f (suc a) k m (λ j p. h j (omega arith))

-- ---- the record of an object just loaded: in use, with its width and its sink bit

module _ (s : Bool) (v : ℕ) where
  abbrev made : ℕ
  made = with_sink s (new_record v)

  made-cluster : cluster made ≡ 0
  made-cluster = cluster-put-flag 2 s (new_record v) refl ∙ new-cluster v

  made-sink : is_sink made ≡ s
  made-sink = flag-put-same 2 s (new_record v)

  made-out : is_out made ≡ false
  made-out = flag-put-other 2 s (new_record v) 3 (eqb-false 2 3 refl) ∙ new-out v

  made-written : is_written made ≡ false
  made-written = flag-put-other 2 s (new_record v) 1 (eqb-false 2 1 refl) ∙ new-written v

  made-used : in_use made ≡ true
  made-used = flag-put-other 2 s (new_record v) 0 (eqb-false 2 0 refl) ∙ new-used v

  module _ (h : v ≤ 8) where
    made-width : width made ≡ v
    made-width = width-put-flag 2 s (new_record v) refl ∙ new-width v h

    made-legal : (n : ℕ) → Legal n made
    made-legal n = record {
      blank = clear-same made (new_record v) (same 4 4 refl) (same 12 4 refl) (same 28 4 refl) ∙ (new-legal v h n).blank;
      used = made-used;
      narrow = rw made-width h;
      low = rw made-cluster (omega arith);
      sinkless = λ e. made-cluster;
      outless = λ e z. false≢true (sym made-out ∙ e);
    }
      where
        same : (q u : ℕ) → apart 2 1 q u ≡ true → field q u made ≡ field q u (new_record v)
        same q u a = field-put-flag 2 s (new_record v) q u a

-- ---- the heap that an accepted load leaves

module _ (t : Tuning) (b recs slots roots list sets : List ℕ) where
  abbrev pub laid : State
  laid = record {
    control = with_last (saved_last (sizes b)) (new_control (image_n b) (image_r b) t);
    records = each_record (image_n b) (λ x r. loaded_record b x) recs;
    slots = each_from 0 (slots_len (image_n b)) (λ j w. loaded_word b (j / 8 + 1) (j % 8)) slots;
    roots = each_from 0 (image_r b) (λ j w. saved_root (root_words b) j) roots;
    sinks = each_from 0 sink_max (λ k y. get_or (loaded_sinks b) k 0) list;
    sets = zeros (image_n b) sets;
  }

  abbrev n : ℕ
  n = image_n b

  abbrev objs : List ℕ
  objs = objects b

  -- the record of a listed object
  abbrev record_of : ℕ → ℕ
  record_of x = made (eqb (saved_sink objs x) 1) (saved_width objs x)

  module _ (A : Holds b) (L : Long (image_n b) (image_r b) recs slots roots list sets) where
    -- ---- its records

    listed-record : (x : ℕ) → Obj n x → listed objs x ≡ true → rec_of n laid.records x ≡ record_of x
    unfolding loaded_record
    listed-record x i l = rec_of-each n (λ x r. loaded_record b x) recs x i.0 i.1 L.0 ∙ rw l refl

    other-record : (x : ℕ) → Obj n x → listed objs x ≡ false → rec_of n laid.records x ≡ 0
    unfolding loaded_record
    other-record x i l = rec_of-each n (λ x r. loaded_record b x) recs x i.0 i.1 L.0 ∙ rw l refl

    -- a number is free, or that of a listed object
    abbrev Either : ℕ → Type 0
    Either x = (rec_of n laid.records x ≡ 0) ⊎ (Obj n x × (listed objs x ≡ true))

    either : (x : ℕ) → Either x
    either zero = inl (unfold rec_of in refl)
    either (suc i) = go (dec_le (suc i) n)
      where
        test : (c : Bool) → listed objs (suc i) ≡ c → Obj n (suc i) → Either (suc i)
        test true e o = inr (o, e)
        test false e o = inl (other-record (suc i) o e)

        go : Dec (suc i ≤ n) → Either (suc i)
        go (yes p) = test _ refl (omega arith, p)
        go (no p) = inl (rec_of-above n laid.records (suc i) (omega (arith, p)))

    -- ---- its words

    eight-words : (x : ℕ) → Obj n x → eight laid.slots x ≡ map (loaded_word b x) (numbers 0 8)
    unfolding eight slots_len
    eight-words zero i = absurd (omega (arith, i.0))
    eight-words (suc i) o =
        let s : 8 * n ≡ 8 * i + (8 * n - 8 * i) = omega (arith, o.1) in
        let d = length-drop (8 * i) slots in
        let f : ℕ → ℕ = λ j. loaded_word b (j / 8 + 1) (j % 8) in
        let g : ℕ → ℕ → ℕ = λ j w. f j in
        ap (λ (k : ℕ). take 8 (drop (8 * i) (each_from 0 k g slots))) s
        ∙ ap (take 8) (drop-each 0 (8 * n - 8 * i) g slots (8 * i))
        ∙ fill (0 + 8 * i) (8 * n - 8 * i) 8 f (drop (8 * i) slots) (omega (arith, o.1)) (omega (arith, d, o.1, L.1))
        ∙ shift f (loaded_word b (suc i)) (0 + 8 * i) 0 8 (λ j p. ap₂ (loaded_word b) (omega arith) (omega arith))

    listed-words : (x : ℕ) → Obj n x → listed objs x ≡ true → used_words n laid.records laid.slots x ≡ saved_words objs x
    unfolding used_words saved_words loaded_word
    listed-words x i l =
        let v = A.narrow x i l in
        ap₂ (λ (k : ℕ) (t : List ℕ). take k t) (ap width (listed-record x i l) ∙ made-width _ _ v) (eight-words x i)
        ∙ take-numbers (loaded_word b x) 0 8 (saved_width objs x) v
        ∙ same_numbers (loaded_word b x) (saved_word objs x) 0 (saved_width objs x) (λ k p q. rw (l, lt-ltb k (saved_width objs x) (omega arith)) refl)

    free-words : (x : ℕ) → rec_of n laid.records x ≡ 0 → used_words n laid.records laid.slots x ≡ []
    unfolding used_words field
    free-words x e = rw e refl

    beyond : (x j : ℕ) → Obj n x → width (rec_of n laid.records x) ≤ j → (c : Bool) → listed objs x ≡ c → loaded_word b x j ≡ 0
    unfolding loaded_word
    beyond x j i p true l =
        let e : width (rec_of n laid.records x) ≡ saved_width objs x = ap width (listed-record x i l) ∙ made-width _ _ (A.narrow x i l) in
        rw (l, le-ltb j (saved_width objs x) (omega arith)) refl
    beyond x j i p false l = rw l refl

    empty : (x : ℕ) → 1 ≤ x → x ≤ n → all_of is_nil (other_words n laid.records laid.slots x) ≡ true
    unfolding other_words
    empty x p q =
        ap (λ (t : List ℕ). all_of is_nil (drop (width (rec_of n laid.records x)) t)) (eight-words x (p, q))
        ∙ nil-past (loaded_word b x) 0 8 (width (rec_of n laid.records x)) (λ j k. beyond x j (p, q) (omega arith) _ refl)

    -- a word that names a listed object names one in use
    names-used : (w : ℕ) → names_listed objs n w ≡ true → names n laid.records w ≡ true
    unfolding names_listed names
    names-used w e =
        let s = and_split _ _ e in
        rw (s.0, listed-record w (pointer-facts n w s.0) s.1) (made-used _ _)

    named : (x w : ℕ) → Memᴰ w (used_words n laid.records laid.slots x) → SlotWord n laid.records w
    named x w m = go (either x)
      where
        go : Either x → SlotWord n laid.records w
        go (inl e) = absurd (Memᴰ.not-nil (rw (free-words x e) at m))
        go (inr o) = or-last (is_nil w || is_immediate w) _ _ (A.words x o.0 o.1 w (rw (listed-words x o.0 o.1) at m)) (names-used w)

    root-words : take (image_r b) laid.roots ≡ map (saved_root (root_words b)) (numbers 0 (image_r b))
    root-words = fill 0 (image_r b) (image_r b) (saved_root (root_words b)) roots (omega arith) L.2

    -- ---- its sinks

    pub laid-sinks : take sink_max laid.sinks ≡ loaded_sinks b ++ replicate (sink_max - length (loaded_sinks b)) 0
    laid-sinks =
        places-filled 0 sink_max (λ k. get_or (loaded_sinks b) k 0) (loaded_sinks b) list A.few L.3 (λ j. ap (λ (k : ℕ). get_or (loaded_sinks b) k 0) (omega arith))

    sink-record : (x : ℕ) → Obj n x → saved_as_sink objs x ≡ is_sink (rec_of n laid.records x)
    unfolding saved_as_sink
    sink-record x o = go (listed objs x) refl
      where
        go : (c : Bool) → listed objs x ≡ c → (c && eqb (saved_sink objs x) 1) ≡ is_sink (rec_of n laid.records x)
        go true l = sym (ap is_sink (listed-record x o l) ∙ made-sink (eqb (saved_sink objs x) 1) (saved_width objs x))
        go false l = rw (other-record x o l) (unfold flag field in refl)

    laid-lists : Lists n (λ x. is_sink (rec_of n laid.records x)) (take sink_max laid.sinks)
    laid-lists =
        subst (Lists n (λ x. is_sink (rec_of n laid.records x))) (sym laid-sinks)
        (padded-lists (loaded_sinks b) (sink_max - length (loaded_sinks b)) n (λ x. is_sink (rec_of n laid.records x))
        (lists-same n (saved_as_sink objs) (λ x. is_sink (rec_of n laid.records x)) (loaded_sinks b) sink-record A.sinks))

    -- ---- no limit, no losses, no clusters

    pub laid-fresh : Fresh laid.control laid.records
    unfolding with_last new_control
    laid-fresh = record { limit = refl; losses = (refl, refl); plain = λ x. go x (either x) }
      where
        go : (x : ℕ) → Either x → let r = rec_of n laid.records x in (cluster r ≡ 0) × (is_out r ≡ false) × (is_written r ≡ false)
        go x (inl e) = rw e (unfold flag field in (refl, refl, refl))
        go x (inr o) = rw (listed-record x o.0 o.1) (made-cluster _ _, made-out _ _, made-written _ _)

    pub laid-inv : bad_tuning t ≡ false → Inv laid
    unfolding with_last new_control view
    laid-inv u = record {
      sound = last-sound (new_control n (image_r b) t) (new-sound n (image_r b) t A.ranges (tuning-facts t u)) (saved_last (sizes b)) A.last;
      recs-long = unfold each_record in (rw (length-each 1 n (λ x r. loaded_record b x) recs) L.0);
      slots-long = unfold slots_len in (rw (length-each 0 (8 * n) (λ j w. loaded_word b (j / 8 + 1) (j % 8)) slots) L.1);
      roots-long = rw (length-each 0 (image_r b) (λ j w. saved_root (root_words b) j) roots) L.2;
      sinks-long = rw (length-each 0 sink_max (λ k y. get_or (loaded_sinks b) k 0) list) L.3;
      sets-long = unfold zeros in (rw (length-each 0 n (λ _ w. 0) sets) L.4);
      legal = λ x. legal x (either x);
      empty = empty;
      named = named;
      rooted = λ w m. or-last (is_nil w) _ _ (A.roots w (rw root-words at m)) (names-used w);
      single = laid-lists.single;
      sets-exact = λ h p q. rec_of-zeros n sets h ∙ sym (set_word-none (heap_of laid) h (λ x o e. absurd (omega (arith, p, e, free x))));
      good = unclustered-good (heap_of laid) free (λ x. (laid-fresh.plain x).1) (λ x y m. targets-low n (words_of laid x) y m)
          (λ y m p. let r = laid-lists.from y m p in (r.0.1, r.1)) (λ y e. laid-lists.all y (sink-object y e) e)
          (λ e. false≢true (unfold rec_of flag field in e));
    }
      where
        free : (x : ℕ) → (heap_of laid).cluster x ≡ 0
        free x = (laid-fresh.plain x).0

        sink-object : (y : ℕ) → is_sink (rec_of n laid.records y) ≡ true → Obj n y
        sink-object y e = rec_of-range n laid.records y (λ z. false≢true (unfold flag field in (rw z at e)))

        legal : (x : ℕ) → Either x → (rec_of n laid.records x ≡ 0) ⊎ Legal n (rec_of n laid.records x)
        legal x (inl e) = inl e
        legal x (inr o) = inr (rw (listed-record x o.0 o.1) (made-legal _ _ (A.narrow x o.0 o.1) n))

    -- ---- its plain heap

    pub laid-plain : plain_of laid ≡ plain_loaded b
    unfolding with_last new_control plain_loaded cells_of
    laid-plain = λ i. record {
      last = saved_last (sizes b);
      roots = root-words i;
      cells = same_numbers (cell_of n laid.records laid.slots) (cell_from b) 1 n (λ x p q. cell x (p, omega arith) (listed objs x) refl) i;
    }
      where
        in_use_lem : (x : ℕ) → saved_width objs x ≤ 8 → free (record_of x) ≡ false
        in_use_lem x h = nonzero-free n (record_of x) (legal-nonzero n (record_of x) (made-legal _ _ h n))

        cell : (x : ℕ) → Obj n x → (c : Bool) → listed objs x ≡ c → cell_of n laid.records laid.slots x ≡ cell_from b x
        cell x o true l = unfold cell_of cell_from in
            (rw (listed-words x o l, listed-record x o l, l, in_use_lem x (A.narrow x o l), made-sink (eqb (saved_sink objs x) 1) (saved_width objs x)) refl)
        cell x o false l = unfold cell_of cell_from free in (rw (other-record x o l, l) refl)

-- ---- the call, of every input

module _ (t : Tuning) (b recs slots roots list sets : List ℕ) where
  -- the refusal of this load
  abbrev refusal : ℕ
  refusal = (Load.load t b recs slots roots list sets).answer.refusal

  pub load-answered : refusal ≡ first (load_tests t b recs slots roots list sets)
  unfolding Load.load
  load-answered = answered _ _ _ (λ (o : Load.Outcome). o.answer.refusal) refl (λ k. refl)

  pub load-unmet : (refusal ≢ 20) × (refusal ≢ 21) × (refusal ≢ 25)
  load-unmet = subst Never (sym load-answered) (tests-unmet t b recs slots roots list sets)

  pub load-within : let o = Load.load t b recs slots roots list sets in
      Within (image_n b) recs o.records × Within (slots_len (image_n b)) slots o.slots × Within (image_r b) roots o.roots
      × Within sink_max list o.sinks × Within (image_n b) sets o.sets
  unfolding Load.load each_record zeros
  load-within =
      all-by
      (λ (o : Load.Outcome).
      Within (image_n b) recs o.records × Within (slots_len (image_n b)) slots o.slots × Within (image_r b) roots o.roots
      × Within sink_max list o.sinks × Within (image_n b) sets o.sets) _ _ _
      (λ z. (each 1 (image_n b) _ recs, each 0 (slots_len (image_n b)) _ slots, each 0 (image_r b) _ roots, each 0 sink_max _ list, each 0 (image_n b) _ sets))
      (λ m. ((refl, refl), (refl, refl), (refl, refl), (refl, refl), (refl, refl)))
    where
      each : (i k : ℕ) (f : ℕ → ℕ → ℕ) (l : List ℕ) → Within k l (each_from i k f l)
      each i k f l = (length-each i k f l, drop_past i k f l)

  -- accepted: the tests pass, and the state is the one laid
  pub accepted : refusal ≡ 0
      → (bad_tuning t ≡ false) × (first (image_tests b) ≡ 0) × Long (image_n b) (image_r b) recs slots roots list sets × (loaded t b recs slots roots list sets ≡ laid t b recs slots roots list sets)
  unfolding loaded Load.load
  accepted e =
      let z = sym load-answered ∙ e in
      let p = load-passed t b recs slots roots list sets z in (
        p.0,
        p.1,
        p.2,
        ap (λ (o : Load.Outcome). record { control = o.answer.control; records = o.records; slots = o.slots; roots = o.roots; sinks = o.sinks; sets = o.sets })
            (outcome-zero _ _ (load_tests t b recs slots roots list sets) z),
      )

  pub load_fresh : let o = Load.load t b recs slots roots list sets in o.answer.refusal ≡ 0 → Fresh o.answer.control o.records × (o.answer.control.tuning ≡ t)
  unfolding loaded with_last new_control
  load_fresh e =
      let a = accepted e in
      subst (λ (s : State). Fresh s.control s.records × (s.control.tuning ≡ t)) (sym a.3) (laid-fresh t b recs slots roots list sets (holds b a.1) a.2, refl)

  pub load-inv : refusal ≡ 0 → Inv (loaded t b recs slots roots list sets)
  load-inv e = let a = accepted e in subst Inv (sym a.3) (laid-inv t b recs slots roots list sets (holds b a.1) a.2 a.0)

  pub load-plain : refusal ≡ 0 → plain_of (loaded t b recs slots roots list sets) ≡ plain_loaded b
  load-plain e = let a = accepted e in ap plain_of a.3 ∙ laid-plain t b recs slots roots list sets (holds b a.1) a.2

  -- the sinks are in the first places
  pub load-sinks : refusal ≡ 0
      → take sink_max (loaded t b recs slots roots list sets).sinks ≡ loaded_sinks b ++ replicate (sink_max - length (loaded_sinks b)) 0
  load-sinks e =
      let a = accepted e in
      ap (λ (s : State). take sink_max s.sinks) a.3 ∙ laid-sinks t b recs slots roots list sets (holds b a.1) a.2

  -- ---- in a heap: accepted, it leaves the one laid, and refused, the one that was

  pub load-step-inv : (s : State) → Inv s → Inv (step (load t b recs slots roots list sets) s).after
  unfolding step answer
  load-step-inv s I = go refusal refl
    where
      go : (m : ℕ) → refusal ≡ m → Inv (by m (loaded t b recs slots roots list sets) (λ k. s))
      go zero e = unfold by in (load-inv e)
      go (suc m) e = unfold by in I

  pub load_same : (s : State) → (first (input_tests t b) ≡ 0 → Long (image_n b) (image_r b) recs slots roots list sets) → Same (load t b recs slots roots list sets) s
  unfolding step answer plain_step outcome
  load_same s long = record {
    answers = ap (λ (m : ℕ). did m ∷ []) same ∙ told (first (input_tests t b));
    after = ap (λ (m : ℕ). plain_of (by m (loaded t b recs slots roots list sets) (λ k. s))) same ∙ left (first (input_tests t b)) same;
  }
    where
      same : refusal ≡ first (input_tests t b)
      same = load-answered ∙ load-tests t b recs slots roots list sets long

      told : (m : ℕ) → (did m ∷ []) ≡ (by m (answer (did 0) (plain_loaded b)) (λ k. answer (did k) (plain_of s))).answers
      told zero = unfold by in refl
      told (suc m) = unfold by in refl

      left : (m : ℕ) → refusal ≡ m
          → plain_of (by m (loaded t b recs slots roots list sets) (λ k. s)) ≡ (by m (answer (did 0) (plain_loaded b)) (λ k. answer (did k) (plain_of s))).after
      left zero e = unfold by in (load-plain e)
      left (suc m) e = unfold by in refl
