-- The check: what it has seen of an object after some of its slots, and what its answer is then. Assumes nothing.
use Prim.Native.Nat.{ℕ, zero, suc, ◌+◌, ◌-◌, ◌*◌, ◌≤◌, ◌<◌}
use mathlib.Core.Path.{◌≡◌, refl, sym, ap, ◌∙◌, fun_ext}
use mathlib.Core.Bool.{Bool, true, false, not, cond, ◌&&◌, ◌||◌, true≢false, and-false, and_assoc, or-false, or_assoc}
use mathlib.Core.Logic.{◌≢◌}
use mathlib.Core.List.{List, [], ◌∷◌}
use native.Mathlib.Decide.{dec_le}
use native.Mathlib.Omega.{arith}
use native.Mathlib.Numerals.{add-one}
use lib.Dec.{eqb, leb}
use lib.ListN.{length, get_or, take, drop, drop_of_length-le}
use lib.Seq.{drop-cons, get_or-take, get_or-drop, take-nil}
use borrow.Author.Tests.{leb-true, not-true, le-leb, lt-leb, eqb-true, eq-eqb, ne_eqb, not-false}
use borrow.Rule.Slice.PartMut.{mid_of, mid_len}
use Rattle.std.specs.Prelude.{IsTrue, ◌↔◌}
use Rattle.std.specs.List.{AllPass}
use Rattle.std.proofs.lemmas.List.Elements.{All-nil, All-cons, All-head, All-tail}
use Rattle.layout.specs.declared.answers.Control.{Control}
use Rattle.layout.specs.ControlRecord.{bad_control}
use Rattle.layout.specs.Limits.{object_max, sink_max, work_len}
use Rattle.layout.specs.Refusal.{first}
use Rattle.layout.proofs.BoolLaws.{and_split, or_split}
use Rattle.layout.proofs.ControlLaws.{control-facts}
use Rattle.layout.proofs.RefusalLaws.{first-passed}
use Rattle.records.specs.Record.{in_use, is_sink, width, cluster}
use Rattle.layout.specs.Word.{is_nil, is_pointer, is_immediate, legal_word, sort_of}
use Rattle.layout.specs.declared.words.Word.{Word}
use Rattle.layout.specs.declared.words.Word.TheVariants.{Nil, Object, Immediate, Illegal}
use Rattle.layout.proofs.WordLaws.{sort-nil, sort-pointer, sort-immediate, sort-illegal, pointer-not-immediate}
use Rattle.graph.specs.Clusters.{out_count, out_bit}
use Rattle.rules.specs.Buffers.{short, short_heap, rec_of, eight, used_words, other_words, all_of, all_to}
use Rattle.rules.specs.View.{view, exact_out}
use Rattle.rules.specs.WellFormed.{names, legal_at, empty_at, words_at, head_at, out_at, roots_named, once, list_ok, sets_ok, formed, well_formed, checked}
use Rattle.rules.proofs.BoolLaws.{is_false}
use Rattle.rules.proofs.ListLaws.{length-eight}
use Rattle.rules.proofs.BufferLaws.{rec_of-get}
use Rattle.rules.proofs.ListedLaws.{lists-facts}
use Rattle.rules.proofs.WellFormedLaws.{Sane, Sinks, formed-of, sinks-of, sane, all_to-and, all_to-fails, all_to-more, names-used}
use Rattle.rules.proofs.SaneLaws.{sane-width}
use Rattle.table.specs.Room.{Room, Sized, Accepted}
use Rattle.wellformed.specs.Check.{record_ok, head_ok, slot_ok, member_leaves, out_ok, object_ok, objects_ok, heap_tests}
use Rattle.table.specs.Clusters.{word_leaves, any_leaves}
use Rattle.places.specs.Places.{last_places}
use Rattle.places.proofs.LatestLaws.{sets-exact}
use Rattle.table.proofs.RoomLaws.{heap-long}
use Rattle.table.proofs.ClusterLaws.{any-cons, nil-stays}

-- ---- the words of an object, the first m of them used

module _ (n : ℕ) (recs : List ℕ) where
  -- what may stand in a used slot
  abbrev good : ℕ → Bool
  good w = is_nil w || is_immediate w || names n recs w

  unfoldable pub fine : ℕ → List ℕ → Bool
  fine m l = all_of is_nil (drop m l) && all_of good (take m l)

  fine-cons : (w k v : ℕ) (l : List ℕ) → fine (w - k) (v ∷ l) ≡ (slot_ok n recs w k v && fine (w - suc k) l)
  unfolding fine slot_ok all_of
  fine-cons w k v l = go (dec_le w k)
    where
      unused : (a b : Bool) → ((a && b) && true) ≡ (a && (b && true))
      unused a b = and_assoc a b true

      used : (a b c : Bool) → (a && (b && c)) ≡ (b && (a && c))
      used true true c = refl
      used true false c = refl
      used false true c = refl
      used false false c = refl

      go : Dec (w ≤ k) → (all_of is_nil (drop (w - k) (v ∷ l)) && all_of good (take (w - k) (v ∷ l)))
          ≡ (cond (leb w k) (is_nil v) (good v) && (all_of is_nil (drop (w - suc k) l) && all_of good (take (w - suc k) l)))
      go (yes p) =
          let a : w - k ≡ 0 = omega arith in
          let b : w - suc k ≡ 0 = omega arith in
          rw (a, b, le-leb w k p) (unused (is_nil v) (all_of is_nil l))
      go (no p) =
          let a : w - k ≡ suc (w - suc k) = omega (arith, p) in
          rw (a, lt-leb w k (omega (arith, p))) (used (all_of is_nil (drop (w - suc k) l)) (good v) (all_of good (take (w - suc k) l)))

  -- the words from slot k on, where k slots of an object of width w were seen
  abbrev pub fine_from : ℕ → ℕ → List ℕ → Bool
  fine_from w k l = fine (w - k) (drop k l)

  pub fine-begin : (w : ℕ) (l : List ℕ) → fine_from w 0 l ≡ fine w l
  fine-begin w l = let z : w - 0 ≡ w = omega arith in ap (λ (m : ℕ). fine m l) z

  pub fine-turn : (w k : ℕ) (l : List ℕ) → k < length l → fine_from w k l ≡ (slot_ok n recs w k (get_or l k 0) && fine_from w (suc k) l)
  fine-turn w k l p = ap (fine (w - k)) (drop-cons l k 0 p) ∙ fine-cons w k (get_or l k 0) (drop (suc k) l)

  pub fine_end : (w k : ℕ) (l : List ℕ) → length l ≤ k → fine_from w k l ≡ true
  unfolding fine all_of
  fine_end w k l p = rw (drop_of_length-le l {i = k} p) (none (w - k))
    where
      none : (m : ℕ) → (all_of is_nil (drop m []) && all_of good (take m [])) ≡ true
      none zero = refl
      none (suc m) = refl

  -- and whether one of them leaves cluster c
  module _ (c : ℕ) where
    abbrev pub leave_from : ℕ → ℕ → List ℕ → Bool
    leave_from w k l = any_leaves n recs c (take (w - k) (drop k l))

    pub leave-begin : (w : ℕ) (l : List ℕ) → leave_from w 0 l ≡ any_leaves n recs c (take w l)
    leave-begin w l = let z : w - 0 ≡ w = omega arith in ap (λ (m : ℕ). any_leaves n recs c (take m l)) z

    -- an unused slot that passed is 0, and 0 points nowhere
    pub leave-turn : (w k : ℕ) (l : List ℕ) → k < length l → slot_ok n recs w k (get_or l k 0) ≡ true
        → leave_from w k l ≡ (word_leaves n recs c (get_or l k 0) || leave_from w (suc k) l)
    unfolding slot_ok
    leave-turn w k l p s = ap (λ (m : List ℕ). any_leaves n recs c (take (w - k) m)) (drop-cons l k 0 p) ∙ go (get_or l k 0) (drop (suc k) l) s (dec_le w k)
      where
        go : (v : ℕ) (t : List ℕ) → cond (leb w k) (is_nil v) (good v) ≡ true → Dec (w ≤ k)
            → any_leaves n recs c (take (w - k) (v ∷ t)) ≡ (word_leaves n recs c v || any_leaves n recs c (take (w - suc k) t))
        go v t e (yes q) =
            let a : w - k ≡ 0 = omega arith in
            let b : w - suc k ≡ 0 = omega arith in
            let z : v ≡ 0 = eqb-true v 0 (unfold is_nil in (rw (le-leb w k q) at e)) in
            rw (a, b) (ap (λ (x : Bool). x || any_leaves n recs c []) (nil-stays n c v recs z))
        go v t e (no q) =
            let a : w - k ≡ suc (w - suc k) = omega (arith, q) in
            rw a (any-cons n c recs v (take (w - suc k) t))

    pub leave-end : (w k : ℕ) (l : List ℕ) → length l ≤ k → leave_from w k l ≡ false
    unfolding any_leaves out_count
    leave-end w k l p = rw (drop_of_length-le l {i = k} p, take-nil {A = ℕ} (w - k)) refl

-- ---- one object

module _ (n : ℕ) (recs slots : List ℕ) (i : ℕ) where
  abbrev pub words : List ℕ
  words = eight slots (suc i)

  pub word_at : (k : ℕ) → k < 8 → get_or words k 0 ≡ get_or slots (8 * i + k) 0
  unfolding eight
  word_at k p = get_or-take 8 (drop (8 * i) slots) k 0 p ∙ get_or-drop (8 * i) slots k 0

  -- its rules are what the code tests of its record and its words
  module _ (p : i < n) (r : ℕ) (e : r ≡ get_or recs i 0) where
    rec-is : rec_of n recs (suc i) ≡ r
    rec-is = let z : suc i - 1 ≡ i = omega arith in rec_of-get n recs (suc i) (omega arith) p ∙ ap (λ (j : ℕ). get_or recs j 0) z ∙ sym e

    legal-is : legal_at n recs (suc i) ≡ record_ok n r
    unfolding legal_at record_ok
    legal-is = rw rec-is refl

    empty-is : empty_at n recs slots (suc i) ≡ all_of is_nil (drop (width r) words)
    unfolding empty_at other_words
    empty-is = rw rec-is refl

    words_are : words_at n recs slots (suc i) ≡ all_of (good n recs) (take (width r) words)
    unfolding words_at used_words
    words_are = rw rec-is refl

    head-is : head_at n recs (suc i) ≡ head_ok n recs r
    unfolding head_at head_ok
    head-is = rw rec-is refl

    out-is : out_at n recs slots (suc i) ≡ out_ok r (any_leaves n recs (cluster r) (take (width r) words))
    unfolding out_at out_ok exact_out view out_bit any_leaves used_words
    out-is = rw rec-is refl

    pub object-tests : object_ok n recs slots (suc i)
        ≡ (((record_ok n r && fine n recs (width r) words) && head_ok n recs r) && out_ok r (any_leaves n recs (cluster r) (take (width r) words)))
    unfolding object_ok fine
    object-tests =
        rw (legal-is, empty-is, words_are, head-is, out-is)
        (ap (λ (b : Bool). (b && head_ok n recs r) && out_ok r (any_leaves n recs (cluster r) (take (width r) words)))
        (and_assoc (record_ok n r) (all_of is_nil (drop (width r) words)) (all_of (good n recs) (take (width r) words))))

    pub bad-record : record_ok n r ≡ false → object_ok n recs slots (suc i) ≡ false
    bad-record h = object-tests ∙ rw h refl

    pub bad-head : head_ok n recs r ≡ false → object_ok n recs slots (suc i) ≡ false
    bad-head h = object-tests ∙ rw (h, and-false) refl

    module _ (w c : ℕ) (ew : w ≡ width r) (ec : c ≡ cluster r) where
      pub bad-slot : fine n recs w words ≡ false → object_ok n recs slots (suc i) ≡ false
      bad-slot h = object-tests ∙ rw (← ew, h, and-false) refl

      -- the out bit of a member is told by its words; that of an object in no cluster by nothing
      out-same : (b : Bool) → (c ≢ 0 → b ≡ any_leaves n recs c (take w words)) → out_ok r b ≡ out_ok r (any_leaves n recs c (take w words))
      unfolding out_ok
      out-same b q = go (eqb c 0) refl
        where
          go : (t : Bool) → eqb c 0 ≡ t → out_ok r b ≡ out_ok r (any_leaves n recs c (take w words))
          go true e = rw (← ec, e) refl
          go false e = ap (out_ok r) (q (λ z. true≢false (sym (eq-eqb c 0 z) ∙ e)))

      pub bad-out : (b : Bool) → (c ≢ 0 → b ≡ any_leaves n recs c (take w words)) → out_ok r b ≡ false → object_ok n recs slots (suc i) ≡ false
      bad-out b q h =
          let o = sym (out-same b q) ∙ h in
          object-tests ∙ rw (← ew, ← ec, o, and-false) refl

      pub good-object : (b : Bool) → record_ok n r ≡ true → head_ok n recs r ≡ true → fine n recs w words ≡ true
          → (c ≢ 0 → b ≡ any_leaves n recs c (take w words)) → out_ok r b ≡ true → object_ok n recs slots (suc i) ≡ true
      good-object b hr hh hf q ho =
          let o = sym (out-same b q) ∙ ho in
          object-tests ∙ rw (← ew, ← ec, hr, hh, hf, o) refl

  -- what is known after k slots of an object of width w in cluster c
  module _ (w c : ℕ) where
    pub record Seen (k : ℕ) (leaving : Bool) : Type 0 where
      pub same-fine : fine_from n recs w k words ≡ fine n recs w words
      pub same-leave : c ≢ 0 → (leaving || leave_from n recs c w k words) ≡ any_leaves n recs c (take w words)

    pub seen_none : Seen 0 false
    seen_none = record { same-fine = fine-begin n recs w words; same-leave = λ d. leave-begin n recs c w words }

    module _ (R : Room n recs slots) (p : i < n) where
      long : length words ≡ 8
      long = length-eight n slots (suc i) (omega arith) p R.slots-long

      module _ (k : ℕ) (leaving : Bool) (S : Seen k leaving) where
        module _ (q : k < 8) (v : ℕ) (ev : v ≡ get_or slots (8 * i + k) 0) where
          at : get_or words k 0 ≡ v
          at = word_at k q ∙ sym ev

          room : k < length words
          room = let l = long in omega arith

          -- a word of a member
          of-member : c ≢ 0 → member_leaves n recs c v ≡ word_leaves n recs c v
          unfolding member_leaves
          of-member d = rw (ne_eqb c 0 d) refl

          pub seen_more : (b : Bool) → b ≡ member_leaves n recs c v → slot_ok n recs w k v ≡ true → Seen (k + 1) (leaving || b)
          seen_more b eb h =
              let s : slot_ok n recs w k (get_or words k 0) ≡ true = rw at h in
              rw (add-one k) (record {
                same-fine = sym (fine-turn n recs w k words room ∙ ap (λ (x : Bool). x && fine_from n recs w (suc k) words) s) ∙ S.same-fine;
                same-leave = λ d.
                    or_assoc leaving b (leave_from n recs c w (suc k) words)
                    ∙ ap (λ (x : Bool). leaving || (x || leave_from n recs c w (suc k) words)) (eb ∙ of-member d ∙ ap (word_leaves n recs c) (sym at))
                    ∙ ap (λ (x : Bool). leaving || x) (sym (leave-turn n recs c w k words room s))
                    ∙ S.same-leave d;
              })

          pub seen-bad : slot_ok n recs w k v ≡ false → fine n recs w words ≡ false
          seen-bad h =
              sym S.same-fine ∙ fine-turn n recs w k words room
              ∙ ap (λ (x : Bool). x && fine_from n recs w (suc k) words) (ap (slot_ok n recs w k) at ∙ h)

        module _ (q : 8 ≤ k) where
          full : length words ≤ k
          full = let l = long in omega arith

          pub seen-fine : fine n recs w words ≡ true
          seen-fine = sym S.same-fine ∙ fine_end n recs w k words full

          pub seen-leave : c ≢ 0 → leaving ≡ any_leaves n recs c (take w words)
          seen-leave d = sym (or-false leaving) ∙ ap (λ (x : Bool). leaving || x) (sym (leave-end n recs c w k words full)) ∙ S.same-leave d

-- ---- all objects, and the roots

module _ (n : ℕ) (recs slots : List ℕ) where
  pub objects-fail : (i : ℕ) → i < n → object_ok n recs slots (suc i) ≡ false → false ≡ objects_ok n recs slots
  unfolding objects_ok
  objects-fail i p h = sym (all_to-fails n (object_ok n recs slots) (suc i) (omega arith) p h)

  pub objects-more : (i : ℕ) → all_to i (object_ok n recs slots) ≡ true → object_ok n recs slots (suc i) ≡ true → all_to (i + 1) (object_ok n recs slots) ≡ true
  objects-more i a b = rw (add-one i) (all_to-more i (object_ok n recs slots) a b)

  pub objects-none : all_to 0 (object_ok n recs slots) ≡ true
  unfolding all_to
  objects-none = refl

  pub objects-all : (i : ℕ) → i ≡ n → all_to i (object_ok n recs slots) ≡ true → true ≡ objects_ok n recs slots
  unfolding objects_ok
  objects-all i e h = sym (rw e at h)

pub formed-parts : (n r : ℕ) (recs slots roots : List ℕ) → formed n r recs slots roots ≡ (objects_ok n recs slots && roots_named n r recs roots)
unfolding formed objects_ok object_ok
formed-parts n r recs slots roots =
    ap (λ (b : Bool). b && roots_named n r recs roots)
    (sym
    (all_to-and n (λ x. legal_at n recs x && empty_at n recs slots x && words_at n recs slots x && head_at n recs x) (out_at n recs slots)
    ∙ ap (λ (b : Bool). b && all_to n (out_at n recs slots))
    (all_to-and n (λ x. legal_at n recs x && empty_at n recs slots x && words_at n recs slots x) (head_at n recs)
    ∙ ap (λ (b : Bool). b && all_to n (head_at n recs))
    (all_to-and n (λ x. legal_at n recs x && empty_at n recs slots x) (words_at n recs slots)
    ∙ ap (λ (b : Bool). b && all_to n (words_at n recs slots)) (all_to-and n (legal_at n recs) (empty_at n recs slots))))))

-- ---- the small tests

module _ (n : ℕ) (recs : List ℕ) (w k v : ℕ) where
  pub slot-unused : w ≤ k → eqb v 0 ≡ slot_ok n recs w k v
  unfolding slot_ok is_nil
  slot-unused l = rw (le-leb w k l) refl

  -- what the sort of a word answers for a used slot
  unfoldable pub allowed : Word → Bool
  allowed Nil = true
  allowed (Object y) = in_use (rec_of n recs y)
  allowed Immediate = true
  allowed Illegal = false

  pub slot-sorted : n ≤ object_max → k < w → allowed (sort_of n v) ≡ slot_ok n recs w k v
  unfolding slot_ok names
  slot-sorted h l = rw (lt-leb w k l) (go (is_nil v) (is_pointer n v) (is_immediate v) refl refl refl)
    where
      go : (a b c : Bool) → is_nil v ≡ a → is_pointer n v ≡ b → is_immediate v ≡ c → allowed (sort_of n v) ≡ (a || c || (b && in_use (rec_of n recs v)))
      go true b c p q r = unfold allowed in (ap allowed (sort-nil n v h p))
      go false true true p q r = absurd (true≢false (sym r ∙ pointer-not-immediate n v h q))
      go false true false p q r = unfold allowed in (ap allowed (sort-pointer n v h q))
      go false false true p q r = unfold allowed in (ap allowed (sort-immediate n v h r))
      go false false false p q r = unfold allowed in (ap allowed (sort-illegal n v h (unfold legal_word in (rw (p, q, r) refl))))

  pub slot-end : n ≤ object_max → k < w → (s : Word) → s ≡ sort_of n v → allowed s ≡ slot_ok n recs w k v
  slot-end h l s e = ap allowed e ∙ slot-sorted h l

-- ---- the roots

-- an answer that says of a list what the test says of each word
module _ (t : ℕ → Bool) where
  pass : (w : ℕ) (l : List ℕ) → AllPass t (w ∷ l) → (t w ≡ true) × AllPass t l
  pass w l h = (All-head (λ x. t x ≡ true) w l h, All-tail (λ x. t x ≡ true) w l h)

  all_of-passed : (l : List ℕ) → AllPass t l → all_of t l ≡ true
  unfolding all_of
  all_of-passed [] h = refl
  all_of-passed (w ∷ l) h = let p = pass w l h in rw p.0 (all_of-passed l p.1)

  passed-all_of : (l : List ℕ) → all_of t l ≡ true → AllPass t l
  unfolding all_of
  passed-all_of [] h = All-nil (λ x. t x ≡ true)
  passed-all_of (w ∷ l) h = let p = and_split (t w) (all_of t l) h in All-cons (λ x. t x ≡ true) w l p.0 (passed-all_of l p.1)

  all-answered : (l : List ℕ) (b : Bool) → (IsTrue b ↔ AllPass t l) → b ≡ all_of t l
  all-answered l true h = sym (all_of-passed l (h.0 refl))
  all-answered l false h = sym (is_false (all_of t l) (λ e. true≢false (sym (h.1 (passed-all_of l e)))))

pub roots-answered : (n r : ℕ) (recs roots : List ℕ) (b : Bool) → (IsTrue b ↔ AllPass (λ w. eqb w 0 || in_use (rec_of n recs w)) (take r roots))
    → b ≡ roots_named n r recs roots
unfolding roots_named is_nil
roots-answered n r recs roots b h =
    all-answered _ (take r roots) b h
    ∙ ap (λ (t : ℕ → Bool). all_of t (take r roots)) (fun_ext {A = ℕ} {B = λ _. Bool} (λ v. ap (λ (b : Bool). eqb v 0 || b) (sym (names-used n recs v))))

-- ---- the ends of the whole check

module _ (n r : ℕ) (recs slots roots : List ℕ) (b : Bool) (f : b ≡ objects_ok n recs slots) where
  pub bad-objects : b ≡ false → b ≡ formed n r recs slots roots
  bad-objects g = g ∙ sym (formed-parts n r recs slots roots ∙ ap (λ (x : Bool). x && roots_named n r recs roots) (sym f ∙ g))

  pub by-roots : (d : Bool) → b ≡ true → d ≡ roots_named n r recs roots → d ≡ formed n r recs slots roots
  by-roots d t g = g ∙ sym (formed-parts n r recs slots roots ∙ ap (λ (x : Bool). x && roots_named n r recs roots) (sym f ∙ t))

module _ (c : Control) (recs slots roots list sets : List ℕ) where
  pub checked-is : c.n ≤ object_max → (h : Bool) → h ≡ short_heap c.n c.r recs slots roots list sets → h ≡ false
      → checked c recs slots roots list sets ≡ well_formed c recs slots roots list sets
  unfolding checked
  checked-is l h eh t = rw (le-leb c.n object_max l, sym eh ∙ t) refl

  -- n is a size, and no slice is too short
  abbrev pub sized : Bool
  sized = leb c.n object_max && not (short_heap c.n c.r recs slots roots list sets)

  pub in-size : (v : Bool) → v ≡ sized → v ≡ true → (c.n ≤ object_max) × (short_heap c.n c.r recs slots roots list sets ≡ false)
  in-size v e t =
      let p = and_split _ _ (sym e ∙ t) in
      (leb-true _ _ p.0, not-true _ p.1)

  -- what is known after each of the first tests: v of the sizes, w of the objects and roots besides, x of the list besides
  module _ (v w x : Bool) (ev : v ≡ sized) (ew : w ≡ (v && formed c.n c.r recs slots roots)) (ex : x ≡ (w && (leb c.n object_max && list_ok c.n recs list))) where
    tests : x ≡ ((sized && formed c.n c.r recs slots roots) && (leb c.n object_max && list_ok c.n recs list))
    tests = cc

    pub broken : x ≡ false → x ≡ checked c recs slots roots list sets
    unfolding checked well_formed
    broken e = e ∙ sym (go (leb c.n object_max) (not (short_heap c.n c.r recs slots roots list sets)) (formed c.n c.r recs slots roots) (list_ok c.n recs list) _ (sym tests ∙ e))
      where
        go : (a b f l s : Bool) → ((a && b) && f) && (a && l) ≡ false → a && b && (f && l && s) ≡ false
        go true true true true s e = absurd (true≢false e)
        go true true true false s e = refl
        go true true false l s e = refl
        go true false f l s e = refl
        go false b f l s e = refl

    module _ (e : x ≡ true) where
      passed : (sized ≡ true) × (formed c.n c.r recs slots roots ≡ true) × (list_ok c.n recs list ≡ true)
      passed =
          let p = and_split _ _ (sym tests ∙ e) in
          let q = and_split _ _ p.0 in
          (q.0, q.1, (and_split _ _ p.1).1)

      -- no number is in a list that is right twice
      once-listed : once (take sink_max list) ≡ true
      unfolding list_ok
      once-listed = (lists-facts c.n (λ y. is_sink (rec_of c.n recs y)) (take sink_max list) passed.2).single

      pub by-sets : (d : Bool) → d ≡ leb c.n object_max && (not (short c.n sets) && sets_ok c.n recs slots (last_places list) sets) → d ≡ checked c recs slots roots list sets
      unfolding well_formed
      by-sets d k =
          let s = in-size sized refl passed.0 in
          sets-exact c.n recs slots list sets d k s.0 (heap-long c.n c.r recs slots roots list sets s.1).sets-long once-listed
          ∙ sym (checked-is s.0 false (sym s.1) refl ∙ rw (passed.1, passed.2) refl)

-- ---- the tests of a call that walks the whole heap

module _ (c : Control) (recs slots roots list sets : List ℕ) (rest : Bool) where
  abbrev answer : ℕ
  answer = first (heap_tests c recs slots roots list sets rest)

  pub bad-control : bad_control c ≡ true → 20 ≡ answer
  unfolding heap_tests first
  bad-control b = rw b refl

  module _ (b : bad_control c ≡ false) (h : Bool) (eh : h ≡ short_heap c.n c.r recs slots roots list sets) where
    pub few_words : (h || rest) ≡ true → 2 ≡ answer
    unfolding heap_tests first
    few_words t = rw (b, ← eh, t) refl

    module _ (t : (h || rest) ≡ false) (f : Bool) (ef : f ≡ checked c recs slots roots list sets) where
      formed-is : well_formed c recs slots roots list sets ≡ f
      formed-is = sym (ef ∙ checked-is c recs slots roots list sets (control-facts c b).sizes.most h eh (or_split h rest t).0)

      pub is-sound : f ≡ true → 0 ≡ answer
      unfolding heap_tests first
      is-sound z = rw (b, ← eh, t, formed-is, z) refl

      pub is-damaged : f ≡ false → 21 ≡ answer
      unfolding heap_tests first
      is-damaged z = rw (b, ← eh, t, formed-is, z) refl

  -- what 0 says, where work is one of the slices besides
  pub accepted : answer ≡ 0 → (work : List ℕ) → (rest ≡ false → work_len c.n ≤ length work) → Accepted c recs slots roots list sets work × (rest ≡ false)
  unfolding heap_tests work_len
  accepted e work h =
      let p = first-passed 19 _ _ e in
      let q = first-passed 1 _ _ p.1 in
      let s = or_split _ _ q.0 in
      let l = heap-long c.n c.r recs slots roots list sets s.0 in (
        record {
          control = p.0;
          room = record { most = (control-facts c p.0).sizes.most; recs-long = l.recs-long; slots-long = l.slots-long };
          roots-long = l.roots-long;
          sinks-long = l.sinks-long;
          sets-long = l.sets-long;
          work-long = h s.1;
          formed = not-false _ (first-passed 20 _ _ q.1).0;
        },
        s.1,
      )

module _ (c : Control) (recs slots roots list sets work : List ℕ) (a : Accepted c recs slots roots list sets work) where
  pub accepted-sane : Sane c.n c.r recs slots roots
  accepted-sane = sane _ _ _ _ _ (formed-of c recs slots roots list sets a.formed)

  pub accepted-sized : Sized c.n recs slots work
  accepted-sized = record { room = a.room; work-long = a.work-long; widths = sane-width accepted-sane }

  -- the list and the sets are right
  pub accepted-sinks : Sinks c.n recs slots list sets
  accepted-sinks = sinks-of c recs slots roots list sets a.formed

  -- no number is in the list twice
  pub accepted-once : once (take sink_max list) ≡ true
  accepted-once = accepted-sinks.listed.single

  -- the part of the work words that is lent
  pub accepted-part : (k : ℕ) → k ≡ work_len c.n → Accepted c recs slots roots list sets (mid_of 0 (k - 0) work)
  unfolding work_len
  accepted-part k e =
      record {
        control = a.control;
        room = a.room;
        roots-long = a.roots-long;
        sinks-long = a.sinks-long;
        sets-long = a.sets-long;
        work-long = omega (arith, mid_len 0 k work (omega (arith, a.work-long)));
        formed = a.formed;
      }
