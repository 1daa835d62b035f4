-- What write answers and leaves at each of its ends. Assumes nothing.
use Prim.Native.Nat.{ℕ, ◌+◌, ◌-◌, ◌*◌, ◌^◌, ◌≤◌, ◌<◌}
use mathlib.Core.Path.{◌≡◌, refl, sym, ap, ap₂, ◌∙◌, subst}
use mathlib.Core.Bool.{Bool, true, false, not, cond, ◌||◌, or_assoc}
use mathlib.Core.List.{List, [], ◌∷◌, ◌++◌}
use mathlib.Core.Logic.{◌≢◌}
use native.Mathlib.Decide.{ℕ_discrete}
use native.Mathlib.Omega.{arith}
use lib.Dec.{leb, ltb, eqb, lit<}
use lib.ListN.{length, get_or, set, length-set}
use lib.Seq.{set-set, get_or-set_same, get_or-set_other}
use borrow.Author.Tests.{le-leb, lt-leb, leb-false, lt-ltb, le-ltb, eqb-true, eqb-false, eq-eqb, ne_eqb, not-true, not-false}
use Rattle.layout.specs.declared.answers.Control.{Control}
use Rattle.layout.specs.declared.words.Word.{Word}
use Rattle.layout.specs.declared.words.Word.TheVariants.{Nil, Object, Immediate, Illegal}
use Rattle.layout.specs.Limits.{object_max, width_max, sink_max, slots_len}
use Rattle.records.specs.Record.{width, cluster, free, legal, damaged, is_out, with_out, with_written, loose}
use Rattle.layout.specs.Word.{is_nil, is_pointer, legal_word, sort_of}
use Rattle.layout.specs.ControlRecord.{bad_control, with_write_loss}
use Rattle.std.specs.Prelude.{Result, Ok, Err}
use Rattle.layout.specs.declared.refusals.Refusal.{Refusal}
use Rattle.layout.specs.declared.refusals.Refusal.TheVariants.{LossFull}
use Rattle.layout.specs.Refusal.{Test, number, refusal_of, first}
use Rattle.layout.proofs.LimitLaws.{within-true, below-within, above_within}
use Rattle.layout.proofs.ControlLaws.{control-facts}
use Rattle.layout.proofs.WordLaws.{Says, sort-says, pointer-legal, immediate-bounds}
use Rattle.layout.proofs.RefusalLaws.{numbered, Numbered, nil, cons, first-passed, first-front, first-skip, first-zero, first_holds, first-fails, outcome-zero, outcome-number}
use Rattle.graph.specs.Numbers.{has}
use Rattle.graph.specs.Heap.{Heap}
use Rattle.graph.specs.Writes.{dissolves, stored, store_by, store, loss_by, loss_of}
use Rattle.graph.specs.Clusters.{size, out_bit}
use Rattle.layout.proofs.FieldLaws.{flag-put-other, flag-stays}
use Rattle.graph.proofs.OutLaws.{out_bit-none}
use Rattle.graph.proofs.NumberLaws.{count-le, has-at, has-none}
use Rattle.rules.specs.Buffers.{short, rec_of, used_words, each_record}
use Rattle.rules.specs.View.{target, view, heap_in, set_word, exact_out, encoded}
use Rattle.rules.specs.Write as Write
use Rattle.rules.proofs.BufferLaws.{rec_of-get, used-get, used-long}
use Rattle.rules.proofs.StoreLaws.{rec_of-set-same, rec_of-set-alike, store-staying, store-dissolving, exact-stored, dissolved-empty, stored-set, dissolves-words}
use Rattle.records.proofs.RecordLaws.{Legal, width-put-flag, cluster-put-flag}
use Rattle.table.specs.Named.{named_tests}
use Rattle.table.specs.Clusters.{cluster_of, members_of, dissolved_record, dissolved}
use Rattle.writes.specs.Writes.{word_tests, others_of, front_tests, Slot, with_set, sets_by, Attempted, refuses, passes, stores, Settled, keeps, overflows, breaks}
use Rattle.table.proofs.NamedLaws.{Named, named, named-rest}

-- ---- the tests of the word

module _ (n w : ℕ) (recs : List ℕ) (h : n ≤ object_max) where
  says : (s : Word) → s ≡ sort_of n w → Says n w s
  says s e = subst (Says n w) (sym e) (sort-says n w h)

  pub word-nil : Nil ≡ sort_of n w → 0 ≡ first (word_tests n w recs)
  unfolding word_tests first legal_word Says is_pointer is_nil
  word-nil e =
      let z : w ≡ 0 = eqb-true w 0 (says Nil e) in
      rw (says Nil e, below-within 1 n w (omega arith)) refl

  pub word-immediate : Immediate ≡ sort_of n w → 0 ≡ first (word_tests n w recs)
  unfolding word_tests first legal_word Says is_pointer
  word-immediate e =
      let z = (immediate-bounds w (says Immediate e)).0 in
      rw (says Immediate e, above_within 1 n w (omega arith)) (go (is_nil w))
    where
      go : (b : Bool) → ◌≡◌ {A = ℕ} 0 (cond (not (b || false || true)) 6 (cond false 23 0))
      go true = refl
      go false = refl

  pub word-illegal : Illegal ≡ sort_of n w → 6 ≡ first (word_tests n w recs)
  unfolding word_tests first Says
  word-illegal e = rw (says Illegal e) refl

  module _ (x : ℕ) (e : Object x ≡ sort_of n w) where
    bounds : (1 ≤ x) × (x ≤ n)
    unfolding Says is_pointer
    bounds =
        let p = says (Object x) e in
        let q = within-true 1 n w p.1 in
        (omega (arith, p.0, q.0), omega (arith, p.0, q.1))

    pub object-low : 1 ≤ x
    object-low = bounds.0

    pub object-there : n ≤ length recs → x - 1 < length recs
    object-there l = omega (arith, bounds, l)

    module _ (b : Bool) (g : b ≡ legal n (get_or recs (x - 1) 0)) where
      at : b ≡ legal n (rec_of n recs w)
      unfolding Says
      at = g ∙ ap (legal n) (sym (rec_of-get n recs x bounds.0 bounds.1) ∙ ap (rec_of n recs) (says (Object x) e).0)

      pub word-object : b ≡ true → 0 ≡ first (word_tests n w recs)
      unfolding word_tests first Says
      word-object t = let p = (says (Object x) e).1 in rw (pointer-legal n w h p, p, ← at, t) refl

      pub word_none : b ≡ false → 23 ≡ first (word_tests n w recs)
      unfolding word_tests first Says
      word_none t = let p = (says (Object x) e).1 in rw (pointer-legal n w h p, p, ← at, t) refl

-- ---- all tests but the last

module _ (c : Control) (i k w : ℕ) (recs slots : List ℕ) (o : ℕ) where
  abbrev rest : List Test
  rest = (5, leb (width (rec_of c.n recs i)) k) ∷ word_tests c.n w recs

  pub front-object : (m : ℕ) → m ≡ first (named_tests c i recs slots o) → m ≢ 0 → m ≡ first (front_tests c i k w recs slots o)
  unfolding front_tests
  front-object m e d = e ∙ sym (first-front (named_tests c i recs slots o) rest (λ z. d (e ∙ z)))

  module _ (e : 0 ≡ first (named_tests c i recs slots o)) where
    pub object-named : Named c i recs slots
    object-named = named c i recs slots o (sym e)

    module _ (u : ℕ) (f : u ≡ width (get_or recs (i - 1) 0)) where
      follows : first (front_tests c i k w recs slots o) ≡ first rest
      unfolding front_tests
      follows = named-rest c i recs slots o rest (sym e)

      width_is : width (rec_of c.n recs i) ≡ u
      width_is = ap width object-named.rec-at ∙ sym f

      pub front-slot : u ≤ k → 5 ≡ first (front_tests c i k w recs slots o)
      front-slot l = sym (follows ∙ first_holds 5 (word_tests c.n w recs) _ (rw width_is (le-leb u k l)))

      pub front-word : k < u → (v : ℕ) → v ≡ first (word_tests c.n w recs) → v ≡ first (front_tests c i k w recs slots o)
      front-word l v q = q ∙ sym (follows ∙ first-fails 5 (word_tests c.n w recs) _ (rw width_is (lt-leb u k l)))

  module _ (e : 0 ≡ first (front_tests c i k w recs slots o)) where
    abbrev front : List Test
    front = named_tests c i recs slots o

    object-passed : first (front ++ rest) ≡ 0
    unfolding front_tests
    object-passed = sym e

    shown : first front ≡ 0
    shown = go (ℕ_discrete (first front) 0)
      where
        go : Dec (first front ≡ 0) → first front ≡ 0
        go (yes e) = e
        go (no d) = absurd (d (sym (first-front front rest d) ∙ object-passed))

    pub passed-named : Named c i recs slots
    passed-named = named c i recs slots o shown

    pub slot-there : Slot c.n i k recs slots
    slot-there =
        let N = passed-named in
        record {
          room = record { most = N.sound.sizes.most; recs-long = N.recs-long; slots-long = N.slots-long };
          low = N.low;
          high = N.high;
          used = leb-false _ _ (first-passed 4 _ _ (sym (named-rest c i recs slots o rest shown) ∙ object-passed)).0;
          narrow = N.legal.narrow;
        }

    pub losses : (c.n ≤ object_max) × (c.write_loss ≤ c.n)
    losses = let N = passed-named in (N.sound.sizes.most, N.sound.writes)

-- for the search, where a test of the object refuses
pub ruleset fronts = (front-object)

-- where there is an object, no room for any other than n is too little room in one of the two slices
others-short : (n : ℕ) (list sets : List ℕ) → 1 ≤ n → ltb (others_of list sets) n ≡ short sink_max list || short n sets
unfolding others_of short
others-short n list sets h = go (ltb (length list) sink_max)
  where
    go : (b : Bool) → ltb (cond b 0 (length sets)) n ≡ b || ltb (length sets) n
    go true = lt-ltb 0 n h
    go false = refl

-- the same tests with each slice by itself, as the rules have them
module _ (c : Control) (i k w : ℕ) (recs slots list sets : List ℕ) where
  abbrev object-tests : List Test
  object-tests =
      (4, not (is_pointer c.n i)) ∷ (21, damaged c.n (rec_of c.n recs i)) ∷ (22, free (rec_of c.n recs i))
      ∷ (5, leb (width (rec_of c.n recs i)) k) ∷ word_tests c.n w recs

  abbrev spelled : List Test
  spelled = (20, bad_control c) ∷ (2, short c.n recs || short (slots_len c.n) slots || short sink_max list || short c.n sets) ∷ object-tests

  front-spelled : first spelled ≡ first (front_tests c i k w recs slots (others_of list sets))
  unfolding front_tests named_tests
  front-spelled = go (bad_control c) refl
    where
      x : Bool
      x = short c.n recs || short (slots_len c.n) slots

      go : (b : Bool) → bad_control c ≡ b → first spelled ≡ first (front_tests c i k w recs slots (others_of list sets))
      go true e = first_holds 20 _ _ e ∙ sym (first_holds 20 _ _ e)
      go false e =
          ap (λ (b : Bool). first ((20, bad_control c) ∷ (2, b) ∷ object-tests))
          (or_assoc x (short sink_max list) (short c.n sets)
          ∙ ap (λ (b : Bool). x || b) (sym (others-short c.n list sets (control-facts c e).sizes.some)))

-- the loss fits a word
pub loss-low : (n m : ℕ) (recs : List ℕ) (d l : ℕ) → n ≤ object_max → l ≤ n → m ≡ members_of n recs d → l + m < 2 ^ 32
unfolding members_of size
loss-low n m recs d l a b e = let c = count-le n (λ x. eqb (cluster_of n recs x) d) in omega arith

pub loss-is : (n i : ℕ) (recs : List ℕ) (r d m l : ℕ) → r ≡ rec_of n recs i → d ≡ cluster r → m ≡ members_of n recs d → l + m ≡ l + members_of n recs (cluster_of n recs i)
loss-is n i recs r d m l e f g = ap (λ (x : ℕ). l + x) (g ∙ ap (members_of n recs) (f ∙ ap cluster e))

-- ---- the slot's place

module _ (n i k : ℕ) (recs slots : List ℕ) (s : Slot n i k recs slots) (at : ℕ) (e : at ≡ slots_len (i - 1)) where
  pub place-low : at + k < width_max * object_max
  unfolding slots_len
  place-low =
      let a = s.room.most in
      let b = s.low in
      let d = s.high in
      let f = s.used in
      let g = s.narrow in
      omega arith

  pub place-there : at + k < length slots
  unfolding slots_len
  place-there =
      let a = s.room.slots-long in
      let b = s.low in
      let d = s.high in
      let f = s.used in
      let g = s.narrow in
      omega arith

-- ---- whether the write dissolves

module _ (n i k : ℕ) (recs slots : List ℕ) (s : Slot n i k recs slots) where
  -- any other used slot is there too
  pub other-slot : (q u r : ℕ) → q < u → u ≡ width r → r ≡ rec_of n recs i → Slot n i q recs slots
  other-slot q u r p e f = record {
    room = s.room;
    low = s.low;
    high = s.high;
    used = rw (← f, ← e) p;
    narrow = s.narrow;
  }

  -- its words after the store: what each slot holds, and whether one of them is x
  module _ (w u r : ℕ) (e : u ≡ width r) (f : r ≡ rec_of n recs i) where
    abbrev words : List ℕ
    words = used_words n recs slots i

    as_many : length (set words k w) ≡ u
    as_many = length-set words k w ∙ used-long n recs slots i s.low s.narrow s.high s.room.slots-long ∙ sym (e ∙ ap width f)

    pub after-at : (q : ℕ) → q < u → (at : ℕ) → at ≡ slots_len (i - 1) → (v : ℕ) → v ≡ cond (eqb q k) w (get_or slots (at + q) 0) → v ≡ get_or (set words k w) q 0
    unfolding slots_len
    after-at q p at a v g = g ∙ go (ℕ_discrete q k)
      where
        go : Dec (q ≡ k) → cond (eqb q k) w (get_or slots (at + q) 0) ≡ get_or (set words k w) q 0
        go (yes h) = rw (h, eq-eqb k k refl) (sym (get_or-set_same words k w 0 (let z = as_many in let y = length-set words k w in omega arith)))
        go (no h) =
            rw (ne_eqb q k h, a) (sym (used-get n recs slots i s.low s.narrow q (rw (← f, ← e) p)) ∙ sym (get_or-set_other words k q w 0 h))

    -- one more word that is not x
    pub not_yet : (x q v : ℕ) → v ≡ get_or (set words k w) q 0 → v ≢ x → ((p : ℕ) → p < q → get_or (set words k w) p 0 ≢ x)
        → (p : ℕ) → p < q + 1 → get_or (set words k w) p 0 ≢ x
    not_yet x q v g d h p l = go (ℕ_discrete p q)
      where
        go : Dec (p ≡ q) → get_or (set words k w) p 0 ≢ x
        go (yes j) = λ z. d (g ∙ ap (λ (y : ℕ). get_or (set words k w) y 0) (sym j) ∙ z)
        go (no j) = h p (omega (arith, j))

    pub still-there : (x q : ℕ) → q < u → get_or (set words k w) q 0 ≡ x → true ≡ has x (set words k w)
    still-there x q p h = sym (has-at x (set words k w) q (rw as_many p) h)

    pub not_there : (x q : ℕ) → u ≤ q → ((p : ℕ) → p < q → get_or (set words k w) p 0 ≢ x) → false ≡ has x (set words k w)
    not_there x q p h = sym (has-none x (set words k w) (λ j l. h j (let z = as_many in omega arith)))

  module _ (w r d : ℕ) (e : r ≡ rec_of n recs i) (f : d ≡ cluster r) where
    abbrev rule : Bool
    rule = dissolves (view n recs slots) i k (target n w)

    -- the object's cluster
    own : cluster (rec_of n recs i) ≡ d
    own = sym (f ∙ ap cluster e)

    pub dissolves-none : d ≡ 0 → false ≡ rule
    dissolves-none z = sym (dissolves-words n recs slots i k w ∙ rw (own, z) refl)

    -- the old word and its cluster
    module _ (h : d ≢ 0) (at : ℕ) (a : at ≡ slots_len (i - 1)) (q m : ℕ) (g : q ≡ rec_of n recs (get_or slots (at + k) 0)) (j : m ≡ cluster q) where
      same_old : get_or slots (at + k) 0 ≡ get_or (used_words n recs slots i) k 0
      unfolding slots_len
      same_old = ap (λ (p : ℕ). get_or slots (p + k) 0) a ∙ sym (used-get n recs slots i s.low s.narrow k s.used)

      in-old : cluster (rec_of n recs (get_or (used_words n recs slots i) k 0)) ≡ m
      in-old = sym (j ∙ ap cluster (g ∙ ap (rec_of n recs) same_old))

      pub dissolves-outside : m ≢ d → false ≡ rule
      dissolves-outside o = sym (dissolves-words n recs slots i k w ∙ rw (own, in-old, ne_eqb d 0 h, ne_eqb m d o) refl)

      pub dissolves-inside : m ≡ d → (b : Bool) → b ≡ has (get_or slots (at + k) 0) (set (used_words n recs slots i) k w) → not b ≡ rule
      dissolves-inside o b t =
          sym (dissolves-words n recs slots i k w
          ∙ rw (own, in-old, o, ne_eqb d 0 h, eq-eqb d d refl, ← same_old, ← t) refl)

-- ---- the stores

pub written-set : (n i k : ℕ) (recs slots : List ℕ) → Slot n i k recs slots → (v : ℕ) → v ≡ with_written true (get_or recs (i - 1) 0)
    → set recs (i - 1) v ≡ set recs (i - 1) (with_written true (rec_of n recs i))
written-set n i k recs slots s v e = ap (set recs (i - 1)) (e ∙ ap (with_written true) (sym (rec_of-get n recs i s.low s.high)))

pub word-stored : (i k w : ℕ) (slots : List ℕ) (at : ℕ) → at ≡ slots_len (i - 1) → set slots (at + k) w ≡ set slots (8 * (i - 1) + k) w
unfolding slots_len
word-stored i k w slots _ e = ap (λ (p : ℕ). set slots (p + k) w) e

module _ (n i k w : ℕ) (recs slots : List ℕ) (s : Slot n i k recs slots) where
  abbrev new : List ℕ
  new = set recs (i - 1) (with_written true (rec_of n recs i))

  abbrev changed : List ℕ
  changed = set slots (8 * (i - 1) + k) w

  -- out made exact in the record that the store left
  pub stays : (rs ss : List ℕ) → rs ≡ new → ss ≡ changed → (o : Bool) → o ≡ exact_out (view n rs ss) i → (v : ℕ) → v ≡ with_out o (get_or rs (i - 1) 0)
      → set rs (i - 1) v ≡ encoded (store_by false (view n recs slots) i k (target n w)) recs
  stays rs ss a b o e v f =
      let y : o ≡ out_bit _ _ _ i = e ∙ ap₂ (λ (x y : List ℕ). exact_out (view n x y) i) a b ∙ exact-stored n recs slots i k s.low s.used s.narrow w s.high s.room.recs-long in
      let g : get_or rs (i - 1) 0 ≡ with_written true (rec_of n recs i)
      = ap (λ (l : List ℕ). get_or l (i - 1) 0) a ∙ sym (rec_of-get n new i s.low s.high) ∙ rec_of-set-same n recs i _ s.low s.high s.room.recs-long in
      ap₂ (λ (l : List ℕ) (x : ℕ). set l (i - 1) x) a (f ∙ ap₂ with_out y g)
      ∙ set-set recs (i - 1) _ _
      ∙ sym (store-staying n recs slots i k (target n w) s.low s.high s.room.recs-long)

  -- a legal record in no cluster: its out bit is clear already, and the store alone is all
  pub stays-loose : Legal n (rec_of n recs i) → cluster (rec_of n recs i) ≡ 0 → new ≡ encoded (store_by false (view n recs slots) i k (target n w)) recs
  unfolding view
  stays-loose L z =
      let r = rec_of n recs i in
      let a : is_out (with_written true r) ≡ false = flag-put-other 1 true r 3 (eqb-false 1 3 refl) ∙ clear (is_out r) refl in
      sym (store-staying n recs slots i k (target n w) s.low s.high s.room.recs-long
      ∙ ap (λ (o : Bool). set recs (i - 1) (with_out o (with_written true r))) (out_bit-none _ _ _ i z)
      ∙ ap (set recs (i - 1)) (flag-stays 3 false (with_written true r) a))
    where
      clear : (b : Bool) → is_out (rec_of n recs i) ≡ b → is_out (rec_of n recs i) ≡ false
      clear true e = absurd (L.outless e z)
      clear false e = e

  -- the members made loose after the store
  pub gone : (r d : ℕ) → r ≡ rec_of n recs i → d ≡ cluster r → (rs ts : List ℕ) → rs ≡ new → ts ≡ dissolved n d rs
      → ts ≡ encoded (store_by true (view n recs slots) i k (target n w)) recs
  unfolding dissolved dissolved_record
  gone r d e f rs ts a b =
      b ∙ ap₂ (λ (x : ℕ) (l : List ℕ). each_record n (λ y q. cond (eqb (cluster q) x) (loose q) q) l) (f ∙ ap cluster e) a
      ∙ sym (store-dissolving n recs slots i k (target n w) s.low s.high s.room.recs-long)

  -- ---- the sets

  -- the set at the object's head, made exact after a store that leaves the clusters
  pub set-stays : (list sets : List ℕ) (rs ss ts : List ℕ) → rs ≡ encoded (store_by false (view n recs slots) i k (target n w)) recs → ss ≡ changed
      → ts ≡ with_set (heap_in n rs ss list) (cluster_of n rs i) sets → ts ≡ sets_by false n i k w recs slots list sets
  unfolding sets_by with_set
  set-stays list sets rs ss ts a b e =
      let v : ℕ = with_out (out_bit (stored (view n recs slots) i k (target n w)) (view n recs slots).sink (view n recs slots).cluster i) (with_written true (rec_of n recs i)) in
      let r : rs ≡ set recs (i - 1) v = a ∙ store-staying n recs slots i k (target n w) s.low s.high s.room.recs-long in
      let f : cluster v ≡ cluster (rec_of n recs i) = cluster-put-flag 3 _ (with_written true (rec_of n recs i)) refl ∙ cluster-put-flag 1 true (rec_of n recs i) refl in
      let g : width v ≡ width (rec_of n recs i) = width-put-flag 3 _ (with_written true (rec_of n recs i)) refl ∙ width-put-flag 1 true (rec_of n recs i) refl in
      let h : cluster_of n rs i ≡ cluster_of n recs i = ap (λ (l : List ℕ). cluster_of n l i) r ∙ rec_of-set-alike n recs i v s.low s.high s.room.recs-long cluster f i in
      e
      ∙ ap₂ (λ (x : ℕ) (y : ℕ). cond (eqb x 0) sets (set sets (x - 1) y)) h
      (ap (set_word (heap_in n rs ss list)) h
      ∙ ap₂ (λ (x y : List ℕ). set_word (heap_in n x y list) (cluster_of n recs i)) r b
      ∙ stored-set n recs slots list i k v w s.low s.high s.room.recs-long s.used s.narrow g f (cluster_of n recs i))

  -- the set of a cluster that is dissolved, emptied
  pub set-gone : (r d : ℕ) → r ≡ rec_of n recs i → d ≡ cluster r → (list sets ts : List ℕ) → ts ≡ cond (eqb d 0) sets (set sets (d - 1) 0)
      → ts ≡ sets_by true n i k w recs slots list sets
  unfolding sets_by with_set
  set-gone r d e f list sets ts g = g ∙ ap (λ (x : ℕ). cond (eqb x 0) sets (set sets (x - 1) 0)) own ∙ go (ℕ_discrete (cluster_of n recs i) 0)
    where
      own : d ≡ cluster_of n recs i
      own = f ∙ ap cluster e

      go : Dec (cluster_of n recs i ≡ 0) → cond (eqb (cluster_of n recs i) 0) sets (set sets (cluster_of n recs i - 1) 0)
          ≡ cond (eqb (cluster_of n recs i) 0) sets (set sets (cluster_of n recs i - 1) (set_word (store_by true (heap_in n recs slots list) i k (target n w)) (cluster_of n recs i)))
      go (yes z) = rw (eq-eqb (cluster_of n recs i) 0 z) refl
      go (no z) = ap (λ (x : ℕ). cond (eqb (cluster_of n recs i) 0) sets (set sets (cluster_of n recs i - 1) x)) (sym (unfold view in (dissolved-empty (heap_in n recs slots list) i k (target n w) z)))

-- the set at the object's head, from its cluster
module _ (n i : ℕ) (recs : List ℕ) (H : Heap) (sets : List ℕ) (r d : ℕ) (e : r ≡ rec_of n recs i) (f : d ≡ cluster r) where
  pub set-none : d ≡ 0 → sets ≡ with_set H (cluster_of n recs i) sets
  unfolding with_set
  set-none z = rw (← e, ← f, eq-eqb d 0 z) refl

  pub set-made : n ≤ object_max → (v : ℕ) → v ≡ cond (leb n object_max) (set_word H d) 0 → (ts : List ℕ) → ts ≡ cond (eqb d 0) sets (set sets (d - 1) v)
      → ts ≡ with_set H (cluster_of n recs i) sets
  unfolding with_set
  set-made l v g ts h =
      let o : v ≡ set_word H d = g ∙ rw (le-leb n object_max l) refl in
      h ∙ ap (λ (x : ℕ). cond (eqb d 0) sets (set sets (d - 1) x)) o ∙ ap (λ (x : ℕ). cond (eqb x 0) sets (set sets (x - 1) (set_word H x))) (f ∙ ap cluster e)

-- ---- the rule with the list of sinks, of which only the sets depend

module _ (n : ℕ) (recs slots list : List ℕ) (i k t : ℕ) where
  dissolves-listed : dissolves (heap_in n recs slots list) i k t ≡ dissolves (view n recs slots) i k t
  unfolding dissolves
  dissolves-listed = refl

  loss-listed : (d : Bool) → loss_by d (heap_in n recs slots list) i ≡ loss_by d (view n recs slots) i
  unfolding loss_by
  loss-listed true = refl
  loss-listed false = refl

  encoded-listed : (d : Bool) → encoded (store_by d (view n recs slots) i k t) recs ≡ encoded (store_by d (heap_in n recs slots list) i k t) recs
  unfolding encoded store_by stored
  encoded-listed true = refl
  encoded-listed false = refl

-- ---- the ends of the call

module _ (c : Control) (i k w : ℕ) (recs slots list sets : List ℕ) where
  abbrev last-test : List Test
  last-test = (25, ltb c.n (Write.loss_after c i k w recs slots list sets)) ∷ []

  abbrev tests : List Test
  tests = spelled c i k w recs slots list sets

  tests-parts : Write.write_tests c i k w recs slots list sets ≡ tests ++ last-test
  unfolding Write.write_tests word_tests
  tests-parts = refl

  above-zero : Numbered tests
  unfolding word_tests
  above-zero = cons (lit< tt) (cons (lit< tt) (cons (lit< tt) (cons (lit< tt) (cons (lit< tt) (cons (lit< tt) (cons (lit< tt) (cons (lit< tt) nil)))))))

  pub refused : (m : ℕ) → m ≡ first (front_tests c i k w recs slots (others_of list sets)) → m ≢ 0
      → Write.gives (record { refusal = m; control = c }) recs slots sets ≡ Write.write c i k w recs slots list sets
  unfolding Write.write
  refused m e d =
      let f : m ≡ first tests = e ∙ sym (front-spelled c i k w recs slots list sets) in
      sym (outcome-number _ _ (Write.write_tests c i k w recs slots list sets) m
      (ap first tests-parts ∙ first-front tests last-test (λ z. d (f ∙ z)) ∙ sym f) d)

  module _ (e : 0 ≡ first (front_tests c i k w recs slots (others_of list sets))) where
    only-last : first (Write.write_tests c i k w recs slots list sets) ≡ first last-test
    only-last =
        ap first tests-parts
        ∙ first-skip tests last-test (first-zero tests above-zero (front-spelled c i k w recs slots list sets ∙ sym e))

    module _ (b : Bool) (f : dissolves (view c.n recs slots) i k (target c.n w) ≡ b) where
      listed-rule : dissolves (heap_in c.n recs slots list) i k (target c.n w) ≡ b
      listed-rule = dissolves-listed c.n recs slots list i k (target c.n w) ∙ f

      loss-by : Write.loss_after c i k w recs slots list sets ≡ c.write_loss + loss_by b (view c.n recs slots) i
      unfolding Write.loss_after loss_of
      loss-by = rw listed-rule (ap (λ (x : ℕ). c.write_loss + x) (loss-listed c.n recs slots list i k (target c.n w) b))

      records-by : encoded (store_by b (view c.n recs slots) i k (target c.n w)) recs ≡ encoded (Write.after c i k w recs slots list sets) recs
      unfolding store
      records-by = rw listed-rule (encoded-listed c.n recs slots list i k (target c.n w) b)

      sets-by : sets_by b c.n i k w recs slots list sets ≡ Write.sets_after c i k w recs slots list sets
      unfolding Write.sets_after sets_by with_set store view
      sets-by =
          ap (λ (d : Bool). with_set (store_by d (heap_in c.n recs slots list) i k (target c.n w)) (cluster_of c.n recs i) sets) (sym listed-rule)

      done : Write.loss_after c i k w recs slots list sets ≤ c.n → (d : Control) → d ≡ with_write_loss (Write.loss_after c i k w recs slots list sets) c → (rs ss ts : List ℕ)
          → rs ≡ encoded (store_by b (view c.n recs slots) i k (target c.n w)) recs → ss ≡ set slots (8 * (i - 1) + k) w
          → ts ≡ sets_by b c.n i k w recs slots list sets
          → Write.gives (record { refusal = 0; control = d }) rs ss ts ≡ Write.write c i k w recs slots list sets
      unfolding Write.write first
      done h d q rs ss ts x y u =
          let v = x ∙ records-by in
          let o = u ∙ sets-by in
          (λ j. Write.gives (record { refusal = 0; control = q j }) (v j) (y j) (o j))
          ∙ sym (outcome-zero _ _ (Write.write_tests c i k w recs slots list sets) (only-last ∙ first-fails 25 [] _ (le-ltb _ _ h)))

    pub stayed : (b : Bool) → b ≡ dissolves (view c.n recs slots) i k (target c.n w) → not b ≡ true → (rs ss ts : List ℕ)
        → rs ≡ encoded (store_by false (view c.n recs slots) i k (target c.n w)) recs → ss ≡ set slots (8 * (i - 1) + k) w
        → ts ≡ sets_by false c.n i k w recs slots list sets
        → Write.gives (record { refusal = 0; control = c }) rs ss ts ≡ Write.write c i k w recs slots list sets
    unfolding loss_by with_write_loss
    stayed b f t rs ss ts x y u =
        let g = sym f ∙ not-true b t in
        let l : Write.loss_after c i k w recs slots list sets ≡ c.write_loss + 0 = loss-by false g in
        let h = (losses c i k w recs slots (others_of list sets) e).1 in
        let same : c.write_loss ≡ Write.loss_after c i k w recs slots list sets = omega arith in
        done false g (omega arith) c (ap (λ (q : ℕ). with_write_loss q c) same) rs ss ts x y u

    module _ (b : Bool) (f : b ≡ dissolves (view c.n recs slots) i k (target c.n w)) (t : not b ≡ false)
        (l : ℕ) (g : l ≡ c.write_loss + members_of c.n recs (cluster_of c.n recs i)) where
      dissolving : dissolves (view c.n recs slots) i k (target c.n w) ≡ true
      dissolving = sym f ∙ not-false b t

      grown : Write.loss_after c i k w recs slots list sets ≡ l
      unfolding loss_by members_of view
      grown = loss-by true dissolving ∙ sym g

      pub too_many : c.n < l → Write.gives (record { refusal = 25; control = c }) recs slots sets ≡ Write.write c i k w recs slots list sets
      unfolding Write.write
      too_many h =
          sym (outcome-number _ _ (Write.write_tests c i k w recs slots list sets) 25
          (only-last ∙ first_holds 25 [] _ (rw grown (lt-ltb _ _ h))) (λ (q : 25 ≡ 0). omega arith))

      pub dissolved-all : l ≤ c.n → (d : Control) → d ≡ with_write_loss l c → (rs ss ts : List ℕ)
          → rs ≡ encoded (store_by true (view c.n recs slots) i k (target c.n w)) recs → ss ≡ set slots (8 * (i - 1) + k) w
          → ts ≡ sets_by true c.n i k w recs slots list sets
          → Write.gives (record { refusal = 0; control = d }) rs ss ts ≡ Write.write c i k w recs slots list sets
      dissolved-all h d q rs ss ts x y u = done true dissolving (rw grown h) d (q ∙ ap (λ (v : ℕ). with_write_loss v c) (sym grown)) rs ss ts x y u

-- ---- the attempt

-- the store to an object in the cluster that is asked for, after the tests
pub stored-in : (c : Control) (i k w : ℕ) (recs slots : List ℕ) (x : ℕ) → 0 ≡ first (front_tests c i k w recs slots x) → (o : ℕ) → o ≡ x
    → (r d : ℕ) → r ≡ rec_of c.n recs i → d ≡ cluster r → (a : ℕ) (rs ss : List ℕ) → Attempted c i k w recs slots o d a rs ss
    → (rs ≡ set recs (i - 1) (with_written true (rec_of c.n recs i))) × (ss ≡ set slots (8 * (i - 1) + k) w)
stored-in c i k w recs slots x e o g r d q h a rs ss (refuses f z _ _) = absurd (z (f ∙ ap (λ (y : ℕ). first (front_tests c i k w recs slots y)) g ∙ sym e))
stored-in c i k w recs slots x e o g r d q h a rs ss (passes _ z _ _ _) = absurd (z (sym (h ∙ ap cluster q)))
stored-in c i k w recs slots x e o g r d q h a rs ss (stores _ _ _ y z) = (y, z)

-- the attempt's ends, by the cluster of the record that is read
pub ends_refused : (c : Control) (i k w : ℕ) (recs slots : List ℕ) (o h : ℕ) (r : Refusal) → number r ≡ first (front_tests c i k w recs slots o)
    → (m : ℕ) → m ≡ number r → Attempted c i k w recs slots o h m recs slots
ends_refused c i k w recs slots o h r e m f = refuses (f ∙ e) (λ z. numbered r (sym f ∙ z)) refl refl

module _ (c : Control) (i k w : ℕ) (recs slots : List ℕ) (o : ℕ) (e : 0 ≡ first (front_tests c i k w recs slots o)) (h d : ℕ) (f : d ≡ cluster (get_or recs (i - 1) 0)) where
  own-cluster : cluster_of c.n recs i ≡ d
  own-cluster = ap cluster (passed-named c i k w recs slots o e).rec-at ∙ sym f

  pub ends-elsewhere : d ≢ h → Attempted c i k w recs slots o h 63 recs slots
  ends-elsewhere q = passes e (λ y. q (sym own-cluster ∙ y)) refl refl refl

  pub ends-stored : d ≡ h → (rs ss : List ℕ) → rs ≡ set recs (i - 1) (with_written true (rec_of c.n recs i)) → ss ≡ set slots (8 * (i - 1) + k) w
      → Attempted c i k w recs slots o h 0 rs ss
  ends-stored q rs ss = stores e (own-cluster ∙ q) refl

-- a refusal is below 63
low : (m : ℕ) (b : Bool) (l : List Test) → m < 63 → first l < 63 → first ((m, b) ∷ l) < 63
unfolding first
low m true l h r = h
low m false l h r = r

none-low : first [] < 63
unfolding first
none-low = lit< tt

front_low : (c : Control) (i k w : ℕ) (recs slots : List ℕ) (o : ℕ) → first (front_tests c i k w recs slots o) < 63
unfolding front_tests named_tests word_tests
front_low c i k w recs slots o =
    low 20 _ _ (lit< tt) (low 2 _ _ (lit< tt) (low 4 _ _ (lit< tt) (low 21 _ _ (lit< tt) (low 22 _ _ (lit< tt) (low 5 _ _ (lit< tt) (low 6 _ _ (lit< tt) (low 23 _ [] (lit< tt) none-low)))))))

-- one that stored nothing because the object is elsewhere
pub record Left (c : Control) (i k w : ℕ) (recs slots : List ℕ) (o : ℕ) (rs ss : List ℕ) : Type 0 where
  pub records-left : rs ≡ recs
  pub slots-left : ss ≡ slots
  pub passed : 0 ≡ first (front_tests c i k w recs slots o)

pub left : (c : Control) (i k w : ℕ) (recs slots : List ℕ) (o h a : ℕ) (rs ss : List ℕ) → Attempted c i k w recs slots o h a rs ss → a ≡ 63 → Left c i k w recs slots o rs ss
left c i k w recs slots o h a rs ss (refuses e _ _ _) q = let x = front_low c i k w recs slots o in absurd (omega arith)
left c i k w recs slots o h a rs ss (passes e _ _ x y) q = record { records-left = x; slots-left = y; passed = e }
left c i k w recs slots o h a rs ss (stores _ _ z _ _) q = absurd (omega arith)

-- ---- the store to a member

-- its ends
module _ (c : Control) (i k w : ℕ) (recs slots list sets : List ℕ) (b : Bool) (f : b ≡ dissolves (view c.n recs slots) i k (target c.n w)) where
  pub ends-kept : not b ≡ true → (rs ss ts : List ℕ) → rs ≡ encoded (store_by false (view c.n recs slots) i k (target c.n w)) recs
      → ss ≡ set slots (8 * (i - 1) + k) w → ts ≡ sets_by false c.n i k w recs slots list sets → Settled c i k w recs slots list sets (Ok tt) rs ss ts c
  ends-kept t rs ss ts p q r = keeps (sym (not-true b t) ∙ f) refl p q r refl

  module _ (t : not b ≡ false) (l : ℕ) (g : l ≡ c.write_loss + members_of c.n recs (cluster_of c.n recs i)) where
    pub ends-full : c.n < l → Settled c i k w recs slots list sets (Err LossFull) recs slots sets c
    ends-full h = overflows (sym (not-false b t) ∙ f) l g h refl refl refl refl refl

    pub ends-broken : l ≤ c.n → (rs ss ts : List ℕ) → rs ≡ encoded (store_by true (view c.n recs slots) i k (target c.n w)) recs
        → ss ≡ set slots (8 * (i - 1) + k) w → ts ≡ sets_by true c.n i k w recs slots list sets
        → (d : Control) → d ≡ with_write_loss l c → Settled c i k w recs slots list sets (Ok tt) rs ss ts d
    ends-broken h rs ss ts p q r d = breaks (sym (not-false b t) ∙ f) l g h refl p q r

-- ---- the answer

module _ (c : Control) (i k w : ℕ) (recs slots list sets : List ℕ) where
  abbrev others : ℕ
  others = others_of list sets

  abbrev outcome : Control → ℕ → List ℕ → List ℕ → List ℕ → Type 0
  outcome d a rs ss ts = Write.gives (record { refusal = a; control = d }) rs ss ts ≡ Write.write c i k w recs slots list sets

  -- an object in no cluster: the word is stored, and all else stays
  loose-stored : 0 ≡ first (front_tests c i k w recs slots others) → cluster_of c.n recs i ≡ 0 → (rs ss : List ℕ)
      → rs ≡ set recs (i - 1) (with_written true (rec_of c.n recs i)) → ss ≡ set slots (8 * (i - 1) + k) w → outcome c 0 rs ss sets
  unfolding sets_by
  loose-stored e q rs ss p y =
      let s = slot-there c i k w recs slots others e in
      let N = passed-named c i k w recs slots others e in
      stayed c i k w recs slots list sets e false (dissolves-none c.n i k recs slots s w _ _ refl refl q) refl rs ss sets
      (p ∙ stays-loose c.n i k w recs slots s N.legal q) y
      (set-none c.n i recs (store_by false (heap_in c.n recs slots list) i k (target c.n w)) sets _ _ refl refl q)

  module _ (o : ℕ) (g : o ≡ others) (a₁ : ℕ) (rs₁ ss₁ : List ℕ) (t : Attempted c i k w recs slots o 0 a₁ rs₁ ss₁) where
    -- an attempt that refused or stored
    pub answered : a₁ ≢ 63 → outcome c a₁ rs₁ ss₁ sets
    answered d = go (subst (λ (x : ℕ). Attempted c i k w recs slots x 0 a₁ rs₁ ss₁) g t)
      where
        go : Attempted c i k w recs slots others 0 a₁ rs₁ ss₁ → outcome c a₁ rs₁ ss₁ sets
        go (refuses e z p q) = (λ j. Write.gives (record { refusal = a₁; control = c }) (p j) (q j) sets) ∙ refused c i k w recs slots list sets a₁ e z
        go (passes _ _ z _ _) = absurd (d z)
        go (stores e q z x y) = ap (λ (n : ℕ). Write.gives (record { refusal = n; control = c }) rs₁ ss₁ sets) z ∙ loose-stored e q rs₁ ss₁ x y

    -- one that left a member to its own store
    module _ (z : a₁ ≡ 63) where
      L : Left c i k w recs slots others rs₁ ss₁
      L = left c i k w recs slots others 0 a₁ rs₁ ss₁ (subst (λ (x : ℕ). Attempted c i k w recs slots x 0 a₁ rs₁ ss₁) g t) z

      pub passed_on : 0 ≡ first (front_tests c i k w rs₁ ss₁ others)
      passed_on = L.passed ∙ ap₂ (λ (x y : List ℕ). first (front_tests c i k w x y others)) (sym L.records-left) (sym L.slots-left)

      -- and what that store answers
      pub settled : (a : Result Unit Refusal) (rs ss ts : List ℕ) (d : Control) → Settled c i k w rs₁ ss₁ list sets a rs ss ts d
          → (m : ℕ) → m ≡ refusal_of a → outcome d m rs ss ts
      settled a rs ss ts d u m e =
          go (subst (λ (x : List ℕ). Settled c i k w x slots list sets a rs ss ts d) L.records-left
          (subst (λ (y : List ℕ). Settled c i k w rs₁ y list sets a rs ss ts d) L.slots-left u))
        where
          go : Settled c i k w recs slots list sets a rs ss ts d → outcome d m rs ss ts
          go (keeps f z p q r y) =
              (λ j. Write.gives (record { refusal = (e ∙ sym z) j; control = y j }) rs ss ts) ∙ stayed c i k w recs slots list sets L.passed false f refl rs ss ts p q r
          go (overflows f l v o z p q r y) =
              (λ j. Write.gives (record { refusal = (e ∙ sym z) j; control = y j }) (p j) (q j) (r j)) ∙ too_many c i k w recs slots list sets L.passed true f refl l v o
          go (breaks f l v o z p q r y) =
              ap (λ (x : ℕ). Write.gives (record { refusal = x; control = d }) rs ss ts) (e ∙ sym z)
              ∙ dissolved-all c i k w recs slots list sets L.passed true f refl l v o d y rs ss ts p q r
