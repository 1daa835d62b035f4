-- Declare sink: the first empty place, what its tests answer at each end, and that its steps leave the records, the list and the sets of the rule.
-- Assumes nothing.
use Prim.Native.Nat.{ℕ, zero, suc, ◌+◌, ◌-◌, ◌≤◌, ◌<◌}
use mathlib.Core.Path.{◌≡◌, refl, sym, ap, ap₂, ◌∙◌, fun_ext}
use mathlib.Core.Bool.{Bool, true, false, not, cond, ◌&&◌, false≢true}
use mathlib.Core.Logic.{◌≢◌}
use mathlib.Core.List.{List, map, ◌++◌}
use native.Mathlib.Decide.{ℕ_discrete, dec_lt, dec_le}
use native.Mathlib.Omega.{arith}
use native.Mathlib.Numerals.{add-one}
use lib.Dec.{eqb, leb, ltb}
use lib.ListN.{length, get_or, take, drop, set, length-set, length-take}
use lib.Seq.{get_or-set_other, ext_get_or, get_or-take}
use borrow.Author.Tests.{eq-eqb, eqb-true, ne_eqb, lt-ltb, le-ltb, ltb-false, not-false}
use Rattle.layout.specs.Field.{put, put_flag, digit}
use Rattle.layout.specs.Limits.{object_max, sink_max, within}
use Rattle.records.specs.Record.{is_sink, is_written, width, cluster, free, loose, with_out, with_sink, with_cluster}
use Rattle.layout.specs.ControlRecord.{bad_control}
use Rattle.layout.specs.Refusal.{first}
use Rattle.layout.specs.Word.{is_pointer}
use Rattle.layout.specs.declared.answers.Control.{Control}
use Rattle.layout.proofs.ControlLaws.{control-facts}
use Rattle.layout.proofs.FieldLaws.{put_same, flag-put-same, flag-put-other, flag_same, flag-stays}
use Rattle.layout.proofs.LimitLaws.{within-true}
use Rattle.records.proofs.RecordLaws.{width-put-flag, cluster-put-flag, loose-cluster, loose-width, loose-flag, loose-out}
use Rattle.layout.proofs.RefusalLaws.{first-passed, outcome-zero, outcome-number}
use Rattle.graph.specs.Numbers.{Obj, upd, has}
use Rattle.graph.specs.Clusters.{keep, others, out_bit}
use Rattle.graph.specs.Writes.{placed, declare}
use Rattle.graph.proofs.NumberLaws.{has-at, has-none}
use Rattle.rules.specs.Buffers.{short_heap, rec_of, eight, used_words, each_from, each_record}
use Rattle.rules.specs.View.{target, view, heap_in, exact_sets, exact_out, encoded, encoded_record}
use Rattle.rules.specs.WellFormed.{once, well_formed, checked}
use Rattle.rules.specs.DeclareSink.{gives, declare_tests, declare_sink}
use Rattle.rules.proofs.ListLaws.{length-each, get-each, rec_of-above, rec_of-each}
use Rattle.rules.proofs.PassLaws.{pass_from, pass-begin, pass-turn, pass-end, pass-past, get-past}
use Rattle.rules.proofs.BufferLaws.{rec_of-get}
use Rattle.rules.proofs.WellFormedLaws.{exact_none, sinks-of}
use Rattle.rules.proofs.ListedLaws.{Lists}
use Rattle.places.specs.Places.{last_places}
use Rattle.places.proofs.LatestLaws.{fill-exact}
use Rattle.rules.proofs.PlacedLaws.{once-placed, take-placed, placed-set}
use Rattle.rules.proofs.SetLaws.{set_word-same, exact_same}
use Rattle.rules.proofs.StoreLaws.{rec_of-zero, rec_of-place, stored-alike, rec_of-set-same, rec_of-set-other}
use Rattle.table.specs.Clusters.{dissolved, dissolved_record}
use Rattle.table.proofs.RoomLaws.{heap-long}
use Rattle.wellformed.proofs.CheckLaws.{checked-is}
use Rattle.std.specs.Prelude.{Option, Some, None, ◌==◌, IsSome}
use Rattle.std.specs.List.{position_or_len}
use Rattle.std.proofs.lemmas.List.Quantifiers.{position-Some}
use Rattle.std.proofs.lemmas.List.Sums.{position_or_len_is, fails_before_first}
use Rattle.sinks.specs.Sinks.{made_exact, first_empty}

-- ---- the first empty place

-- a search that found nothing went to the end
none-past : (m n : ℕ) → ◌≡◌ {A = Option ℕ} (cond (ltb m n) (Some m) None) None → n ≤ m
none-past m n e = go (ltb m n) refl e
  where
    go : (b : Bool) → ltb m n ≡ b → ◌≡◌ {A = Option ℕ} (cond b (Some m) None) None → n ≤ m
    go false q z = ltb-false m n q
    go true q z = absurd (cc)

-- what is known of the place that the search found
pub record FirstEmpty (l : List ℕ) (k : ℕ) : Type 0 where
  pub inside : k < length l
  pub empty : get_or l k 0 ≡ 0
  pub filled : (j : ℕ) → j < k → get_or l j 0 ≢ 0

module _ (list : List ℕ) where
  pub found : (k : ℕ) → first_empty list ≡ Some k → FirstEmpty (take sink_max list) k
  found k e =
      let p = position-Some (λ y. y == 0) (take sink_max list) k 0 e in
      record {
        inside = p.0;
        empty = eqb-true _ 0 p.1;
        filled = λ j h z. false≢true (sym (p.2 j h) ∙ eq-eqb _ 0 z);
      }

  pub has-empty : (k : ℕ) → first_empty list ≡ Some k → has 0 (take sink_max list) ≡ true
  has-empty k e = let F = found k e in has-at 0 (take sink_max list) k F.inside F.empty

  -- where it found none, no place is empty
  pub no-empty : first_empty list ≡ None → has 0 (take sink_max list) ≡ false
  no-empty e =
      let all : length (take sink_max list) ≤ position_or_len (λ y. y == 0) (take sink_max list) = none-past _ _ e in
      has-none 0 (take sink_max list)
      (λ j h z. false≢true (sym (fails_before_first (λ y. y == 0) (take sink_max list) j 0 (omega (arith, all, h))) ∙ eq-eqb _ 0 z))

  -- a place that is there is found
  pub is-found : has 0 (take sink_max list) ≡ true → IsSome (first_empty list)
  is-found e = go (first_empty list) refl
    where
      go : (r : Option ℕ) → first_empty list ≡ r → IsSome r
      go (Some k) q = refl
      go None q = absurd (false≢true (sym (no-empty q) ∙ e))

  -- it is in the slice
  pub place-low : (k : ℕ) → first_empty list ≡ Some k → (k < sink_max) × (k < length list)
  place-low k e = let n = length-take sink_max list in let i = (found k e).inside in (omega arith, omega arith)

  -- the place at which a search from place 0 on ends is the first empty one
  module _ (k : ℕ) (h : (j : ℕ) → j < k → get_or list j 0 ≢ 0) where
    full-below : (m : ℕ) → m ≤ k → m ≤ length (take sink_max list) → (j : ℕ) → j < m → (get_or (take sink_max list) j 0 == 0) ≡ false
    full-below m p q j r =
        let n = length-take sink_max list in
        ne_eqb _ 0 (λ z. h j (omega arith) (sym (get_or-take sink_max list j 0 (omega arith)) ∙ z))

    pub searched : k < sink_max → k < length list → get_or list k 0 ≡ 0 → Some k ≡ first_empty list
    searched m l z =
        let n = length-take sink_max list in
        let p : position_or_len (λ y. y == 0) (take sink_max list) ≡ k
        = position_or_len_is (λ y. y == 0) (take sink_max list) k 0 (omega arith) (full-below k (omega arith) (omega arith)) (λ q. eq-eqb _ 0 (get_or-take sink_max list k 0 m ∙ z)) in
        rw (p, lt-ltb k (length (take sink_max list)) (omega arith)) refl

    pub searched-all : length (take sink_max list) ≤ k → None ≡ first_empty list
    searched-all l =
        let e = length (take sink_max list) in
        let p : position_or_len (λ y. y == 0) (take sink_max list) ≡ e
        = position_or_len_is (λ y. y == 0) (take sink_max list) e 0 (omega arith) (full-below e l (omega arith)) (λ q. absurd (omega arith)) in
        rw (p, le-ltb e e (omega arith)) refl

-- the object in it
pub placed-there : (o : ℕ) (list : List ℕ) → sink_max ≤ length list → (k : ℕ) → first_empty list ≡ Some k
    → set list k o ≡ placed o (take sink_max list) ++ drop sink_max list
placed-there o list long k e =
    let F = found list k e in
    sym (placed-set o sink_max list long (record { place = k; inside = F.inside; vacant = F.empty; before = F.filled }))

-- ---- the tests

module _ (c : Control) (i : ℕ) (recs slots roots list sets : List ℕ) where
  abbrev answer : ℕ
  answer = first (declare_tests c i recs slots roots list sets)

  pub bad-control : bad_control c ≡ true → 20 ≡ answer
  unfolding declare_tests first
  bad-control b = rw b refl

  module _ (b : bad_control c ≡ false) (h : Bool) (eh : h ≡ short_heap c.n c.r recs slots roots list sets) where
    pub few_words : h ≡ true → 2 ≡ answer
    unfolding declare_tests first
    few_words t = rw (b, ← eh, t) refl

    module _ (t : h ≡ false) where
      pub no-object : within 1 c.n i ≡ false → 4 ≡ answer
      unfolding declare_tests first is_pointer
      no-object w = rw (b, ← eh, t, w) refl

      module _ (w : within 1 c.n i ≡ true) (f : Bool) (ef : f ≡ checked c recs slots roots list sets) where
        formed-is : well_formed c recs slots roots list sets ≡ f
        formed-is = sym (ef ∙ checked-is c recs slots roots list sets (control-facts c b).sizes.most h eh t)

        pub is-damaged : f ≡ false → 21 ≡ answer
        unfolding declare_tests first is_pointer
        is-damaged z = rw (b, ← eh, t, w, formed-is, z) refl

        module _ (z : f ≡ true) (x : ℕ) (ex : x ≡ rec_of c.n recs i) where
          pub is_free_lem : x ≡ 0 → 22 ≡ answer
          unfolding declare_tests first is_pointer free
          is_free_lem e = rw (b, ← eh, t, w, formed-is, z, ← ex, eq-eqb x 0 e) refl

          module _ (e : x ≢ 0) (s : Bool) (es : s ≡ is_sink x) where
            last-test : answer ≡ cond (not s && not (has 0 (take sink_max list))) 29 0
            unfolding declare_tests first is_pointer free
            last-test = rw (b, ← eh, t, w, formed-is, z, ← ex, ne_eqb x 0 e, ← es) refl

            pub is-again : s ≡ true → 0 ≡ answer
            is-again y = sym (last-test ∙ rw y refl)

            module _ (y : s ≡ false) where
              pub has-place : (k : ℕ) → first_empty list ≡ Some k → 0 ≡ answer
              has-place k e = sym (last-test ∙ rw (y, has-empty list k e) refl)

              pub is-full : first_empty list ≡ None → 29 ≡ answer
              is-full e = sym (last-test ∙ rw (y, no-empty list e) refl)

  -- 0 says that the object has a record, and what is known of the slices and of the list
  pub record Named : Type 0 where
    pub low : 1 ≤ i
    pub high : i ≤ c.n
    pub most : c.n ≤ object_max
    pub long : c.n ≤ length recs
    pub in-slice : i - 1 < length recs
    pub sinks-long : sink_max ≤ length list
    pub listed : Lists c.n (λ x. is_sink (rec_of c.n recs x)) (take sink_max list)
    pub vacant : is_sink (rec_of c.n recs i) ≡ false → has 0 (take sink_max list) ≡ true

  pub named : answer ≡ 0 → Named
  unfolding declare_tests is_pointer
  named z =
      let t = first-passed 19 _ _ z in
      let u = first-passed 1 _ _ t.1 in
      let v = first-passed 3 _ _ u.1 in
      let d = first-passed 20 _ _ v.1 in
      let f = first-passed 21 _ _ d.1 in
      let g = first-passed 28 _ _ f.1 in
      let w = within-true 1 c.n i (not-false _ v.0) in
      let l = heap-long c.n c.r recs slots roots list sets u.0 in
      record {
        low = w.0;
        high = w.1;
        most = (control-facts c t.0).sizes.most;
        long = l.recs-long;
        in-slice = omega (arith, w.0, w.1, l.recs-long);
        sinks-long = l.sinks-long;
        listed = (sinks-of c recs slots roots list sets (not-false _ d.0)).listed;
        vacant = λ s. one (is_sink (rec_of c.n recs i)) (has 0 (take sink_max list)) s g.0;
      }
    where
      one : (a b : Bool) → a ≡ false → (not a && not b) ≡ false → b ≡ true
      one a b e h = not-false b (rw e at h)

-- the ends of the tests, for the search
pub ruleset refusing = (bad-control, few_words, no-object, is-damaged, is_free_lem, is-again, has-place, is-full)

-- ---- the out bits, from what the records say of width, sink and cluster

module _ (n : ℕ) (recs recs' slots : List ℕ) where
  pub exact-by : (sink : ℕ → Bool) (cl : ℕ → ℕ) → ((y : ℕ) → width (rec_of n recs' y) ≡ width (rec_of n recs y))
      → ((y : ℕ) → is_sink (rec_of n recs' y) ≡ sink y) → ((y : ℕ) → cluster (rec_of n recs' y) ≡ cl y)
      → (x : ℕ) → exact_out (view n recs' slots) x ≡ out_bit (view n recs slots).kids sink cl x
  unfolding exact_out view used_words
  exact-by sink cl hw hs hc x =
      ap₂ (λ (k : ℕ → List ℕ) (s : ℕ → Bool). out_bit k s (λ y. cluster (rec_of n recs' y)) x)
      (fun_ext {A = ℕ} {B = λ _. List ℕ} (λ y. ap (λ (w : ℕ). map (target n) (take w (eight slots y))) (hw y)))
      (fun_ext {A = ℕ} {B = λ _. Bool} hs)
      ∙ ap (λ (d : ℕ → ℕ). out_bit (λ y. map (target n) (take (width (rec_of n recs y)) (eight slots y))) sink d x) (fun_ext {A = ℕ} {B = λ _. ℕ} hc)

  -- the same in both: the same out bits
  pub exact-alike : ((y : ℕ) → width (rec_of n recs' y) ≡ width (rec_of n recs y)) → ((y : ℕ) → is_sink (rec_of n recs' y) ≡ is_sink (rec_of n recs y))
      → ((y : ℕ) → cluster (rec_of n recs' y) ≡ cluster (rec_of n recs y)) → (x : ℕ) → exact_out (view n recs' slots) x ≡ exact_out (view n recs slots) x
  unfolding exact_out view
  exact-alike hw hs hc x = exact-by (λ y. is_sink (rec_of n recs y)) (λ y. cluster (rec_of n recs y)) hw hs hc x

-- ---- the pass that makes them exact

module _ (n : ℕ) (slots base : List ℕ) where
  -- what the pass makes of a record, by the out bits of the heap before it
  abbrev one : ℕ → ℕ → ℕ
  one x r = with_out (exact_out (view n base slots) x) r

  -- the records at place i of the pass
  pub record Passed (i : ℕ) (recs : List ℕ) : Type 0 where
    pub rest : pass_from 1 i (n - i) one recs ≡ made_exact n slots base
    pub same : (x : ℕ) → exact_out (view n recs slots) x ≡ exact_out (view n base slots) x

  pub passed_none : Passed 0 base
  unfolding made_exact each_record
  passed_none = let z : n - 0 ≡ n = omega arith in record { rest = rw z (pass-begin 1 n one base); same = λ x. refl }

  pub passed-more : (i : ℕ) (recs : List ℕ) → Passed i recs → i < n → i < length recs → (o : Bool) → o ≡ exact_out (view n recs slots) (i + 1)
      → Passed (i + 1) (set recs i (with_out o (get_or recs i 0)))
  passed-more i recs P p q o e =
      let a : n - i ≡ suc (n - (i + 1)) = omega arith in
      let b : 1 + i ≡ i + 1 = omega arith in
      let h : o ≡ exact_out (view n base slots) (1 + i) = e ∙ P.same (i + 1) ∙ ap (exact_out (view n base slots)) (sym b) in
      record {
        rest =
            ap₂ (λ (j : ℕ) (d : Bool). pass_from 1 j (n - (i + 1)) one (set recs i (with_out d (get_or recs i 0)))) (add-one i) h
            ∙ pass-turn 1 i (n - (i + 1)) one recs 0 q ∙ ap (λ (k : ℕ). pass_from 1 i k one recs) (sym a) ∙ P.rest;
        same = λ x.
            exact-alike n recs (set recs i (with_out o (get_or recs i 0))) slots
            (stored-alike width n recs i (with_out o (get_or recs i 0)) q (width-put-flag 3 o (get_or recs i 0) refl))
            (stored-alike is_sink n recs i (with_out o (get_or recs i 0)) q (flag-put-other 3 o (get_or recs i 0) 2 (λ (z : 3 ≡ 2). omega arith)))
            (stored-alike cluster n recs i (with_out o (get_or recs i 0)) q (cluster-put-flag 3 o (get_or recs i 0) refl))
            x
            ∙ P.same x;
      }

  pub passed-all : (i : ℕ) (recs : List ℕ) → Passed i recs → n ≤ i → recs ≡ made_exact n slots base
  passed-all i recs P p =
      let z : n - i ≡ 0 = omega arith in
      sym (ap (λ (k : ℕ). pass_from 1 i k one recs) z ∙ pass-end 1 i one recs) ∙ P.rest

  pub passed-past : (i : ℕ) (recs : List ℕ) → Passed i recs → length recs ≤ i → recs ≡ made_exact n slots base
  passed-past i recs P p = sym (pass-past 1 i (n - i) one recs p) ∙ P.rest

-- ---- the three steps

-- a record after the first two: object i a sink, cluster k dissolved
abbrev stepped : ℕ → ℕ → ℕ → ℕ → ℕ
stepped i k x r = dissolved_record k (with_sink (cond (eqb x i) true (is_sink r)) r)

module _ (i k x r : ℕ) where
  sunk-cluster : cluster (with_sink (cond (eqb x i) true (is_sink r)) r) ≡ cluster r
  sunk-cluster = cluster-put-flag 2 (cond (eqb x i) true (is_sink r)) r refl

  stepped-cluster : cluster (stepped i k x r) ≡ cond (not (eqb (cluster r) k)) (cluster r) 0
  unfolding dissolved_record
  stepped-cluster = rw sunk-cluster (go (eqb (cluster r) k))
    where
      go : (b : Bool) → cluster (cond b (loose (with_sink (cond (eqb x i) true (is_sink r)) r)) (with_sink (cond (eqb x i) true (is_sink r)) r)) ≡ cond (not b) (cluster r) 0
      go true = loose-cluster (with_sink (cond (eqb x i) true (is_sink r)) r)
      go false = sunk-cluster

  stepped-sink : is_sink (stepped i k x r) ≡ cond (eqb x i) true (is_sink r)
  unfolding dissolved_record
  stepped-sink = go (eqb (cluster (with_sink (cond (eqb x i) true (is_sink r)) r)) k)
    where
      go : (b : Bool) → is_sink (cond b (loose (with_sink (cond (eqb x i) true (is_sink r)) r)) (with_sink (cond (eqb x i) true (is_sink r)) r)) ≡ cond (eqb x i) true (is_sink r)
      go true = loose-flag (with_sink (cond (eqb x i) true (is_sink r)) r) 2 refl (λ (z : 2 ≡ 3). omega arith) ∙ flag-put-same 2 (cond (eqb x i) true (is_sink r)) r
      go false = flag-put-same 2 (cond (eqb x i) true (is_sink r)) r

  stepped-width : width (stepped i k x r) ≡ width r
  unfolding dissolved_record
  stepped-width = go (eqb (cluster (with_sink (cond (eqb x i) true (is_sink r)) r)) k)
    where
      go : (b : Bool) → width (cond b (loose (with_sink (cond (eqb x i) true (is_sink r)) r)) (with_sink (cond (eqb x i) true (is_sink r)) r)) ≡ width r
      go true = loose-width (with_sink (cond (eqb x i) true (is_sink r)) r) ∙ width-put-flag 2 (cond (eqb x i) true (is_sink r)) r refl
      go false = width-put-flag 2 (cond (eqb x i) true (is_sink r)) r refl

  -- with its out bit, which is clear in no cluster: what the rule lays into it
  stepped-encoded : (o : Bool) → (cond (not (eqb (cluster r) k)) (cluster r) 0 ≡ 0 → o ≡ false)
      → with_out o (stepped i k x r) ≡ encoded_record (cond (not (eqb (cluster r) k)) (cluster r) 0) o (cond (eqb x i) true (is_sink r)) (is_written r) r
  unfolding dissolved_record encoded_record
  stepped-encoded o h = rw (flag_same 1 r, sunk-cluster) (go (eqb (cluster r) k) h)
    where
      go : (b : Bool) → (cond (not b) (cluster r) 0 ≡ 0 → o ≡ false)
          → with_out o (cond b (loose (with_sink (cond (eqb x i) true (is_sink r)) r)) (with_sink (cond (eqb x i) true (is_sink r)) r))
          ≡ with_cluster (cond (not b) (cluster r) 0) (with_out o (with_sink (cond (eqb x i) true (is_sink r)) r))
      go true z =
          let f : o ≡ false = z refl in
          rw f (flag-stays 3 false (loose (with_sink (cond (eqb x i) true (is_sink r)) r)) (loose-out (with_sink (cond (eqb x i) true (is_sink r)) r)) ∙ (unfold loose in refl))
      go false z =
          sym (ap (λ (d : ℕ). with_cluster d (with_out o (with_sink (cond (eqb x i) true (is_sink r)) r)))
          (sym (cluster-put-flag 3 o (with_sink (cond (eqb x i) true (is_sink r)) r) refl ∙ sunk-cluster))
          ∙ put_same 16 12 (with_out o (with_sink (cond (eqb x i) true (is_sink r)) r)))

-- no record stays none
stepped-none : (i k x : ℕ) → x ≢ i → stepped i k x 0 ≡ 0
stepped-none i k x h = rw (ne_eqb x i h) (ap (dissolved_record k) (flag_same 2 0) ∙ none)
  where
    empty : loose 0 ≡ 0
    empty = unfold loose put_flag put digit in refl

    pick : (b : Bool) → cond b (loose 0) 0 ≡ 0
    pick true = empty
    pick false = refl

    none : dissolved_record k 0 ≡ 0
    none = unfold dissolved_record in (pick (eqb (cluster 0) k))

module _ (n i : ℕ) (recs slots : List ℕ) (p : 1 ≤ i) (q : i ≤ n) (l : n ≤ length recs) where
  abbrev number : ℕ
  number = cluster (get_or recs (i - 1) 0)

  -- the records after the first step, and after the second
  abbrev marked : List ℕ
  marked = set recs (i - 1) (with_sink true (get_or recs (i - 1) 0))

  abbrev split : List ℕ
  split = dissolved n number marked

  marked-at : (y : ℕ) → rec_of n marked y ≡ with_sink (cond (eqb y i) true (is_sink (rec_of n recs y))) (rec_of n recs y)
  marked-at y = go (ℕ_discrete y i)
    where
      go : Dec (y ≡ i) → rec_of n marked y ≡ with_sink (cond (eqb y i) true (is_sink (rec_of n recs y))) (rec_of n recs y)
      go (yes e) =
          rw (e, eq-eqb i i refl)
          (rec_of-set-same n recs i (with_sink true (get_or recs (i - 1) 0)) p q l ∙ ap (with_sink true) (sym (rec_of-get n recs i p q)))
      go (no e) = rw (ne_eqb y i e) (rec_of-set-other n recs i (with_sink true (get_or recs (i - 1) 0)) p q l y e ∙ sym (flag_same 2 (rec_of n recs y)))

  marked-long : n ≤ length marked
  marked-long = rw (length-set recs (i - 1) (with_sink true (get_or recs (i - 1) 0))) l

  split_at : (y : ℕ) → rec_of n split y ≡ stepped i number y (rec_of n recs y)
  split_at y = go (dec_le 1 y) (dec_le y n)
    where
      outside : y ≢ i → rec_of n split y ≡ 0 → rec_of n recs y ≡ 0 → rec_of n split y ≡ stepped i number y (rec_of n recs y)
      outside h a b = a ∙ sym (ap (stepped i number y) b ∙ stepped-none i number y h)

      nought : (l : List ℕ) (y : ℕ) → (1 ≤ y → ⊥) → rec_of n l y ≡ 0
      nought l zero h = rec_of-zero n l
      nought l (suc y) h = absurd (h (omega arith))

      go : Dec (1 ≤ y) → Dec (y ≤ n) → rec_of n split y ≡ stepped i number y (rec_of n recs y)
      go (no a) b = outside (λ e. a (rw e p)) (nought split y a) (nought recs y a)
      go (yes a) (no b) = outside (λ e. b (rw e q)) (rec_of-above n split y (omega (arith, b))) (rec_of-above n recs y (omega (arith, b)))
      go (yes a) (yes b) =
          let d : rec_of n split y ≡ dissolved_record number (rec_of n marked y)
          = unfold dissolved in (rec_of-each n (λ x r. dissolved_record number r) marked y a b marked-long) in
          d ∙ ap (dissolved_record number) (marked-at y)

  same_number : cluster (rec_of n recs i) ≡ number
  same_number = ap cluster (rec_of-get n recs i p q)

  exact-at : (x : ℕ) → exact_out (view n split slots) x ≡ (declare (view n recs slots) i).out x
  unfolding declare
  exact-at x =
      exact-by n recs split slots (upd (view n recs slots).sink i true) (keep (others ((view n recs slots).cluster i)) (view n recs slots).cluster)
      (λ y. ap width (split_at y) ∙ stepped-width i number y (rec_of n recs y))
      (λ y. unfold upd view in (ap is_sink (split_at y) ∙ stepped-sink i number y (rec_of n recs y)))
      (λ y. unfold keep others view in (rw same_number (ap cluster (split_at y) ∙ stepped-cluster i number y (rec_of n recs y))))
      x

  encoded-at : (x : ℕ) → with_out (exact_out (view n split slots) x) (stepped i number x (rec_of n recs x))
      ≡ encoded_record ((declare (view n recs slots) i).cluster x) ((declare (view n recs slots) i).out x) ((declare (view n recs slots) i).sink x)
      ((declare (view n recs slots) i).written x) (rec_of n recs x)
  encoded-at x =
      stepped-encoded i number x (rec_of n recs x) (exact_out (view n split slots) x)
      (λ z. exact_none n split slots x (ap cluster (split_at x) ∙ stepped-cluster i number x (rec_of n recs x) ∙ z))
      ∙ ap (λ (o : Bool). encoded_record (cond (not (eqb (cluster (rec_of n recs x)) number)) (cluster (rec_of n recs x)) 0) o (cond (eqb x i) true (is_sink (rec_of n recs x))) (is_written (rec_of n recs x)) (rec_of n recs x))
      (exact-at x)
      ∙ fields
    where
      fields : encoded_record (cond (not (eqb (cluster (rec_of n recs x)) number)) (cluster (rec_of n recs x)) 0) ((declare (view n recs slots) i).out x) (cond (eqb x i) true (is_sink (rec_of n recs x))) (is_written (rec_of n recs x)) (rec_of n recs x)
          ≡ encoded_record ((declare (view n recs slots) i).cluster x) ((declare (view n recs slots) i).out x) ((declare (view n recs slots) i).sink x)
          ((declare (view n recs slots) i).written x) (rec_of n recs x)
      fields = unfold declare view upd keep others in (rw same_number refl)

  -- what the rule lays into the record of x, and what the last step makes of it
  abbrev lays : ℕ → ℕ → ℕ
  lays x r =
      encoded_record ((declare (view n recs slots) i).cluster x) ((declare (view n recs slots) i).out x) ((declare (view n recs slots) i).sink x)
      ((declare (view n recs slots) i).written x) r

  abbrev makes : ℕ → ℕ → ℕ
  makes x r = with_out (exact_out (view n split slots) x) r

  split-long : length split ≡ length recs
  unfolding dissolved each_record
  split-long = length-each 1 n (λ x r. dissolved_record number r) marked ∙ length-set recs (i - 1) (with_sink true (get_or recs (i - 1) 0))

  split-past : (m : ℕ) → n ≤ m → get_or split m 0 ≡ get_or recs m 0
  unfolding dissolved each_record
  split-past m h =
      get-past 1 n (λ x r. dissolved_record number r) marked m 0 h
      ∙ get_or-set_other recs (i - 1) m (with_sink true (get_or recs (i - 1) 0)) 0 (λ (z : m ≡ i - 1). omega arith)

  -- the three steps leave what the rule lays
  pub sunk : made_exact n slots split ≡ encoded (declare (view n recs slots) i) recs
  sunk =
      let a : made_exact n slots split ≡ each_from 1 n makes split = unfold made_exact each_record in refl in
      let b : encoded (declare (view n recs slots) i) recs ≡ each_from 1 n lays recs = unfold encoded each_record declare view in refl in
      a
      ∙ ext_get_or 0 (each_from 1 n makes split) (each_from 1 n lays recs) (length-each 1 n makes split ∙ split-long ∙ sym (length-each 1 n lays recs))
      (λ m h. go m (dec_lt m n))
      ∙ sym b
    where
      go : (m : ℕ) → Dec (m < n) → get_or (each_from 1 n makes split) m 0 ≡ get_or (each_from 1 n lays recs) m 0
      go m (yes h) =
          get-each 1 n makes split m 0 h (rw split-long (omega arith)) ∙ ap (makes (1 + m)) (sym (rec_of-place n split m h) ∙ split_at (1 + m)) ∙ encoded-at (1 + m)
          ∙ ap (lays (1 + m)) (rec_of-place n recs m h)
          ∙ sym (get-each 1 n lays recs m 0 h (omega arith))
      go m (no h) =
          get-past 1 n makes split m 0 (omega (arith, h)) ∙ split-past m (omega (arith, h)) ∙ sym (get-past 1 n lays recs m 0 (omega (arith, h)))

  -- ---- the list and the sets

  -- what the out bits do not touch is as before the last step
  made_at : {A : Type 0} (f : ℕ → A) → ((o : Bool) (r : ℕ) → f (with_out o r) ≡ f r) → (x : ℕ) → Obj n x → f (rec_of n (made_exact n slots split) x) ≡ f (rec_of n split x)
  unfolding made_exact
  made_at f h x o = ap f (rec_of-each n (λ y r. with_out (exact_out (view n split slots) y) r) split x o.0 o.1 (rw split-long l)) ∙ h _ _

  cluster-made : (x : ℕ) → Obj n x → (view n (made_exact n slots split) slots).cluster x ≡ (declare (view n recs slots) i).cluster x
  unfolding declare view keep others
  cluster-made x o = rw same_number (made_at cluster (λ d r. cluster-put-flag 3 d r refl) x o ∙ ap cluster (split_at x) ∙ stepped-cluster i number x (rec_of n recs x))

  kids-made : (x : ℕ) → Obj n x → (view n (made_exact n slots split) slots).kids x ≡ (view n recs slots).kids x
  unfolding view used_words
  kids-made x o =
      ap (λ (w : ℕ). map (target n) (take w (eight slots x)))
      (made_at width (λ d r. width-put-flag 3 d r refl) x o ∙ ap width (split_at x) ∙ stepped-width i number x (rec_of n recs x))

  -- the sets of the buffers after the three steps, with this list, are those of the rule
  pub sets-declared : (list list' sets : List ℕ) → take sink_max list' ≡ (declare (heap_in n recs slots list) i).listed
      → exact_sets (heap_in n (made_exact n slots split) slots list') sets ≡ exact_sets (declare (heap_in n recs slots list) i) sets
  unfolding declare view
  sets-declared list list' sets e =
      exact_same (heap_in n (made_exact n slots split) slots list') (declare (heap_in n recs slots list) i) sets refl
      (λ h q. set_word-same (heap_in n (made_exact n slots split) slots list') (declare (heap_in n recs slots list) i) h refl e
      (λ x o. let s = cluster-made x o in ((λ z. sym s ∙ z), (λ z. s ∙ z)))
      (λ x o z. kids-made x o))

-- ---- the ends of the call

-- the records of the rule do not depend on the list
encoded-listed : (n : ℕ) (recs slots list : List ℕ) (i : ℕ) → encoded (declare (view n recs slots) i) recs ≡ encoded (declare (heap_in n recs slots list) i) recs
unfolding encoded declare
encoded-listed n recs slots list i = refl

module _ (c : Control) (i : ℕ) (recs slots roots list sets : List ℕ) (k : ℕ) (e : k ≡ first (declare_tests c i recs slots roots list sets)) where
  pub refused : k ≢ 0 → gives (record { refusal = k; control = c }) recs list sets ≡ declare_sink c i recs slots roots list sets
  unfolding declare_sink
  refused z = sym (outcome-number _ _ (declare_tests c i recs slots roots list sets) k (sym e) z)

  module _ (z : k ≡ 0) where
    pub facts : Named c i recs slots roots list sets
    facts = named c i recs slots roots list sets (sym e ∙ z)

    here : rec_of c.n recs i ≡ get_or recs (i - 1) 0
    here = rec_of-get c.n recs i facts.low facts.high

    pub again : is_sink (get_or recs (i - 1) 0) ≡ true → gives (record { refusal = 0; control = c }) recs list sets ≡ declare_sink c i recs slots roots list sets
    unfolding declare_sink
    again s = sym (outcome-zero _ _ (declare_tests c i recs slots roots list sets) (sym e ∙ z) ∙ rw (here, s) refl)

    module _ (s : is_sink (get_or recs (i - 1) 0) ≡ false) where
      no-sink : is_sink (rec_of c.n recs i) ≡ false
      no-sink = ap is_sink here ∙ s

      pub place-there : (sink_max ≤ length list) × (has 0 (take sink_max list) ≡ true)
      place-there = (facts.sinks-long, facts.vacant no-sink)

      abbrev list' : List ℕ
      list' = placed i (take sink_max list) ++ drop sink_max list

      taken : take sink_max list' ≡ placed i (take sink_max list)
      taken = take-placed i sink_max list facts.sinks-long

      listed-is : (declare (heap_in c.n recs slots list) i).listed ≡ placed i (take sink_max list)
      unfolding declare view
      listed-is = rw no-sink refl

      -- it is new in the list, which stays without repeats
      still-once : once (take sink_max list') ≡ true
      still-once =
          rw taken (once-placed i (take sink_max list)
          (λ m. false≢true (sym no-sink ∙ (facts.listed.from i m (λ q. absurd (omega (arith, facts.low, q)))).1)) facts.listed.single)

      pub anew : (w d : ℕ) (a b recs' list₁ sets' : List ℕ) → w ≡ with_sink true (get_or recs (i - 1) 0) → a ≡ set recs (i - 1) w
          → d ≡ cluster (get_or recs (i - 1) 0) → b ≡ dissolved c.n d a → recs' ≡ made_exact c.n slots b → list₁ ≡ list'
          → sets' ≡ cond (leb c.n object_max) (exact_sets (heap_in c.n recs' slots (last_places list₁)) sets) sets
          → gives (record { refusal = 0; control = c }) recs' list₁ sets' ≡ declare_sink c i recs slots roots list sets
      unfolding declare_sink
      anew w d a b recs' list₁ sets' ew ea ed eb er el es =
          let m : recs' ≡ made_exact c.n slots (split c.n i recs slots facts.low facts.high facts.long) = rw (er, eb, ea, ed, ew) refl in
          let r : recs' ≡ encoded (declare (heap_in c.n recs slots list) i) recs
          = m ∙ sunk c.n i recs slots facts.low facts.high facts.long ∙ encoded-listed c.n recs slots list i in
          let o : list₁ ≡ (declare (heap_in c.n recs slots list) i).listed ++ drop sink_max list = el ∙ ap (λ (l : List ℕ). l ++ drop sink_max list) (sym listed-is) in
          let t : sets' ≡ exact_sets (declare (heap_in c.n recs slots list) i) sets
          = fill-exact c.n recs' slots list₁ sets sets' es facts.most (rw el still-once) ∙ ap₂ (λ (x y : List ℕ). exact_sets (heap_in c.n x slots y) sets) m el
          ∙ sets-declared c.n i recs slots facts.low facts.high facts.long list list' sets (taken ∙ sym listed-is) in
          (λ j. gives (record { refusal = 0; control = c }) (r j) (o j) (t j))
          ∙ sym (outcome-zero _ _ (declare_tests c i recs slots roots list sets) (sym e ∙ z) ∙ rw no-sink refl)

-- the ends of a declaration, for the search
pub ruleset declaring = (facts, refused, again, place-there, anew)
