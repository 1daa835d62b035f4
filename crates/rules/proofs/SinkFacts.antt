-- What the tests of the list of sinks and of the sets say of any heap, and when there is no place for a new sink in one with the invariant.
-- Assumes nothing.
use Prim.Native.Nat.{ℕ, zero, suc, ◌-◌, ◌≤◌, ◌<◌}
use mathlib.Core.Path.{◌≡◌, refl, sym, ap, ◌∙◌, subst}
use mathlib.Core.Bool.{Bool, true, false, cond, false≢true}
use mathlib.Core.List.{List, [], ◌∷◌, Memᴰ}
use mathlib.Core.Logic.{◌≢◌, ◌↔◌}
use native.Mathlib.Decide.{dec_lt}
use native.Mathlib.Omega.{arith}
use lib.Dec.{leb}
use lib.ListN.{length, get_or, take, length-take, get_or-eq_default}
use lib.Seq.{get_or-take}
use borrow.Author.Tests.{le-leb, leb-true, ne_eqb}
use Rattle.layout.specs.Limits.{sink_max}
use Rattle.layout.specs.Field.{field, flag}
use Rattle.layout.specs.Refusal.{first}
use Rattle.layout.specs.Word.{is_pointer}
use Rattle.layout.proofs.LimitLaws.{in_within}
use Rattle.records.specs.Record.{in_use, is_sink}
use Rattle.records.specs.Record as R
use Rattle.graph.specs.Numbers.{Obj, count}
use Rattle.graph.specs.Heap.{Heap}
use Rattle.graph.specs.Clusters.{in_set}
use Rattle.graph.proofs.NumberLaws.{has_in, in-has}
use Rattle.graph.proofs.ReachLaws.{length-pointers}
use Rattle.graph.proofs.SinkLaws.{in_set-from, in_set-in}
use Rattle.rules.specs.Buffers.{rec_of}
use Rattle.rules.specs.View.{view, set_word}
use Rattle.rules.specs.WellFormed.{once, list_ok, sets_ok}
use Rattle.rules.specs.DeclareSink as Declare
use Rattle.rules.specs.Calls.{declare_sink}
use Rattle.rules.specs.Steps.{State}
use Rattle.rules.specs.Demands.{heap_of, words_of, record_in, refusal_of, PointsFrom, ExactSet, Lists}
use Rattle.rules.proofs.ListLaws.{mem-get, rec_of-range}
use Rattle.rules.proofs.ListedLaws as Listed
use Rattle.rules.proofs.ListedLaws.{once_more, once-rest, once-other, listed-count, has-not}
use Rattle.rules.proofs.BufferLaws.{rec_of-get}
use Rattle.rules.proofs.SetLaws.{set_word-flag, set_word-lt, set_word-is}
use Rattle.rules.proofs.ViewLaws.{targets-low, has-targets}
use Rattle.rules.proofs.WellFormedLaws.{used-range, sinks-facts, facts-list, facts-sets}
use Rattle.rules.proofs.Invariant.{Inv, inv-control, inv-long, inv-formed, inv-lists}
use Rattle.rules.proofs.DeclareLaws.{declare-answered, full-count}

-- ---- places of a list

place_of : (x : ℕ) (l : List ℕ) → Memᴰ x l → (k : ℕ) × (k < length l) × (get_or l k 0 ≡ x)
place_of x [] x'' = elim x'' [ ]
place_of x (y ∷ l) (Memᴰ.head e) = (0, omega arith, sym e)
place_of x (y ∷ l) (Memᴰ.tail m) = let t = place_of x l m in let p = t.1 in (suc t.0, omega arith, t.2)

one_place : (l : List ℕ) → once l ≡ true → (j k : ℕ) → j < length l → k < length l → get_or l j 0 ≢ 0 → get_or l j 0 ≡ get_or l k 0 → j ≡ k
one_place [] e j k p q nz h = absurd (omega arith)
one_place (y ∷ l) e zero zero p q nz h = refl
one_place (y ∷ l) e zero (suc k) p q nz h = absurd (has-not y l (once-other y l e nz) (subst (λ (x : ℕ). Memᴰ x l) (sym h) (mem-get l k (omega arith))))
one_place (y ∷ l) e (suc j) zero p q nz h =
    absurd (has-not y l (once-other y l e (λ z. nz (h ∙ z))) (subst (λ (x : ℕ). Memᴰ x l) h (mem-get l j (omega arith))))
one_place (y ∷ l) e (suc j) (suc k) p q nz h = ap suc (one_place l (once-rest y l e) j k (omega arith) (omega arith) nz h)

once-places : (l : List ℕ) → ((j k : ℕ) → j < length l → k < length l → get_or l j 0 ≢ 0 → get_or l j 0 ≡ get_or l k 0 → j ≡ k) → once l ≡ true
once-places [] h = unfold once in refl
once-places (y ∷ l) h =
    once_more y l apart (once-places l (λ j k p q nz e. let z = h (suc j) (suc k) (omega arith) (omega arith) nz e in omega arith))
  where
    apart : y ≢ 0 → Memᴰ y l → ⊥
    apart nz m =
        let t = place_of y l m in
        let p = t.1 in
        let z = h 0 (suc t.0) (omega arith) (omega arith) nz (sym t.2) in
        absurd (omega arith)

-- ---- in any heap

module _ (s : State) where
  abbrev H : Heap
  H = heap_of s

  abbrev list : List ℕ
  list = take sink_max s.sinks

  at : (k : ℕ) → k < sink_max → get_or list k 0 ≡ get_or s.sinks k 0
  at k p = get_or-take sink_max s.sinks k 0 p

  -- ---- the sets

  -- a pointer of an object is a word of it that names an object, and back
  kid-word : (x y : ℕ) → y ≢ 0 → Memᴰ y (H.kids x) → Obj s.control.n y × Memᴰ y (words_of s x)
  unfolding view
  kid-word x y nz m =
      let l = targets-low s.control.n (words_of s x) y m in
      ((omega (arith, nz), l), has_in y (words_of s x) (sym (has-targets s.control.n y (words_of s x) (omega (arith, nz)) l) ∙ in-has y _ m))

  word-kid : (x y : ℕ) → Obj s.control.n y → Memᴰ y (words_of s x) → Memᴰ y (H.kids x)
  unfolding view
  word-kid x y b m = has_in y _ (has-targets s.control.n y (words_of s x) b.0 b.1 ∙ in-has y (words_of s x) m)

  in-set : (h y : ℕ) → (in_set H h y ≡ true) ↔ ((x : ℕ) × PointsFrom s h y x)
  unfolding view
  in-set h y = (there, λ (x, (o, b, e, m)). in_set-in H h y (λ z. omega (arith, b.0, z)) (x, o, e, word-kid x y b m))
    where
      there : in_set H h y ≡ true → (x : ℕ) × PointsFrom s h y x
      there e =
          let t = in_set-from H h y e in
          let q = t.1 in
          let w = kid-word q.0 y t.0 q.3 in
          (q.0, (q.1, w.0, q.2, w.1))

  -- a word is that of the set exactly where it is exact
  pub set-exact : (h : ℕ) → get_or s.sets (h - 1) 0 ≡ set_word H h → ExactSet s h
  set-exact h e = (
    rw e (set_word-lt H h),
    λ k p.
        let i = in-set h (get_or s.sinks k 0) in
        let b = ap (flag k) e ∙ set_word-flag H h k p ∙ ap (in_set H h) (at k p) in
        (λ f. i.0 (sym b ∙ f), λ q. b ∙ i.1 q),
  )

  exact-set : (h : ℕ) → ExactSet s h → get_or s.sets (h - 1) 0 ≡ set_word H h
  exact-set h (l, f) = set_word-is H h (get_or s.sets (h - 1) 0) l (λ k p.
      let i = in-set h (get_or s.sinks k 0) in
      alike _ _ (λ e. i.1 ((f k p).0 e)) (λ e. (f k p).1 (i.0 e)) ∙ ap (in_set H h) (sym (at k p)))
    where
      alike : (a b : Bool) → (a ≡ true → b ≡ true) → (b ≡ true → a ≡ true) → a ≡ b
      alike true b f g = sym (f refl)
      alike false true f g = g refl
      alike false false f g = refl

  word_at : (h : ℕ) → Obj s.control.n h → rec_of s.control.n s.sets h ≡ get_or s.sets (h - 1) 0
  word_at h b = rec_of-get s.control.n s.sets h b.0 b.1

  -- ---- the list

  short : length list ≤ sink_max
  short = let a = length-take sink_max s.sinks in omega arith

  -- what stands in a place is listed
  in_place_lem : (k : ℕ) → k < sink_max → get_or s.sinks k 0 ≢ 0 → k < length list
  in_place_lem k p nz = go (dec_lt k (length list))
    where
      go : Dec (k < length list) → k < length list
      go (yes q) = q
      go (no q) = absurd (nz (sym (at k p) ∙ get_or-eq_default list 0 (omega (arith, q))))

  in_list : (k : ℕ) → k < sink_max → get_or s.sinks k 0 ≢ 0 → Memᴰ (get_or s.sinks k 0) list
  in_list k p nz = subst (λ (y : ℕ). Memᴰ y list) (at k p) (mem-get list k (in_place_lem k p nz))

  sink-range : (x : ℕ) → is_sink (record_in s x) ≡ true → Obj s.control.n x
  unfolding flag field
  sink-range x e = rec_of-range s.control.n s.records x (λ z. false≢true (sym (ap is_sink z) ∙ e))

  lists-so : Listed.Lists s.control.n (λ x. is_sink (record_in s x)) list
      → ((h : ℕ) → 1 ≤ h → h ≤ s.control.n → rec_of s.control.n s.sets h ≡ set_word H h) → Lists s
  lists-so L exact = record {
    sinks = λ k p nz. (L.from (get_or s.sinks k 0) (in_list k p nz) nz).1;
    place = λ x e.
        let t = place_of x list (L.all x (sink-range x e) e) in
        let p : t.0 < sink_max = let a = t.1 in let b = short in omega arith in
        (t.0, p, sym (at t.0 p) ∙ t.2);
    once = λ j k p q nz e.
        one_place list L.single j k (in_place_lem j p nz) (in_place_lem k q (λ z. nz (e ∙ z))) (λ z. nz (sym (at j p) ∙ z)) (at j p ∙ e ∙ sym (at k q));
    sets = λ h b. set-exact h (sym (word_at h b) ∙ exact h b.0 b.1);
  }

  so-lists : Lists s → Listed.Lists s.control.n (λ x. is_sink (record_in s x)) list
  so-lists L = record {
    from = λ y m nz.
        let t = place_of y list m in
        let p : t.0 < sink_max = let a = t.1 in let b = short in omega arith in
        let z = sym (at t.0 p) ∙ t.2 in
        let e = subst (λ (x : ℕ). is_sink (record_in s x) ≡ true) z (L.sinks t.0 p (λ q. nz (sym z ∙ q))) in
        (sink-range y e, e);
    all = λ x o e.
        let t = L.place x e in
        subst (λ (y : ℕ). Memᴰ y list) t.2 (in_list t.0 t.1 (λ q. omega (arith, o.0, sym t.2 ∙ q)));
    single = once-places list (λ j k p q nz e.
        let a : j < sink_max = let b = short in omega arith in
        let c : k < sink_max = let b = short in omega arith in
        L.once j k a c (λ z. nz (at j a ∙ z)) (sym (at j a) ∙ e ∙ at k c));
  }

  pub list-tests : ((list_ok s.control.n s.records s.sinks ≡ true)
      × (sets_ok s.control.n s.records s.slots s.sinks s.sets ≡ true)) ↔ Lists s
  list-tests = (
    λ (e, f).
        let S = sinks-facts s.control.n s.records s.slots s.sinks s.sets e f in
        lists-so S.listed S.exact,
    λ L. (
      facts-list s.control.n s.records s.slots s.sinks s.sets (so-lists L),
      facts-sets s.control.n s.records s.slots s.sinks s.sets (λ h p q. word_at h (p, q) ∙ exact-set h (L.sets h (p, q))),
    ),
  )

-- ---- with the invariant

module _ (s : State) (I : Inv s) where
  pub list-facts : Lists s
  list-facts = lists-so s (inv-lists s I) I.sets-exact

  -- ---- no place is left exactly where 64 objects are sinks

  few : count s.control.n (λ x. is_sink (record_in s x)) ≤ sink_max
  few =
      let a = listed-count s.control.n (λ x. is_sink (record_in s x)) (list s) (inv-lists s I) in
      let b = length-pointers (list s) in
      let c = short s in
      omega arith

  declare-first : (i : ℕ) → in_use (record_in s i) ≡ true → is_sink (record_in s i) ≡ false
      → refusal_of (declare_sink i) s ≡ cond (leb sink_max (count s.control.n (λ x. is_sink (record_in s x)))) 29 0
  unfolding Declare.declare_tests first is_pointer
  declare-first i u e =
      let b = used-range s.control.n s.records i u in
      declare-answered s i
      ∙ rw (inv-control s I, inv-long s I, inv-formed s I, in_within 1 s.control.n i b.0 b.1, there, e, full-count s I) refl
    where
      there : R.free (record_in s i) ≡ false
      there = unfold R.free in (ne_eqb (record_in s i) 0 (λ z. false≢true (sym (ap in_use z ∙ (unfold flag field in refl)) ∙ u)))

  pub declare-full : (i : ℕ) → in_use (record_in s i) ≡ true → is_sink (record_in s i) ≡ false
      → (refusal_of (declare_sink i) s ≡ 29) ↔ (count s.control.n (λ x. is_sink (record_in s x)) ≡ sink_max)
  declare-full i u e = (λ r. there (leb sink_max c) refl (sym (declare-first i u e) ∙ r), λ q. declare-first i u e ∙ ap (λ (b : Bool). cond b 29 0) (back q))
    where
      c : ℕ
      c = count s.control.n (λ x. is_sink (record_in s x))

      there : (b : Bool) → leb sink_max c ≡ b → ◌≡◌ {A = ℕ} (cond b 29 0) 29 → c ≡ sink_max
      there true f r = let a = leb-true sink_max c f in let d = few in omega arith
      there false f r = absurd (omega (arith, r))

      back : c ≡ sink_max → leb sink_max c ≡ true
      back q = le-leb sink_max c (omega arith)
