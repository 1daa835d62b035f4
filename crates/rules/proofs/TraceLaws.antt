-- What both walks of a collection keep, in every well-formed heap; and with the invariant: what pointers reach, in the buffers and in the plain heap.
-- Assumes nothing.
use Prim.Native.Nat.{ℕ, ◌*◌, ◌≤◌}
use mathlib.Core.Path.{◌≡◌, refl, sym, ap, ◌∙◌, fun_ext}
use mathlib.Core.Bool.{Bool, true, false, cond, false≢true}
use mathlib.Core.List.{List, [], ◌∷◌, Memᴰ}
use mathlib.Core.Logic.{◌≢◌, ◌⊎◌, inl, inr, ◌↔◌}
use native.Mathlib.Omega.{arith}
use lib.Dec.{leb, eqb}
use lib.ListN.{length, take}
use borrow.Author.Tests.{le-leb}
use Rattle.layout.specs.Limits.{object_max, sink_max, width_max}
use Rattle.layout.specs.Field.{field, flag}
use Rattle.records.specs.Record.{in_use, is_sink}
use Rattle.graph.specs.Numbers.{Obj, has, gather, count}
use Rattle.graph.specs.Heap.{Heap, pointers, targets, with_members, Reach, start, along}
use Rattle.graph.specs.Rounds.{rounds}
use Rattle.graph.proofs.NumberLaws.{in_left}
use Rattle.graph.proofs.RoundLaws.{rounds-reach}
use Rattle.graph.proofs.MemberLaws.{word-pointer, pointer_word, pointer-nonzero, member_of, reach-member}
use Rattle.graph.proofs.ReachLaws.{reach-all, reach-mono}
use Rattle.graph.proofs.TraceCorrect.{Sound, sound-starts, traced-correct, connected-same, plain-correct, same_test}
use Rattle.rules.specs.Buffers.{used_words}
use Rattle.rules.specs.View.{view, target}
use Rattle.rules.specs.WellFormed.{well_formed}
use Rattle.rules.specs.Collect.{Kind, plainly, by_clusters, trace}
use Rattle.rules.specs.Plain.{plain_words, kept_numbers}
use Rattle.rules.specs.Steps.{State}
use Rattle.rules.specs.Demands.{Reachable, KeptBy, heap_of, words_of, record_in, roots_of}
use Rattle.rules.specs.PlainOf.{plain_of}
use Rattle.rules.proofs.Invariant.{Inv, inv-formed}
use Rattle.rules.proofs.Abstraction.{cells-size, at_words}
use Rattle.rules.proofs.WellFormedLaws.{Names, Sane, formed-of, sinks-of, sane}
use Rattle.rules.proofs.SaneLaws.{sane-exact, sane-targets, sane-roots, sane-listed, sane-every}
use Rattle.rules.proofs.ListedLaws.{Lists}
use Rattle.rules.proofs.ListLaws.{map_of, rec_of-range}
use Rattle.rules.proofs.ViewLaws.{view-closed, view-used}

-- what the tests of a collection let pass
pub record Fit (s : State) : Type 0 where
  pub size : s.control.n ≤ object_max
  pub recs-long : s.control.n ≤ length s.records
  pub slots-long : width_max * s.control.n ≤ length s.slots
  pub roots-long : s.control.r ≤ length s.roots
  pub sinks-long : sink_max ≤ length s.sinks
  pub sets-long : s.control.n ≤ length s.sets
  pub formed : well_formed s.control s.records s.slots s.roots s.sinks s.sets ≡ true

pub inv-fit : (s : State) → Inv s → Fit s
inv-fit s I =
    record {
      size = I.sound.sizes.most;
      recs-long = I.recs-long;
      slots-long = I.slots-long;
      roots-long = I.roots-long;
      sinks-long = I.sinks-long;
      sets-long = I.sets-long;
      formed = inv-formed s I;
    }

module _ (s : State) (C : Fit s) where
  abbrev pub H : Heap
  H = heap_of s

  abbrev pub from : List ℕ
  from = roots_of s

  pub rules : Sane s.control.n s.control.r s.records s.slots s.roots
  rules = sane _ _ _ _ _ (formed-of s.control s.records s.slots s.roots s.sinks s.sets C.formed)

  pub places : Lists s.control.n (λ x. is_sink (record_in s x)) (take sink_max s.sinks)
  places = (sinks-of s.control s.records s.slots s.roots s.sinks s.sets C.formed).listed

  abbrev Used : ℕ → Type 0
  Used y = record_in s y ≢ 0

  pub obj-of : (x : ℕ) → Used x → Obj s.control.n x
  obj-of x u = rec_of-range s.control.n s.records x u

  -- an object in use has a record
  in_use_lem : (x : ℕ) → in_use (record_in s x) ≡ true → Used x
  unfolding flag field
  in_use_lem x u z = false≢true (sym (ap (λ (r : ℕ). flag 0 r) z) ∙ u)

  targets-used : (p q : ℕ) → Memᴰ q (targets H p) → Used q
  targets-used p q m = in_use_lem q (sane-targets rules C.size p q m).used

  -- who has a cluster is in use
  pub member-used : (x : ℕ) → H.cluster x ≢ 0 → Used x
  member-used = view-used s.control.n s.records s.slots

  starts-used : (p : ℕ) → Memᴰ p (pointers from) → Used p
  starts-used p m = root p (rules.rooted p (pointer_word from p m)) (pointer-nonzero from p m)
    where
      root : (q : ℕ) → (q ≡ 0) ⊎ Names s.control.n s.records q → q ≢ 0 → Used q
      root q (inl e) nz = absurd (nz e)
      root q (inr N) nz = in_use_lem q N.used

  nonzero : (x : ℕ) → 1 ≤ x → x ≢ 0
  nonzero x p z = absurd (omega (arith, p, z))

  -- ---- heads

  pub head-own : (x : ℕ) → H.cluster x ≢ 0 → H.cluster (H.cluster x) ≡ H.cluster x
  unfolding view
  head-own x nz = rules.heads x nz

  pub head-obj : (x : ℕ) → H.cluster x ≢ 0 → Obj s.control.n (H.cluster x)
  head-obj x nz = obj-of (H.cluster x) (member-used (H.cluster x) (λ z. nz (sym (head-own x nz) ∙ z)))

  -- ---- the heap is sound for both walks

  pub sound : Sound H from
  unfolding view
  sound =
      sound-starts H (roots_of s) head-own (view-closed s.control.n s.records s.slots) (λ x b. sane-exact rules x) (sane-roots rules)
      (sane-listed rules s.sinks places) (sane-every rules s.sinks places)

  -- ---- what a walk tells

  -- kept are those of K, which has the starts and with an object its pointers
  pub record Facts (kept heads : ℕ → Bool) (K : ℕ → Type 0) : Type 0 where
    pub kept-is : (x : ℕ) → Obj s.control.n x → (kept x ≡ true) ↔ K x
    pub heads-is : (x : ℕ) → H.cluster x ≢ 0 → heads (H.cluster x) ≡ kept (H.cluster x)
    pub used : (x : ℕ) → K x → Used x
    pub begins : (x : ℕ) → Memᴰ x (pointers from) → K x
    pub leads : (x y : ℕ) → K x → Memᴰ y (targets H x) → K y

  -- a walk that keeps what is reached in steps that pointers are among
  reach-facts : (kept heads : ℕ → Bool) (next : ℕ → List ℕ) → ((x y : ℕ) → Memᴰ y (targets H x) → Memᴰ y (next x))
      → ((x y : ℕ) → Used x → Memᴰ y (next x) → Used y)
      → ((x : ℕ) → Obj s.control.n x → (kept x ≡ true) ↔ Reach next (pointers from) x)
      → ((x : ℕ) → H.cluster x ≢ 0 → heads (H.cluster x) ≡ kept (H.cluster x)) → Facts kept heads (λ x. Reach next (pointers from) x)
  reach-facts kept heads next more all kept-is heads-is =
      record {
        kept-is = kept-is;
        heads-is = heads-is;
        used = λ x r. reach-all next (pointers from) Used starts-used all r;
        begins = λ x m. start m;
        leads = λ x y r m. along r (more x y m);
      }

  -- each kind keeps what it is to keep
  pub trace-facts : (kind : Kind) → Facts (trace kind H from).kept (trace kind H from).heads (KeptBy kind s)
  unfolding trace view
  trace-facts plainly =
      let c = plain-correct H from sound.starts-in sound.targets-in in
      reach-facts _ _ (targets H) (λ x y m. m) (λ x y u m. targets-used x y m) c.kept-is (λ x nz. refl)
  trace-facts by_clusters =
      let c = traced-correct H from sound in
      reach-facts _ _ (with_members H) (λ x y m. in_left y (targets H x) _ m)
      (λ x y u m. members x y u (mathlib.Core.List.Memᴰ.append_cases (targets H x) m)) c.kept-is
      (λ x nz. let h = c.finished.head-kept (H.cluster x) (head-obj x nz) (head-own x nz) in same_test _ _ h.1 h.0)
    where
      members : (x y : ℕ) → Used x → Memᴰ y (targets H x) ⊎ Memᴰ y (gather s.control.n (λ z. eqb (H.cluster z) x) (λ z. z ∷ [])) → Used y
      members x y u (inl m) = targets-used x y m
      members x y u (inr m) =
          let e = (member_of s.control.n H.cluster x y m).1 in
          member-used y (λ z. nonzero x (obj-of x u).0 (sym e ∙ z))

  -- it scans no more than it keeps, and a plain one all of that
  pub trace-few : (kind : Kind) → (trace kind H from).scanned ≤ count s.control.n (trace kind H from).kept
  unfolding trace view
  trace-few plainly = omega (arith, (plain-correct H from sound.starts-in sound.targets-in).scans)
  trace-few by_clusters = (traced-correct H from sound).finished.scanned-le

  pub plain-few : (trace plainly H from).scanned ≡ count s.control.n (trace plainly H from).kept
  unfolding trace view
  plain-few = (plain-correct H from sound.starts-in sound.targets-in).scans

  -- ---- what the plain heap keeps

  abbrev words : ℕ → List ℕ
  words x = words_of s x

  numbers-kept : kept_numbers (plain_of s) ≡ rounds s.control.n words s.control.n from
  unfolding kept_numbers plain_words
  numbers-kept = λ i.
      rounds (cells-size s.control.n s.records s.slots i) (fun_ext (at_words s.control.n s.records s.slots) i)
      (cells-size s.control.n s.records s.slots i) (roots_of s)

  -- only an object in use has words
  has_words : (y z : ℕ) → Memᴰ z (words y) → Obj s.control.n y
  unfolding used_words field
  has_words y z m = obj-of y (λ e. none (rw e at m))
    where
      none : Memᴰ z [] → ⊥
      none q = mathlib.Core.List.Memᴰ.not-nil q

  led-words : (x : ℕ) → Reachable s x → Reach words from x
  unfolding view target
  led-words x r = reach-mono (targets H) words (pointers from) from (λ p m. pointer_word from p m) edge r
    where
      at : (p q w : ℕ) (b : Bool) → Memᴰ w (words p) → q ≡ cond b w 0 → q ≢ 0 → Memᴰ q (words p)
      at p q w true m e nz = rw e m
      at p q w false m e nz = absurd (nz e)

      edge : (p q : ℕ) → Memᴰ q (targets H p) → Memᴰ q (words p)
      edge p q m =
          let a = map_of (target s.control.n) (words p) q (pointer_word (H.kids p) q m) in
          at p q a.0 (leb a.0 s.control.n) a.1 a.2 (pointer-nonzero (H.kids p) q m)

  -- a word that is the number of an object is one of the pointers
  pub word-target : (x w : ℕ) → Memᴰ w (words x) → 1 ≤ w → w ≤ s.control.n → Memᴰ w (targets H x)
  unfolding view target
  word-target x w m p q =
      let d : Memᴰ (target s.control.n w) (H.kids x) = mathlib.Core.List.Memᴰ.map (target s.control.n) m in
      let e : target s.control.n w ≡ w = rw (le-leb w s.control.n q) refl in
      word-pointer (H.kids x) w (nonzero w p) (rw e at d)

  words-led : {x : ℕ} → Reach words from x → Obj s.control.n x → Reachable s x
  words-led (start {x = p} m) b = start (word-pointer from p (nonzero p b.0) m)
  words-led (along {x = p} {y = q} r m) b = along (words-led r (has_words p q m)) (word-target p q m b.0 b.1)

  pub plain-kept : (x : ℕ) → Obj s.control.n x → (has x (kept_numbers (plain_of s)) ≡ true) ↔ Reachable s x
  plain-kept x b =
      let t = rounds-reach s.control.n words from has_words x b in
      (λ e. words-led (t.0 (sym (ap (has x) numbers-kept) ∙ e)) b, λ r. ap (has x) numbers-kept ∙ t.1 (led-words x r))

-- ---- with the invariant

module _ (s : State) (I : Inv s) where
  -- both kinds are to keep what pointers reach
  pub kept-led : (kind : Kind) (x : ℕ) → KeptBy kind s x ↔ Reachable s x
  kept-led plainly x = (λ r. r, λ r. r)
  kept-led by_clusters x = connected-same (heap_of s) (roots_of s) I.good.zero-none I.good.conn x

  pub member-led : (x : ℕ) → (heap_of s).cluster x ≢ 0 → Reachable s ((heap_of s).cluster x) → Reachable s x
  member-led x nz r = reach-member (heap_of s) (heap_of s).cluster (pointers (roots_of s)) I.good.conn I.good.zero-none x nz r
