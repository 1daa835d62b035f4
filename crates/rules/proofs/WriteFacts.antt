-- What a write does to the clusters and the sets, and when it is refused for its loss, in any heap.
-- Assumes nothing.
use Prim.Native.Nat.{ℕ, suc, ◌+◌, ◌-◌, ◌*◌, ◌≤◌, ◌<◌, ◌^◌}
use mathlib.Core.Path.{◌≡◌, refl, sym, ap, ◌∙◌}
use mathlib.Core.Bool.{Bool, true, false, not, cond, ◌&&◌, true≢false}
use mathlib.Core.List.{List}
use mathlib.Core.Logic.{◌≢◌}
use native.Mathlib.Decide.{ℕ_discrete, dec_lt}
use native.Mathlib.Nat.{suc-ne-zero}
use native.Mathlib.Omega.{arith}
use lib.Dec.{eqb, ltb}
use lib.ListN.{length, get_or, set, length-set, get_or-eq_default}
use lib.Seq.{get_or-set_same, get_or-set_other}
use borrow.Author.Tests.{eqb-true, eqb-false, eq-eqb, ne_eqb, not-true, ltb-true, ltb-false}
use Rattle.layout.specs.Field.{field}
use Rattle.records.specs.Record.{width, cluster}
use Rattle.layout.proofs.FieldLaws.{field_lt}
use Rattle.layout.specs.ControlRecord.{bad_control, with_write_loss}
use Rattle.layout.specs.Refusal.{Test, first}
use Rattle.layout.proofs.ControlLaws.{Sound, control-facts}
use Rattle.layout.proofs.RefusalLaws.{first_holds}
use Rattle.graph.specs.Numbers.{has}
use Rattle.graph.specs.Clusters.{size, keep, others}
use Rattle.graph.proofs.NumberLaws.{has-at, has-none}
use Rattle.graph.specs.Writes.{dissolves, stored, store_by, store, loss_by, loss_of}
use Rattle.rules.specs.Buffers.{rec_of}
use Rattle.rules.specs.View.{target, view, set_word, encoded}
use Rattle.rules.specs.Write.{loss_after}
use Rattle.rules.specs.Write as Write
use Rattle.rules.specs.Calls.{write}
use Rattle.rules.specs.Plain.{answer}
use Rattle.rules.specs.Steps.{State, step}
use Rattle.rules.specs.Demands.{record_in, heap_of, refusal_of, ExactSet, Dissolves, Writes, cluster_size, words_of}
use Rattle.rules.proofs.BoolLaws.{is_false, and_split, cond_same, cond-not}
use Rattle.rules.proofs.Answers.{loss-passed}
use Rattle.rules.proofs.Frames.{Named, write-named, sets-long, slot-used}
use Rattle.rules.proofs.EncodedRecord.{encoded-width, encoded-cluster}
use Rattle.rules.proofs.StoreLaws.{store-size, kids-stored, dissolves-words}
use Rattle.rules.proofs.SetLaws.{set_word-same}
use Rattle.rules.proofs.SinkFacts.{set-exact}
use Rattle.rules.proofs.EncodedLaws.{read_at}
use Rattle.rules.proofs.Simulation.{all-by}
use Rattle.rules.proofs.Refused.{meets, unmet-first, answered}

-- whether x is among the words after a store: it is the new one, or at another place
module _ (l : List ℕ) (k w x : ℕ) where
  stored-none : w ≢ x → ((q : ℕ) → q < length l → q ≢ k → get_or l q 0 ≢ x) → has x (set l k w) ≡ false
  stored-none d h = has-none x (set l k w) (λ q p. at q (rw (length-set l k w) at p) (ℕ_discrete q k))
    where
      at : (q : ℕ) → q < length l → Dec (q ≡ k) → get_or (set l k w) q 0 ≢ x
      at q p (yes e) z = d (sym (get_or-set_same l q w 0 p) ∙ ap (λ (j : ℕ). get_or (set l j w) q 0) e ∙ z)
      at q p (no e) z = h q p e (sym (get_or-set_other l k q w 0 e) ∙ z)

  stored_other : has x (set l k w) ≡ false → (q : ℕ) → q < length l → q ≢ k → get_or l q 0 ≢ x
  stored_other e q p d z = true≢false (sym (has-at x (set l k w) q (rw (length-set l k w) p) (get_or-set_other l k q w 0 d ∙ z)) ∙ e)

  stored-new : has x (set l k w) ≡ false → k < length l → w ≢ x
  stored-new e p z = true≢false (sym (has-at x (set l k w) k (rw (length-set l k w) p) (get_or-set_same l k w 0 p ∙ z)) ∙ e)

-- a write dissolves, by the rule, exactly where the demands say so
module _ (s : State) (i k w : ℕ) where
  abbrev words : List ℕ
  words = words_of s i

  abbrev old : ℕ
  old = get_or words k 0

  abbrev c : ℕ
  c = cluster (record_in s i)

  abbrev rule : Bool
  rule = dissolves (heap_of s) i k (target s.control.n w)

  by-words : rule ≡ not (eqb c 0) && (eqb (cluster (record_in s old)) c && not (has old (set words k w)))
  unfolding dissolves
  by-words = dissolves-words s.control.n s.records s.slots i k w

  dissolves-so : Dissolves s i k w → rule ≡ true
  dissolves-so (nz, e, d, h) =
      by-words ∙ rw (ne_eqb c 0 nz, eq-eqb (cluster (record_in s old)) c e, stored-none words k w old d h) refl

  -- the old word of a slot past the words is nil, which is in no cluster
  in-range : cluster (record_in s old) ≢ 0 → k < length words
  unfolding rec_of field
  in-range nz = go (dec_lt k (length words))
    where
      go : Dec (k < length words) → k < length words
      go (yes p) = p
      go (no p) = absurd (nz (ap (λ (x : ℕ). cluster (record_in s x)) (get_or-eq_default words 0 (omega (arith, p)))))

  so-dissolves : rule ≡ true → Dissolves s i k w
  so-dissolves e =
      let a = and_split (not (eqb c 0)) (eqb (cluster (record_in s old)) c && not (has old (set words k w))) (sym by-words ∙ e) in
      let b = and_split (eqb (cluster (record_in s old)) c) (not (has old (set words k w))) a.1 in
      let nz : c ≢ 0 = eqb-false c 0 (not-true _ a.0) in
      let in_c : cluster (record_in s old) ≡ c = eqb-true (cluster (record_in s old)) c b.0 in
      let none : has old (set words k w) ≡ false = not-true _ b.1 in
      (nz, in_c, stored-new words k w old none (in-range (λ z. nz (sym in_c ∙ z))), stored_other words k w old none)

-- the refusal is that of the tests
tested : (s : State) (i k w : ℕ) → refusal_of (write i k w) s ≡ first (Write.write_tests s.control i k w s.records s.slots s.sinks s.sets)
unfolding Write.write
tested s i k w = answered _ _ _ (λ (o : Write.Outcome). o.answer.refusal) refl (λ m. refl)

module _ (s : State) (i k w : ℕ) (accepted : refusal_of (write i k w) s ≡ 0) where
  abbrev t : ℕ
  t = target s.control.n w

  -- the clusters that are stored fit their field, and an object without a record has none
  fits : (d : Bool) (x : ℕ) → (store_by d (heap_of s) i k t).cluster x < 2 ^ 12
  unfolding store_by view
  fits false x = field_lt 16 12 (record_in s x)
  fits true x = unfold keep in (go (others (cluster (record_in s i)) (cluster (record_in s x))))
    where
      go : (b : Bool) → cond b (cluster (record_in s x)) 0 < 2 ^ 12
      go true = field_lt 16 12 (record_in s x)
      go false = omega arith

  none : (d : Bool) (x : ℕ) → record_in s x ≡ 0 → (store_by d (heap_of s) i k t).cluster x ≡ 0
  unfolding store_by view field
  none false x e = rw e refl
  none true x e = unfold keep in (rw e (cond_same (others (cluster (record_in s i)) 0) 0))

  encoded-clusters : Named s.control i s.records s.slots → (d : Bool) (x : ℕ)
      → cluster (rec_of s.control.n (encoded (store_by d (heap_of s) i k t) s.records) x) ≡ (store_by d (heap_of s) i k t).cluster x
  unfolding field view
  encoded-clusters N d =
      read_at s.control.n (store_by d (heap_of s) i k t) (store-size d (heap_of s) i k t) s.records N.wide cluster _
      (λ x e. sym (none d x e)) (λ x. encoded-cluster _ _ _ _ _ (fits d x))

  after : (x : ℕ) → cluster (record_in (step (write i k w) s).after x) ≡ (store (heap_of s) i k t).cluster x
  unfolding step Write.write answer with_write_loss store
  after x =
      all-by
      (λ (o : Write.Outcome). o.answer.refusal ≡ 0 → cluster (rec_of o.answer.control.n o.records x)
      ≡ (store_by (dissolves (heap_of s) i k t) (heap_of s) i k t).cluster x) _ _ _
      (λ z e. encoded-clusters (write-named s.control i k w s.records s.slots s.sinks s.sets z).0 (dissolves (heap_of s) i k t) x) (λ m e. absurd (suc-ne-zero m e)) accepted

  loss : (step (write i k w) s).after.control.write_loss ≡ loss_after s.control i k w s.records s.slots s.sinks s.sets
  unfolding step Write.write answer with_write_loss
  loss =
      all-by (λ (o : Write.Outcome). o.answer.refusal ≡ 0 → o.answer.control.write_loss ≡ loss_after s.control i k w s.records s.slots s.sinks s.sets) _ _ _
      (λ z e. refl) (λ m e. absurd (suc-ne-zero m e)) accepted

  within : loss_after s.control i k w s.records s.slots s.sinks s.sets ≤ s.control.n
  within = ltb-false s.control.n _ (loss-passed s.control i k w s.records s.slots s.sinks s.sets (sym (tested s i k w) ∙ accepted))

  -- ---- the sets

  abbrev s' : State
  s' = (step (write i k w) s).after

  -- the buffers hold the pointers of the rule
  kids-after : (x : ℕ) → (heap_of s').kids x ≡ stored (heap_of s) i k t x
  unfolding step Write.write answer with_write_loss store view stored
  kids-after x =
      all-by (λ (o : Write.Outcome). o.answer.refusal ≡ 0 → (view o.answer.control.n o.records o.slots).kids x ≡ stored (heap_of s) i k t x) _ _ _
      (λ z e. at (write-named s.control i k w s.records s.slots s.sinks s.sets z).0 (slot-used s.control i k w s.records s.slots s.sinks s.sets z))
      (λ m e. absurd (suc-ne-zero m e)) accepted
    where
      d : Bool
      d = dissolves (heap_of s) i k t

      at : Named s.control i s.records s.slots → k < width (record_in s i)
          → (view s.control.n (encoded (store_by d (heap_of s) i k t) s.records) (set s.slots (8 * (i - 1) + k) w)).kids x ≡ stored (heap_of s) i k t x
      at N u =
          kids-stored s.control.n s.records s.slots i k w N.low u N.narrow (encoded (store_by d (heap_of s) i k t) s.records)
          (read_at s.control.n (store_by d (heap_of s) i k t) (store-size d (heap_of s) i k t) s.records N.wide width (λ y. width (record_in s y))
          (λ y e. ap width (sym e)) (λ y. encoded-width _ _ _ _ _)) x

  size-after : s'.control.n ≡ s.control.n
  unfolding step Write.write answer with_write_loss
  size-after = all-by (λ (o : Write.Outcome). o.answer.control.n ≡ s.control.n) _ _ _ (λ z. refl) (λ m. refl)

  sets-after : s'.sets ≡ Write.sets_after s.control i k w s.records s.slots s.sinks s.sets
  unfolding step Write.write answer
  sets-after =
      all-by (λ (o : Write.Outcome). o.answer.refusal ≡ 0 → o.sets ≡ Write.sets_after s.control i k w s.records s.slots s.sinks s.sets) _ _ _
      (λ z e. refl) (λ m e. absurd (suc-ne-zero m e)) accepted

  -- so the set of a head is that of the rule
  set_after : (h : ℕ) → set_word (heap_of s') h ≡ set_word (store (heap_of s) i k t) h
  unfolding step answer view store
  set_after h =
      set_word-same (heap_of s') (store (heap_of s) i k t) h (size-after ∙ sym (store-size d (heap_of s) i k t)) (sym rest.1)
      (λ x o. (λ z. sym (after x) ∙ z, λ z. after x ∙ z)) (λ x o z. kids-after x ∙ ap (λ (f : ℕ → List ℕ). f x) (sym rest.0))
    where
      d : Bool
      d = dissolves (heap_of s) i k t

      rest : ((store_by d (heap_of s) i k t).kids ≡ stored (heap_of s) i k t) × ((store_by d (heap_of s) i k t).listed ≡ (heap_of s).listed)
      rest = go d
        where
          go : (d : Bool) → ((store_by d (heap_of s) i k t).kids ≡ stored (heap_of s) i k t) × ((store_by d (heap_of s) i k t).listed ≡ (heap_of s).listed)
          go true = unfold store_by in (refl, refl)
          go false = unfold store_by in (refl, refl)

  -- the head's set has a word
  has-set : cluster (record_in s i) ≢ 0 → cluster (record_in s i) - 1 < length s.sets
  has-set nz =
      let z = sym (tested s i k w) ∙ accepted in
      let N = (write-named s.control i k w s.records s.slots s.sinks s.sets z).0 in
      omega (arith, nz, N.inside, sets-long s.control i k w s.records s.slots s.sinks s.sets z)

  exact-after : cluster (record_in s i) ≢ 0 → ExactSet s' (cluster (record_in s i))
  unfolding Write.sets_after view
  exact-after nz =
      let c = cluster (record_in s i) in
      set-exact s' c (ap (λ (l : List ℕ). get_or l (c - 1) 0) sets-after ∙ rw (ne_eqb c 0 nz) (get_or-set_same s.sets (c - 1) _ 0 (has-set nz)) ∙ sym (set_after c))

  others-after : (j : ℕ) → suc j ≢ cluster (record_in s i) → get_or s'.sets j 0 ≡ get_or s.sets j 0
  unfolding Write.sets_after view
  others-after j ne = ap (λ (l : List ℕ). get_or l j 0) sets-after ∙ go (cluster (record_in s i)) ne (eqb (cluster (record_in s i)) 0) refl _
    where
      go : (h : ℕ) → suc j ≢ h → (b : Bool) → eqb h 0 ≡ b → (v : ℕ) → get_or (cond b s.sets (set s.sets (h - 1) v)) j 0 ≡ get_or s.sets j 0
      go h d true e v = refl
      go h d false e v = get_or-set_other s.sets (h - 1) j v 0 (λ z. d (omega (arith, z, eqb-false h 0 e)))

  pub write-does : Writes s i k w
  unfolding store store_by loss_after loss_of loss_by
  write-does = record {
    dissolved = λ p x. after x ∙ ap (λ (b : Bool). (store_by b (heap_of s) i k t).cluster x) (dissolves-so s i k w p) ∙ member x;
    lost = λ p. loss ∙ ap (λ (b : Bool). s.control.write_loss + loss_by b (heap_of s) i) (dissolves-so s i k w p) ∙ (unfold size view in refl);
    kept = λ p x. after x ∙ ap (λ (b : Bool). (store_by b (heap_of s) i k t).cluster x) (stays p) ∙ (unfold view in refl);
    unlost = λ p. loss ∙ ap (λ (b : Bool). s.control.write_loss + loss_by b (heap_of s) i) (stays p) ∙ omega arith;
    fits = rw loss within;
    exact = exact-after;
    others = others-after;
  }
    where
      stays : (Dissolves s i k w → ⊥) → dissolves (heap_of s) i k t ≡ false
      stays p = is_false (dissolves (heap_of s) i k t) (λ e. p (so-dissolves s i k w e))

      member : (x : ℕ) → keep (others ((heap_of s).cluster i)) (heap_of s).cluster x
          ≡ cond (eqb (cluster (record_in s x)) (cluster (record_in s i))) 0 (cluster (record_in s x))
      member x = unfold keep others view in (cond-not (eqb (cluster (record_in s x)) (cluster (record_in s i))) (cluster (record_in s x)) 0)

-- refused for its loss: of the tests, only the last holds
module _ (s : State) (i k w : ℕ) (refused : refusal_of (write i k w) s ≡ 25) where
  abbrev loss' : ℕ
  loss' = loss_after s.control i k w s.records s.slots s.sinks s.sets

  abbrev tests : List Test
  tests = Write.write_tests s.control i k w s.records s.slots s.sinks s.sets

  first-25 : first tests ≡ 25
  first-25 = sym (tested s i k w) ∙ refused

  above : s.control.n < loss'
  above = go (ltb s.control.n loss') refl
    where
      go : (b : Bool) → ltb s.control.n loss' ≡ b → s.control.n < loss'
      go true e = ltb-true s.control.n loss' e
      go false e = absurd (unmet-first 24 tests (unfold meets Write.write_tests in (rw e refl)) first-25)

  sound : Sound s.control
  unfolding Write.write_tests
  sound = go (bad_control s.control) refl
    where
      go : (b : Bool) → bad_control s.control ≡ b → Sound s.control
      go false e = control-facts s.control e
      go true e = let z : ◌≡◌ {A = ℕ} 20 25 = sym (first_holds 20 _ (bad_control s.control) e) ∙ first-25 in absurd (omega arith)

  pub write-overflows : Dissolves s i k w × (s.control.n < s.control.write_loss + cluster_size s i)
  unfolding loss_after loss_of
  write-overflows = go (dissolves (heap_of s) i k (target s.control.n w)) refl
    where
      go : (b : Bool) → dissolves (heap_of s) i k (target s.control.n w) ≡ b
          → Dissolves s i k w × (s.control.n < s.control.write_loss + cluster_size s i)
      go true e = (so-dissolves s i k w e, (unfold loss_by size view in (rw e at above)))
      go false e =
          let a : s.control.n < s.control.write_loss + 0 = unfold loss_by in (rw e at above) in
          let b = sound.writes in
          absurd (omega arith)
