-- What the calls keep true of a heap, and that it then passes the tests 20, 2 and 21.
-- Assumes nothing.
use Prim.Native.Nat.{ℕ, ◌*◌, ◌≤◌}
use mathlib.Core.Path.{◌≡◌, refl, sym, ap, ◌∙◌}
use mathlib.Core.Bool.{Bool, true, false, not, ◌||◌, false≢true, true≢false, beq}
use mathlib.Core.List.{List, Memᴰ}
use mathlib.Core.Logic.{◌⊎◌, inl, inr}
use native.Mathlib.Decide.{ℕ_discrete}
use native.Mathlib.Omega.{arith}
use lib.Dec.{eqb}
use lib.ListN.{length, take}
use borrow.Author.Tests.{le-ltb, eq-eqb, ne_eqb}
use Rattle.records.specs.Record as R
use Rattle.layout.specs.ControlRecord.{bad_control}
use Rattle.layout.specs.Limits.{sink_max, slots_len}
use Rattle.layout.specs.Field.{field, flag}
use Rattle.records.specs.Record.{cluster, clear, damaged}
use Rattle.layout.specs.Word.{is_nil, is_immediate}
use Rattle.records.proofs.RecordLaws.{Legal, facts-legal, legal-nonzero, zero-free, free-undamaged, legal-undamaged}
use Rattle.layout.proofs.ControlLaws.{Sound, facts-control}
use Rattle.graph.specs.Invariant.{Heads}
use Rattle.graph.proofs.Paths.{connected-head}
use Rattle.graph.proofs.State.{Good}
use Rattle.rules.specs.Buffers.{rec_of, short, short_heap, used_words, other_words, all_of}
use Rattle.rules.specs.View.{view, set_word, exact_out}
use Rattle.rules.specs.WellFormed.{names, legal_at, empty_at, words_at, head_at, out_at, roots_named, once, formed, well_formed}
use Rattle.rules.specs.Steps.{State}
use Rattle.rules.specs.Demands.{heap_of, words_of, record_in, roots_of}
use Rattle.rules.proofs.BoolLaws.{or-true}
use Rattle.rules.proofs.ListedLaws.{Lists}
use Rattle.rules.proofs.ListLaws.{all_of-all, all_to-all}
use Rattle.rules.proofs.WellFormedLaws.{facts-list, facts-sets}

-- ---- the invariant

-- a word that a used slot may hold, and one that a root may hold
abbrev pub SlotWord : ℕ → List ℕ → ℕ → Type 0
SlotWord n recs w = (is_nil w || is_immediate w || names n recs w) ≡ true

abbrev pub RootWord : ℕ → List ℕ → ℕ → Type 0
RootWord n recs w = (is_nil w || names n recs w) ≡ true

pub record Inv (s : State) : Type 0 where
  pub sound : Sound s.control
  pub recs-long : s.control.n ≤ length s.records
  pub slots-long : 8 * s.control.n ≤ length s.slots
  pub roots-long : s.control.r ≤ length s.roots
  pub sinks-long : sink_max ≤ length s.sinks
  pub sets-long : s.control.n ≤ length s.sets
  -- the heap is well formed, but for what `good` says
  pub legal : (x : ℕ) → (record_in s x ≡ 0) ⊎ Legal s.control.n (record_in s x)
  pub empty : (x : ℕ) → 1 ≤ x → x ≤ s.control.n → all_of is_nil (other_words s.control.n s.records s.slots x) ≡ true
  pub named : (x w : ℕ) → Memᴰ w (words_of s x) → SlotWord s.control.n s.records w
  pub rooted : (w : ℕ) → Memᴰ w (roots_of s) → RootWord s.control.n s.records w
  -- no sink has two places, and the sets are exact
  pub single : once (take sink_max s.sinks) ≡ true
  pub sets-exact : (h : ℕ) → 1 ≤ h → h ≤ s.control.n → rec_of s.control.n s.sets h ≡ set_word (heap_of s) h
  -- clusters are connected, sinks have none and are listed, out bits are exact, and losses and members are together at most n
  pub good : Good (heap_of s) s.control.write_loss

beq_same : (a b : Bool) → a ≡ b → beq a b ≡ true
beq_same true true e = refl
beq_same true false e = absurd (true≢false e)
beq_same false true e = absurd (false≢true e)
beq_same false false e = refl

legal-at : (n : ℕ) (recs : List ℕ) (x : ℕ) → (rec_of n recs x ≡ 0) ⊎ Legal n (rec_of n recs x) → legal_at n recs x ≡ true
unfolding legal_at R.free
legal-at n recs x (inl e) = rw e refl
legal-at n recs x (inr L) = rw (facts-legal n (rec_of n recs x) L) (or-true (eqb (rec_of n recs x) 0))

pub sane : (n r : ℕ) → (r ≡ 0) ⊎ Legal n r → damaged n r ≡ false
sane n r (inl e) = free-undamaged n r (zero-free n r e)
sane n r (inr L) = legal-undamaged n r (facts-legal n r L)

pub illegal : (n r : ℕ) → (r ≡ 0) ⊎ Legal n r → not (R.legal n r) ≡ R.free r
unfolding R.free R.legal clear flag field
illegal n r (inl e) = rw e refl
illegal n r (inr L) = ap not (facts-legal n r L) ∙ sym (ne_eqb r 0 (legal-nonzero n r L))

-- the rules of a well-formed heap, from what they say of each object
module _ (n r : ℕ) (recs slots roots : List ℕ) where
  head_at_lem : (x : ℕ) → Heads (view n recs slots).cluster → Dec (cluster (rec_of n recs x) ≡ 0) → head_at n recs x ≡ true
  unfolding head_at view
  head_at_lem x h (yes e) = rw e refl
  head_at_lem x h (no e) = rw (eq-eqb _ _ (h x e)) (or-true (eqb (cluster (rec_of n recs x)) 0))

  pub formed-by : ((x : ℕ) → (rec_of n recs x ≡ 0) ⊎ Legal n (rec_of n recs x))
      → ((x : ℕ) → 1 ≤ x → x ≤ n → all_of is_nil (other_words n recs slots x) ≡ true)
      → ((x w : ℕ) → Memᴰ w (used_words n recs slots x) → SlotWord n recs w)
      → Heads (view n recs slots).cluster
      → ((x : ℕ) → (view n recs slots).out x ≡ exact_out (view n recs slots) x)
      → ((w : ℕ) → Memᴰ w (take r roots) → RootWord n recs w)
      → formed n r recs slots roots ≡ true
  unfolding formed empty_at words_at out_at roots_named
  formed-by legal empty named heads exact rooted =
      rw (
        all_to-all n (legal_at n recs) (λ x p q. legal-at n recs x (legal x)),
        all_to-all n (λ x. all_of is_nil (other_words n recs slots x)) empty,
        all_to-all n (λ x. all_of (λ w. is_nil w || is_immediate w || names n recs w) (used_words n recs slots x)) (λ x p q. all_of-all _ _ (named x)),
        all_to-all n (head_at n recs) (λ x p q. head_at_lem x heads (ℕ_discrete _ _)),
        all_to-all n (λ x. beq ((view n recs slots).out x) (exact_out (view n recs slots) x)) (λ x p q. beq_same _ _ (exact x)),
      )
      (all_of-all _ _ rooted)

pub enough : (k : ℕ) (l : List ℕ) → k ≤ length l → short k l ≡ false
unfolding short
enough k l p = le-ltb (length l) k p

module _ (s : State) (I : Inv s) where
  pub inv-lists : Lists s.control.n (λ x. R.is_sink (record_in s x)) (take sink_max s.sinks)
  unfolding view
  inv-lists = record {
    from = λ y m nz. let t = I.good.listed_in y m nz in ((omega (arith, nz), t.0), t.1);
    all = λ x b e. I.good.listed-all x e;
    single = I.single;
  }

  pub inv-formed : well_formed s.control s.records s.slots s.roots s.sinks s.sets ≡ true
  unfolding well_formed
  inv-formed =
      rw (
        formed-by s.control.n s.control.r s.records s.slots s.roots I.legal I.empty I.named (connected-head _ _ I.good.conn)
            (λ x. unfold exact_out in (I.good.exact x)) I.rooted,
        facts-list s.control.n s.records s.slots s.sinks s.sets inv-lists,
      )
      (facts-sets s.control.n s.records s.slots s.sinks s.sets I.sets-exact)

  pub inv-control : bad_control s.control ≡ false
  inv-control = facts-control s.control I.sound

  -- no record is damaged
  pub inv-sane : (x : ℕ) → damaged s.control.n (record_in s x) ≡ false
  inv-sane x = sane s.control.n (record_in s x) (I.legal x)

  -- an object is legal exactly where it is not R.free
  pub inv-illegal : (x : ℕ) → not (R.legal s.control.n (record_in s x)) ≡ R.free (record_in s x)
  inv-illegal x = illegal s.control.n (record_in s x) (I.legal x)

  -- no slice is too short
  pub inv-long : short_heap s.control.n s.control.r s.records s.slots s.roots s.sinks s.sets ≡ false
  unfolding short_heap slots_len
  inv-long =
      rw (
        enough s.control.n s.records I.recs-long,
        enough (8 * s.control.n) s.slots I.slots-long,
        enough s.control.r s.roots I.roots-long,
        enough sink_max s.sinks I.sinks-long,
        enough s.control.n s.sets I.sets-long,
      )
      refl
