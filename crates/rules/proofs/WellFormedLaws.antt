-- What the rules of a well-formed heap say of each object, and the rules of all objects taken together.
-- Assumes nothing.
use Prim.Native.Nat.{ℕ, zero, suc, ◌≤◌}
use mathlib.Core.Path.{◌≡◌, refl, sym, ap, ◌∙◌}
use mathlib.Core.Bool.{Bool, true, false, ◌&&◌, ◌||◌, beq, false≢true}
use mathlib.Core.List.Memᴰ
use mathlib.Core.List.{List, [], Memᴰ}
use mathlib.Core.Logic.{◌≢◌, ◌⊎◌, inl, inr}
use native.Mathlib.Decide.{dec_le}
use native.Mathlib.Omega.{arith}
use lib.Dec.{eqb}
use lib.ListN.{take}
use borrow.Author.Tests.{eqb-true, eq-eqb}
use Rattle.layout.specs.declared.answers.Control.{Control}
use Rattle.layout.specs.Field.{field, flag}
use Rattle.layout.specs.Limits.{sink_max}
use Rattle.records.specs.Record.{in_use, is_sink, is_out, cluster, free, legal}
use Rattle.layout.specs.Word.{is_nil, is_pointer, is_immediate}
use Rattle.records.proofs.RecordLaws.{Legal, legal-facts}
use Rattle.layout.proofs.LimitLaws.{in_within}
use Rattle.graph.specs.Numbers.{Obj}
use Rattle.rules.specs.Buffers.{rec_of, used_words, other_words, all_to}
use Rattle.rules.specs.View.{view, heap_in, set_word, exact_out}
use Rattle.rules.specs.WellFormed.{names, legal_at, empty_at, words_at, head_at, out_at, roots_named, list_ok, sets_ok, formed, well_formed}
use Rattle.rules.proofs.BoolLaws.{and-false, is_false, or_cases, and_split}
use Rattle.rules.proofs.SetLaws.{sets-at}
use Rattle.rules.proofs.ListedLaws.{Lists, lists-facts, facts-lists}
use Rattle.rules.proofs.ListLaws.{rec_of-above, all_of-at, all_to-at, all_to-all, rec_of-range}

beq-true : (a b : Bool) → beq a b ≡ true → a ≡ b
beq-true true true e = refl
beq-true true false e = absurd (false≢true e)
beq-true false true e = absurd (false≢true e)
beq-true false false e = refl

-- ---- tests over the numbers 1 to n

and-swap : (a b c d : Bool) → ((a && b) && (c && d)) ≡ ((a && c) && (b && d))
and-swap true true c d = refl
and-swap true false true d = refl
and-swap true false false d = refl
and-swap false b c d = refl

-- two tests on every number are one
pub all_to-and : (n : ℕ) (s t : ℕ → Bool) → all_to n (λ x. s x && t x) ≡ (all_to n s && all_to n t)
unfolding all_to
all_to-and zero s t = refl
all_to-and (suc n) s t =
    ap (λ (b : Bool). b && (s (suc n) && t (suc n))) (all_to-and n s t) ∙ and-swap (all_to n s) (all_to n t) (s (suc n)) (t (suc n))

-- a number that fails
pub all_to-fails : (n : ℕ) (t : ℕ → Bool) (x : ℕ) → 1 ≤ x → x ≤ n → t x ≡ false → all_to n t ≡ false
all_to-fails n t x p q e = is_false (all_to n t) (λ h. false≢true (sym e ∙ all_to-at n t h x p q))

-- one more number
pub all_to-more : (i : ℕ) (t : ℕ → Bool) → all_to i t ≡ true → t (suc i) ≡ true → all_to (suc i) t ≡ true
unfolding all_to
all_to-more i t a b = rw (a, b) refl

-- ---- the word that names an object in use

-- a record in use is that of an object
pub used-range : (n : ℕ) (recs : List ℕ) (x : ℕ) → in_use (rec_of n recs x) ≡ true → (1 ≤ x) × (x ≤ n)
unfolding flag field
used-range n recs x e = rec_of-range n recs x (λ z. false≢true (sym (ap in_use z) ∙ e))

pub names-used : (n : ℕ) (recs : List ℕ) (w : ℕ) → names n recs w ≡ in_use (rec_of n recs w)
unfolding names is_pointer
names-used n recs w = go (in_use (rec_of n recs w)) refl
  where
    go : (b : Bool) → in_use (rec_of n recs w) ≡ b → (Rattle.layout.specs.Limits.within 1 n w && b) ≡ b
    go true e = let l = used-range n recs w e in rw (in_within 1 n w l.0 l.1) refl
    go false e = and-false (Rattle.layout.specs.Limits.within 1 n w)

-- ---- a well-formed heap, object by object

-- w names an object in use
pub record Names (n : ℕ) (recs : List ℕ) (w : ℕ) : Type 0 where
  pub low : 1 ≤ w
  pub high : w ≤ n
  pub used : in_use (rec_of n recs w) ≡ true

pub record Sane (n r : ℕ) (recs slots roots : List ℕ) : Type 0 where
  pub fit : (x : ℕ) → (rec_of n recs x ≡ 0) ⊎ Legal n (rec_of n recs x)
  pub empty : (x w : ℕ) → 1 ≤ x → x ≤ n → Memᴰ w (other_words n recs slots x) → w ≡ 0
  pub named : (x w : ℕ) → Memᴰ w (used_words n recs slots x) → (w ≡ 0) ⊎ ((is_immediate w ≡ true) ⊎ Names n recs w)
  pub heads : (x : ℕ) → cluster (rec_of n recs x) ≢ 0 → cluster (rec_of n recs (cluster (rec_of n recs x))) ≡ cluster (rec_of n recs x)
  pub exact : (x : ℕ) → is_out (rec_of n recs x) ≡ exact_out (view n recs slots) x
  pub rooted : (w : ℕ) → Memᴰ w (take r roots) → (w ≡ 0) ⊎ Names n recs w

-- an object, or no record at all
pub in-or-out : (n : ℕ) (recs : List ℕ) (x : ℕ) → Obj n x ⊎ (rec_of n recs x ≡ 0)
in-or-out n recs x = go x (dec_le x n)
  where
    go : (x : ℕ) → Dec (x ≤ n) → Obj n x ⊎ (rec_of n recs x ≡ 0)
    go zero d = inr (unfold rec_of in refl)
    go (suc i) (yes l) = inl (omega arith, l)
    go (suc i) (no l) = inr (rec_of-above n recs (suc i) (omega (arith, l)))

-- what stands for a record that is 0
pub used-none : (n : ℕ) (recs slots : List ℕ) (x : ℕ) → rec_of n recs x ≡ 0 → used_words n recs slots x ≡ []
unfolding used_words field
used-none n recs slots x e = rw e refl

cluster-none : (n : ℕ) (recs : List ℕ) (x : ℕ) → rec_of n recs x ≡ 0 → cluster (rec_of n recs x) ≡ 0
unfolding field
cluster-none n recs x e = rw e refl

-- in no cluster nothing is out
pub exact_none : (n : ℕ) (recs slots : List ℕ) (x : ℕ) → cluster (rec_of n recs x) ≡ 0 → exact_out (view n recs slots) x ≡ false
unfolding exact_out view Rattle.graph.specs.Clusters.out_bit
exact_none n recs slots x e = rw e refl

named_by : (n : ℕ) (recs : List ℕ) (w : ℕ) → names n recs w ≡ true → Names n recs w
named_by n recs w e =
    let u = sym (names-used n recs w) ∙ e in
    let l = used-range n recs w u in
    record { low = l.0; high = l.1; used = u }

-- ---- the list of sinks and the sets

-- what the rules say of the list and of each set
pub record Sinks (n : ℕ) (recs slots list sets : List ℕ) : Type 0 where
  pub listed : Lists n (λ x. is_sink (rec_of n recs x)) (take sink_max list)
  pub exact : (h : ℕ) → 1 ≤ h → h ≤ n → rec_of n sets h ≡ set_word (heap_in n recs slots list) h

module _ (n : ℕ) (recs slots list sets : List ℕ) where
  pub sinks-facts : list_ok n recs list ≡ true → sets_ok n recs slots list sets ≡ true → Sinks n recs slots list sets
  unfolding list_ok
  sinks-facts e f = record { listed = lists-facts n _ _ e; exact = λ h p q. sets-at n recs slots list sets f h (p, q) }

  pub facts-list : Lists n (λ x. is_sink (rec_of n recs x)) (take sink_max list) → list_ok n recs list ≡ true
  unfolding list_ok
  facts-list L = facts-lists n _ _ L

  pub facts-sets : ((h : ℕ) → 1 ≤ h → h ≤ n → rec_of n sets h ≡ set_word (heap_in n recs slots list) h) → sets_ok n recs slots list sets ≡ true
  unfolding sets_ok
  facts-sets f = all_to-all n (λ h. eqb (rec_of n sets h) (set_word (heap_in n recs slots list) h)) (λ h p q. eq-eqb _ _ (f h p q))

module _ (c : Control) (recs slots roots list sets : List ℕ) (e : well_formed c recs slots roots list sets ≡ true) where
  parts : (formed c.n c.r recs slots roots ≡ true) × (list_ok c.n recs list ≡ true) × (sets_ok c.n recs slots list sets ≡ true)
  unfolding well_formed
  parts =
      let f = and_split (formed c.n c.r recs slots roots && list_ok c.n recs list) (sets_ok c.n recs slots list sets) e in
      let g = and_split (formed c.n c.r recs slots roots) (list_ok c.n recs list) f.0 in
      (g.0, g.1, f.1)

  -- the rules of n objects and r roots, from those of the control record
  pub formed-of : formed c.n c.r recs slots roots ≡ true
  formed-of = parts.0

  -- and those of the list and the sets
  pub sinks-of : Sinks c.n recs slots list sets
  sinks-of = sinks-facts c.n recs slots list sets parts.1 parts.2

-- ---- the rules of the objects and of the roots

module _ (n r : ℕ) (recs slots roots : List ℕ) where
  pub sane : formed n r recs slots roots ≡ true → Sane n r recs slots roots
  unfolding formed
  sane e =
      let f = and_split _ _ e in
      let g = and_split _ _ f.0 in
      let h = and_split _ _ g.0 in
      let k = and_split _ _ h.0 in
      let l = and_split _ _ k.0 in
      record {
        fit = λ x. fit l.0 x (in-or-out n recs x);
        empty = λ x w p q m. unfold is_nil in (eqb-true w 0 (all_of-at is_nil (other_words n recs slots x) w (unfold empty_at in (all_to-at n (empty_at n recs slots) l.1 x p q)) m));
        named = λ x w m. named k.1 x w m (in-or-out n recs x);
        heads = λ x z. heads h.1 x z (in-or-out n recs x);
        exact = λ x. exact g.1 x (in-or-out n recs x);
        rooted = λ w m. root w (all_of-at (λ v. is_nil v || names n recs v) (take r roots) w (unfold roots_named in f.1) m);
      }
    where
      fit : all_to n (legal_at n recs) ≡ true → (x : ℕ) → Obj n x ⊎ (rec_of n recs x ≡ 0) → (rec_of n recs x ≡ 0) ⊎ Legal n (rec_of n recs x)
      fit a x (inr z) = inl z
      fit a x (inl (p, q)) = go (or_cases _ _ (unfold legal_at in (all_to-at n (legal_at n recs) a x p q)))
        where
          go : (free (rec_of n recs x) ≡ true) ⊎ (legal n (rec_of n recs x) ≡ true) → (rec_of n recs x ≡ 0) ⊎ Legal n (rec_of n recs x)
          go (inl z) = inl (unfold free in (eqb-true (rec_of n recs x) 0 z))
          go (inr z) = inr (legal-facts n (rec_of n recs x) z)

      word : (w : ℕ) → (is_nil w || is_immediate w || names n recs w) ≡ true → (w ≡ 0) ⊎ ((is_immediate w ≡ true) ⊎ Names n recs w)
      word w t = go (or_cases _ _ t)
        where
          two : (is_nil w ≡ true) ⊎ (is_immediate w ≡ true) → (w ≡ 0) ⊎ ((is_immediate w ≡ true) ⊎ Names n recs w)
          two (inl z) = inl (unfold is_nil in (eqb-true w 0 z))
          two (inr z) = inr (inl z)

          go : ((is_nil w || is_immediate w) ≡ true) ⊎ (names n recs w ≡ true) → (w ≡ 0) ⊎ ((is_immediate w ≡ true) ⊎ Names n recs w)
          go (inl z) = two (or_cases _ _ z)
          go (inr z) = inr (inr (named_by n recs w z))

      named : all_to n (words_at n recs slots) ≡ true → (x w : ℕ) → Memᴰ w (used_words n recs slots x) → Obj n x ⊎ (rec_of n recs x ≡ 0)
          → (w ≡ 0) ⊎ ((is_immediate w ≡ true) ⊎ Names n recs w)
      named a x w m (inr z) = absurd (Memᴰ.not-nil (rw (used-none n recs slots x z) at m))
      named a x w m (inl (p, q)) = word w
          (all_of-at (λ v. is_nil v || is_immediate v || names n recs v) (used_words n recs slots x) w
          (unfold words_at in (all_to-at n (words_at n recs slots) a x p q)) m)

      heads : all_to n (head_at n recs) ≡ true → (x : ℕ) → cluster (rec_of n recs x) ≢ 0 → Obj n x ⊎ (rec_of n recs x ≡ 0)
          → cluster (rec_of n recs (cluster (rec_of n recs x))) ≡ cluster (rec_of n recs x)
      heads a x z (inr y) = absurd (z (cluster-none n recs x y))
      heads a x z (inl (p, q)) =
          go (or_cases (eqb (cluster (rec_of n recs x)) 0) (eqb (cluster (rec_of n recs (cluster (rec_of n recs x)))) (cluster (rec_of n recs x)))
          (unfold head_at in (all_to-at n (head_at n recs) a x p q)))
        where
          go : (eqb (cluster (rec_of n recs x)) 0 ≡ true) ⊎ (eqb (cluster (rec_of n recs (cluster (rec_of n recs x)))) (cluster (rec_of n recs x)) ≡ true)
              → cluster (rec_of n recs (cluster (rec_of n recs x))) ≡ cluster (rec_of n recs x)
          go (inl y) = absurd (z (eqb-true _ 0 y))
          go (inr y) = eqb-true _ _ y

      exact : all_to n (out_at n recs slots) ≡ true → (x : ℕ) → Obj n x ⊎ (rec_of n recs x ≡ 0) → is_out (rec_of n recs x) ≡ exact_out (view n recs slots) x
      exact a x (inr z) =
          let o : is_out 0 ≡ false = unfold flag field in refl in
          ap is_out z ∙ o ∙ sym (exact_none n recs slots x (cluster-none n recs x z))
      exact a x (inl (p, q)) = beq-true (is_out (rec_of n recs x)) (exact_out (view n recs slots) x) (unfold out_at view in (all_to-at n (out_at n recs slots) a x p q))

      root : (w : ℕ) → (is_nil w || names n recs w) ≡ true → (w ≡ 0) ⊎ Names n recs w
      root w t = go (or_cases _ _ t)
        where
          go : (is_nil w ≡ true) ⊎ (names n recs w ≡ true) → (w ≡ 0) ⊎ Names n recs w
          go (inl z) = inl (unfold is_nil in (eqb-true w 0 z))
          go (inr z) = inr (named_by n recs w z)
