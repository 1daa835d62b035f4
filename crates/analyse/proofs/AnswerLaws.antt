-- The answers, counted object by object.
-- Assumes nothing.
use Prim.Native.Nat.{ℕ, suc, ◌+◌, ◌*◌, ◌/◌, ◌%◌, ◌≤◌, ◌<◌}
use mathlib.Core.Path.{◌≡◌, refl, sym, ap, ap₂, ◌∙◌}
use mathlib.Core.Bool.{Bool, true, false, cond, not, ◌&&◌}
use mathlib.Core.List.{List}
use mathlib.Core.Logic.{◌≢◌}
use native.Mathlib.Omega.{arith}
use mir.Val.{bool_byte}
use lib.Dec.{eqb}
use borrow.Author.Tests.{eq-eqb, ne_eqb}
use Rattle.graph.specs.Numbers.{bit, sum, count}
use Rattle.graph.proofs.NumberLaws.{count-le}
use Rattle.table.specs.Clusters.{cluster_of}
use Rattle.layout.specs.declared.answers.Tuning.{Tuning}
use Rattle.choices.specs.Choices.{over_by, loss_by}
use Rattle.analyse.specs.Memory.{area, size_in}
use Rattle.analyse.specs.Judge.{loss_at, new_head_at, new_member_at}

loss-le : (t : Tuning) (s p : ℕ) → loss_by t s p ≤ s
unfolding loss_by
loss-le t s p = go (over_by t s p)
  where
    go : (b : Bool) → cond b s 0 ≤ s
    go true = omega arith
    go false = omega arith

module _ (n : ℕ) (recs work : List ℕ) (h d : ℕ) (old : d ≡ cluster_of n recs h) where
  pub loss-old : (t : Tuning) → d ≢ 0 → 0 ≡ loss_at n t recs work h
  unfolding loss_at
  loss-old t p = rw (← old, ne_eqb d 0 p) refl

  pub head-is : (w : ℕ) → w ≡ area n n work h → (eqb d 0 && eqb (w % 4096) h) ≡ new_head_at n recs work h
  unfolding new_head_at
  head-is w e = rw (← old, ← e) refl

  pub member_is : (w : ℕ) → w ≡ area n n work h → (eqb d 0 && not (eqb (w % 4096) 0)) ≡ new_member_at n recs work h
  unfolding new_member_at
  member_is w e = rw (← old, ← e) refl

  module _ (z : d ≡ 0) (w : ℕ) where
    pub loss-other : (t : Tuning) → w ≡ area n (9 * n) work h → w % 4096 ≢ h → 0 ≡ loss_at n t recs work h
    unfolding loss_at
    loss-other t e p = rw (← old, z, ← e, ne_eqb (w % 4096) h p) refl

    pub loss-new : (t : Tuning) → w ≡ area n (9 * n) work h → w % 4096 ≡ h → (s p : ℕ) → s ≡ area n (8 * n) work h → p ≡ area n 0 work h
        → (m : ℕ) → m ≡ loss_by t (s / 4096) p → m ≡ loss_at n t recs work h
    unfolding loss_at loss_by
    loss-new t e own s p ss ps m is = is ∙ rw (← old, z, head-own, ← ss, ← ps) refl
      where
        head-own : eqb (area n (9 * n) work h % 4096) h ≡ true
        head-own = rw (← e) (eq-eqb (w % 4096) h own)

pub loss-few : (n : ℕ) (t : Tuning) (work : List ℕ) (h s : ℕ) → s ≡ area n (8 * n) work h → size_in (area n (8 * n) work) h ≤ 4095 → (p m : ℕ) → m ≡ loss_by t (s / 4096) p → m ≤ 4095
loss-few n t work h s e few p m is =
    let a = loss-le t (s / 4096) p in
    let b : s / 4096 ≤ 4095 = rw e few in
    omega arith

-- ---- sums up to k

pub sum_more : (k : ℕ) (f : ℕ → ℕ) → sum (k + 1) f ≡ sum k f + f (k + 1)
unfolding sum
sum_more k f = let e : k + 1 ≡ suc k = omega arith in rw e refl

pub record Found (n : ℕ) (t : Tuning) (recs work : List ℕ) (k loss clusters members : ℕ) : Type 0 where
  pub loss-is : loss ≡ sum k (loss_at n t recs work)
  pub clusters-is : clusters ≡ count k (new_head_at n recs work)
  pub members-is : members ≡ count k (new_member_at n recs work)
  pub most : k ≤ n
  pub loss-most : loss ≤ 4095 * k

-- a flag as a number
pub flag-bit : (b : Bool) → bool_byte b ≡ bit b
flag-bit true = refl
flag-bit false = refl

module _ (n : ℕ) (t : Tuning) (recs work : List ℕ) where
  pub found-start : Found n t recs work 0 0 0 0
  unfolding sum count
  found-start = record { loss-is = refl; clusters-is = refl; members-is = refl; most = omega arith; loss-most = omega arith }

  module _ (k loss clusters members : ℕ) (F : Found n t recs work k loss clusters members) where
    pub clusters-most : clusters ≤ k
    clusters-most = rw F.clusters-is (count-le k (new_head_at n recs work))

    pub members-most : members ≤ k
    members-most = rw F.members-is (count-le k (new_member_at n recs work))

    pub found_turn : k < n → (a : ℕ) (p q : Bool) → (a ≡ loss_at n t recs work (k + 1)) × (a ≤ 4095) → p ≡ new_head_at n recs work (k + 1)
        → q ≡ new_member_at n recs work (k + 1) → Found n t recs work (k + 1) (loss + a) (clusters + bit p) (members + bit q)
    unfolding count
    found_turn h a p q la ph qm = record {
      loss-is = ap₂ (λ (x y : ℕ). x + y) F.loss-is la.0 ∙ sym (sum_more k (loss_at n t recs work));
      clusters-is = ap₂ (λ (x y : ℕ). x + y) F.clusters-is (ap bit ph) ∙ sym (sum_more k (λ x. bit (new_head_at n recs work x)));
      members-is = ap₂ (λ (x y : ℕ). x + y) F.members-is (ap bit qm) ∙ sym (sum_more k (λ x. bit (new_member_at n recs work x)));
      most = omega arith;
      loss-most = omega (arith, F.loss-most, la.1);
    }

    pub found-end : n ≤ k → (loss ≡ sum n (loss_at n t recs work)) × (clusters ≡ count n (new_head_at n recs work)) × (members ≡ count n (new_member_at n recs work))
    found-end h = let e : k ≡ n = omega (arith, F.most) in (rw e at F.loss-is, rw e at F.clusters-is, rw e at F.members-is)
