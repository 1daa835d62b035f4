-- The marks: how many are counted, and one member or cluster after the other. Assumes nothing.
use Prim.Native.Nat.{ℕ, zero, suc, ◌+◌, ◌-◌, ◌≤◌, ◌<◌, min}
use mathlib.Core.Path.{◌≡◌, refl, sym, ap, ◌∙◌}
use mathlib.Core.Bool.{Bool, true, false, not, cond, ◌&&◌, ◌||◌}
use mathlib.Core.Logic.{◌≢◌}
use mathlib.Core.List.{List}
use native.Mathlib.Numerals.{add-one}
use native.Mathlib.Decide.{dec_le}
use native.Mathlib.Omega.{arith}
use lib.Dec.{eqb}
use lib.ListN.{length, get_or}
use borrow.Author.Tests.{eq-eqb, ne_eqb}
use Rattle.layout.specs.Field.{field, flag}
use Rattle.records.specs.Record.{is_marked, is_reached, with_marked, with_postponed, with_reached, cluster, loose}
use Rattle.layout.proofs.FieldLaws.{flag-put-other, flag-put-same, flag-put-put}
use Rattle.records.proofs.RecordLaws.{loose-flag}
use Rattle.graph.specs.Numbers.{Obj, bit, sum, count}
use Rattle.rules.specs.Buffers.{rec_of, each_record}
use Rattle.rules.specs.Sweep.{kept_record}
use Rattle.rules.proofs.ListLaws.{rec_of-each, each_same}
use Rattle.rules.proofs.BufferLaws.{rec_of-get}
use Rattle.rules.proofs.StoreLaws.{rec_of-past}
use Rattle.sweep.specs.Sweep.{marked_at, marked_count, member_marked, members_marked, unflagged_record, unflagged}
use Rattle.rules.proofs.ListLaws.{each-each}
use Rattle.sweep.proofs.PassingLaws.{Keeps}

-- ---- the count

unmarked : (m : ℕ) → m + bit (is_marked 0) ≡ m
unfolding flag field
unmarked m = omega arith

module _ (n : ℕ) (recs : List ℕ) where
  -- those among 1 to i
  unfoldable pub marked_to : ℕ → ℕ
  marked_to i = count i (marked_at n recs)

  pub marked-none : 0 ≡ marked_to 0
  unfolding marked_to count sum
  marked-none = refl

  pub marked_more : (i : ℕ) → i < n → marked_to (i + 1) ≡ marked_to i + bit (is_marked (get_or recs i 0))
  unfolding marked_to count sum marked_at
  marked_more i p =
      let z : suc i - 1 ≡ i = omega arith in
      rw (add-one i) (ap (λ (r : ℕ). count i (marked_at n recs) + bit (is_marked r)) (rec_of-get n recs (suc i) (omega arith) p ∙ ap (λ (j : ℕ). get_or recs j 0) z))

  past : (k i : ℕ) → length recs ≤ i → marked_to (k + i) ≡ marked_to i
  unfolding marked_to count sum marked_at
  past zero i p = let z : 0 + i ≡ i = omega arith in rw z refl
  past (suc k) i p =
      let z : suc k + i ≡ suc (k + i) = omega arith in
      rw z (ap (λ (r : ℕ). count (k + i) (marked_at n recs) + bit (is_marked r)) (rec_of-past n recs (suc (k + i)) (omega arith))
      ∙ unmarked (count (k + i) (marked_at n recs)) ∙ past k i p)

  -- all that are there are counted
  pub marked-all : (k i : ℕ) → i ≡ min n (length recs) → k ≡ marked_to i → k ≡ marked_count n recs
  unfolding marked_count marked_to
  marked-all k i e h =
      let z : n - i + i ≡ n = omega arith in
      h ∙ sym (go (dec_le n (length recs))) ∙ ap (λ (j : ℕ). count j (marked_at n recs)) z
    where
      go : Dec (n ≤ length recs) → marked_to (n - i + i) ≡ marked_to i
      go (yes l) = ap marked_to (omega arith)
      go (no l) = past (n - i) i (omega (arith, l))

-- ---- one record

module _ (n r c : ℕ) (recs : List ℕ) (e : c ≡ cluster r) where
  pub member-none : c ≡ 0 → r ≡ member_marked n recs r
  unfolding member_marked
  member-none z = rw (← e, eq-eqb c 0 z) refl

  module _ (h : c ≢ 0) (a : Bool) (d : a ≡ is_reached (rec_of n recs c)) where
    pub member-reached : a ≡ true → with_marked true r ≡ member_marked n recs r
    unfolding member_marked
    member-reached t = rw (← e, ne_eqb c 0 h, ← d, t) refl

    pub member-left : a ≡ false → r ≡ member_marked n recs r
    unfolding member_marked
    member-left t = rw (← e, ne_eqb c 0 h, ← d, t) refl

  pub head-none : c ≡ 0 → r ≡ kept_record (marked_at n recs) r
  unfolding kept_record marked_at
  head-none z = rw (← e, eq-eqb c 0 z) refl

  module _ (h : c ≢ 0) (a : Bool) (d : a ≡ is_marked (rec_of n recs c)) where
    pub head-marked : a ≡ true → r ≡ kept_record (marked_at n recs) r
    unfolding kept_record marked_at
    head-marked t = rw (← e, ne_eqb c 0 h, ← d, t) refl

    pub head-freed : a ≡ false → loose r ≡ kept_record (marked_at n recs) r
    unfolding kept_record marked_at
    head-freed t = rw (← e, ne_eqb c 0 h, ← d, t) refl

-- ---- neither changes what it reads

module _ (n r : ℕ) (recs₀ recs : List ℕ) where
  pub member-same : Keeps is_reached n recs₀ recs → member_marked n recs r ≡ member_marked n recs₀ r
  unfolding member_marked
  member-same h = rw (h (cluster r)) refl

  pub head-same : Keeps is_marked n recs₀ recs → kept_record (marked_at n recs) r ≡ kept_record (marked_at n recs₀) r
  unfolding kept_record marked_at
  head-same h = rw (h (cluster r)) refl

module _ (n r : ℕ) (recs : List ℕ) where
  pub member-reach : is_reached (member_marked n recs r) ≡ is_reached r
  unfolding member_marked
  member-reach = go (not (eqb (cluster r) 0) && is_reached (rec_of n recs (cluster r)))
    where
      go : (b : Bool) → is_reached (cond b (with_marked true r) r) ≡ is_reached r
      go true = flag-put-other 4 true r 6 (λ (q : 4 ≡ 6). omega arith)
      go false = refl

  pub head-mark : is_marked (kept_record (marked_at n recs) r) ≡ is_marked r
  unfolding kept_record marked_at
  head-mark = go (eqb (cluster r) 0 || is_marked (rec_of n recs (cluster r)))
    where
      go : (b : Bool) → is_marked (cond b r (loose r)) ≡ is_marked r
      go true = refl
      go false = loose-flag r 4 refl (λ (q : 4 ≡ 3). omega arith)

-- ---- the passes

pub members-all : (n : ℕ) (recs₀ recs : List ℕ) → recs ≡ each_record n (λ x r. member_marked n recs₀ r) recs₀ → recs ≡ members_marked n recs₀
unfolding members_marked
members-all n recs₀ recs e = e

pub unflagged-by : (r a b c : ℕ) → a ≡ with_marked false r → b ≡ with_postponed false a → c ≡ with_reached false b → c ≡ unflagged_record r
unfolding unflagged_record
unflagged-by r a b c p q s = s ∙ ap (with_reached false) (q ∙ ap (with_postponed false) p)

-- ---- what is read after the members are marked

module _ (n : ℕ) (recs : List ℕ) where
  pub unflagged-members : unflagged n (members_marked n recs) ≡ unflagged n recs
  unfolding unflagged members_marked member_marked each_record
  unflagged-members =
      each-each 1 n (λ x r. member_marked n recs r) (λ x r. unflagged_record r) recs
      ∙ each_same 1 n (λ x r. unflagged_record (member_marked n recs r)) (λ x r. unflagged_record r) recs (λ x r p q. unflagged-member r)
    where
      go : (b : Bool) (r : ℕ) → unflagged_record (cond b (with_marked true r) r) ≡ unflagged_record r
      go true r = unfold unflagged_record in ap (λ (s : ℕ). with_reached false (with_postponed false s)) (flag-put-put 4 true false r)
      go false r = refl

      unflagged-member : (r : ℕ) → unflagged_record (member_marked n recs r) ≡ unflagged_record r
      unflagged-member r = go (not (eqb (cluster r) 0) && is_reached (rec_of n recs (cluster r))) r

  module _ (long : n ≤ length recs) (x : ℕ) (o : Obj n x) where
    -- marked before, or a member of a cluster whose head is reached
    pub members-marked : marked_at n (members_marked n recs) x
        ≡ marked_at n recs x || (not (eqb (cluster (rec_of n recs x)) 0) && is_reached (rec_of n recs (cluster (rec_of n recs x))))
    unfolding marked_at members_marked member_marked
    members-marked =
        ap is_marked (rec_of-each n (λ y r. member_marked n recs r) recs x o.0 o.1 long)
        ∙ go (not (eqb (cluster (rec_of n recs x)) 0) && is_reached (rec_of n recs (cluster (rec_of n recs x)))) (rec_of n recs x)
      where
        go : (b : Bool) (r : ℕ) → is_marked (cond b (with_marked true r) r) ≡ is_marked r || b
        go true r = flag-put-same 4 true r ∙ any (is_marked r)
          where
            any : (d : Bool) → true ≡ d || true
            any true = refl
            any false = refl
        go false r = none (is_marked r)
          where
            none : (d : Bool) → d ≡ d || false
            none true = refl
            none false = refl
