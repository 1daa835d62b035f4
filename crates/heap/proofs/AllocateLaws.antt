-- The search for a free object, and what allocate answers at each of its ends. Assumes nothing.
use Prim.Native.Nat.{ℕ, zero, suc, ◌+◌, ◌-◌, ◌≤◌, ◌<◌}
use mathlib.Core.Path.{◌≡◌, refl, sym, ap, ap₂, ◌∙◌}
use mathlib.Core.Bool.{Bool, true, false, cond, ◌||◌}
use mathlib.Core.List.{List}
use mathlib.Core.Logic.{◌≢◌}
use native.Mathlib.Omega.{arith}
use lib.Dec.{eqb, ltb}
use lib.ListN.{length, get_or, set}
use borrow.Author.Tests.{lt-ltb, le-ltb, ltb-false, eq-eqb, ne_eqb, eqb-false}
use Rattle.layout.specs.declared.answers.Control.{Control}
use Rattle.layout.specs.Limits.{slots_len}
use Rattle.records.specs.Record.{free, new_record}
use Rattle.layout.specs.ControlRecord.{bad_control, with_last}
use Rattle.layout.specs.Refusal.{refusal_of, first}
use Rattle.layout.proofs.ControlLaws.{control-facts}
use Rattle.records.proofs.RecordLaws.{zero-free, nonzero-free}
use Rattle.layout.proofs.RefusalLaws.{first-passed, outcome-zero, outcome-number}
use Rattle.rules.specs.Buffers.{short, rec_of, numbers, each_record, each_slot}
use Rattle.rules.specs.Allocate.{first_of, candidates, given, allocate_tests}
use Rattle.rules.specs.Allocate as Allocate
use Rattle.rules.proofs.BufferLaws.{rec_of-get, record-one}
use Rattle.std.specs.Prelude.{Option, Some, None, Result}
use Rattle.std.specs.Option.{ok_or}
use Rattle.layout.specs.declared.refusals.Refusal.{Refusal}
use Rattle.layout.specs.declared.refusals.Refusal.TheVariants.{Full}
use Rattle.heap.specs.Search.{object}
use Rattle.table.specs.Cleared.{cleared}
use Rattle.table.specs.Room.{object_room}
use Rattle.table.proofs.ClearedLaws.{cleared-object}
use Rattle.table.proofs.NamedLaws.{object-room-fits, object-room-short}
use Rattle.rules.proofs.BoolLaws.{or_split}
use Rattle.rules.proofs.SearchLaws.{first_of-found, candidates-of, first_of-here, first_of-next, first_of-none, first_of-rest, first_of-front}

-- ---- one search

module _ (n : ℕ) (recs : List ℕ) where
  abbrev is_free : ℕ → Bool
  is_free y = free (rec_of n recs y)

  module _ {to : ℕ} (h : to ≤ n) where
    at : (i : ℕ) → i < to → rec_of n recs (suc i) ≡ get_or recs i 0
    at i l = let e : suc i - 1 ≡ i = omega arith in rec_of-get n recs (suc i) (omega arith) (omega arith) ∙ ap (λ (k : ℕ). get_or recs k 0) e

    left : (i : ℕ) → i < to → to - i ≡ suc (to - suc i)
    left i l = omega arith

    pub found : (i : ℕ) → i < to → get_or recs i 0 ≡ 0 → i + 1 ≡ first_of is_free (numbers (suc i) (to - i))
    found i l z =
        let e : i + 1 ≡ suc i = omega arith in
        e ∙ sym (ap (λ (k : ℕ). first_of is_free (numbers (suc i) k)) (left i l) ∙ first_of-here is_free (suc i) (to - suc i) (zero-free n _ (at i l ∙ z)))

    pub more : (i : ℕ) → i < to → get_or recs i 0 ≢ 0 → first_of is_free (numbers (suc (i + 1)) (to - (i + 1))) ≡ first_of is_free (numbers (suc i) (to - i))
    more i l z =
        let e : i + 1 ≡ suc i = omega arith in
        ap (λ (k : ℕ). first_of is_free (numbers (suc k) (to - k))) e
        ∙ sym (ap (λ (k : ℕ). first_of is_free (numbers (suc i) k)) (left i l) ∙ first_of-next is_free (suc i) (to - suc i) (nonzero-free n _ (λ q. z (sym (at i l) ∙ q))))

  pub none : (to i : ℕ) → to ≤ i → 0 ≡ first_of is_free (numbers (suc i) (to - i))
  none to i l = let e : to - i ≡ 0 = omega arith in sym (ap (λ (k : ℕ). first_of is_free (numbers (suc i) k)) e ∙ first_of-none is_free (suc i))

-- an object is numbered from 1 on
pub object-some : (x k : ℕ) → Some x ≡ object k → (x ≡ k) × (k ≢ 0)
object-some x zero e = cc
object-some x (suc k) e = (cc, λ (z : suc k ≡ 0). omega arith)

pub object-none : (k : ℕ) → None ≡ object k → k ≡ 0
object-none zero e = refl
object-none (suc k) e = cc

pub some-object : (k : ℕ) → k ≢ 0 → Some k ≡ object k
some-object zero d = absurd (d refl)
some-object (suc k) d = refl

-- ---- both searches

module _ (c : Control) (recs : List ℕ) where
  pub front : (o : Option ℕ) → o ≡ object (first_of (is_free c.n recs) (numbers (suc c.last) (c.n - c.last))) → o ≢ None → o ≡ object (given c recs)
  unfolding given candidates
  front None e d = absurd (d refl)
  front (Some x) e d =
      e ∙ ap object (sym (first_of-front (is_free c.n recs) (numbers (suc c.last) (c.n - c.last)) (numbers 1 c.last) (object-some x _ e).1))

  pub rest : None ≡ object (first_of (is_free c.n recs) (numbers (suc c.last) (c.n - c.last)))
      → (o : Option ℕ) → o ≡ object (first_of (is_free c.n recs) (numbers 1 (c.last - 0))) → o ≡ object (given c recs)
  unfolding given candidates
  rest e o f =
      let z : c.last - 0 ≡ c.last = omega arith in
      f ∙ ap object (ap (λ (k : ℕ). first_of (is_free c.n recs) (numbers 1 k)) z
      ∙ sym (first_of-rest (is_free c.n recs) c.last (c.n - c.last) (numbers 1 c.last) (object-none _ e)))

-- ---- the choice

module _ (c : Control) (width : ℕ) (recs slots : List ℕ) where
  abbrev answer : ℕ
  answer = first (allocate_tests c width recs slots)

  pub bad-control : bad_control c ≡ true → 20 ≡ answer
  unfolding allocate_tests first
  bad-control b = rw b refl

  module _ (b : bad_control c ≡ false) where
    pub too_short : object_room (length recs) (length slots) < c.n → 2 ≡ answer
    unfolding allocate_tests first short
    too_short l = rw (b, object-room-short _ _ _ l) refl

    module _ (l : c.n ≤ length recs) (m : slots_len c.n ≤ length slots) where
      pub too_wide : 8 < width → 3 ≡ answer
      unfolding allocate_tests first short
      too_wide w = rw (b, le-ltb _ _ l, le-ltb _ _ m, lt-ltb _ _ w) refl

      module _ (w : width ≤ 8) where
        last-test : (t : Bool) → eqb (given c recs) 0 ≡ t → cond t 24 0 ≡ answer
        unfolding allocate_tests first short
        last-test t q = rw (b, le-ltb _ _ l, le-ltb _ _ m, le-ltb _ _ w, q) refl

        pub full : given c recs ≡ 0 → 24 ≡ answer
        full z = last-test true (eq-eqb _ 0 z)

        pub chosen : given c recs ≢ 0 → 0 ≡ answer
        chosen d = last-test false (ne_eqb _ 0 d)

        pub decided : (o : Option ℕ) → o ≡ object (given c recs) → (r : Result ℕ Refusal) → r ≡ ok_or o Full → refusal_of r ≡ answer
        decided None e r f = rw f (full (object-none _ e))
        decided (Some x) e r f = rw f (chosen (object-some x _ e).1)

        pub is-full : None ≡ object (given c recs) → 24 ≡ answer
        is-full e = full (object-none _ e)

        pub is-chosen : (x : ℕ) → Some x ≡ object (given c recs) → 0 ≡ answer
        is-chosen x e = chosen (object-some x _ e).1

-- the ends of the choice, for the search
pub ruleset ends = (bad-control, too_short, object-room-fits, too_wide, is-full, is-chosen, object-some)

-- ---- the call

-- what is known of the object chosen
pub record Given (c : Control) (width : ℕ) (recs slots : List ℕ) (x : ℕ) : Type 0 where
  pub passed : first (allocate_tests c width recs slots) ≡ 0
  pub same : x ≡ given c recs
  pub low : 1 ≤ x
  pub high : x ≤ c.n
  pub recs-long : c.n ≤ length recs
  pub slots-long : slots_len c.n ≤ length slots

module _ (c : Control) (width : ℕ) (recs slots : List ℕ) where
  pub refused : (m : ℕ) → m ≡ first (allocate_tests c width recs slots) → m ≢ 0
      → Allocate.gives (record { refusal = m; object = 0; control = c }) recs slots ≡ Allocate.allocate c width recs slots
  unfolding Allocate.allocate
  refused m e d = sym (outcome-number _ _ (allocate_tests c width recs slots) m (sym e) d)

  -- a found object is one of the n
  given-named : given c recs ≢ 0 → c.last ≤ c.n → (1 ≤ given c recs) × (given c recs ≤ c.n)
  unfolding given
  given-named d l =
      candidates-of c.last c.n _ l (first_of-found (λ y. free (rec_of c.n recs y)) (candidates c.last c.n) d).0

  long : (short c.n recs || short (slots_len c.n) slots) ≡ false → (c.n ≤ length recs) × (slots_len c.n ≤ length slots)
  unfolding short
  long e =
      let t = or_split (ltb (length recs) c.n) (ltb (length slots) (slots_len c.n)) e in
      (ltb-false (length recs) c.n t.0, ltb-false (length slots) (slots_len c.n) t.1)

  pub given-facts : (x : ℕ) → 0 ≡ first (allocate_tests c width recs slots) → x ≡ given c recs → Given c width recs slots x
  unfolding allocate_tests
  given-facts x e s =
      let t = first-passed 19 _ _ (sym e) in
      let u = first-passed 1 _ _ t.1 in
      let v = first-passed 2 _ _ u.1 in
      let d = first-passed 23 _ _ v.1 in
      let n = given-named (eqb-false _ _ d.0) (control-facts c t.0).last in
      record { passed = sym e; same = s; low = rw s n.0; high = rw s n.1; recs-long = (long u.0).0; slots-long = (long u.0).1 }

  -- its eight slots are there
  pub given-slots : {x : ℕ} → Given c width recs slots x → (s : ℕ) → s ≡ slots_len (x - 1) → s + 8 ≤ length slots
  unfolding slots_len
  given-slots G s e = omega (arith, G.low, G.high, G.slots-long)

  pub accepted : (x : ℕ) → 0 ≡ first (allocate_tests c width recs slots) → x ≡ given c recs → (v s : ℕ) (slots' : List ℕ) (d : Control)
      → v ≡ new_record width → s ≡ slots_len (x - 1) → slots' ≡ cleared s (s + 8) slots → d ≡ with_last x c
      → Allocate.gives (record { refusal = 0; object = x; control = d }) (set recs (x - 1) v) slots' ≡ Allocate.allocate c width recs slots
  unfolding Allocate.allocate slots_len
  accepted x e g v s slots' d h p r k =
      let G = given-facts x e g in
      rw (k, r, h, p)
      (ap₂ (λ (a b : List ℕ). Allocate.gives (record { refusal = 0; object = x; control = with_last x c }) a b)
      (sym (record-one c.n x G.low G.high (new_record width) recs)) (cleared-object c.n x slots G.low G.high)
      ∙ ap (λ (g : ℕ). Allocate.gives (record { refusal = 0; object = g; control = with_last g c })
      (each_record c.n (λ x r. cond (eqb x g) (new_record width) r) recs) (each_slot c.n (λ x w. cond (eqb x g) 0 w) slots)) G.same
      ∙ sym (outcome-zero _ _ (allocate_tests c width recs slots) G.passed))
