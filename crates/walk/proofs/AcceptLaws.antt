-- What an accepted heap gives the walk, and what the walk leaves at each of its ends.
-- Assumes nothing.
use Prim.Native.Nat.{ℕ, ◌-◌, ◌≤◌}
use mathlib.Core.Path.{◌≡◌, refl, sym, ◌∙◌}
use mathlib.Core.Logic.{◌≢◌, ◌⊎◌, inl, inr}
use mathlib.Core.Bool.{Bool, false, ◌||◌}
use mathlib.Core.List.{List}
use native.Mathlib.Omega.{arith}
use borrow.Author.Tests.{ltb-false, ne_eqb}
use borrow.Rule.Slice.PartMut.{mid_of, put_mid}
use lib.Dec.{ltb}
use lib.ListN.{length}
use Rattle.layout.specs.declared.answers.Control.{Control}
use Rattle.layout.specs.Field.{flag}
use Rattle.layout.specs.Limits.{work_len}
use Rattle.layout.specs.Refusal.{first}
use Rattle.layout.proofs.BoolLaws.{or_split}
use Rattle.records.proofs.RecordLaws.{Legal, clear-marked, clear-postponed, clear-reached}
use Rattle.graph.specs.Trace.{Flag, marked, postponed, reached}
use Rattle.rules.specs.Buffers.{short, rec_of, each_record, zeros}
use Rattle.rules.specs.View.{view, starts_in}
use Rattle.rules.proofs.BufferLaws.{rec_of-get}
use Rattle.rules.proofs.PlaceLaws.{by-object}
use Rattle.rules.proofs.WellFormedLaws.{Sane, Sinks}
use Rattle.rules.proofs.SaneLaws.{sane-starts, sane-listed}
use Rattle.table.specs.Room.{Accepted}
use Rattle.table.proofs.ClearedLaws.{zeros-lent}
use Rattle.sweep.specs.Sweep.{unflagged_record, unflagged}
use Rattle.wellformed.specs.Check.{heap_tests}
use Rattle.wellformed.proofs.CheckLaws.{accepted-sane, accepted-sized, accepted-sinks}
use Rattle.wellformed.proofs.CheckLaws as Check
use Rattle.walk.specs.Marks.{bit_of}
use Rattle.walk.specs.State.{way, Listing, Traceable, Walked}
use Rattle.walk.specs.Walk.{walk_tests, starts_of, end_flags, AfterWalk}
use Rattle.walk.proofs.MarkLaws.{unflagged-clear, no_flag, flagged-is}

-- ---- what the walk needs

module _ (c : Control) (recs slots roots list sets work : List ℕ) (a : Accepted c recs slots roots list sets work) where
  abbrev n : ℕ
  n = c.n

  well : Sane n c.r recs slots roots
  well = accepted-sane c recs slots roots list sets work a

  word-unflagged : (x : ℕ) → unflagged_record (rec_of n recs x) ≡ rec_of n recs x
  word-unflagged x = unflagged-clear (rec_of n recs x) (λ f. go f (well.fit x))
    where
      go : (f : Flag) → (rec_of n recs x ≡ 0) ⊎ Legal n (rec_of n recs x) → flag (bit_of f) (rec_of n recs x) ≡ false
      go f (inl e) = rw e (no_flag f)
      go marked (inr l) = clear-marked (rec_of n recs x) l.blank
      go postponed (inr l) = clear-postponed (rec_of n recs x) l.blank
      go reached (inr l) = clear-reached (rec_of n recs x) l.blank

  recs-unflagged : unflagged n recs ≡ recs
  unfolding unflagged each_record
  recs-unflagged = sym (by-object n (λ x r. unflagged_record r) recs recs refl a.room.recs-long refl (λ x p q. sym (word-unflagged x)))

  listing-of : (by : Bool) → Listing (way by list sets) n recs slots
  listing-of by =
      let s : Sinks n recs slots list sets = accepted-sinks c recs slots roots list sets work a in
      record {
        places = a.sinks-long;
        heads = a.sets-long;
        listed = sane-listed well list s.listed;
        exact = λ h b. sym (rec_of-get n sets h b.0 b.1) ∙ s.exact h b.0 b.1;
      }

  pub trace-able : (by : Bool) → Traceable (way by list sets) n (starts_in c.r roots) recs slots work
  unfolding view
  trace-able by =
      record {
        sized = accepted-sized c recs slots roots list sets work a;
        objects = sane-starts well;
        clear = recs-unflagged;
        listing = listing-of by;
      }

-- ---- the ends of the walk

module _ (by : Bool) (c : Control) (recs slots roots list sets work : List ℕ) (rest : Bool) where
  -- the tests with the words that the code asks for
  tests-are : (w : ℕ) → w ≡ work_len c.n
      → first (heap_tests c recs slots roots list sets (ltb (length work) w || rest)) ≡ first (walk_tests c recs slots roots list sets work rest)
  unfolding short
  tests-are w e = rw e refl

  module _ (w k : ℕ) (e : w ≡ work_len c.n) (q : k ≡ first (heap_tests c recs slots roots list sets (ltb (length work) w || rest))) where
    pub refused : k ≢ 0 → AfterWalk by c recs slots roots list sets work rest k recs work
    refused d =
        let z = ne_eqb k 0 d in
        record { refusal = q ∙ tests-are w e; records = rw z refl; words = rw z refl; walked = λ y. absurd (d y) }

    module _ (z : k ≡ 0) where
      -- no test holds: the heap is accepted, and no slice besides is too short
      pub accepted : Accepted c recs slots roots list sets work × (rest ≡ false)
      unfolding short
      accepted =
          let r = or_split (ltb (length work) (work_len c.n)) rest in
          let p = Check.accepted c recs slots roots list sets _ (sym (q ∙ tests-are w e) ∙ z) work (λ f. ltb-false _ _ (r f).0) in
          (p.0, (r p.1).1)

      pub fits : w ≤ length work
      unfolding work_len
      fits = omega (arith, e, accepted.0.work-long)

      pub walked : (recs' ys work' : List ℕ) → Walked (way by list sets) c.n (starts_of c roots) recs slots recs'
          → length ys ≡ length (mid_of 0 (w - 0) work) → work' ≡ zeros w (put_mid 0 (w - 0) work ys)
          → AfterWalk by c recs slots roots list sets work rest 0 recs' work'
      unfolding work_len
      walked recs' ys work' t l f =
          record {
            refusal = sym z ∙ q ∙ tests-are w e;
            records = flagged-is c.n recs recs' (end_flags (way by list sets) c recs slots roots) accepted.0.room.recs-long t.kept t.flags-now;
            words = zeros-lent w (work_len c.n) work ys work' e (omega (arith, accepted.0.work-long)) l f;
            walked = λ y. t;
          }
