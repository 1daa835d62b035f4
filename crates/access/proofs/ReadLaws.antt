-- What read answers at each of its ends. Assumes nothing.
use Prim.Native.Nat.{ℕ, ◌+◌, ◌-◌, ◌≤◌, ◌<◌}
use mathlib.Core.Path.{◌≡◌, sym, ap, ◌∙◌}
use mathlib.Core.Bool.{false}
use Rattle.std.specs.Prelude.{Err}
use mathlib.Core.List.{List, [], ◌∷◌}
use mathlib.Core.Logic.{◌≢◌}
use native.Mathlib.Omega.{arith}
use lib.Dec.{leb, lit<}
use lib.ListN.{get_or}
use borrow.Author.Tests.{le-leb, lt-leb}
use Rattle.layout.specs.declared.answers.Control.{Control}
use Rattle.layout.specs.declared.answers.WordRead.{WordRead}
use Rattle.records.specs.Record.{width}
use Rattle.layout.specs.Limits.{object_max, slots_len}
use Rattle.layout.specs.declared.refusals.Refusal.{Refusal}
use Rattle.layout.specs.Refusal.{Test, number, first}
use Rattle.layout.proofs.RefusalLaws.{numbered, Numbered, nil, cons, first-front, first-skip, first-zero, first_holds, first-fails, outcome-zero, outcome-number}
use Rattle.rules.specs.Buffers.{rec_of}
use Rattle.rules.specs.Show.{show_tests}
use Rattle.rules.specs.Read as Read
use Rattle.rules.proofs.BufferLaws.{used-get}
use Rattle.table.specs.Named.{named_tests}
use Rattle.table.proofs.NamedLaws.{show-named, start_is}
use Rattle.access.specs.Answered.{answered}
use Rattle.access.proofs.ShowLaws.{tested, passed, in_reach}

module _ (c : Control) (i k : ℕ) (recs slots : List ℕ) where
  abbrev slot-test : List Test
  slot-test = (5, leb (width (rec_of c.n recs i)) k) ∷ []

  front-test : first (show_tests c i recs slots) ≢ 0 → first (Read.read_tests c i k recs slots) ≡ first (show_tests c i recs slots)
  unfolding Read.read_tests show_tests
  front-test d = first-front (show_tests c i recs slots) slot-test d

  above-zero : Numbered (show_tests c i recs slots)
  unfolding show_tests
  above-zero = cons (lit< tt) (cons (lit< tt) (cons (lit< tt) (cons (lit< tt) (cons (lit< tt) nil))))

  -- a test of the object that holds decides
  pub refused : (r : Refusal) → number r ≡ first (named_tests c i recs slots object_max)
      → answered (Err r) c ≡ Read.read c i k recs slots
  unfolding Read.read
  refused r e =
      let t = tested c i recs slots (number r) e in
      sym (outcome-number _ _ (Read.read_tests c i k recs slots) (number r) (front-test (λ z. numbered r (t ∙ z)) ∙ sym t) (numbered r))

  -- where none holds, that of the slot decides
  module _ (e : 0 ≡ first (named_tests c i recs slots object_max)) where
    z : first (show_tests c i recs slots) ≡ 0
    z = passed c i recs slots e

    last-test : first (Read.read_tests c i k recs slots) ≡ first slot-test
    unfolding Read.read_tests show_tests
    last-test = first-skip (show_tests c i recs slots) slot-test (first-zero (show_tests c i recs slots) above-zero z)

    pub no_slot : (w : ℕ) → w ≡ width (get_or recs (i - 1) 0) → w ≤ k
        → ◌≡◌ {A = WordRead} (record { refusal = 5; word = 0; control = c }) (Read.read c i k recs slots)
    unfolding Read.read
    no_slot w e l =
        let N = show-named c i recs slots z in
        sym (outcome-number _ _ (Read.read_tests c i k recs slots) 5
        (last-test ∙ first_holds 5 [] _ (rw (N.rec-at, sym e) (le-leb w k l))) (λ (q : 5 ≡ 0). omega arith))

    pub got : (w : ℕ) → w ≡ width (get_or recs (i - 1) 0) → k < w
        → (s : ℕ) → s ≡ slots_len (i - 1)
        → ◌≡◌ {A = WordRead} (record { refusal = 0; word = get_or slots (s + k) 0; control = c }) (Read.read c i k recs slots)
    unfolding Read.read first
    got w e l s f =
        let N = show-named c i recs slots z in
        let v : width (rec_of c.n recs i) ≡ w = rw N.rec-at (sym e) in
        let t : leb (width (rec_of c.n recs i)) k ≡ false = rw v (lt-leb w k l) in
        rw (f, start_is (i - 1))
        (ap (λ (x : ℕ). record { refusal = 0; word = x; control = c })
        (sym (used-get c.n recs slots i N.low N.legal.narrow k (rw v l)))
        ∙ sym (outcome-zero _ _ (Read.read_tests c i k recs slots) (last-test ∙ first-fails 5 [] _ t)))

-- the ends of a read, for the search
pub ruleset ends = (in_reach, refused, no_slot)
