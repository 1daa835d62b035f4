-- What the tests of a named object answer at each end of `table::named::object_refusal`, and what 0 says. Assumes nothing.
use Prim.Native.Nat.{ℕ, ◌-◌, ◌*◌, ◌≤◌, ◌<◌}
use mathlib.Core.Path.{◌≡◌, refl, sym, ◌∙◌}
use mathlib.Core.Bool.{Bool, true, false, ◌||◌, or-false}
use mathlib.Core.List.{List, ◌++◌}
use mathlib.Core.Logic.{◌≢◌}
use lib.Dec.{ltb}
use lib.ListN.{length, get_or}
use native.Mathlib.Omega.{arith}
use borrow.Author.Tests.{le-ltb, ltb-false, not-false}
use Rattle.layout.specs.declared.answers.Control.{Control}
use Rattle.layout.specs.Limits.{object_max, slots_len, within}
use Rattle.records.specs.Record.{width, legal, damaged}
use Rattle.layout.specs.Word.{is_pointer}
use Rattle.layout.specs.ControlRecord.{bad_control}
use Rattle.layout.specs.Refusal.{Test, first}
use Rattle.layout.proofs.ControlLaws.{Sound, control-facts}
use Rattle.records.proofs.RecordLaws.{Legal, legal-facts, legal-undamaged, legal-nonzero, free-undamaged, zero-free, nonzero-free, undamaged}
use Rattle.layout.proofs.LimitLaws.{within-true}
use Rattle.layout.proofs.RefusalLaws.{first-passed, first_holds, first-fails}
use Rattle.rules.specs.Buffers.{short, rec_of}
use Rattle.rules.specs.Show.{show_tests}
use Rattle.table.specs.Room.{object_room, room_of}
use Rattle.table.specs.Named.{named_tests}
use Rattle.rules.proofs.BoolLaws.{or_split}
use Rattle.rules.proofs.BufferLaws.{rec_of-get}

-- where the slots of an object start
pub start_is : (k : ℕ) → slots_len k ≡ 8 * k
unfolding slots_len
start_is k = refl

-- n objects fit where every slice is long enough, and nowhere else
module _ (a b n : ℕ) where
  pub object-room-fits : n ≤ object_room a b → (n ≤ a) × (slots_len n ≤ b)
  unfolding object_room slots_len
  object-room-fits h = (omega arith, omega arith)

  fits-object-room : n ≤ a → slots_len n ≤ b → n ≤ object_room a b
  unfolding object_room slots_len
  fits-object-room p q = omega arith

  pub object-room-short : object_room a b < n → ltb a n || ltb b (slots_len n) ≡ true
  object-room-short h = go (ltb a n) refl (ltb b (slots_len n)) refl
    where
      go : (x : Bool) → ltb a n ≡ x → (y : Bool) → ltb b (slots_len n) ≡ y → x || y ≡ true
      go true e y f = refl
      go false e true f = refl
      go false e false f = absurd (omega (arith, fits-object-room (ltb-false a n e) (ltb-false b (slots_len n) f), h))

module _ (a b o n : ℕ) where
  pub room_fits : n ≤ room_of a b o → (n ≤ a) × (slots_len n ≤ b) × (n ≤ o)
  unfolding room_of object_room
  room_fits h =
      let q = object-room-fits a b n (omega arith) in
      (q.0, q.1, omega arith)

  pub room-short : room_of a b o < n → ltb a n || ltb b (slots_len n) || ltb o n ≡ true
  unfolding room_of object_room
  room-short h = go (ltb a n) refl (ltb b (slots_len n)) refl (ltb o n) refl
    where
      go : (x : Bool) → ltb a n ≡ x → (y : Bool) → ltb b (slots_len n) ≡ y → (z : Bool) → ltb o n ≡ z → x || y || z ≡ true
      go true e y f z g = refl
      go false e true f z g = refl
      go false e false f true g = refl
      go false e false f false g =
          let p = fits-object-room a b n (ltb-false a n e) (ltb-false b (slots_len n) f) in
          absurd (omega (arith, p, ltb-false o n g, h))

-- what is known of the object once its tests are passed
pub record Named (c : Control) (i : ℕ) (recs slots : List ℕ) : Type 0 where
  pub sound : Sound c
  pub recs-long : c.n ≤ length recs
  pub slots-long : 8 * c.n ≤ length slots
  pub low : 1 ≤ i
  pub high : i ≤ c.n
  pub legal : Legal c.n (rec_of c.n recs i)
  pub rec-at : rec_of c.n recs i ≡ get_or recs (i - 1) 0
  pub narrow : width (get_or recs (i - 1) 0) ≤ 8

module _ (c : Control) (i : ℕ) (recs slots : List ℕ) (o : ℕ) where
  pub bad-control : bad_control c ≡ true → 20 ≡ first (named_tests c i recs slots o)
  unfolding named_tests first
  bad-control b = rw b refl

  module _ (b : bad_control c ≡ false) where
    pub too_short : room_of (length recs) (length slots) o < c.n → 2 ≡ first (named_tests c i recs slots o)
    unfolding named_tests first short
    too_short l = rw (b, room-short (length recs) (length slots) o c.n l) refl

    module _ (l : c.n ≤ length recs) where
      module _ (m : slots_len c.n ≤ length slots) (r : c.n ≤ o) where
        pub no-object : within 1 c.n i ≡ false → 4 ≡ first (named_tests c i recs slots o)
        unfolding named_tests first short is_pointer
        no-object p = rw (b, le-ltb _ _ l, le-ltb _ _ m, le-ltb _ _ r, p) refl

        module _ (p : within 1 c.n i ≡ true) where
          at : rec_of c.n recs i ≡ get_or recs (i - 1) 0
          at = let w = within-true 1 c.n i p in rec_of-get c.n recs i w.0 w.1

          pub is_free_lem : get_or recs (i - 1) 0 ≡ 0 → 22 ≡ first (named_tests c i recs slots o)
          unfolding named_tests first short is_pointer
          is_free_lem z =
              let f = zero-free c.n (rec_of c.n recs i) (at ∙ z) in
              rw (b, le-ltb _ _ l, le-ltb _ _ m, le-ltb _ _ r, p, free-undamaged c.n (rec_of c.n recs i) f, f) refl

          pub is-damaged : get_or recs (i - 1) 0 ≢ 0 → legal c.n (get_or recs (i - 1) 0) ≡ false → 21 ≡ first (named_tests c i recs slots o)
          unfolding named_tests first short is_pointer damaged
          is-damaged z d = rw (b, le-ltb _ _ l, le-ltb _ _ m, le-ltb _ _ r, p, at, nonzero-free c.n (get_or recs (i - 1) 0) z, d) refl

          pub is-named : legal c.n (get_or recs (i - 1) 0) ≡ true → 0 ≡ first (named_tests c i recs slots o)
          unfolding named_tests first short is_pointer
          is-named d =
              let x = get_or recs (i - 1) 0 in
              let f = nonzero-free c.n x (legal-nonzero c.n x (legal-facts c.n x d)) in
              rw (b, le-ltb _ _ l, le-ltb _ _ m, le-ltb _ _ r, p, at, legal-undamaged c.n x d, f) refl

  -- then the tests that follow decide
  pub named-rest : (l : List Test) → first (named_tests c i recs slots o) ≡ 0 → first (named_tests c i recs slots o ++ l) ≡ first l
  unfolding named_tests
  named-rest l z =
      let t = first-passed 19 _ _ z in
      let u = first-passed 1 _ _ t.1 in
      let v = first-passed 3 _ _ u.1 in
      let d = first-passed 20 _ _ v.1 in
      let f = first-passed 21 _ _ d.1 in
      first-fails 20 _ _ t.0 ∙ first-fails 2 _ _ u.0 ∙ first-fails 4 _ _ v.0 ∙ first-fails 21 _ _ d.0 ∙ first-fails 22 _ _ f.0

  -- 0 says all of it
  pub named : first (named_tests c i recs slots o) ≡ 0 → Named c i recs slots
  unfolding named_tests short slots_len is_pointer
  named z =
      let t = first-passed 19 _ _ z in
      let u = first-passed 1 _ _ t.1 in
      let v = first-passed 3 _ _ u.1 in
      let d = first-passed 20 _ _ v.1 in
      let f = first-passed 21 _ _ d.1 in
      let s = or_split (short c.n recs) (short (slots_len c.n) slots) (or_split _ _ u.0).0 in
      let w = within-true 1 c.n i (not-false _ v.0) in
      let a = rec_of-get c.n recs i w.0 w.1 in
      let L = legal-facts c.n (rec_of c.n recs i) (undamaged c.n (rec_of c.n recs i) d.0 f.0) in
      record {
        sound = control-facts c t.0;
        recs-long = ltb-false _ _ s.0;
        slots-long = ltb-false _ _ s.1;
        low = w.0;
        high = w.1;
        legal = L;
        rec-at = a;
        narrow = rw (sym a) L.narrow;
      }

-- others that have room for as many objects as there can be add nothing to the tests of show
pub named-shown : (c : Control) (i : ℕ) (recs slots : List ℕ) (o : ℕ) → object_max ≤ o → first (named_tests c i recs slots o) ≡ first (show_tests c i recs slots)
unfolding named_tests show_tests
named-shown c i recs slots o h = go (bad_control c) refl
  where
    go : (b : Bool) → bad_control c ≡ b → first (named_tests c i recs slots o) ≡ first (show_tests c i recs slots)
    go true e = first_holds 20 _ _ e ∙ sym (first_holds 20 _ _ e)
    go false e =
        let s = (control-facts c e).sizes.most in
        rw (le-ltb o c.n (omega arith), or-false) refl

pub show-named : (c : Control) (i : ℕ) (recs slots : List ℕ) → first (show_tests c i recs slots) ≡ 0 → Named c i recs slots
show-named c i recs slots z = named c i recs slots object_max (named-shown c i recs slots object_max (omega arith) ∙ z)
