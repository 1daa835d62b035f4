-- What the tests of set root answer at each end. Assumes nothing.
use Prim.Native.Nat.{ℕ, ◌-◌, ◌≤◌, ◌<◌}
use mathlib.Core.Path.{◌≡◌, refl, sym, ap, ◌∙◌}
use mathlib.Core.Bool.{Bool, true, false, cond, not, ◌&&◌, ◌||◌}
use mathlib.Core.List.{List}
use mathlib.Core.Logic.{◌≢◌}
use native.Mathlib.Omega.{arith}
use lib.ListN.{length, get_or, set}
use borrow.Author.Tests.{lt-ltb, le-ltb, le-leb, lt-leb, ltb-false, leb-false, eqb-true, ne_eqb}
use Rattle.layout.specs.declared.answers.Control.{Control}
use Rattle.layout.specs.declared.words.Word.{Word}
use Rattle.layout.specs.declared.words.Word.TheVariants.{Nil, Object, Immediate, Illegal}
use Rattle.records.specs.Record.{legal}
use Rattle.layout.specs.Word.{is_nil, is_pointer, is_immediate, legal_word, sort_of}
use Rattle.layout.specs.ControlRecord.{bad_control}
use Rattle.layout.specs.Refusal.{first}
use Rattle.layout.proofs.ControlLaws.{control-facts}
use Rattle.layout.proofs.WordLaws.{Says, sort-says, immediate-bounds}
use Rattle.layout.proofs.LimitLaws.{within-true, below-within, above_within}
use Rattle.layout.proofs.RefusalLaws.{first-passed, outcome-zero, outcome-number}
use Rattle.rules.specs.Buffers.{short, rec_of}
use Rattle.rules.specs.SetRoot as SetRoot
use Rattle.rules.specs.SetRoot.{set_root_tests}
use Rattle.rules.proofs.BufferLaws.{rec_of-get}
use Rattle.rules.proofs.BoolLaws.{or_split}

right : (b : Bool) → b || true ≡ true
right true = refl
right false = refl

nil-no-pointer : (n w : ℕ) → is_nil w ≡ true → is_pointer n w ≡ false
unfolding is_nil is_pointer
nil-no-pointer n w z = let e = eqb-true w 0 z in below-within 1 n w (omega arith)

immediate-no-nil : (w : ℕ) → is_immediate w ≡ true → is_nil w ≡ false
unfolding is_nil
immediate-no-nil w h = let l = (immediate-bounds w h).0 in ne_eqb w 0 (λ (e : w ≡ 0). omega arith)

immediate-no-pointer : (n w : ℕ) → n ≤ 4095 → is_immediate w ≡ true → is_pointer n w ≡ false
unfolding is_pointer
immediate-no-pointer n w k h = let l = (immediate-bounds w h).0 in above_within 1 n w (omega arith)

illegal-neither : (n w : ℕ) → legal_word n w ≡ false → (is_nil w ≡ false) × (is_pointer n w ≡ false)
unfolding legal_word
illegal-neither n w h = or_split (is_nil w) (is_pointer n w) (or_split (is_nil w || is_pointer n w) (is_immediate w) h).0

module _ (c : Control) (j w : ℕ) (recs roots : List ℕ) where
  pub bad-control : bad_control c ≡ true → 20 ≡ first (set_root_tests c j w recs roots)
  unfolding set_root_tests first
  bad-control b = rw b refl

  module _ (b : bad_control c ≡ false) where
    pub short-records : length recs < c.n → 2 ≡ first (set_root_tests c j w recs roots)
    unfolding set_root_tests first short
    short-records l = rw (b, lt-ltb _ _ l) refl

    module _ (l : c.n ≤ length recs) where
      pub short-roots : length roots < c.r → 2 ≡ first (set_root_tests c j w recs roots)
      unfolding set_root_tests first short
      short-roots m = rw (b, le-ltb _ _ l, lt-ltb _ _ m) refl

      module _ (m : c.r ≤ length roots) where
        pub no-root : c.r ≤ j → 7 ≡ first (set_root_tests c j w recs roots)
        unfolding set_root_tests first short
        no-root o = rw (b, le-ltb _ _ l, le-ltb _ _ m, le-leb _ _ o) refl

  -- the tests before those of the word are passed
  module _ (b : bad_control c ≡ false) (l : c.n ≤ length recs) (m : c.r ≤ length roots) (o : j < c.r) where
    small : c.n ≤ 4095
    small = (control-facts c b).sizes.most

    says : (s : Word) → s ≡ sort_of c.n w → Says c.n w s
    says s e = rw e (sort-says c.n w small)

    -- the last two tests decide
    last-tests : (p q : Bool) → not (is_nil w || is_pointer c.n w) ≡ p → is_pointer c.n w && not (legal c.n (rec_of c.n recs w)) ≡ q
        → cond p 6 (cond q 23 0) ≡ first (set_root_tests c j w recs roots)
    unfolding set_root_tests first short
    last-tests p q e f = rw (b, le-ltb _ _ l, le-ltb _ _ m, lt-leb _ _ o, e, f) refl

    pub nil-root : Nil ≡ sort_of c.n w → 0 ≡ first (set_root_tests c j w recs roots)
    nil-root e = let z : is_nil w ≡ true = unfold Says in (says Nil e) in last-tests false false (rw z refl) (rw (nil-no-pointer c.n w z) refl)

    module _ (x : ℕ) (e : Object x ≡ sort_of c.n w) where
      is-object : (x ≡ w) × (is_pointer c.n w ≡ true)
      is-object = unfold Says in (says (Object x) e)

      bounds : (1 ≤ w) × (w ≤ c.n)
      bounds = within-true 1 c.n w (unfold is_pointer in is-object.1)

      pub object-low : 1 ≤ x
      object-low = omega (arith, is-object.0, bounds)

      pub object-in : x - 1 < length recs
      object-in = omega (arith, is-object.0, bounds, l)

      rec-at : rec_of c.n recs w ≡ get_or recs (x - 1) 0
      rec-at = rec_of-get c.n recs w bounds.0 bounds.1 ∙ ap (λ (y : ℕ). get_or recs (y - 1) 0) (sym is-object.0)

      pub legal-root : legal c.n (get_or recs (x - 1) 0) ≡ true → 0 ≡ first (set_root_tests c j w recs roots)
      legal-root h = let p = is-object.1 in last-tests false false (rw (p, right (is_nil w)) refl) (rw (p, rec-at, h) refl)

      pub free-root : legal c.n (get_or recs (x - 1) 0) ≡ false → 23 ≡ first (set_root_tests c j w recs roots)
      free-root h = let p = is-object.1 in last-tests false true (rw (p, right (is_nil w)) refl) (rw (p, rec-at, h) refl)

    neither : is_nil w ≡ false → is_pointer c.n w ≡ false → 6 ≡ first (set_root_tests c j w recs roots)
    neither z p = last-tests true false (rw (z, p) refl) (rw p refl)

    pub immediate-root : Immediate ≡ sort_of c.n w → 6 ≡ first (set_root_tests c j w recs roots)
    immediate-root e = let h : is_immediate w ≡ true = unfold Says in (says Immediate e) in neither (immediate-no-nil w h) (immediate-no-pointer c.n w small h)

    pub illegal-root : Illegal ≡ sort_of c.n w → 6 ≡ first (set_root_tests c j w recs roots)
    illegal-root e = let h = illegal-neither c.n w (unfold Says in (says Illegal e)) in neither h.0 h.1

  pub kept : (m : ℕ) → m ≡ first (set_root_tests c j w recs roots) → m ≢ 0
      → SetRoot.gives (record { refusal = m; control = c }) roots ≡ SetRoot.set_root c j w recs roots
  unfolding SetRoot.set_root
  kept m e d = sym (outcome-number _ _ (set_root_tests c j w recs roots) m (sym e) d)

  pub stored : 0 ≡ first (set_root_tests c j w recs roots)
      → SetRoot.gives (record { refusal = 0; control = c }) (set roots j w) ≡ SetRoot.set_root c j w recs roots
  unfolding SetRoot.set_root
  stored e = sym (outcome-zero _ _ (set_root_tests c j w recs roots) (sym e))

  -- where the root stands
  pub place : 0 ≡ first (set_root_tests c j w recs roots) → j < length roots
  unfolding set_root_tests short
  place z =
      let t = first-passed 19 _ _ (sym z) in
      let u = first-passed 1 _ _ t.1 in
      let v = first-passed 6 _ _ u.1 in
      let s = or_split (short c.n recs) (short c.r roots) u.0 in
      let a : c.r ≤ length roots = ltb-false _ _ s.1 in
      let d : j < c.r = leb-false _ _ v.0 in
      omega arith

-- the ends of the tests, for the search
pub ruleset ends = (bad-control, short-records, short-roots, no-root, nil-root, object-low, object-in, legal-root, free-root, immediate-root, illegal-root)

-- and those of the call
pub ruleset storing = (kept, stored, place)
