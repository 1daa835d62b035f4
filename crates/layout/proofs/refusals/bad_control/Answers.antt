-- `layout::refusals::bad_control` makes every test of the control record; in which order does not matter. Assumes nothing.
use mathlib.Core.Path.{◌≡◌, refl, sym, ap₂, ◌∙◌}
use mathlib.Core.Bool.{Bool, true, false, ◌||◌, false≢true, true≢false}
use lib.Dec.{ltb}
use Rattle.layout.specs.ControlRecord.{bad_sizes, bad_control}
use Rattle.layout.proofs.refusals.bad_control.Goals as goal

-- the tests in the order of the definition: limit and tuning decide, or leave it to the others
module _ (s l w o : Bool) where
  early : (k t : Bool) → (k || t) ≡ true → true ≡ s || t || l || k || w || o
  early true true e = go s
    where
      go : (s : Bool) → true ≡ s || true || l || true || w || o
      go true = refl
      go false = refl
  early true false e = go s l
    where
      go : (s l : Bool) → true ≡ s || false || l || true || w || o
      go true l = refl
      go false true = refl
      go false false = refl
  early false true e = go s
    where
      go : (s : Bool) → true ≡ s || true || l || false || w || o
      go true = refl
      go false = refl
  early false false e = absurd (false≢true e)

  late : (k t : Bool) → (k || t) ≡ false → s || l || w || o ≡ s || t || l || k || w || o
  late false false e = go s l
    where
      go : (s l : Bool) → s || l || w || o ≡ s || false || l || false || w || o
      go true l = refl
      go false true = refl
      go false false = refl
  late false true e = absurd (true≢false e)
  late true t e = absurd (true≢false e)

pub returns-then-bad_limit-bad_tuning : goal.returns-then-bad_limit-bad_tuning
unfolding bad_control
returns-then-bad_limit-bad_tuning c =
    let a = c.args.c in
    early (bad_sizes a.n a.r) (ltb a.n a.last) (ltb a.n a.write_loss) (ltb a.n a.out_loss) _ _
    (sym (ap₂ ◌||◌ c.bad_limit.ensures c.bad_tuning.ensures) ∙ c.if-bad_limit-bad_tuning.true)

pub returns : goal.returns
unfolding bad_control
returns c =
    let a = c.args.c in
    rw c.bad_sizes.ensures
    (late (bad_sizes a.n a.r) (ltb a.n a.last) (ltb a.n a.write_loss) (ltb a.n a.out_loss) _ _
    (sym (ap₂ ◌||◌ c.bad_limit.ensures c.bad_tuning.ensures) ∙ c.if-bad_limit-bad_tuning.false))
