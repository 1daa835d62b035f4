-- `layout::refusals::bad_limit` tests for both ends of the range, and for 0. Assumes nothing.
use mathlib.Core.Path.{◌≡◌, refl}
use mathlib.Core.Bool.{Bool, true, false, not, ◌||◌, ◌&&◌}
use Prim.Native.Nat.{ℕ}
use native.Mathlib.Omega.{arith}
use lib.Dec.{eqb, ltb}
use borrow.Author.Tests.{eqb-true, ltb-true, ltb-false}
use Rattle.layout.specs.Limits.{limit_max, within}
use Rattle.layout.specs.ControlRecord.{bad_limit}
use Rattle.layout.proofs.LimitLaws.{in_within, below-within, above_within}
use Rattle.layout.proofs.refusals.bad_limit.Goals as goal

limit-tests : (lowest m : ℕ) → ltb limit_max m || (not (eqb m 0) && ltb m lowest) ≡ bad_limit lowest m
unfolding bad_limit
limit-tests lowest m = go (eqb m 0) refl (ltb m lowest) refl (ltb limit_max m) refl
  where
    go : (z : Bool) → eqb m 0 ≡ z → (s : Bool) → ltb m lowest ≡ s → (l : Bool) → ltb limit_max m ≡ l
        → l || (not z && s) ≡ not (z || within lowest limit_max m)
    go true ez s es true el = absurd (omega (arith, ltb-true limit_max m el, eqb-true m 0 ez))
    go false ez s es true el = rw (above_within lowest limit_max m (ltb-true limit_max m el)) refl
    go true ez s es false el = refl
    go false ez true es false el = rw (below-within lowest limit_max m (ltb-true m lowest es)) refl
    go false ez false es false el = rw (in_within lowest limit_max m (ltb-false m lowest es) (ltb-false limit_max m el)) refl

pub returns : goal.returns
returns c = limit-tests c.args.lowest c.args.limit
