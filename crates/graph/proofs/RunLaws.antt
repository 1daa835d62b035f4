-- What holds of every walk whose steps lower a number until it is done.
-- Assumes nothing.
use Prim.Native.Nat.{ℕ, zero, suc, ◌+◌, ◌-◌, ◌≤◌, ◌<◌}
use mathlib.Core.Path.{◌≡◌, refl, sym, ap, subst, ◌∙◌}
use mathlib.Core.Logic.{◌⊎◌, inl, inr}
use native.Mathlib.Nat.{zero-add, suc-add}
use native.Mathlib.Omega.{arith}
use Rattle.graph.specs.Run.{run, finish}

the_sum : (m k : ℕ) → m ≤ k → k ≡ m + (k - m)
the_sum m k le = omega arith

module _ {W : Type 0} (step : W → W) where
  pub run-add : (j k : ℕ) (w : W) → run step (j + k) w ≡ run step k (run step j w)
  unfolding run
  run-add zero k w = rw zero-add refl
  run-add (suc j) k w = rw suc-add (run-add j k (step w))

  -- a property that each step keeps
  pub run-keeps : (P : W → Type 0) → ((w : W) → P w → P (step w)) → (k : ℕ) (w : W) → P w → P (run step k w)
  unfolding run
  run-keeps P h zero w p = p
  run-keeps P h (suc k) w p = run-keeps P h k (step w) (h w p)

-- Ok holds at every step; a walk that is Done stays as it is; else a step lowers `needed`
module _ {W : Type 0}
    (step : W → W)
    (needed : W → ℕ)
    (Ok Done : W → Type 0)
    (ok_step : (w : W) → Ok w → Ok (step w))
    (still : (w : W) → Done w → step w ≡ w)
    (falls : (w : W) → Ok w → Done w ⊎ (needed (step w) < needed w))
  where
    pub run-done : (k : ℕ) (w : W) → Done w → run step k w ≡ w
    unfolding run
    run-done zero w d = refl
    run-done (suc k) w d = ap (λ x. run step k x) (still w d) ∙ run-done k w d

    -- so many steps are enough
    pub run_ends : (k : ℕ) (w : W) → Ok w → needed w ≤ k → Done (run step k w)
    unfolding run
    run_ends zero w v le = go (falls w v)
      where
        go : Done w ⊎ (needed (step w) < needed w) → Done w
        go (inl d) = d
        go (inr f) = absurd (omega arith)
    run_ends (suc k) w v le = go (λ l. run_ends k (step w) (ok_step w v) l) (falls w v)
      where
        go : (needed (step w) ≤ k → Done (run step k (step w))) → Done w ⊎ (needed (step w) < needed w) → Done (run step k (step w))
        go r (inl d) = subst (λ x. Done x) (sym (ap (λ x. run step k x) (still w d) ∙ run-done k w d)) d
        go r (inr f) = r (omega arith)

    pub finish-ends : (w : W) → Ok w → Done (finish step needed w)
    unfolding finish
    finish-ends w v = run_ends (needed w) w v (omega arith)

    -- more steps change nothing
    pub enough : (k : ℕ) (w : W) → Ok w → needed w ≤ k → run step k w ≡ finish step needed w
    unfolding finish
    enough k w v le =
        let m = needed w in
        ap (λ x. run step x w) (the_sum m k le) ∙ run-add step m (k - m) w ∙ run-done (k - m) (run step m w) (finish-ends w v)

    -- a step leaves the end of the walk as it is: what a loop that makes the steps keeps
    pub finish-step : (w : W) → Ok w → finish step needed (step w) ≡ finish step needed w
    unfolding run
    finish-step w v = go (falls w v)
      where
        go : Done w ⊎ (needed (step w) < needed w) → finish step needed (step w) ≡ finish step needed w
        go (inl d) = ap (finish step needed) (still w d)
        go (inr f) = sym (enough (needed w) (step w) (ok_step w v) (omega arith)) ∙ enough (suc (needed w)) w v (omega arith)

    pub finish-done : (w : W) → Done w → finish step needed w ≡ w
    unfolding finish
    finish-done w d = run-done (needed w) w d
