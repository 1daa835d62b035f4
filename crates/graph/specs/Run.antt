-- A walk is a step made again and again; the steps still needed are a number that the walk's state gives.
use Rattle.std.specs.Prelude.{ℕ, zero, suc}

module _ {W : Type 0} (step : W → W) where
  -- so many steps
  unfoldable pub run : ℕ → W → W
  run zero w = w
  run (suc k) w = run k (step w)

  -- as many steps as are needed
  unfoldable pub finish : (W → ℕ) → W → W
  finish needed w = run (needed w) w
