-- A box number takes in a coordinate, as a test decides. Assumes nothing.
use mathlib.Core.Path.{◌≡◌}
use mathlib.Core.Bool.{true, false}
use lib.Ieee.{Float, lt}
use Rattle.rules.specs.Patches.{lower, higher}

module _ (held x : Float) where
  -- a number below the lower one held
  pub lower_new : lt x held ≡ true → x ≡ lower held x
  unfolding lower
  lower_new e = rw e

  -- any other one
  pub lower_old : lt x held ≡ false → held ≡ lower held x
  unfolding lower
  lower_old e = rw e

  -- a number above the upper one held
  pub higher_new : lt held x ≡ true → x ≡ higher held x
  unfolding higher
  higher_new e = rw e

  -- any other one
  pub higher_old : lt held x ≡ false → held ≡ higher held x
  unfolding higher
  higher_old e = rw e
