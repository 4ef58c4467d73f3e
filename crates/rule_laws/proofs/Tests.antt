-- What a passed test says: of an `and`, of an `or`, and of two tests that pass together. More is in the kit: `and_i`, `is_true`, `is_false`, `not_T`.
-- Assumes nothing.
use mathlib.Core.Path.{◌≡◌, refl}
use mathlib.Core.Logic.{◌⊎◌, inl, inr}
use mathlib.Core.Bool.{Bool, true, false, ◌&&◌, ◌||◌}
use lib.Dec.{T}
use lib.Ieee.Fits.{and_l, and_r}

-- where both must pass, each does
pub and_elim : (a b : Bool) → T (a && b) → T a × T b
and_elim a b t = (and_l a b t, and_r a b t)

-- one of two passes as the first does
pub or_left : (a b : Bool) → T a → T (a || b)
or_left true b t = tt
or_left false b t = absurd t

-- one of two passes as the second does
pub or_right : (a b : Bool) → T b → T (a || b)
or_right true b t = tt
or_right false b t = t

-- where one of two passes, which
pub or_elim : (a b : Bool) → T (a || b) → T a ⊎ T b
or_elim true b t = inl tt
or_elim false b t = inr t

-- two tests that pass together are equal
pub both_ways : (a b : Bool) → (T a → T b) → (T b → T a) → a ≡ b
both_ways true true f g = refl
both_ways true false f g = absurd (f tt)
both_ways false true f g = absurd (g tt)
both_ways false false f g = refl
