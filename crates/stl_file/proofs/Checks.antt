-- 12 and 6: what each says where its test came out one way or the other. Assumes nothing.
use mathlib.Core.Path.{◌≡◌, refl}
use mathlib.Core.List.{List, [], ◌∷◌}
use Prim.Native.Nat.{ℕ, ◌+◌, ◌*◌, ◌≤◌, ◌<◌}
use native.Mathlib.Omega.{arith}
use borrow.Author.Tests.{eq-eqb, ne_eqb, lt-ltb, le-ltb}
use lib.ListN.{length}
use Rattle.rules.specs.Lists.{below, all, first}
use Rattle.rules.specs.Refusal.{Check, ok, no, unless, at_first, no6}
use Rattle.rules.specs.Stl.{facets, no12, stl_rooms}

-- another length
pub wrong : (file : List ℕ) → (length file ≡ 84 + 50 * facets file → ⊥) → no 12 0 ≡ no12 file
unfolding no12 unless
wrong file h = rw (ne_eqb (length file) (84 + 50 * facets file) h) refl

-- a file under 84 bytes
pub short : (file : List ℕ) → length file < 84 → no 12 0 ≡ no12 file
short file h = wrong file (omega arith)

-- the right length
pub right : (file : List ℕ) → length file ≡ 84 + 50 * facets file → ok ≡ no12 file
unfolding no12 unless
right file h = rw (eq-eqb (length file) (84 + 50 * facets file) h) refl

module _ (F points faces work : ℕ) where
  -- what 6 finds
  abbrev six : Check
  six = no6 (stl_rooms F) (points ∷ faces ∷ work ∷ [])

  -- room 0 is the first too short
  pub short_0 : points < 9 * F → no 6 0 ≡ six
  unfolding no6 at_first below all first unless stl_rooms
  short_0 a = rw (lt-ltb _ _ a)

  -- room 1 is the first too short
  pub short_1 : 9 * F ≤ points → faces < 3 * F → no 6 1 ≡ six
  unfolding no6 at_first below all first unless stl_rooms
  short_1 a b = rw (le-ltb _ _ a, lt-ltb _ _ b)

  -- room 2 is the first too short
  pub short_2 : 9 * F ≤ points → 3 * F ≤ faces → work < 64 * F + 64 → no 6 2 ≡ six
  unfolding no6 at_first below all first unless stl_rooms
  short_2 a b c = rw (le-ltb _ _ a, le-ltb _ _ b, lt-ltb _ _ c)

  -- none is too short
  pub long : 9 * F ≤ points → 3 * F ≤ faces → 64 * F + 64 ≤ work → ok ≡ six
  unfolding no6 at_first below all first unless stl_rooms
  long a b c = rw (le-ltb _ _ a, le-ltb _ _ b, le-ltb _ _ c)
