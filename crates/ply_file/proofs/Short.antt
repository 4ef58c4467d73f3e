-- 6: the first room that is too short, or none. Over plain numbers. Assumes nothing.
use mathlib.Core.Path.{◌≡◌}
use mathlib.Core.List.{[], ◌∷◌}
use Prim.Native.Nat.{ℕ, ◌*◌, ◌≤◌, ◌<◌}
use borrow.Author.Tests.{lt-ltb, le-ltb}
use Rattle.rules.specs.Lists.{below, all, first}
use Rattle.rules.specs.Refusal.{Check, ok, no, unless, at_first, no6}
use Rattle.rules.specs.Rooms.{work_room}
use Rattle.rules.specs.ReadPlyCall.{read_ply_rooms}

module _ (P F points faces work : ℕ) where
  -- what 6 finds
  abbrev six : Check
  six = no6 (read_ply_rooms P F) (points ∷ faces ∷ work ∷ [])

  -- room 0 is the first too short
  pub short_0 : points < 3 * P → no 6 0 ≡ six
  unfolding no6 at_first below all first unless read_ply_rooms
  short_0 a = rw (lt-ltb _ _ a)

  -- room 1 is the first too short
  pub short_1 : 3 * P ≤ points → faces < 3 * F → no 6 1 ≡ six
  unfolding no6 at_first below all first unless read_ply_rooms
  short_1 a b = rw (le-ltb _ _ a, lt-ltb _ _ b)

  -- room 2 is the first too short
  pub short_2 : 3 * P ≤ points → 3 * F ≤ faces → work < work_room P F → no 6 2 ≡ six
  unfolding no6 at_first below all first unless read_ply_rooms
  short_2 a b c = rw (le-ltb _ _ a, le-ltb _ _ b, lt-ltb _ _ c)

  -- none is too short
  pub long : 3 * P ≤ points → 3 * F ≤ faces → work_room P F ≤ work → ok ≡ six
  unfolding no6 at_first below all first unless read_ply_rooms
  long a b c = rw (le-ltb _ _ a, le-ltb _ _ b, le-ltb _ _ c)
