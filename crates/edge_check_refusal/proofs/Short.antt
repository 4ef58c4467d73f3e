-- 6: the room is too short, or is not. Over plain numbers. Assumes nothing.
use mathlib.Core.Path.{◌≡◌}
use mathlib.Core.List.{[], ◌∷◌}
use Prim.Native.Nat.{ℕ, ◌≤◌, ◌<◌}
use borrow.Author.Tests.{le-ltb, lt-ltb}
use Rattle.rules.specs.Lists.{below, all, first}
use Rattle.rules.specs.Refusal.{Check, ok, no, unless, at_first, no6}
use Rattle.rules.specs.Rooms.{work_room}
use Rattle.rules.specs.CheckCall.{check_rooms}

module _ (P F work : ℕ) where
  -- what 6 finds
  abbrev six : Check
  six = no6 (check_rooms P F) (work ∷ [])

  -- room 0 is the first too short
  pub short_0 : work < work_room P F → no 6 0 ≡ six
  unfolding no6 at_first below all first unless check_rooms
  short_0 a = rw (lt-ltb _ _ a)

  -- none is too short
  pub long : work_room P F ≤ work → ok ≡ six
  unfolding no6 at_first below all first unless check_rooms
  long a = rw (le-ltb _ _ a)
