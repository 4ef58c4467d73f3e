-- 6: the first room that is too short, or none. Over plain numbers. Assumes nothing.
use mathlib.Core.Path.{◌≡◌}
use mathlib.Core.List.{[], ◌∷◌}
use Prim.Native.Nat.{ℕ, ◌+◌, ◌*◌, ◌≤◌, ◌<◌}
use borrow.Author.Tests.{le-ltb, lt-ltb}
use lib.ListN.{length}
use Rattle.rules.specs.Lists.{below, all, first}
use Rattle.rules.specs.Refusal.{Check, ok, no, unless, at_first, no6}
use Rattle.rules.specs.Rooms.{work_room}
use Rattle.rules.specs.Ply.{header}
use Rattle.rules.specs.WritePlyCall.{write_ply_rooms}

module _ (P F file work : ℕ) where
  -- what 6 finds
  abbrev six : Check
  six = no6 (write_ply_rooms P F) (file ∷ work ∷ [])

  -- room 0 is the first too short
  pub short_0 : file < length (header P F) + 24 * P + 13 * F → no 6 0 ≡ six
  unfolding no6 at_first below all first unless write_ply_rooms
  short_0 a = rw (lt-ltb _ _ a)

  -- room 1 is the first too short
  pub short_1 : length (header P F) + 24 * P + 13 * F ≤ file → work < work_room P F → no 6 1 ≡ six
  unfolding no6 at_first below all first unless write_ply_rooms
  short_1 a b = rw (le-ltb _ _ a, lt-ltb _ _ b)

  -- none is too short
  pub long : length (header P F) + 24 * P + 13 * F ≤ file → work_room P F ≤ work → ok ≡ six
  unfolding no6 at_first below all first unless write_ply_rooms
  long a b = rw (le-ltb _ _ a, le-ltb _ _ b)
