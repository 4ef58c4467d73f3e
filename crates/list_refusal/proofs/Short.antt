-- 6: the text does not fit, or the work room is too short, or neither. Over plain numbers. Assumes nothing.
use mathlib.Core.Path.{◌≡◌}
use mathlib.Core.List.{List, [], ◌∷◌}
use Prim.Native.Nat.{ℕ, ◌≤◌, ◌<◌}
use lib.ListN.{length}
use borrow.Author.Tests.{le-ltb, lt-ltb}
use Rattle.rules.specs.Lists.{below, all, first}
use Rattle.rules.specs.Refusal.{Check, ok, no, unless, at_first, no6}
use Rattle.rules.specs.Rooms.{work_room}
use Rattle.rules.specs.ListCall.{list_rooms}

module _ (t : List ℕ) (P F text work : ℕ) where
  -- what 6 finds
  abbrev pub six : Check
  six = no6 (list_rooms t P F) (text ∷ work ∷ [])

  -- the text does not fit
  pub short_text : text < length t → no 6 0 ≡ six
  unfolding no6 at_first below all first unless list_rooms
  short_text a = rw (lt-ltb _ _ a)

  -- it fits, and the work room is too short
  pub short_work : length t ≤ text → work < work_room P F → no 6 1 ≡ six
  unfolding no6 at_first below all first unless list_rooms
  short_work a b = rw (le-ltb _ _ a, lt-ltb _ _ b)

  -- neither
  pub long : length t ≤ text → work_room P F ≤ work → ok ≡ six
  unfolding no6 at_first below all first unless list_rooms
  long a b = rw (le-ltb _ _ a, le-ltb _ _ b)
