-- 6: the first room that is too short, or none. Over plain numbers. Assumes nothing.
use mathlib.Core.Path.{◌≡◌}
use mathlib.Core.List.{[], ◌∷◌}
use Prim.Native.Nat.{ℕ, ◌*◌, ◌≤◌, ◌<◌}
use borrow.Author.Tests.{le-ltb, lt-ltb}
use Rattle.rules.specs.Lists.{below, all, first}
use Rattle.rules.specs.Refusal.{Check, ok, no, unless, at_first, no6}
use Rattle.rules.specs.PatchesCall.{patches_rooms}

module _ (C face_counts numbers flags work : ℕ) where
  -- what 6 finds
  abbrev six : Check
  six = no6 (patches_rooms C) (face_counts ∷ numbers ∷ flags ∷ work ∷ [])

  -- room 0 is the first too short
  pub short_0 : face_counts < C → no 6 0 ≡ six
  unfolding no6 at_first below all first unless patches_rooms
  short_0 a = rw (lt-ltb _ _ a)

  -- room 1 is the first too short
  pub short_1 : C ≤ face_counts → numbers < 7 * C → no 6 1 ≡ six
  unfolding no6 at_first below all first unless patches_rooms
  short_1 a b = rw (le-ltb _ _ a, lt-ltb _ _ b)

  -- room 2 is the first too short
  pub short_2 : C ≤ face_counts → 7 * C ≤ numbers → flags < C → no 6 2 ≡ six
  unfolding no6 at_first below all first unless patches_rooms
  short_2 a b c = rw (le-ltb _ _ a, le-ltb _ _ b, lt-ltb _ _ c)

  -- room 3 is the first too short
  pub short_3 : C ≤ face_counts → 7 * C ≤ numbers → C ≤ flags → work < 4 * C → no 6 3 ≡ six
  unfolding no6 at_first below all first unless patches_rooms
  short_3 a b c d = rw (le-ltb _ _ a, le-ltb _ _ b, le-ltb _ _ c, lt-ltb _ _ d)

  -- none is too short
  pub long : C ≤ face_counts → 7 * C ≤ numbers → C ≤ flags → 4 * C ≤ work → ok ≡ six
  unfolding no6 at_first below all first unless patches_rooms
  long a b c d = rw (le-ltb _ _ a, le-ltb _ _ b, le-ltb _ _ c, le-ltb _ _ d)
