-- 6: the first room that is too short, or none. Over plain numbers. Assumes nothing.
use mathlib.Core.Path.{◌≡◌}
use mathlib.Core.List.{[], ◌∷◌}
use Prim.Native.Nat.{ℕ, ◌+◌, ◌*◌, ◌≤◌, ◌<◌}
use borrow.Author.Tests.{le-ltb, lt-ltb}
use Rattle.rules.specs.State.{report_counts}
use Rattle.rules.specs.Lists.{below, all, first}
use Rattle.rules.specs.Refusal.{Check, ok, no, unless, at_first, no6}
use Rattle.panel_refusal.specs.Checks.{stated}

module _ (P F m w out_points out_faces report origins meshes work : ℕ) where
  -- what 6 finds
  abbrev six : Check
  six = no6 (stated P F m w) (out_points ∷ out_faces ∷ report ∷ origins ∷ meshes ∷ work ∷ [])

  -- room 0 is the first too short
  pub short_0 : out_points < 3 * (P + 3 * F) → no 6 0 ≡ six
  unfolding no6 at_first below all first unless
  short_0 a = rw (lt-ltb _ _ a)

  -- room 1 is the first too short
  pub short_1 : 3 * (P + 3 * F) ≤ out_points → out_faces < 3 * F → no 6 1 ≡ six
  unfolding no6 at_first below all first unless
  short_1 a b = rw (le-ltb _ _ a, lt-ltb _ _ b)

  -- room 2 is the first too short
  pub short_2 : 3 * (P + 3 * F) ≤ out_points → 3 * F ≤ out_faces → report < report_counts * m → no 6 2 ≡ six
  unfolding no6 at_first below all first unless
  short_2 a b c = rw (le-ltb _ _ a, le-ltb _ _ b, lt-ltb _ _ c)

  -- room 3 is the first too short
  pub short_3 : 3 * (P + 3 * F) ≤ out_points → 3 * F ≤ out_faces → report_counts * m ≤ report → origins < F → no 6 3 ≡ six
  unfolding no6 at_first below all first unless
  short_3 a b c d = rw (le-ltb _ _ a, le-ltb _ _ b, le-ltb _ _ c, lt-ltb _ _ d)

  -- room 4 is the first too short
  pub short_4 : 3 * (P + 3 * F) ≤ out_points → 3 * F ≤ out_faces → report_counts * m ≤ report → F ≤ origins → meshes < 4 * m → no 6 4 ≡ six
  unfolding no6 at_first below all first unless
  short_4 a b c d e = rw (le-ltb _ _ a, le-ltb _ _ b, le-ltb _ _ c, le-ltb _ _ d, lt-ltb _ _ e)

  -- room 5 is the first too short
  pub short_5 : 3 * (P + 3 * F) ≤ out_points → 3 * F ≤ out_faces → report_counts * m ≤ report → F ≤ origins → 4 * m ≤ meshes → work < w → no 6 5 ≡ six
  unfolding no6 at_first below all first unless
  short_5 a b c d e f = rw (le-ltb _ _ a, le-ltb _ _ b, le-ltb _ _ c, le-ltb _ _ d, le-ltb _ _ e, lt-ltb _ _ f)

  -- none is too short
  pub long : 3 * (P + 3 * F) ≤ out_points → 3 * F ≤ out_faces → report_counts * m ≤ report → F ≤ origins → 4 * m ≤ meshes → w ≤ work → ok ≡ six
  unfolding no6 at_first below all first unless
  long a b c d e f = rw (le-ltb _ _ a, le-ltb _ _ b, le-ltb _ _ c, le-ltb _ _ d, le-ltb _ _ e, le-ltb _ _ f)
