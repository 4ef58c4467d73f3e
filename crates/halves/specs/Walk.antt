-- What the walk over one buffer of half entries asks and gives.
use Rattle.std.specs.Prelude.{◌≡◌, Result, List, ℕ, ◌+◌, ◌*◌, ◌/◌, ◌≤◌, ◌<◌, length, get_or}
use Rattle.rows.specs.Region.{Only}
use Rattle.refuse.specs.declared.Refusal.{Refusal}
use Rattle.halves.specs.declared.State.{State}
use Rattle.halves.specs.Split.{tally}
use Rattle.halves.specs.Scan.{Upto, Told, Small, SmallIn}

-- every half entry whose key is from from up to to stands in the region as often as c says
pub record Counts (c : ℕ → ℕ) (a : List ℕ) (s n from to : ℕ) : Type 0 where
  pub each : (x : ℕ) → from ≤ x / 2 → x / 2 < to → tally a s n x ≡ c x

-- every entry of the region has a key from from up to to
pub record Inside (a : List ℕ) (s n from to : ℕ) : Type 0 where
  pub low : (i : ℕ) → i < n → from ≤ get_or a (s + i) 0 / 2
  pub high : (i : ℕ) → i < n → get_or a (s + i) 0 / 2 < to

-- a region of half entries in the range from `from` up to `to`
pub record WalkAsks (a : List ℕ) (s n from to P : ℕ) (t : State) : Type 0 where
  pub fit : s + n ≤ length a
  pub points : 0 < P
  pub top : to ≤ P * P
  pub order : from ≤ to
  pub inside : Inside a s n from to
  pub small : Small from t

-- the keys of the range are passed
pub record WalkGives (a : List ℕ) (s n from to P : ℕ) (t : State) (a' : List ℕ) (r : Result State Refusal) : Type 0 where
  pub only : Only s n a a'
  pub small : SmallIn to r
  pub told : (c : ℕ → ℕ) → Counts c a s n from to → Upto c P from t → Told c P to r
