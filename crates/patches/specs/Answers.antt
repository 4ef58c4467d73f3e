-- The words of this crate's contracts: the filter as the rules' own, what its parts give, and the call's answer as the rules' outcome. Definitions only.
use Rattle.std.specs.Prelude.{◌≡◌, Result, Ok, Err, Bool, false, ◌||◌, cond, List, [], ◌∷◌, map, ℕ, ◌*◌, ◌≤◌, ◌<◌, ◌^◌, length, get_or, eqb, leb, ltb, Float}
use Rattle.std.specs.Float.{nan}
use Rattle.std.specs.Float.Ieee.{lt}
use Rattle.rows.specs.Region.{Only, OnlyOf, Filled}
use Rattle.rules.specs.Lists.{below, count, through}
use Rattle.rules.specs.Mesh.{zero64, points_of, faces_of}
use Rattle.rules.specs.Float.{◌⊗◌}
use Rattle.rules.specs.Rank.{outranks}
use Rattle.rules.specs.Patches as rule
use Rattle.rules.specs.Rooms.{Answer, accepted, refused, Outcome}
use Rattle.rules.specs.PatchesCall.{PatchesRooms}
use Rattle.refuse.specs.Verdicts.{number_of, place_of}
use Rattle.refuse.specs.declared.Refusal.{Refusal}
use Rattle.patch_sums.specs.Sums.{record_at}
use Rattle.patch_rank.specs.Rank.{Area, area_at}
use Rattle.patches.specs.declared.Limit.{Limit}
use Rattle.patches.specs.declared.Limit.TheVariants as held
use Rattle.patches.specs.declared.Filter.{Filter}
use Rattle.patches.specs.declared.Patched.{Patched}

-- ---- the filter

-- a setting as the rules' own
abbrev pub limit_of : {A : Type 0} → Limit A → rule.Limit A
limit_of held.Absent = rule.absent
limit_of (held.Limit m) = rule.limit m

-- the five settings
abbrev pub filter_of : Filter → rule.Filter
filter_of by =
    record {
      min_faces = limit_of by.min_faces;
      min_area = limit_of by.min_area;
      min_diagonal = limit_of by.min_aabb_diagonal;
      min_fraction = limit_of by.min_area_fraction;
      keep_largest = limit_of by.keep_largest_n;
    }

-- the largest area in the numbers room
abbrev pub largest_in : List Float → ℕ → Float
largest_in xs C = through rule.higher zero64 (map (area_at xs) (below C))

-- the limit that a fraction of it sets
unfoldable pub share_of : List Float → ℕ → rule.Limit Float → rule.Limit Float
share_of xs C rule.absent = rule.absent
share_of xs C (rule.limit part) = rule.limit (largest_in xs C ⊗ part)

-- dropped by faces, area, diagonal or the share of the largest area
abbrev pub small : rule.Filter → rule.Limit Float → ℕ → rule.Patch → Bool
small by least n r =
    rule.under ltb n by.min_faces
    || rule.under lt r.area by.min_area
    || rule.under lt (rule.diagonal n r) by.min_diagonal
    || rule.under lt r.area least

pub record DropAsks (cs : List ℕ) (xs : List Float) (C : ℕ) (fs : List ℕ) : Type 0 where
  pub few : C < 2 ^ 32
  pub counts_fit : C ≤ length cs
  pub fit : 7 * C ≤ length xs
  pub flags_fit : C ≤ length fs

pub record DropGives (cs : List ℕ) (xs : List Float) (C : ℕ) (by : rule.Filter) (least : rule.Limit Float) (fs fs' : List ℕ) : Type 0 where
  pub only : Only 0 C fs fs'
  pub flagged : (k : ℕ) → k < C → get_or fs' k 0 ≡ cond (small by least (get_or cs k 0) (record_at xs k)) 0 (get_or fs k 0)

-- after the first n by area, where n is set
unfoldable pub after : List Float → ℕ → rule.Limit ℕ → ℕ → Bool
after xs C rule.absent k = false
after xs C (rule.limit n) k = leb n (count (λ j. outranks (area_at xs) j k) (below C))

pub record KeepAsks (xs : List Float) (C : ℕ) (fs w : List ℕ) : Type 0 where
  pub few : C < 2 ^ 32
  pub fit : 7 * C ≤ length xs
  pub flags_fit : C ≤ length fs
  pub work_fit : 2 * C ≤ length w
  pub areas : (k : ℕ) → k < C → Area (area_at xs k)

pub record KeepGives (xs : List Float) (C : ℕ) (most : rule.Limit ℕ) (fs w fs' w' : List ℕ) : Type 0 where
  pub only_flags : Only 0 C fs fs'
  pub only_work : Only 0 (2 * C) w w'
  pub flagged : (k : ℕ) → k < C → get_or fs' k 0 ≡ cond (after xs C most k) 0 1

-- ---- the call

-- document 01's answer: how many entries stand in each room, or a number and a place
abbrev pub answer_of : Result Patched Refusal → Answer
answer_of (Ok r) = accepted (r.face_counts ∷ r.numbers ∷ r.flags ∷ [])
answer_of (Err r) = refused (number_of r) (place_of r)

-- the four rooms
abbrev pub rooms_of : List ℕ → List Float → List ℕ → List ℕ → PatchesRooms
rooms_of cs xs fs w = record { face_counts = cs; numbers = xs; flags = fs; work = w }

-- with the rooms as the call leaves them
abbrev pub outcome_of : Result Patched Refusal → PatchesRooms → Outcome PatchesRooms
outcome_of r rooms = record { answer = answer_of r; rooms = rooms }

-- the rooms of an accepted call, entry by entry
pub record FillGives (points : List Float) (faces labels : List ℕ) (C : ℕ) (by : rule.Filter) (r r' : PatchesRooms) : Type 0 where
  pub only_counts : Only 0 C r.face_counts r'.face_counts
  pub only_numbers : OnlyOf nan 0 (7 * C) r.numbers r'.numbers
  pub only_flags : Only 0 C r.flags r'.flags
  pub only_work : Only 0 (4 * C) r.work r'.work
  pub counted : (k : ℕ) → k < C → get_or r'.face_counts k 0 ≡ count (eqb k) labels
  pub summed : (k : ℕ) → k < C → record_at r'.numbers k ≡ rule.patch (points_of points) (faces_of faces) labels k
  pub flagged : (k : ℕ) → k < C → get_or r'.flags k 0 ≡ cond (rule.falls by (rule.face_counts labels C) (rule.patches (points_of points) (faces_of faces) labels C) k) 0 1
  pub cleared : Filled 0 (4 * C) 0 r'.work
