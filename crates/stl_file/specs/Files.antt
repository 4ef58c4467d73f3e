-- What the checks of a file know of it, and their list with the rooms' lengths for the rooms. Definitions only.
use Rattle.std.specs.Prelude.{◌≡◌, List, [], ◌∷◌, ℕ, ◌+◌, ◌*◌, ◌≤◌, length}
use Rattle.rules.specs.Refusal.{Check, ok, no2, no4, no6, most_faces}
use Rattle.rules.specs.Stl.{facets, place_of, corners_of, no12, stl_rooms}

-- the file has as many facets as it says, and not too many
pub record Whole (file : List ℕ) (count : ℕ) : Type 0 where
  pub long : length file ≡ 84 + 50 * count
  pub counted : facets file ≡ count
  pub few : count ≤ most_faces

-- corner c stands in the file
pub record CornerAsks (file : List ℕ) (c : ℕ) : Type 0 where
  pub few : c ≤ 3 * most_faces
  pub fit : place_of c + 12 ≤ length file

-- the rules' `stl_check`
abbrev pub stl_list : List ℕ → ℕ → ℕ → ℕ → List Check
stl_list file points faces work =
    no12 file ∷ no2 1 (facets file) most_faces ∷ no4 (corners_of file) ∷ no6 (stl_rooms (facets file)) (points ∷ faces ∷ work ∷ []) ∷ []

-- what an accepted file says of itself and of the lengths of the rooms
pub record StlAccepted (file : List ℕ) (points faces work : ℕ) : Type 0 where
  pub whole : Whole file (facets file)
  pub domain : no4 (corners_of file) ≡ ok
  pub room_points : 9 * facets file ≤ points
  pub room_faces : 3 * facets file ≤ faces
  pub room_work : 64 * facets file + 64 ≤ work
