-- What an accepted call says of its points and faces, for the code that follows the checks. Definitions only.
use Rattle.std.specs.Prelude.{◌≡◌, ℕ, ◌/◌, ◌%◌, ◌≤◌, ◌<◌, List, length, get_or, Float}
use Rattle.rules.specs.Mesh.{points_of}
use Rattle.rules.specs.Refusal.{ok, no4, most_points, most_faces}

-- of the faces over P points
pub record Faces (P : ℕ) (faces : List ℕ) : Type 0 where
  pub whole : length faces % 3 ≡ 0
  pub few : length faces / 3 ≤ most_faces
  pub points : P ≤ most_points
  pub below : (j : ℕ) → j < length faces → get_or faces j 0 < P

-- of points and faces
pub record Accepted (points : List Float) (faces : List ℕ) : Type 0 where
  pub whole : length points % 3 ≡ 0
  pub faces_fine : Faces (length points / 3) faces
  pub domain : no4 (points_of points) ≡ ok
