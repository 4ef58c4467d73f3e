-- The call that tells how many points and faces a binary PLY file has, so that rooms can be lent to reading it. It has no room. Definitions only.
use Rattle.std.specs.Prelude.{List, [], ◌∷◌, ℕ}
use Rattle.rules.specs.Refusal.{Check, decided, no2, most_points, most_faces}
use Rattle.rules.specs.Rooms.{Outcome, outcome}
use Rattle.rules.specs.Ply.{vertices_in, faces_in_is, no13}

-- the refusal of the call, as reading begins: 13, 2
unfoldable pub ply_counts_check : List ℕ → Check
ply_counts_check file = decided (no13 file ∷ no2 0 (vertices_in file) most_points ∷ no2 1 (faces_in_is file) most_faces ∷ [])

-- a whole call: P and F
unfoldable pub ply_counts : List ℕ → Outcome (Unit {0})
ply_counts file = outcome (ply_counts_check file) tt (vertices_in file ∷ faces_in_is file ∷ []) tt
