-- The edge check, from P and faces: what it gives back and what its one room, work, then holds, for any input. Definitions only.
use Rattle.std.specs.Prelude.{ℕ, ◌/◌, cond, List, [], ◌∷◌, length}
use Rattle.rules.specs.Mesh.{faces_of}
use Rattle.rules.specs.Edges.{sound}
use Rattle.rules.specs.Refusal.{Check, decided, no1, no2, no5, no6, most_points, most_faces}
use Rattle.rules.specs.Rooms.{work_room, cleared, Outcome, outcome}

-- the stated room for P points and F faces: work
unfoldable pub check_rooms : ℕ → ℕ → List ℕ
check_rooms P F = work_room P F ∷ []

-- the refusal of the edge check: 1, 2, 5, 6
unfoldable pub check_check : ℕ → List ℕ → List ℕ → Check
check_check P faces work =
    let F = length faces / 3 in
    decided
    (no1 1 (length faces) ∷ no2 0 P most_points ∷ no2 1 F most_faces ∷ no5 P (faces_of faces)
    ∷ no6 (check_rooms P F) (length work ∷ []) ∷ [])

-- a whole edge check: 1 is yes, 0 is no
unfoldable pub check : ℕ → List ℕ → List ℕ → Outcome (List ℕ)
check P faces work =
    outcome (check_check P faces work) work
    (cond (sound (faces_of faces)) 1 0 ∷ [])
    (cleared (work_room P (length faces / 3)) work)
