-- The words of this crate's contracts, over a work room w, a flat list of faces xs and P points; `loops` says whether loops are wanted. Definitions only.
use Rattle.std.specs.Prelude.{◌≡◌, Result, Ok, Err, Bool, true, false, List, [], ◌∷◌, ℕ, ◌+◌, ◌*◌, ◌/◌, ◌≤◌, length}
use Rattle.rows.specs.Region.{Only, Holds}
use Rattle.rules.specs.Mesh.{faces_of}
use Rattle.rules.specs.Refusal.{Check, decided, most_points, most_faces}
use Rattle.rules.specs.Rooms.{work_room}
use Rattle.rules.specs.Edges.{no7, no8, boundary}
use Rattle.refuse.specs.Accepted.{Faces}
use Rattle.refuse.specs.Verdicts.{check_of}
use Rattle.refuse.specs.declared.Refusal.{Refusal}
use Rattle.table.specs.Table.{Tabled}
use Rattle.boundary.specs.Rows.{onward, BoundaryAsks}

-- numbers that may be multiplied
pub record SizeAsks (corners P : ℕ) : Type 0 where
  pub few_corners : corners ≤ 3 * most_faces
  pub few_points : P ≤ most_points

-- the entries that are taken of the work room for so many corners
abbrev pub taken : Bool → ℕ → ℕ → ℕ
taken true P corners = 5 * corners + 1 + 4 * P
taken false P corners = 5 * corners + 1 + P

-- the rules' verdict
abbrev pub judged : Bool → ℕ → List ℕ → Check
judged true P xs = decided (no7 P (faces_of xs) ∷ no8 P (faces_of xs) ∷ [])
judged false P xs = decided (no7 P (faces_of xs) ∷ [])

-- the table of m edges stands in the work room, and for loops where the boundary goes on
pub record Stands (loops : Bool) (w xs : List ℕ) (P m : ℕ) : Type 0 where
  pub tabled : Tabled w xs P false 0 m
  pub next : loops ≡ true → Holds (5 * length xs + 1 + 3 * P) P (onward P (boundary (faces_of xs))) w

-- a table of m edges, and room for the rows behind it
abbrev pub JudgeAsks : List ℕ → List ℕ → ℕ → ℕ → Type 0
JudgeAsks w xs P m = BoundaryAsks w xs P 0 m (5 * length xs + 1 + P)

-- the verdict is the rules'; where it is Ok, all stands
pub record JudgeGives (loops : Bool) (w xs : List ℕ) (P m : ℕ) (w' : List ℕ) (r : Result Unit Refusal) : Type 0 where
  pub only : Only 0 (taken loops P (length xs)) w w'
  pub says : check_of r ≡ judged loops P xs
  pub stands : r ≡ Ok tt → Stands loops w' xs P m

-- accepted faces, and the stated work room
pub record DrawAsks (w xs : List ℕ) (P : ℕ) : Type 0 where
  pub faces : Faces P xs
  pub room : work_room P (length xs / 3) ≤ length w

-- it stands where nothing is refused
abbrev pub Standing : Bool → List ℕ → ℕ → List ℕ → Result ℕ Refusal → Type 0
Standing loops xs P w (Ok m) = Stands loops w xs P m
Standing loops xs P w (Err e) = Unit {0}

-- it does, or the work room is as it was
abbrev pub Prepared : Bool → List ℕ → List ℕ → ℕ → List ℕ → Result ℕ Refusal → Type 0
Prepared loops w xs P w' (Ok m) = Stands loops w' xs P m
Prepared loops w xs P w' (Err e) = w' ≡ w

-- the verdict is the rules'; where it is none, all stands
pub record DrawGives (loops : Bool) (w xs : List ℕ) (P : ℕ) (w' : List ℕ) (r : Result ℕ Refusal) : Type 0 where
  pub only : Only 0 (taken loops P (length xs)) w w'
  pub says : check_of r ≡ judged loops P xs
  pub stands : Standing loops xs P w' r

-- and a refusal leaves the work room as it was
pub record PrepareGives (loops : Bool) (w xs : List ℕ) (P : ℕ) (w' : List ℕ) (r : Result ℕ Refusal) : Type 0 where
  pub only : Only 0 (work_room P (length xs / 3)) w w'
  pub says : check_of r ≡ judged loops P xs
  pub prepared : Prepared loops w xs P w' r
