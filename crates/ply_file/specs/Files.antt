-- What the checks of a file know of it, and their list with the rooms' lengths for the rooms. Definitions only.
use Rattle.std.specs.Prelude.{◌≡◌, Option, Some, None, List, [], ◌∷◌, ◌++◌, ℕ, ◌+◌, ◌*◌, ◌^◌, ◌≤◌, ◌<◌, length, drop}
use Rattle.rows.specs.Region.{part}
use Rattle.rules.specs.Mesh.{Point, Face}
use Rattle.rules.specs.Bytes.{u32_at}
use Rattle.rules.specs.Line.{plain}
use Rattle.rules.specs.Refusal.{Check, ok, no, no4, no5, no6, most_points, most_faces}
use Rattle.rules.specs.Rooms.{work_room}
use Rattle.rules.specs.Ply.{line_end, vertices_in, faces_in_is, header_in, real_at, points_of_bytes, triples_of, no13, no14}
use Rattle.rules.specs.ReadPlyCall.{read_ply_rooms}
use Rattle.refuse.specs.Verdicts.{Limits, counts}
use Rattle.ply_file.specs.declared.Line.{Line}
use Rattle.ply_file.specs.declared.Header.{Header}

-- ---- the header

-- the line that begins at `from` is what is written for n, and ends at `end`
pub record LineIs (file : List ℕ) (from n end : ℕ) : Type 0 where
  pub few : n < 10 ^ 19
  pub line : line_end (drop from file) ≡ plain n
  pub field : part file from (length (plain n)) ≡ plain n
  pub ends : end ≡ from + length (plain n)
  pub inside : end ≤ length file

-- or it is what is written for no number of at most 19 digits
pub record LineNone (file : List ℕ) (from : ℕ) : Type 0 where
  pub none : (n : ℕ) → n < 10 ^ 19 → line_end (drop from file) ≡ plain n → ⊥

-- what is told of a line
abbrev pub Lines : List ℕ → ℕ → Option Line → Type 0
Lines file from (Some l) = LineIs file from l.count l.end
Lines file from None = LineNone file from

-- the file has the form, with p vertices and f faces and a body from `at` on
pub record Whole (file : List ℕ) (p f at : ℕ) : Type 0 where
  pub form : no13 file ≡ ok
  pub vertices : vertices_in file ≡ p
  pub faces : faces_in_is file ≡ f
  pub head : length (header_in file) ≡ at
  pub long : length file ≡ at + 24 * p + 13 * f

-- or it has not
pub record Formless (file : List ℕ) : Type 0 where
  pub form : no 13 0 ≡ no13 file

-- what is told of a header
abbrev pub Heads : List ℕ → Option Header → Type 0
Heads file (Some h) = Whole file h.vertices h.faces h.body
Heads file None = Formless file

-- ---- the body

-- the vertex that begins at byte i
abbrev pub point_at : List ℕ → ℕ → Point
point_at file i = record { x = real_at file i; y = real_at file (i + 8); z = real_at file (i + 16) }

-- the face that begins at byte i, alone: its number is not told, and its origin is 0
abbrev pub face_at : List ℕ → ℕ → Face
face_at file i = record { a = u32_at file (i + 1); b = u32_at file (i + 5); c = u32_at file (i + 9); origin = 0 }

-- p vertices begin at `at`
pub record VerticesAsk (file : List ℕ) (at p : ℕ) : Type 0 where
  pub few : p ≤ most_points
  pub vertices : vertices_in file ≡ p
  pub head : length (header_in file) ≡ at
  pub fit : at + 24 * p ≤ length file

-- f faces begin at `at`
pub record FacesAsk (file : List ℕ) (at f : ℕ) : Type 0 where
  pub few : f ≤ most_faces
  pub faces : faces_in_is file ≡ f
  pub head : length (header_in file) + 24 * vertices_in file ≡ at
  pub fit : at + 13 * f ≤ length file

-- a file in the form whose counts are not too large
pub record BodyAsks (file : List ℕ) (at p f : ℕ) : Type 0 where
  pub whole : Whole file p f at
  pub limits : Limits p f

-- ---- the checks, in their order

-- 13 and 2
abbrev pub opening : List ℕ → List Check
opening file = no13 file ∷ counts (vertices_in file) (faces_in_is file)

-- 14, 4 and 5
abbrev pub contents : List ℕ → List Check
contents file = no14 file ∷ no4 (points_of_bytes file) ∷ no5 (vertices_in file) (triples_of file) ∷ []

-- the rules' `read_ply_check`
abbrev pub ply_list : List ℕ → ℕ → ℕ → ℕ → List Check
ply_list file points faces work =
    opening file ++ contents file ++ (no6 (read_ply_rooms (vertices_in file) (faces_in_is file)) (points ∷ faces ∷ work ∷ []) ∷ [])

-- what an accepted file says of itself and of the lengths of the rooms
pub record PlyAccepted (file : List ℕ) (points faces work : ℕ) : Type 0 where
  pub form : no13 file ≡ ok
  pub limits : Limits (vertices_in file) (faces_in_is file)
  pub triple : no14 file ≡ ok
  pub domain : no4 (points_of_bytes file) ≡ ok
  pub corners : no5 (vertices_in file) (triples_of file) ≡ ok
  pub room_points : 3 * vertices_in file ≤ points
  pub room_faces : 3 * faces_in_is file ≤ faces
  pub room_work : work_room (vertices_in file) (faces_in_is file) ≤ work
