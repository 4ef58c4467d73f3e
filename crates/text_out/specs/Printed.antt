-- The words of this crate's contracts: the lines of a mesh, and the room that they need. Definitions only.
use Rattle.std.specs.Prelude.{not, cond, List, ◌∷◌, map, ℕ, ◌+◌, ◌*◌, ◌/◌, ◌≤◌, ◌<◌, T, ltb, Float, length, get_or}
use Rattle.std.specs.Float.{nan, binary64}
use Rattle.std.specs.Float.Ieee.{is_nan, to_bits}
use Rattle.byte_rows.specs.Put.{Puts}
use Rattle.rules.specs.Lists.{each}
use Rattle.rules.specs.Mesh.{Point, Face, coordinates, corners, points_of, faces_of}
use Rattle.rules.specs.State.{State}
use Rattle.rules.specs.Line.{bytes, decimal}
use Rattle.rules.specs.Text.{hex, text_line}

-- the byte of a hex digit
abbrev pub byte : ℕ → ℕ
byte d = cond (ltb d 10) (48 + d) (87 + d)

-- each float of a row is a number
pub record Numbers (ps : List Float) : Type 0 where
  pub each_is : (i : ℕ) → i < length ps → T (not (is_nan (get_or ps i nan)))

-- room for a tab and a float
pub record RealAsks (w : List ℕ) (at : ℕ) (x : Float) : Type 0 where
  pub room : at + 17 ≤ length w
  pub number : T (not (is_nan x))

-- point i and face i of a flat row
abbrev pub point_at : List Float → ℕ → Point
point_at ps i = record { x = get_or ps (3 * i) nan; y = get_or ps (3 * i + 1) nan; z = get_or ps (3 * i + 2) nan }

abbrev pub face_at : List ℕ → ℕ → Face
face_at fs i = record { a = get_or fs (3 * i) 0; b = get_or fs (3 * i + 1) 0; c = get_or fs (3 * i + 2) 0; origin = i }

-- their lines
abbrev pub point_line : Point → List ℕ
point_line p = text_line (bytes "p") (map (λ x. hex 16 (to_bits binary64 x)) (coordinates p))

abbrev pub face_line : Face → List ℕ
face_line f = text_line (bytes "f") (map decimal (corners f))

-- room for the line of point i
pub record PointAsks (w : List ℕ) (at : ℕ) (ps : List Float) (i : ℕ) : Type 0 where
  pub room : at + 53 ≤ length w
  pub inside : 3 * i + 2 < length ps
  pub few : length ps ≤ 768
  pub numbers : Numbers ps

-- room for the line of face i
pub record FaceAsks (w : List ℕ) (at : ℕ) (fs : List ℕ) (i : ℕ) : Type 0 where
  pub room : at + 35 ≤ length w
  pub inside : 3 * i + 2 < length fs
  pub few : length fs ≤ 192

-- the lines of all points, of all faces, and the fields of all counts
abbrev pub point_lines : List Float → List ℕ
point_lines ps = each point_line (points_of ps)

abbrev pub face_lines : List ℕ → List ℕ
face_lines fs = each face_line (faces_of fs)

abbrev pub counts : List ℕ → List ℕ
counts rs = each (λ f. 9 ∷ f) (map decimal rs)

-- room for them
pub record PointsAsk (w : List ℕ) (at : ℕ) (ps : List Float) : Type 0 where
  pub room : at + 53 * (length ps / 3) ≤ length w
  pub few : length ps ≤ 768
  pub numbers : Numbers ps

pub record FacesAsk (w : List ℕ) (at : ℕ) (fs : List ℕ) : Type 0 where
  pub room : at + 35 * (length fs / 3) ≤ length w
  pub few : length fs ≤ 192

pub record CountsAsk (w : List ℕ) (at : ℕ) (rs : List ℕ) : Type 0 where
  pub room : at + 11 * length rs ≤ length w

-- n lines are put, of at most so many bytes each
pub record LinesGive (w : List ℕ) (at : ℕ) (xs : List ℕ) (most n : ℕ) (w' : List ℕ) (r : ℕ) : Type 0 where
  pub puts : Puts w at xs w' r
  pub short : r ≤ at + most * n

-- room for the `r` line
pub record ReportAsks (w : List ℕ) (at : ℕ) (rs : List ℕ) : Type 0 where
  pub room : at + 11 * length rs + 2 ≤ length w

-- room for the whole text of at most 256 points and 64 faces
pub record MeshAsks (w : List ℕ) (ps : List Float) (fs rs : List ℕ) : Type 0 where
  pub room : 53 * (length ps / 3) + 35 * (length fs / 3) + 11 * length rs + 2 ≤ length w
  pub few_points : length ps ≤ 768
  pub few_faces : length fs ≤ 192
  pub numbers : Numbers ps

-- the mesh that the rows hold
abbrev pub state_of : List Float → List ℕ → List ℕ → State
state_of ps fs rs = record { points = points_of ps; faces = faces_of fs; report = rs }
