-- Request 1: a binary STL file, read into points and triples. Definitions only.
-- 80 header bytes, a little-endian u32 facet count, then 50 bytes a facet: a normal and three corners as f32, two attribute bytes.
use Rattle.std.specs.Prelude.{ℕ, ◌+◌, ◌*◌, ◌/◌, ◌%◌, Bool, ◌&&◌, List, [], ◌∷◌, map, length, take, eqb, Float}
use Rattle.std.specs.Float.{binary32}
use Rattle.std.specs.Float.Ieee.{of_bits, eq}
use Rattle.rules.specs.Lists.{below, any, first, leave}
use Rattle.rules.specs.Mesh.{Point, point, flat_points, zero64}
use Rattle.rules.specs.Bytes.{u32_at}
use Rattle.rules.specs.Refusal.{Check, unless, decided, no2, no4, no6, most_faces}
use Rattle.rules.specs.Rooms.{filled, cleared, Outcome, outcome}

-- ---- the file's layout

-- the facet count F stands after 80 header bytes
unfoldable pub facets : List ℕ → ℕ
facets file = u32_at file 80

-- The f32 whose lowest byte is byte i, widened: a `Float` is a number or a NaN of either format, so the f64 is the same one.
unfoldable pub coordinate : List ℕ → ℕ → Float
coordinate file i = of_bits binary32 (u32_at file i)

-- the corner whose lowest byte is byte i
unfoldable pub corner_at : List ℕ → ℕ → Point
corner_at file i = record { x = coordinate file i; y = coordinate file (i + 4); z = coordinate file (i + 8) }

-- where corner c, counted through the file, begins: 84 bytes before the facets, 50 for each facet before its own, 12 for the normal, 12 for each corner before it
unfoldable pub place_of : ℕ → ℕ
place_of c = 96 + 50 * (c / 3) + 12 * (c % 3)

-- all 3F corners; normals and attribute bytes are skipped
unfoldable pub corners_of : List ℕ → List Point
corners_of file = map (λ c. corner_at file (place_of c)) (below (3 * facets file))

-- ---- points and triples

-- two corners are equal as numbers; both zeros are equal
unfoldable pub equal : Point → Point → Bool
equal p q = eq p.x q.x && eq p.y q.y && eq p.z q.z

-- an earlier corner is equal to corner c
unfoldable pub again : List Point → ℕ → Bool
again cs c = any (equal (point cs c)) (take c cs)

-- corners equal as numbers become one point, with the bits that appear first, in order of first appearance
unfoldable pub merged : List Point → List Point
merged cs = leave (again cs) cs

-- a corner's number: the place of the point that it became
unfoldable pub number : List Point → Point → ℕ
number cs p = first (equal p) (merged cs)

-- the triples: the numbers of all corners, three a facet
unfoldable pub triples : List Point → List ℕ
triples cs = map (number cs) cs

-- ---- the call

-- 12: the file's length is not 84 plus 50 times the count. A file under 84 bytes is never of that length, whatever its bytes say.
unfoldable pub no12 : List ℕ → Check
no12 file = unless 12 0 (eqb (length file) (84 + 50 * facets file))

-- the stated rooms for F facets: points 9F, faces 3F, work 64F+64
unfoldable pub stl_rooms : ℕ → List ℕ
stl_rooms F = 9 * F ∷ 3 * F ∷ (64 * F + 64) ∷ []

-- the rooms lent to the call, in checking order
pub record StlRooms : Type 0 where
  pub points : List Float
  pub faces : List ℕ
  pub work : List ℕ

-- the refusal of the call: 12, 2, 4 at the first such corner, 6
unfoldable pub stl_check : List ℕ → StlRooms → Check
stl_check file r =
    decided
    (no12 file ∷ no2 1 (facets file) most_faces ∷ no4 (corners_of file)
    ∷ no6 (stl_rooms (facets file)) (length r.points ∷ length r.faces ∷ length r.work ∷ []) ∷ [])

-- a whole call: the answer and every room
unfoldable pub read_stl : List ℕ → StlRooms → Outcome StlRooms
read_stl file r =
    let F = facets file in
    let cs = corners_of file in
    outcome (stl_check file r) r
    (3 * length (merged cs) ∷ 3 * F ∷ [])
    (record {
      points = filled zero64 (9 * F) (flat_points (merged cs)) r.points;
      faces = filled 0 (3 * F) (triples cs) r.faces;
      work = cleared (64 * F + 64) r.work;
    })
