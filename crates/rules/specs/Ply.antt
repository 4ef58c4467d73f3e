-- Request 5: a binary little-endian PLY 1.0 file, as it is written from points and triples, and as it is read. Definitions only.
-- Nine header lines, each with one newline after it, then 24 bytes a vertex (the bits of x, y, z) and 13 a face (the count 3 and three indices).
use Rattle.std.specs.Prelude.{ℕ, ◌+◌, ◌*◌, not, ◌&&◌, List, [], ◌∷◌, ◌++◌, map, length, get_or, take, drop, eqb, Float}
use Rattle.std.specs.Float.{binary64}
use Rattle.std.specs.Float.Ieee.{of_bits, to_bits}
use Rattle.rules.specs.Lists.{below, each}
use Rattle.rules.specs.Mesh.{Point, Face, coordinates, corners}
use Rattle.rules.specs.Bytes.{little, u32_at, u64_at}
use Rattle.rules.specs.Refusal.{Check, unless, at_first}
use Rattle.rules.specs.Line.{bytes, plain}
use Rattle.rules.specs.Text.{parted, equal, of_decimal}

-- ---- the file that is written

-- the header up to the count of vertices
unfoldable pub before_vertices : List ℕ
before_vertices = bytes "ply\nformat binary_little_endian 1.0\nelement vertex "

-- from there up to the count of faces
unfoldable pub before_faces : List ℕ
before_faces = bytes "\nproperty double x\nproperty double y\nproperty double z\nelement face "

-- and from there to its end
unfoldable pub after_counts : List ℕ
after_counts = bytes "\nproperty list uchar int vertex_indices\nend_header\n"

-- the header of P vertices and F faces, the counts in plain decimal without leading zeros
unfoldable pub header : ℕ → ℕ → List ℕ
header P F = before_vertices ++ plain P ++ before_faces ++ plain F ++ after_counts

-- a vertex: the bits of x, y, z, 24 bytes
unfoldable pub vertex : Point → List ℕ
vertex p = each (λ x. little 8 (to_bits binary64 x)) (coordinates p)

-- a face: the count 3 and three indices, 13 bytes
unfoldable pub triple : Face → List ℕ
triple f = 3 ∷ each (little 4) (corners f)

-- the file of points and triples
unfoldable pub ply : List Point → List Face → List ℕ
ply ps fs = header (length ps) (length fs) ++ each vertex ps ++ each triple fs

-- ---- a file that is read

-- the bytes before the first newline
unfoldable pub line_end : List ℕ → List ℕ
line_end file = get_or (parted 10 file) 0 []

-- the count of vertices that stands in the file, whatever stands around it
unfoldable pub vertices_in : List ℕ → ℕ
vertices_in file = of_decimal (line_end (drop (length before_vertices) file))

-- the count of faces
unfoldable pub faces_in_is : List ℕ → ℕ
faces_in_is file = of_decimal (line_end (drop (length (before_vertices ++ plain (vertices_in file) ++ before_faces)) file))

-- the header of these counts, which a file in the form begins with
unfoldable pub header_in : List ℕ → List ℕ
header_in file = header (vertices_in file) (faces_in_is file)

-- the f64 whose lowest byte is byte i
unfoldable pub real_at : List ℕ → ℕ → Float
real_at file i = of_bits binary64 (u64_at file i)

-- vertex i of the file
unfoldable pub vertex_at : List ℕ → ℕ → Point
vertex_at file i = let at = length (header_in file) + 24 * i in record { x = real_at file at; y = real_at file (at + 8); z = real_at file (at + 16) }

-- where face i begins, with its count
unfoldable pub face_place : List ℕ → ℕ → ℕ
face_place file i = length (header_in file) + 24 * vertices_in file + 13 * i

-- face i of the file; an index below 0 is a u32 from 2^31 on, which no P that is accepted is above
unfoldable pub triple_at : List ℕ → ℕ → Face
triple_at file i = let at = face_place file i in record { a = u32_at file (at + 1); b = u32_at file (at + 5); c = u32_at file (at + 9); origin = i }

-- all vertices
unfoldable pub points_of_bytes : List ℕ → List Point
points_of_bytes file = map (vertex_at file) (below (vertices_in file))

-- all faces
unfoldable pub triples_of : List ℕ → List Face
triples_of file = map (triple_at file) (below (faces_in_is file))

-- ---- the refusals of its own

-- 13: the header is not of the form, or the body is not 24 bytes a vertex and 13 a face
unfoldable pub no13 : List ℕ → Check
no13 file =
    unless 13 0
    (equal (take (length (header_in file)) file) (header_in file)
    && eqb (length file) (length (header_in file) + 24 * vertices_in file + 13 * faces_in_is file))

-- 14: a face whose count is not 3, at the first such face
unfoldable pub no14 : List ℕ → Check
no14 file = at_first 14 (λ i. not (eqb (get_or file (face_place file i) 0) 3)) (below (faces_in_is file))
