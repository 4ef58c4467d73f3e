-- Where a mesh stands among packed ones: in the lists that a call is given by the rows of counts, and in the rooms that it leaves by the meshes room alone.
-- Definitions only.
use Rattle.std.specs.Prelude.{ℕ, zero, suc, ◌+◌, ◌*◌, cond, List, eqb, Float, get_or, take, drop}
use Rattle.rules.specs.State.{report_counts}
use Rattle.rules.specs.PanelCall.{total, PanelRooms}

-- ---- what the call is given

-- what mesh k has of a packed list, by a row of counts: three entries a count
abbrev pub mesh_part : {A : Type 0} → List ℕ → List A → ℕ → List A
mesh_part counts xs k = take (3 * get_or counts k 0) (drop (3 * total (take k counts)) xs)

-- ---- what the call leaves, by the meshes room: four entries a mesh

-- the four entries of mesh k
unfoldable pub four_at : List ℕ → ℕ → List ℕ
four_at meshes k = take 4 (drop (4 * k) meshes)

-- 1 if mesh k is accepted, which number 0 says; 0 if it is refused
unfoldable pub accepted_at : List ℕ → ℕ → ℕ
accepted_at meshes k = cond (eqb (get_or meshes (4 * k) 0) 0) 1 0

-- its number of points
unfoldable pub points_at : List ℕ → ℕ → ℕ
points_at meshes k = get_or meshes (4 * k + 2) 0

-- its number of faces
unfoldable pub faces_at : List ℕ → ℕ → ℕ
faces_at meshes k = get_or meshes (4 * k + 3) 0

-- how many of something all meshes before mesh k have together
unfoldable pub before : (ℕ → ℕ) → ℕ → ℕ
before f zero = 0
before f (suc k) = before f k + f k

-- mesh k's points: three entries each, behind those of the meshes before
unfoldable pub points_part : PanelRooms → ℕ → List Float
points_part r k = take (3 * points_at r.meshes k) (drop (3 * before (points_at r.meshes) k) r.out_points)

-- its faces: three entries each
unfoldable pub faces_part : PanelRooms → ℕ → List ℕ
faces_part r k = take (3 * faces_at r.meshes k) (drop (3 * before (faces_at r.meshes) k) r.out_faces)

-- its report: of the accepted meshes alone
unfoldable pub counts_part : PanelRooms → ℕ → List ℕ
counts_part r k = take (report_counts * accepted_at r.meshes k) (drop (report_counts * before (accepted_at r.meshes) k) r.report)

-- its origins: one a face
unfoldable pub origins_part : PanelRooms → ℕ → List ℕ
origins_part r k = take (faces_at r.meshes k) (drop (before (faces_at r.meshes) k) r.origins)
