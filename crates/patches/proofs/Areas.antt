-- The areas of an accepted call: each fits, is not negative and not infinite. Assumes nothing.
use mathlib.Core.List.{List, [], ◌∷◌}
use Prim.Native.Nat.{ℕ}
use native.Mathlib.Omega.{arith}
use lib.Dec.{T}
use lib.Ieee.{Float, binary64, fits}
use lib.Ieee.Fits.{add-fits}
use Rattle.rules.specs.Lists.{through}
use Rattle.rules.specs.Mesh.{Point, Face, points_of, faces_of}
use Rattle.rules.specs.Patches.{Patch, empty, widened, with_face, patch}
use Rattle.rule_laws.proofs.Flat.{length_faces}
use Rattle.rule_laws.proofs.PatchAreas.{patch_bounded}
use Rattle.patches_refusal.specs.Checks.{PatchesAccepted}
use Rattle.patch_rank.specs.Rank.{Area}
use Rattle.patch_rank.proofs.Bits.{area_is}

-- a face's area is added by one rounded operation
face_fits : (ps : List Point) (r : Patch) (f : Face) → T (fits binary64 (with_face ps r f).area)
unfolding with_face widened through
face_fits ps r f = add-fits binary64 _ _

-- so the area fits after any faces
through_fits : (ps : List Point) (r : Patch) (fs : List Face) → T (fits binary64 r.area) → T (fits binary64 (through (with_face ps) r fs).area)
unfolding through
through_fits ps r [] t = t
through_fits ps r (f ∷ fs) t = through_fits ps (with_face ps r f) fs (face_fits ps r f)

-- and that of each patch
patch_fits : (ps : List Point) (fs : List Face) (labels : List ℕ) (k : ℕ) → T (fits binary64 (patch ps fs labels k).area)
unfolding patch empty fits
patch_fits ps fs labels k = through_fits ps _ _ tt

-- the areas of an accepted call
pub areas_are :
    {points : List Float} {faces labels : List ℕ} {C a b c d : ℕ} → PatchesAccepted points faces labels C a b c d → (k : ℕ)
    → Area (patch (points_of points) (faces_of faces) labels k).area
areas_are {points} {faces} {labels} p k =
    area_is _ (patch_bounded (points_of points) p.input.domain (faces_of faces) labels (omega (arith, length_faces faces, p.input.faces_fine.few)) k)
    (patch_fits (points_of points) (faces_of faces) labels k)
