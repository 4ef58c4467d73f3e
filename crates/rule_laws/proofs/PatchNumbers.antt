-- Every number that the filter of an accepted patch call compares with a limit or ranks by is a number, not negative and not infinite. Assumes nothing.
use mathlib.Core.Path.{◌≡◌, sym, ◌∙◌}
use mathlib.Core.List.{List}
use Prim.Native.Nat.{ℕ, ◌/◌, ◌≤◌}
use lib.ListN.{length, get_or}
use lib.Dec.{eqb, leb, leb→le, eqb→eq}
use lib.Ieee.{Float, binary64}
use Rattle.rules.specs.Mesh.{Point, Face, points_of, faces_of}
use Rattle.rules.specs.Rank.{outranks}
use Rattle.rules.specs.Refusal.{ok, no2, no4, no10, most_faces}
use Rattle.rules.specs.Patches.{empty, patches, area_of, face_counts, diagonal, largest}
use Rattle.rules.specs.PatchesCall.{PatchesRooms, patches_check}
use Rattle.rule_laws.proofs.Flat.{length_faces}
use Rattle.rule_laws.proofs.Decided.{decided_all, unless_ok}
use Rattle.rule_laws.proofs.Bounds.{Upto}
use Rattle.rule_laws.proofs.Ranks.{StrictTotal}
use Rattle.rule_laws.proofs.PatchAreas.{areas_bounded, largest_bounded, area_rank}
use Rattle.rule_laws.proofs.PatchBoxes.{falls_diagonal}

-- the numbers that `falls` asks for, for any k: areas at most 2^223, diagonals at most 2^102, and a rank that leaves no tie
pub record PatchNumbers (ps : List Point) (fs : List Face) (labels : List ℕ) (C : ℕ) : Type 0 where
  pub areas : (k : ℕ) → Upto binary64 1297 (area_of (patches ps fs labels C) k)
  pub diagonals : (k : ℕ) → Upto binary64 1176 (diagonal (get_or (face_counts labels C) k 0) (get_or (patches ps fs labels C) k empty))
  pub largest_area : Upto binary64 1297 (largest (patches ps fs labels C))
  pub rank : StrictTotal (outranks (area_of (patches ps fs labels C)))

module _ (points : List Float) (faces : List ℕ) (labels : List ℕ) (C : ℕ) (r : PatchesRooms) (e : patches_check points faces labels C r ≡ ok) where
  -- 4 is not given
  in_the_domain : no4 (points_of points) ≡ ok
  unfolding patches_check
  in_the_domain = (decided_all _ e).1.1.1.1.1.0

  -- 2 is not given
  few_faces : length (faces_of faces) ≤ most_faces
  unfolding patches_check no2
  few_faces = rw (length_faces faces) (leb→le (length faces / 3) most_faces (unless_ok 2 1 (leb (length faces / 3) most_faces) (decided_all _ e).1.1.1.0))

  -- 10 is not given
  as_many_labels : length labels ≡ length (faces_of faces)
  unfolding patches_check no10
  as_many_labels =
      eqb→eq (length labels) (length faces / 3)
      (unless_ok 10 0 (eqb (length labels) (length faces / 3)) (decided_all _ e).1.1.1.1.1.1.1.1.0)
      ∙ sym (length_faces faces)

  -- so every such number is one
  pub patch_numbers : PatchNumbers (points_of points) (faces_of faces) labels C
  patch_numbers =
      record {
        areas = areas_bounded (points_of points) in_the_domain (faces_of faces) labels few_faces C;
        diagonals = falls_diagonal (points_of points) in_the_domain (faces_of faces) labels as_many_labels C;
        largest_area = largest_bounded (points_of points) in_the_domain (faces_of faces) labels few_faces C;
        rank = area_rank (points_of points) in_the_domain (faces_of faces) labels few_faces C;
      }
