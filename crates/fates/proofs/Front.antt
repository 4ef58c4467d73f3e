-- What stands at the front of the rooms after four passes, the corners and the origins that the rules have; and all lines of these passes. Assumes nothing.
use mathlib.Core.Path.{◌≡◌, sym, ap, ◌∙◌}
use mathlib.Core.List.{List, ◌++◌, append_assoc}
use Prim.Native.Nat.{ℕ, ◌+◌, ◌*◌}
use native.Mathlib.Omega.{arith}
use lib.ListN.{length, get_or, take}
use lib.Seq.{length-take-le}
use lib.Ieee.{Float}
use Rattle.leaving.specs.Pass.{standing, carried}
use Rattle.leaving.proofs.Standing.{stands_alike, carried_origins}
use Rattle.mending_rows.specs.Told.{first_told, drops_told, exchanges_told}
use Rattle.rules.specs.Mesh.{points_of, faces_of, flat_faces}
use Rattle.rules.specs.State.{State, start}
use Rattle.rules.specs.Repair.{bit}
use Rattle.rules.specs.Mending.{for_duplicate, for_edge, for_direction, lines1, lines2, lines3, lines4}
use Rattle.rule_laws.proofs.Carried.{flat_same}
use Rattle.rule_laws.proofs.Flat.{flat_faces_back}
use Rattle.rule_laws.proofs.Origins.{origins}
use Rattle.fates.specs.Fating.{lines_if, FourGives, after1, after2, after3, after4}

module _ {options : ℕ} {s : Float} {ps : List Float} {fs xs os w : List ℕ} {fates : ℕ} {xs' os' w' : List ℕ} {n : ℕ} (g : FourGives options s ps fs xs os w fates xs' os' w' n) where
  -- the corners
  pub front_corners : take (3 * n) xs' ≡ flat_faces (after4 options s (start (points_of ps) (faces_of fs))).faces
  front_corners =
      sym (flat_faces_back (take (3 * n) xs') (omega (arith, length-take-le (3 * n) xs' g.left.fit)))
      ∙ flat_same (standing xs' n) (carried xs' os' n) (stands_alike xs' os' n g.left.fit g.left.own) ∙ ap flat_faces (sym g.has.faces)

  -- the origins
  pub front_origins : take n os' ≡ origins (after4 options s (start (points_of ps) (faces_of fs))).faces
  front_origins = sym (carried_origins xs' os' n g.left.fit g.left.own) ∙ ap origins (sym g.has.faces)

  -- the rules' start, and the fates
  abbrev m0 : State
  m0 = start (points_of ps) (faces_of fs)

  abbrev fate : ℕ → ℕ
  fate f = get_or w' (fates + f) 0

  -- the lines of the four passes, one after the other
  pub front_lines :
      lines_if (bit 0 options) (lines1 s) m0 ++ lines_if (bit 1 options) lines2 (after1 options s m0) ++ lines_if (bit 2 options) lines3 (after2 options s m0) ++ lines_if (bit 4 options) lines4 (after3 options s m0)
      ≡ first_told fate (length os) ++ drops_told fate for_duplicate (length os) ++ drops_told fate for_edge (length os) ++ exchanges_told fate (length os) ++ drops_told fate for_direction (length os)
  front_lines =
      (λ j. g.first j ++ g.second j ++ g.third j ++ g.fourth j)
      ∙ sym (append_assoc (first_told fate (length os) ++ drops_told fate for_duplicate (length os) ++ drops_told fate for_edge (length os)) (exchanges_told fate (length os)) (drops_told fate for_direction (length os)))
