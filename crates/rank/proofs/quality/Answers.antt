-- `rank::quality` meets its contract. Assumes nothing.
use mathlib.Core.Path.{◌≡◌, sym, ap, ◌∙◌}
use mathlib.Core.List.{List}
use Prim.Native.Nat.{ℕ, ◌+◌, ◌*◌}
use native.Mathlib.Omega.{arith}
use lib.ListN.{get_or}
use lib.Ieee.{Float}
use Rattle.measure.specs.Measure.{face_of, Corners}
use Rattle.rules.specs.Float as rule
use Rattle.rules.specs.Mesh.{points_of}
use Rattle.rules.specs.Steps.{quality_of}
use Rattle.rule_laws.proofs.Flat.{face_at}
use Rattle.rank.specs.Ranks.{value_of, QualityAsks}
use Rattle.rank.proofs.quality.Goals as goal

module _ {ps : List Float} {xs : List ℕ} {i : ℕ} (p : QualityAsks ps xs i) where
  -- the three corners are points
  corners_ok : Corners ps (get_or xs (3 * i) 0) (get_or xs (3 * i + 1) 0) (get_or xs (3 * i + 2) 0)
  corners_ok =
      let w = p.faces.whole in
      let h = p.here in
      record { a_in = p.faces.corners (3 * i) (omega arith); b_in = p.faces.corners (3 * i + 1) (omega arith); c_in = p.faces.corners (3 * i + 2) (omega arith) }

  -- they are those of face i
  done : {r : Float} → r ≡ rule.quality (points_of ps) (face_of (get_or xs (3 * i) 0) (get_or xs (3 * i + 1) 0) (get_or xs (3 * i + 2) 0)) → r ≡ value_of ps xs i
  unfolding quality_of rule.quality
  done e =
      let w = p.faces.whole in
      let h = p.here in
      e ∙ ap (rule.quality (points_of ps)) (sym (face_at xs i (omega arith)))

pub quality-requires : goal.quality-requires
quality-requires c = corners_ok c.requires

pub returns : goal.returns
returns c = done c.requires c.quality.ensures
