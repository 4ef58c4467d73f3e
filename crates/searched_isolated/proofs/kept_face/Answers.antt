-- `searched_isolated::kept_face` meets its contract: three corners, or none. Assumes nothing.
use mathlib.Core.Path.{◌≡◌, sym, ap, ◌∙◌}
use mathlib.Core.Bool.{Bool, ◌&&◌}
use native.Mathlib.Omega.{arith}
use lib.Dec.{eqb}
use Rattle.rules.specs.Mesh.{Face}
use Rattle.fan_laws.specs.Opening.{single}
use Rattle.searched_isolated.proofs.Lines.{first_most, face_single, face_several}
use Rattle.searched_isolated.proofs.kept_face.Goals as goal

-- what the test says of the face
tested : {f g : Face} {r b : Bool} → r ≡ (eqb f.a f.b && eqb f.b f.c) → f ≡ g → r ≡ b → single g ≡ b
unfolding single
tested e q t = ap single (sym q) ∙ sym e ∙ t

-- src/lib.rt:49:9
pub returns-then-same : goal.returns-then-same
returns-then-same c = face_single c.requires.face_asks (tested c.same.ensures c.view-c.ensures c.if-same.true)

-- src/lib.rt:51:5
pub overflow_add-result : goal.overflow_add-result
overflow_add-result c = omega (arith, c.kept_corner.ensures, c.kept_corner-2.ensures, first_most c.args.faces.now c.args.words.now c.args.f 0, first_most c.args.faces.now c.args.words.now c.args.f 1)

-- src/lib.rt:51:5
pub overflow_add-result-2 : goal.overflow_add-result-2
overflow_add-result-2 c = omega (
  arith,
  c.kept_corner.ensures,
  c.kept_corner-2.ensures,
  c.kept_corner-3.ensures,
  first_most c.args.faces.now c.args.words.now c.args.f 0,
  first_most c.args.faces.now c.args.words.now c.args.f 1,
  first_most c.args.faces.now c.args.words.now c.args.f 2,
)

-- src/lib.rt:43:1
pub returns : goal.returns
returns c = face_several c.requires.face_asks (tested c.same.ensures c.view-c.ensures c.if-same.false) c.kept_corner.ensures c.kept_corner-2.ensures c.kept_corner-3.ensures
