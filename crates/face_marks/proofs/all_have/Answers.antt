-- `face_marks::all_have` meets its contract: the faces before `at` have the point. Assumes nothing.
use mathlib.Core.Path.{sym, ◌∙◌}
use Prim.Native.Nat.{◌-◌}
use native.Mathlib.Omega.{arith}
use Rattle.face_marks.proofs.Faces.{looked_begin, here_face, looked_gone, looked_without, looked_again, looked_done}
use Rattle.face_marks.proofs.all_have.Goals as goal

pub loop-at-init : goal.loop-at-init
loop-at-init c = looked_begin c.args.v c.requires

pub read_face-face-requires : goal.read_face-face-requires
read_face-face-requires c = record { faces = c.loop-at.invariant.faces; left = c.loop-at-test.true }

pub is_here-requires : goal.is_here-requires
is_here-requires c = c.requires.sized.bytes

pub returns-then-not-is_here : goal.returns-then-not-is_here
returns-then-not-is_here c = looked_gone c.loop-at.invariant c.read_face-face.ensures (sym c.if-not-is_here.true ∙ c.is_here.ensures)

pub has_point-requires : goal.has_point-requires
has_point-requires c = here_face _ _ _ _ c.requires.sized (sym c.if-not-is_here.false ∙ c.is_here.ensures)

pub returns-then-not-has_point : goal.returns-then-not-has_point
returns-then-not-has_point c = looked_without c.loop-at.invariant c.read_face-face.ensures (sym c.if-not-is_here.false ∙ c.is_here.ensures) (sym c.if-not-has_point.true ∙ c.has_point.ensures)

pub loop-at-smaller : goal.loop-at-smaller
loop-at-smaller c = omega (arith, c.read_face-face.ensures, c.read_face-face.ensures.faces)

pub loop-at-preserved : goal.loop-at-preserved
loop-at-preserved c = looked_again c.loop-at.invariant c.read_face-face.ensures (sym c.if-not-is_here.false ∙ c.is_here.ensures) (sym c.if-not-has_point.false ∙ c.has_point.ensures)

pub returns : goal.returns
returns c = looked_done c.loop-at.invariant c.loop-at-test.false
