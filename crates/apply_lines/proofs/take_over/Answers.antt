-- `apply_lines::take_over` meets its contract: each turn reads a face and renames it. Assumes nothing.
use Prim.Native.Nat.{◌-◌}
use native.Mathlib.Omega.{arith}
use Rattle.apply_lines.proofs.Taking.{begin, face_asks, face_fits, again, done}
use Rattle.apply_lines.proofs.take_over.Goals as goal

pub loop-at-init : goal.loop-at-init
loop-at-init c = begin c.requires

pub read_face-face-requires : goal.read_face-face-requires
read_face-face-requires c = face_asks c.requires c.loop-at.invariant c.loop-at-test.true

pub overflow_cast-f : goal.overflow_cast-f
overflow_cast-f c = omega (arith, c.struct_known-1.given)

pub rename_face-requires : goal.rename_face-requires
rename_face-requires c = face_fits c.requires c.loop-at.invariant c.read_face-face.ensures

pub loop-at-smaller : goal.loop-at-smaller
loop-at-smaller c = let g = c.read_face-face.ensures in
    omega (arith, g.on, g.faces.begins)

pub loop-at-preserved : goal.loop-at-preserved
loop-at-preserved c = again c.requires c.loop-at.invariant c.read_face-face.ensures c.rename_face.ensures

pub shape_of-faces : goal.shape_of-faces
shape_of-faces c = c.loop-at.invariant.only.long

pub returns : goal.returns
returns c = done c.requires c.loop-at.invariant c.loop-at-test.false
