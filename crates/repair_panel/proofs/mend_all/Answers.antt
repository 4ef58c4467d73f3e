-- `repair_panel::mend_all` meets its contract: after k meshes each list is what the first k contribute. Assumes nothing.
use native.Mathlib.Omega.{arith}
use Rattle.repair_panel.proofs.Turns.{begin, turn, again, done}
use Rattle.repair_panel.proofs.mend_all.Goals as goal

pub loop-k-init : goal.loop-k-init
loop-k-init c = begin _ _ _ _ _ _ _ _ _ _ _ _

pub overflow_cast-p : goal.overflow_cast-p
overflow_cast-p c = omega (arith, c.shared_slice_known-in-loop-k-1.given c.loop-k.k)

pub bounds-face_counts-k : goal.bounds-face_counts-k
bounds-face_counts-k c = omega (arith, c.requires.rows.same)

pub overflow_cast-f : goal.overflow_cast-f
overflow_cast-f c = omega (arith, c.shared_slice_known-in-loop-k-2-1.given c.loop-k.k)

pub mend_next-at-requires : goal.mend_next-at-requires
mend_next-at-requires c = turn _ _ _ _ _ _ c.requires c.loop-k.invariant c.loop-k-test.true (omega (arith, c.shared_slice_known-in-loop-k-1.given c.loop-k.k)) (omega (arith, c.shared_slice_known-in-loop-k-2-1.given c.loop-k.k))

pub loop-k-preserved : goal.loop-k-preserved
loop-k-preserved c = again _ _ _ _ _ _ c.requires c.loop-k.invariant c.loop-k-test.true c.mend_next-at.ensures

pub shape_of-out_points : goal.shape_of-out_points
shape_of-out_points c = c.loop-k.invariant.out_points.only.long

pub shape_of-out_faces : goal.shape_of-out_faces
shape_of-out_faces c = c.loop-k.invariant.out_faces.only.long

pub shape_of-report : goal.shape_of-report
shape_of-report c = c.loop-k.invariant.report.only.long

pub shape_of-origins : goal.shape_of-origins
shape_of-origins c = c.loop-k.invariant.origins.only.long

pub shape_of-meshes : goal.shape_of-meshes
shape_of-meshes c = c.loop-k.invariant.meshes.only.long

pub shape_of-work : goal.shape_of-work
shape_of-work c = c.loop-k.invariant.only_work.long

pub returns : goal.returns
returns c = done _ _ _ _ _ _ c.requires c.loop-k.invariant c.loop-k-test.false
