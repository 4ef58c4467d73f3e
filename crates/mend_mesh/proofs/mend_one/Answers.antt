-- `mend_mesh::mend_one` meets its contract: the repair's outcome is what the mesh contributes, and its four entries are told. Assumes nothing.
use native.Mathlib.Omega.{arith}
use Rattle.mend_mesh.proofs.One.{few_points, few_faces, mended, near, turned_away}
use Rattle.mend_mesh.proofs.mend_one.Goals as goal

pub overflow_cast-mended : goal.overflow_cast-mended
overflow_cast-mended c = let a = c.args in
    omega (arith, few_points a.points.now a.faces.now a.s a.options a.out_points.now a.out_faces.now a.report.now a.origins.now a.four.now a.work.now c.requires (rw c.in-Ok.is at c.repair.ensures))

pub overflow_cast-mended-in-Ok : goal.overflow_cast-mended-in-Ok
overflow_cast-mended-in-Ok c = let a = c.args in
    omega (arith, few_faces a.points.now a.faces.now a.s a.options a.out_points.now a.out_faces.now a.report.now a.origins.now a.four.now a.work.now c.requires (rw c.in-Ok.is at c.repair.ensures))

pub overflow_cast-place : goal.overflow_cast-place
overflow_cast-place c = let a = c.args in
    omega (arith, c.place.ensures, near a.points.now a.faces.now a.s a.options a.out_points.now a.out_faces.now a.report.now a.origins.now a.four.now a.work.now c.requires _ (rw c.in-Err.is at c.repair.ensures))

pub returns-in-Ok : goal.returns-in-Ok
returns-in-Ok c = let a = c.args in
    mended a.points.now a.faces.now a.s a.options a.out_points.now a.out_faces.now a.report.now a.origins.now a.four.now a.work.now c.requires (rw c.in-Ok.is at c.repair.ensures) c.put_four.ensures

pub returns-in-Err : goal.returns-in-Err
returns-in-Err c = let a = c.args in
    turned_away a.points.now a.faces.now a.s a.options a.out_points.now a.out_faces.now a.report.now a.origins.now a.four.now a.work.now c.requires _ (rw c.in-Err.is at c.repair.ensures) (rw (c.number.ensures, c.place.ensures) at c.put_four-in-Err.ensures)
