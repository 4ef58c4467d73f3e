-- `repair::repair` meets its contract: the checks refuse, or the passes run and the rooms are cleared behind the answers. Assumes nothing.
use native.Mathlib.Omega.{arith}
use Rattle.std.proofs.lemmas.Result.{err_from_is_err_and}
use Rattle.repair.proofs.Ending.{is_refused, mend_asks, report_asks, sizes, is_done}
use Rattle.repair.proofs.repair.Goals as goal

pub returns-in_err-repair_refusal : goal.returns-in_err-repair_refusal
returns-in_err-repair_refusal c = let a = c.args in
    let p = err_from_is_err_and c.from_residual.result c.from_residual.ensures.1 in
    rw (p.1, p.2) (is_refused a.points.now a.faces.now a.s a.options a.out_points.now a.out_faces.now a.report.now a.origins.now a.work.now _ c.in_err-repair_refusal.ensures)

pub mend-mended-requires : goal.mend-mended-requires
mend-mended-requires c = let a = c.args in
    mend_asks a.points.now a.faces.now a.s a.options a.out_points.now a.out_faces.now a.report.now a.origins.now a.work.now c.in_ok-repair_refusal.ensures

pub overflow_mul-a : goal.overflow_mul-a
overflow_mul-a c = let a = c.args in
    omega (arith, sizes a.points.now a.faces.now a.s a.options a.out_points.now a.out_faces.now a.report.now a.origins.now a.work.now c.in_ok-repair_refusal.ensures c.mend-mended.ensures)

pub overflow_mul-b : goal.overflow_mul-b
overflow_mul-b c = let a = c.args in
    omega (arith, sizes a.points.now a.faces.now a.s a.options a.out_points.now a.out_faces.now a.report.now a.origins.now a.work.now c.in_ok-repair_refusal.ensures c.mend-mended.ensures)

pub overflow_mul-n : goal.overflow_mul-n
overflow_mul-n c = let a = c.args in
    omega (arith, sizes a.points.now a.faces.now a.s a.options a.out_points.now a.out_faces.now a.report.now a.origins.now a.work.now c.in_ok-repair_refusal.ensures c.mend-mended.ensures)

pub overflow_add-p : goal.overflow_add-p
overflow_add-p c = let a = c.args in
    omega (arith, sizes a.points.now a.faces.now a.s a.options a.out_points.now a.out_faces.now a.report.now a.origins.now a.work.now c.in_ok-repair_refusal.ensures c.mend-mended.ensures)

pub overflow_mul-p : goal.overflow_mul-p
overflow_mul-p c = let a = c.args in
    omega (arith, sizes a.points.now a.faces.now a.s a.options a.out_points.now a.out_faces.now a.report.now a.origins.now a.work.now c.in_ok-repair_refusal.ensures c.mend-mended.ensures)

pub overflow_sub-p : goal.overflow_sub-p
overflow_sub-p c = let a = c.args in
    omega (arith, sizes a.points.now a.faces.now a.s a.options a.out_points.now a.out_faces.now a.report.now a.origins.now a.work.now c.in_ok-repair_refusal.ensures c.mend-mended.ensures)

pub wipe-requires : goal.wipe-requires
wipe-requires c = let a = c.args in
    omega (arith, sizes a.points.now a.faces.now a.s a.options a.out_points.now a.out_faces.now a.report.now a.origins.now a.work.now c.in_ok-repair_refusal.ensures c.mend-mended.ensures)

pub overflow_mul-n-2 : goal.overflow_mul-n-2
overflow_mul-n-2 c = let a = c.args in
    omega (arith, sizes a.points.now a.faces.now a.s a.options a.out_points.now a.out_faces.now a.report.now a.origins.now a.work.now c.in_ok-repair_refusal.ensures c.mend-mended.ensures)

pub overflow_sub-n : goal.overflow_sub-n
overflow_sub-n c = let a = c.args in
    omega (arith, sizes a.points.now a.faces.now a.s a.options a.out_points.now a.out_faces.now a.report.now a.origins.now a.work.now c.in_ok-repair_refusal.ensures c.mend-mended.ensures)

pub wipe-requires-2 : goal.wipe-requires-2
wipe-requires-2 c = let a = c.args in
    omega (arith, sizes a.points.now a.faces.now a.s a.options a.out_points.now a.out_faces.now a.report.now a.origins.now a.work.now c.in_ok-repair_refusal.ensures c.mend-mended.ensures)

pub write_report-requires : goal.write_report-requires
write_report-requires c = let a = c.args in
    report_asks a.points.now a.faces.now a.s a.options a.out_points.now a.out_faces.now a.report.now a.origins.now a.work.now c.in_ok-repair_refusal.ensures c.mend-mended.ensures

pub overflow_sub-n-2 : goal.overflow_sub-n-2
overflow_sub-n-2 c = let a = c.args in
    omega (arith, sizes a.points.now a.faces.now a.s a.options a.out_points.now a.out_faces.now a.report.now a.origins.now a.work.now c.in_ok-repair_refusal.ensures c.mend-mended.ensures)

pub wipe-requires-3 : goal.wipe-requires-3
wipe-requires-3 c = let a = c.args in
    omega (arith, sizes a.points.now a.faces.now a.s a.options a.out_points.now a.out_faces.now a.report.now a.origins.now a.work.now c.in_ok-repair_refusal.ensures c.mend-mended.ensures)

pub overflow_mul-p-2 : goal.overflow_mul-p-2
overflow_mul-p-2 c = let a = c.args in
    omega (arith, sizes a.points.now a.faces.now a.s a.options a.out_points.now a.out_faces.now a.report.now a.origins.now a.work.now c.in_ok-repair_refusal.ensures c.mend-mended.ensures)

pub overflow_mul-n-3 : goal.overflow_mul-n-3
overflow_mul-n-3 c = let a = c.args in
    omega (arith, sizes a.points.now a.faces.now a.s a.options a.out_points.now a.out_faces.now a.report.now a.origins.now a.work.now c.in_ok-repair_refusal.ensures c.mend-mended.ensures)

pub overflow_add-p-2 : goal.overflow_add-p-2
overflow_add-p-2 c = let a = c.args in
    omega (arith, sizes a.points.now a.faces.now a.s a.options a.out_points.now a.out_faces.now a.report.now a.origins.now a.work.now c.in_ok-repair_refusal.ensures c.mend-mended.ensures)

pub overflow_add-p-3 : goal.overflow_add-p-3
overflow_add-p-3 c = let a = c.args in
    omega (arith, sizes a.points.now a.faces.now a.s a.options a.out_points.now a.out_faces.now a.report.now a.origins.now a.work.now c.in_ok-repair_refusal.ensures c.mend-mended.ensures)

pub wipe-requires-4 : goal.wipe-requires-4
wipe-requires-4 c = let a = c.args in
    omega (arith, sizes a.points.now a.faces.now a.s a.options a.out_points.now a.out_faces.now a.report.now a.origins.now a.work.now c.in_ok-repair_refusal.ensures c.mend-mended.ensures)

pub returns : goal.returns
returns c = let a = c.args in
    is_done a.points.now a.faces.now a.s a.options a.out_points.now a.out_faces.now a.report.now a.origins.now a.work.now c.in_ok-repair_refusal.ensures c.mend-mended.ensures
    c.wipe.ensures.only c.wipe.ensures.filled c.wipe-2.ensures.only c.wipe-2.ensures.filled c.write_report.ensures
    c.wipe-3.ensures.only c.wipe-3.ensures.filled c.wipe-4.ensures.only c.wipe-4.ensures.filled
