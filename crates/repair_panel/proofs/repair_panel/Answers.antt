-- `repair_panel::repair_panel` meets its contract: the checks refuse, or the meshes are mended and the rooms are cleared behind the answers. Assumes nothing.
use Rattle.std.proofs.lemmas.Result.{err_from_is_err_and}
use Rattle.repair_panel.proofs.Ending.{is_refused, is_accepted, sizes, is_done}
use Rattle.repair_panel.proofs.repair_panel.Goals as goal

pub returns-in_err-panel_refusal : goal.returns-in_err-panel_refusal
returns-in_err-panel_refusal c = let a = c.args in
    let p = err_from_is_err_and c.from_residual.result c.from_residual.ensures.1 in
    rw (p.1, p.2) (is_refused a.points.now a.faces.now a.point_counts.now a.face_counts.now a.s a.options a.out_points.now a.out_faces.now a.report.now a.origins.now a.meshes.now a.work.now _ c.in_err-panel_refusal.ensures)

pub largest-largest-requires : goal.largest-largest-requires
largest-largest-requires c = let a = c.args in
    (is_accepted a.points.now a.faces.now a.point_counts.now a.face_counts.now a.s a.options a.out_points.now a.out_faces.now a.report.now a.origins.now a.meshes.now a.work.now c.in_ok-panel_refusal.ensures).rows.same

pub mend_all-at-requires : goal.mend_all-at-requires
mend_all-at-requires c = let a = c.args in
    is_accepted a.points.now a.faces.now a.point_counts.now a.face_counts.now a.s a.options a.out_points.now a.out_faces.now a.report.now a.origins.now a.meshes.now a.work.now c.in_ok-panel_refusal.ensures

pub overflow_mul-f : goal.overflow_mul-f
overflow_mul-f c = let a = c.args in
    record { fits = (sizes a.points.now a.faces.now a.point_counts.now a.face_counts.now a.s a.options a.out_points.now a.out_faces.now a.report.now a.origins.now a.meshes.now a.work.now c.in_ok-panel_refusal.ensures c.mend_all-at.ensures c.well_formed.1.1.1.1.1.1.0.0 _ c.largest-largest.ensures).three_faces }

pub overflow_add-p : goal.overflow_add-p
overflow_add-p c = let a = c.args in
    record { fits = (sizes a.points.now a.faces.now a.point_counts.now a.face_counts.now a.s a.options a.out_points.now a.out_faces.now a.report.now a.origins.now a.meshes.now a.work.now c.in_ok-panel_refusal.ensures c.mend_all-at.ensures c.well_formed.1.1.1.1.1.1.0.0 _ c.largest-largest.ensures).all_points }

pub overflow_mul-p : goal.overflow_mul-p
overflow_mul-p c = let a = c.args in
    record { fits = (sizes a.points.now a.faces.now a.point_counts.now a.face_counts.now a.s a.options a.out_points.now a.out_faces.now a.report.now a.origins.now a.meshes.now a.work.now c.in_ok-panel_refusal.ensures c.mend_all-at.ensures c.well_formed.1.1.1.1.1.1.0.0 _ c.largest-largest.ensures).three_points }

pub overflow_sub-p : goal.overflow_sub-p
overflow_sub-p c = let a = c.args in
    (sizes a.points.now a.faces.now a.point_counts.now a.face_counts.now a.s a.options a.out_points.now a.out_faces.now a.report.now a.origins.now a.meshes.now a.work.now c.in_ok-panel_refusal.ensures c.mend_all-at.ensures c.well_formed.1.1.1.1.1.1.0.0 _ c.largest-largest.ensures).points_end

pub wipe-requires : goal.wipe-requires
wipe-requires c = let a = c.args in
    (sizes a.points.now a.faces.now a.point_counts.now a.face_counts.now a.s a.options a.out_points.now a.out_faces.now a.report.now a.origins.now a.meshes.now a.work.now c.in_ok-panel_refusal.ensures c.mend_all-at.ensures c.well_formed.1.1.1.1.1.1.0.0 _ c.largest-largest.ensures).points_room

pub overflow_mul-f-2 : goal.overflow_mul-f-2
overflow_mul-f-2 c = let a = c.args in
    record { fits = (sizes a.points.now a.faces.now a.point_counts.now a.face_counts.now a.s a.options a.out_points.now a.out_faces.now a.report.now a.origins.now a.meshes.now a.work.now c.in_ok-panel_refusal.ensures c.mend_all-at.ensures c.well_formed.1.1.1.1.1.1.0.0 _ c.largest-largest.ensures).three_faces }

pub overflow_sub-f : goal.overflow_sub-f
overflow_sub-f c = let a = c.args in
    (sizes a.points.now a.faces.now a.point_counts.now a.face_counts.now a.s a.options a.out_points.now a.out_faces.now a.report.now a.origins.now a.meshes.now a.work.now c.in_ok-panel_refusal.ensures c.mend_all-at.ensures c.well_formed.1.1.1.1.1.1.0.0 _ c.largest-largest.ensures).faces_end

pub wipe-requires-2 : goal.wipe-requires-2
wipe-requires-2 c = let a = c.args in
    (sizes a.points.now a.faces.now a.point_counts.now a.face_counts.now a.s a.options a.out_points.now a.out_faces.now a.report.now a.origins.now a.meshes.now a.work.now c.in_ok-panel_refusal.ensures c.mend_all-at.ensures c.well_formed.1.1.1.1.1.1.0.0 _ c.largest-largest.ensures).faces_room

pub overflow_mul-m : goal.overflow_mul-m
overflow_mul-m c = let a = c.args in
    record { fits = (sizes a.points.now a.faces.now a.point_counts.now a.face_counts.now a.s a.options a.out_points.now a.out_faces.now a.report.now a.origins.now a.meshes.now a.work.now c.in_ok-panel_refusal.ensures c.mend_all-at.ensures c.well_formed.1.1.1.1.1.1.0.0 _ c.largest-largest.ensures).all_counts }

pub overflow_sub-m : goal.overflow_sub-m
overflow_sub-m c = let a = c.args in
    (sizes a.points.now a.faces.now a.point_counts.now a.face_counts.now a.s a.options a.out_points.now a.out_faces.now a.report.now a.origins.now a.meshes.now a.work.now c.in_ok-panel_refusal.ensures c.mend_all-at.ensures c.well_formed.1.1.1.1.1.1.0.0 _ c.largest-largest.ensures).counts_end

pub wipe-requires-3 : goal.wipe-requires-3
wipe-requires-3 c = let a = c.args in
    (sizes a.points.now a.faces.now a.point_counts.now a.face_counts.now a.s a.options a.out_points.now a.out_faces.now a.report.now a.origins.now a.meshes.now a.work.now c.in_ok-panel_refusal.ensures c.mend_all-at.ensures c.well_formed.1.1.1.1.1.1.0.0 _ c.largest-largest.ensures).counts_room

pub overflow_sub-f-2 : goal.overflow_sub-f-2
overflow_sub-f-2 c = let a = c.args in
    (sizes a.points.now a.faces.now a.point_counts.now a.face_counts.now a.s a.options a.out_points.now a.out_faces.now a.report.now a.origins.now a.meshes.now a.work.now c.in_ok-panel_refusal.ensures c.mend_all-at.ensures c.well_formed.1.1.1.1.1.1.0.0 _ c.largest-largest.ensures).origins_end

pub wipe-requires-4 : goal.wipe-requires-4
wipe-requires-4 c = let a = c.args in
    (sizes a.points.now a.faces.now a.point_counts.now a.face_counts.now a.s a.options a.out_points.now a.out_faces.now a.report.now a.origins.now a.meshes.now a.work.now c.in_ok-panel_refusal.ensures c.mend_all-at.ensures c.well_formed.1.1.1.1.1.1.0.0 _ c.largest-largest.ensures).origins_room

pub wipe-requires-5 : goal.wipe-requires-5
wipe-requires-5 c = let a = c.args in
    (sizes a.points.now a.faces.now a.point_counts.now a.face_counts.now a.s a.options a.out_points.now a.out_faces.now a.report.now a.origins.now a.meshes.now a.work.now c.in_ok-panel_refusal.ensures c.mend_all-at.ensures c.well_formed.1.1.1.1.1.1.0.0 _ c.largest-largest.ensures).work_room

pub overflow_mul-result : goal.overflow_mul-result
overflow_mul-result c = let a = c.args in
    record { fits = (sizes a.points.now a.faces.now a.point_counts.now a.face_counts.now a.s a.options a.out_points.now a.out_faces.now a.report.now a.origins.now a.meshes.now a.work.now c.in_ok-panel_refusal.ensures c.mend_all-at.ensures c.well_formed.1.1.1.1.1.1.0.0 _ c.largest-largest.ensures).all_fours }

pub returns : goal.returns
returns c = let a = c.args in
    is_done a.points.now a.faces.now a.point_counts.now a.face_counts.now a.s a.options a.out_points.now a.out_faces.now a.report.now a.origins.now a.meshes.now a.work.now c.in_ok-panel_refusal.ensures c.mend_all-at.ensures c.well_formed.1.1.1.1.1.1.0.0 _ c.largest-largest.ensures
    c.wipe.ensures.only c.wipe.ensures.filled
    c.wipe-2.ensures.only c.wipe-2.ensures.filled
    c.wipe-3.ensures.only c.wipe-3.ensures.filled
    c.wipe-4.ensures.only c.wipe-4.ensures.filled
    c.wipe-5.ensures.only c.wipe-5.ensures.filled
