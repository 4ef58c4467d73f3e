-- `read_stl::read_stl` meets its contract: the check refuses, or points and triples are made and the rooms are cleared behind them. Assumes nothing.
use mathlib.Core.Path.{◌∙◌}
use native.Mathlib.Omega.{arith}
use Rattle.std.proofs.lemmas.Result.{err_from_is_err_and}
use Rattle.read_stl.proofs.Ending.{is_refused, count_in, keys_asks, corners_asks, equal_asks, flags_asks, number_asks, triples_asks, retain_asks, sizes_after, is_done}
use Rattle.read_stl.proofs.read_stl.Goals as goal

pub returns-in_err-stl_check : goal.returns-in_err-stl_check
returns-in_err-stl_check c = let p = err_from_is_err_and c.from_residual.result c.from_residual.ensures.1 in
    rw (p.1, p.2) (is_refused c.args.file.now c.args.points.now c.args.faces.now c.args.work.now _ c.in_err-stl_check.ensures)

pub u32_at-count-requires : goal.u32_at-count-requires
u32_at-count-requires c = count_in c.args.file.now c.args.points.now c.args.faces.now c.args.work.now c.in_ok-stl_check.ensures

pub keys-requires : goal.keys-requires
keys-requires c = keys_asks c.args.file.now c.args.points.now c.args.faces.now c.args.work.now c.in_ok-stl_check.ensures c.u32_at-count.result c.u32_at-count.ensures

pub corners-requires : goal.corners-requires
corners-requires c = corners_asks c.args.file.now c.args.points.now c.args.faces.now c.args.work.now c.in_ok-stl_check.ensures c.u32_at-count.result c.u32_at-count.ensures

pub equal_rows-requires : goal.equal_rows-requires
equal_rows-requires c = equal_asks c.args.file.now c.args.points.now c.args.faces.now c.args.work.now c.in_ok-stl_check.ensures c.u32_at-count.result c.u32_at-count.ensures c.keys.ensures

pub flags-requires : goal.flags-requires
flags-requires c = flags_asks c.args.file.now c.args.points.now c.args.faces.now c.args.work.now c.in_ok-stl_check.ensures c.u32_at-count.result c.u32_at-count.ensures c.keys.ensures c.equal_rows.ensures

pub number_kept-requires : goal.number_kept-requires
number_kept-requires c = number_asks c.args.file.now c.args.points.now c.args.faces.now c.args.work.now c.in_ok-stl_check.ensures c.u32_at-count.result c.u32_at-count.ensures c.keys.ensures c.equal_rows.ensures c.flags.ensures

pub triples-requires : goal.triples-requires
triples-requires c = triples_asks c.args.file.now c.args.points.now c.args.faces.now c.args.work.now c.in_ok-stl_check.ensures c.u32_at-count.result c.u32_at-count.ensures c.keys.ensures c.equal_rows.ensures c.flags.ensures c.number_kept.ensures

pub retain-p-requires : goal.retain-p-requires
retain-p-requires c = retain_asks c.args.file.now c.args.points.now c.args.faces.now c.args.work.now c.in_ok-stl_check.ensures c.u32_at-count.result c.u32_at-count.ensures c.keys.ensures c.equal_rows.ensures c.flags.ensures c.number_kept.ensures c.corners.ensures

pub overflow_mul-p : goal.overflow_mul-p
overflow_mul-p c = omega (arith, sizes_after c.args.file.now c.args.points.now c.args.faces.now c.args.work.now c.in_ok-stl_check.ensures c.u32_at-count.result c.u32_at-count.ensures c.keys.ensures c.equal_rows.ensures c.flags.ensures c.number_kept.ensures c.corners.ensures c.retain-p.ensures)

pub overflow_mul-n-6 : goal.overflow_mul-n-6
overflow_mul-n-6 c = omega (arith, sizes_after c.args.file.now c.args.points.now c.args.faces.now c.args.work.now c.in_ok-stl_check.ensures c.u32_at-count.result c.u32_at-count.ensures c.keys.ensures c.equal_rows.ensures c.flags.ensures c.number_kept.ensures c.corners.ensures c.retain-p.ensures)

pub overflow_mul-p-2 : goal.overflow_mul-p-2
overflow_mul-p-2 c = omega (arith, sizes_after c.args.file.now c.args.points.now c.args.faces.now c.args.work.now c.in_ok-stl_check.ensures c.u32_at-count.result c.u32_at-count.ensures c.keys.ensures c.equal_rows.ensures c.flags.ensures c.number_kept.ensures c.corners.ensures c.retain-p.ensures)

pub overflow_sub-n : goal.overflow_sub-n
overflow_sub-n c = omega (arith, sizes_after c.args.file.now c.args.points.now c.args.faces.now c.args.work.now c.in_ok-stl_check.ensures c.u32_at-count.result c.u32_at-count.ensures c.keys.ensures c.equal_rows.ensures c.flags.ensures c.number_kept.ensures c.corners.ensures c.retain-p.ensures)

pub clear-requires : goal.clear-requires
clear-requires c = omega (arith, sizes_after c.args.file.now c.args.points.now c.args.faces.now c.args.work.now c.in_ok-stl_check.ensures c.u32_at-count.result c.u32_at-count.ensures c.keys.ensures c.equal_rows.ensures c.flags.ensures c.number_kept.ensures c.corners.ensures c.retain-p.ensures)

pub overflow_mul-count-2 : goal.overflow_mul-count-2
overflow_mul-count-2 c = omega (arith, sizes_after c.args.file.now c.args.points.now c.args.faces.now c.args.work.now c.in_ok-stl_check.ensures c.u32_at-count.result c.u32_at-count.ensures c.keys.ensures c.equal_rows.ensures c.flags.ensures c.number_kept.ensures c.corners.ensures c.retain-p.ensures)

pub overflow_add-count-2 : goal.overflow_add-count-2
overflow_add-count-2 c = omega (arith, sizes_after c.args.file.now c.args.points.now c.args.faces.now c.args.work.now c.in_ok-stl_check.ensures c.u32_at-count.result c.u32_at-count.ensures c.keys.ensures c.equal_rows.ensures c.flags.ensures c.number_kept.ensures c.corners.ensures c.retain-p.ensures)

pub wipe-requires : goal.wipe-requires
wipe-requires c = omega (arith, sizes_after c.args.file.now c.args.points.now c.args.faces.now c.args.work.now c.in_ok-stl_check.ensures c.u32_at-count.result c.u32_at-count.ensures c.keys.ensures c.equal_rows.ensures c.flags.ensures c.number_kept.ensures c.corners.ensures c.retain-p.ensures)

pub overflow_mul-result : goal.overflow_mul-result
overflow_mul-result c = omega (arith, sizes_after c.args.file.now c.args.points.now c.args.faces.now c.args.work.now c.in_ok-stl_check.ensures c.u32_at-count.result c.u32_at-count.ensures c.keys.ensures c.equal_rows.ensures c.flags.ensures c.number_kept.ensures c.corners.ensures c.retain-p.ensures)

pub shape_of-points : goal.shape_of-points
shape_of-points c = c.clear.ensures.only.long ∙ (c.retain-p.ensures.only.long ∙ c.corners.ensures.only.long)

pub shape_of-work : goal.shape_of-work
shape_of-work c = c.wipe.ensures.only.long ∙ (c.number_kept.ensures.only.long ∙ (c.flags.ensures.only.long ∙ (c.equal_rows.ensures.only.long ∙ c.keys.ensures.only.long)))

pub returns : goal.returns
returns c = is_done c.args.file.now c.args.points.now c.args.faces.now c.args.work.now c.in_ok-stl_check.ensures c.u32_at-count.result c.u32_at-count.ensures c.keys.ensures c.equal_rows.ensures c.flags.ensures c.number_kept.ensures c.corners.ensures c.retain-p.ensures c.triples.ensures c.clear.ensures.only c.clear.ensures.filled c.wipe.ensures.only c.wipe.ensures.filled
