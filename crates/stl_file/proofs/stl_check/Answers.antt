-- `stl_file::stl_check` meets its contract: 12, 2, the corners and the rooms, one after the other. Assumes nothing.
use Rattle.std.proofs.lemmas.Result.{err_from_is_err_and}
use Rattle.stl_file.proofs.Deciding.{is_short, is_wrong, is_many, is_whole, is_far, is_near}
use Rattle.stl_file.proofs.stl_check.Goals as goal

pub returns-then-file-lt84 : goal.returns-then-file-lt84
returns-then-file-lt84 c = is_short c.args.file.now c.args.points c.args.faces c.args.work c.if-file-lt84.true

pub returns-then-file-count : goal.returns-then-file-count
returns-then-file-count c = is_wrong c.args.file.now c.args.points c.args.faces c.args.work c.u32_at-count.result c.u32_at-count.ensures c.if-file-count.true

pub returns-then-count-gt-MOST_FACES : goal.returns-then-count-gt-MOST_FACES
returns-then-count-gt-MOST_FACES c = is_many c.args.file.now c.args.points c.args.faces c.args.work c.u32_at-count.result c.u32_at-count.ensures c.if-file-count.false c.if-count-gt-MOST_FACES.true

pub corners-requires : goal.corners-requires
corners-requires c = is_whole c.args.file.now c.args.points c.args.faces c.args.work c.u32_at-count.result c.u32_at-count.ensures c.if-file-count.false c.if-count-gt-MOST_FACES.false

pub returns-in_err-corners : goal.returns-in_err-corners
returns-in_err-corners c = let p = err_from_is_err_and c.from_residual.result c.from_residual.ensures.1 in
    rw (p.1, p.2) (is_far c.args.file.now c.args.points c.args.faces c.args.work c.u32_at-count.result c.u32_at-count.ensures c.if-file-count.false c.if-count-gt-MOST_FACES.false _ _ c.in_err-corners.ensures)

pub returns : goal.returns
returns c = is_near c.args.file.now c.args.points c.args.faces c.args.work c.u32_at-count.result c.u32_at-count.ensures c.if-file-count.false c.if-count-gt-MOST_FACES.false _ c.in_ok-corners.ensures c.rooms.ensures
