-- `patches::fill_rooms` meets its contract: sums, then the ranking, then the other limits. Assumes nothing.
use native.Mathlib.Omega.{arith}
use Rattle.patches.specs.Answers.{filter_of}
use Rattle.patches.proofs.Filling.{keep_asks, clear_fits, filled}
use Rattle.patches.proofs.fill_rooms.Goals as goal

pub keep-requires : goal.keep-requires
keep-requires c = keep_asks c.args.face_counts.now c.args.numbers.now c.args.flags.now c.args.work.now c.requires c.sum_faces.ensures

pub overflow_mul-count : goal.overflow_mul-count
overflow_mul-count c = omega (arith, c.requires.patches)

pub clear-requires : goal.clear-requires
clear-requires c = omega (arith, clear_fits c.args.face_counts.now c.args.numbers.now c.args.flags.now c.args.work.now c.requires c.sum_faces.ensures c.keep.ensures)

pub returns : goal.returns
returns c = filled c.args.face_counts.now c.args.numbers.now c.args.flags.now c.args.work.now c.requires c.sum_faces.ensures (filter_of c.args.by)
    c.count_faces.ensures c.keep.ensures c.share-least.ensures c.drop_small.ensures c.clear.ensures.only
    c.clear.ensures.filled
