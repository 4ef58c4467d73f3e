-- `face_index::note` meets its contract: the bit of the word is set. Assumes nothing.
use native.Mathlib.Omega.{arith}
use Rattle.face_index.proofs.Setting.{word_read, noted_there}
use Rattle.face_index.proofs.note.Goals as goal

pub overflow_mul-at : goal.overflow_mul-at
overflow_mul-at c = omega (arith, word_read c.requires c.args.v c.bucket.ensures)

pub overflow_add-at : goal.overflow_add-at
overflow_add-at c = omega (arith, word_read c.requires c.args.v c.bucket.ensures)

pub offset_bounds-index-at : goal.offset_bounds-index-at
offset_bounds-index-at c = omega (arith, word_read c.requires c.args.v c.bucket.ensures)

pub bounds-index-at : goal.bounds-index-at
bounds-index-at c = word_read c.requires c.args.v c.bucket.ensures

pub offset_bounds-index-at-2 : goal.offset_bounds-index-at-2
offset_bounds-index-at-2 c = omega (arith, word_read c.requires c.args.v c.bucket.ensures)

pub bounds-index-at-2 : goal.bounds-index-at-2
bounds-index-at-2 c = word_read c.requires c.args.v c.bucket.ensures

pub returns : goal.returns
returns c = noted_there c.requires c.args.v c.bucket.ensures
