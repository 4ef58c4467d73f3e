-- `lending::mend` meets its contract: the lists are copied, the faces numbered, and the six passes follow each other. Assumes nothing.
use native.Mathlib.Omega.{arith}
use Rattle.lending.proofs.Mending.{copies_points, copies_faces, numbers_faces, turns_ask, mend_done}
use Rattle.lending.proofs.mend.Goals as goal

pub overflow_mul-p : goal.overflow_mul-p
overflow_mul-p c = omega (arith, c.requires.input.faces_fine)

pub copy_row-requires : goal.copy_row-requires
copy_row-requires c = copies_points c.requires

pub overflow_mul-n : goal.overflow_mul-n
overflow_mul-n c = omega (arith, c.requires.input.faces_fine)

pub copy_row-requires-2 : goal.copy_row-requires-2
copy_row-requires-2 c = copies_faces c.requires

pub number-requires : goal.number-requires
number-requires c = numbers_faces c.requires

pub in_turn-requires : goal.in_turn-requires
in_turn-requires c = turns_ask c.requires c.copy_row.ensures c.copy_row-2.ensures (c.number.ensures.only, c.number.ensures.holds)

pub shape_of-out_points : goal.shape_of-out_points
shape_of-out_points c = (mend_done c.requires c.copy_row.ensures c.copy_row-2.ensures (c.number.ensures.only, c.number.ensures.holds) c.in_turn.ensures).only_points.long

pub shape_of-out_faces : goal.shape_of-out_faces
shape_of-out_faces c = (mend_done c.requires c.copy_row.ensures c.copy_row-2.ensures (c.number.ensures.only, c.number.ensures.holds) c.in_turn.ensures).only_faces.long

pub shape_of-origins : goal.shape_of-origins
shape_of-origins c = (mend_done c.requires c.copy_row.ensures c.copy_row-2.ensures (c.number.ensures.only, c.number.ensures.holds) c.in_turn.ensures).only_origins.long

pub shape_of-work : goal.shape_of-work
shape_of-work c = (mend_done c.requires c.copy_row.ensures c.copy_row-2.ensures (c.number.ensures.only, c.number.ensures.holds) c.in_turn.ensures).only_work.long

pub returns : goal.returns
returns c = mend_done c.requires c.copy_row.ensures c.copy_row-2.ensures (c.number.ensures.only, c.number.ensures.holds) c.in_turn.ensures
