-- `searched_lost::lost_face` meets its contract: three corners. Assumes nothing.
use native.Mathlib.Omega.{arith}
use Rattle.searched_splits.specs.Splits.{id_of}
use Rattle.searched_lost.proofs.Losing.{line_most}
use Rattle.searched_lost.proofs.Adding.{corner_ask, face_sum}
use Rattle.searched_lost.proofs.lost_face.Goals as goal

pub overflow_add-result : goal.overflow_add-result
overflow_add-result c = omega (arith, (c.lost_corner-first.ensures (corner_ask c.requires 0 (omega arith))), (c.lost_corner-second.ensures (corner_ask c.requires 1 (omega arith))), (c.lost_corner-third.ensures (corner_ask c.requires 2 (omega arith))), line_most c.args.faces.now c.requires.all.base c.args.points (id_of c.requires.all.base c.args.f 0), line_most c.args.faces.now c.requires.all.base c.args.points (id_of c.requires.all.base c.args.f 1), line_most c.args.faces.now c.requires.all.base c.args.points (id_of c.requires.all.base c.args.f 2))

pub overflow_add-result-2 : goal.overflow_add-result-2
overflow_add-result-2 c = omega (arith, (c.lost_corner-first.ensures (corner_ask c.requires 0 (omega arith))), (c.lost_corner-second.ensures (corner_ask c.requires 1 (omega arith))), (c.lost_corner-third.ensures (corner_ask c.requires 2 (omega arith))), line_most c.args.faces.now c.requires.all.base c.args.points (id_of c.requires.all.base c.args.f 0), line_most c.args.faces.now c.requires.all.base c.args.points (id_of c.requires.all.base c.args.f 1), line_most c.args.faces.now c.requires.all.base c.args.points (id_of c.requires.all.base c.args.f 2))

pub returns : goal.returns
returns c = λ q. face_sum c.args.faces.now q.all.base c.args.points c.args.f (c.lost_corner-first.ensures (corner_ask q 0 (omega arith))) (c.lost_corner-second.ensures (corner_ask q 1 (omega arith))) (c.lost_corner-third.ensures (corner_ask q 2 (omega arith)))
