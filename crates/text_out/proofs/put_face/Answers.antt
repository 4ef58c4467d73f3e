-- `text_out::put_face` meets its contract. Assumes nothing.
use mathlib.Core.Path.{◌∙◌}
use native.Mathlib.Omega.{arith}
use lib.ListN.{length-set}
use Rattle.text_out.specs.Printed.{face_at}
use Rattle.text_out.proofs.Lines.{whole_moved, face_put}
use Rattle.text_out.proofs.put_face.Goals as goal

pub put_whole-b-requires : goal.put_whole-b-requires
put_whole-b-requires c = omega (arith, length-set c.args.out.now c.args.at 102, c.requires.room)

pub put_whole-c-requires : goal.put_whole-c-requires
put_whole-c-requires c = omega (arith, length-set c.args.out.now c.args.at 102, c.requires.room, whole_moved _ c.put_whole-b.ensures)

pub put_whole-end-requires : goal.put_whole-end-requires
put_whole-end-requires c = omega (arith, length-set c.args.out.now c.args.at 102, c.requires.room, whole_moved _ c.put_whole-b.ensures, whole_moved _ c.put_whole-c.ensures)

pub bounds-out-end : goal.bounds-out-end
bounds-out-end c = omega (arith, length-set c.args.out.now c.args.at 102, c.requires.room, whole_moved _ c.put_whole-b.ensures, whole_moved _ c.put_whole-c.ensures, whole_moved _ c.put_whole-end.ensures)

pub overflow_add-result : goal.overflow_add-result
overflow_add-result c = omega (arith, length-set c.args.out.now c.args.at 102, c.requires.room, whole_moved _ c.put_whole-b.ensures, whole_moved _ c.put_whole-c.ensures, whole_moved _ c.put_whole-end.ensures)

pub shape_of-out : goal.shape_of-out
shape_of-out c = length-set c.put_whole-end.new.out c.put_whole-end.result 10 ∙ c.put_whole-end.ensures.only.long ∙ c.put_whole-c.ensures.only.long ∙ c.put_whole-b.ensures.only.long ∙ length-set c.args.out.now c.args.at 102

pub returns : goal.returns
returns c = face_put (face_at c.args.faces.now c.args.i) (omega (arith, c.requires.room)) c.put_whole-b.ensures c.put_whole-c.ensures c.put_whole-end.ensures (omega (arith, length-set c.args.out.now c.args.at 102, c.requires.room, whole_moved _ c.put_whole-b.ensures, whole_moved _ c.put_whole-c.ensures, whole_moved _ c.put_whole-end.ensures))
