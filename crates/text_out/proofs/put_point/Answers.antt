-- `text_out::put_point` meets its contract. Assumes nothing.
use mathlib.Core.Path.{◌∙◌}
use native.Mathlib.Omega.{arith}
use lib.ListN.{length-set}
use Rattle.text_out.specs.Printed.{point_at}
use Rattle.text_out.proofs.Lines.{real_moved, point_put}
use Rattle.text_out.proofs.put_point.Goals as goal

pub put_real-y-requires : goal.put_real-y-requires
put_real-y-requires c = record { room = omega (arith, length-set c.args.out.now c.args.at 112, c.requires.room); number = c.requires.numbers.each_is _ (omega (arith, c.requires.inside)) }

pub put_real-z-requires : goal.put_real-z-requires
put_real-z-requires c = record { room = omega (arith, length-set c.args.out.now c.args.at 112, c.requires.room, real_moved _ c.put_real-y.ensures); number = c.requires.numbers.each_is _ (omega (arith, c.requires.inside)) }

pub put_real-end-requires : goal.put_real-end-requires
put_real-end-requires c = record { room = omega (arith, length-set c.args.out.now c.args.at 112, c.requires.room, real_moved _ c.put_real-y.ensures, real_moved _ c.put_real-z.ensures); number = c.requires.numbers.each_is _ (omega (arith, c.requires.inside)) }

pub bounds-out-end : goal.bounds-out-end
bounds-out-end c = omega (arith, length-set c.args.out.now c.args.at 112, c.requires.room, real_moved _ c.put_real-y.ensures, real_moved _ c.put_real-z.ensures, real_moved _ c.put_real-end.ensures)

pub overflow_add-result : goal.overflow_add-result
overflow_add-result c = omega (arith, length-set c.args.out.now c.args.at 112, c.requires.room, real_moved _ c.put_real-y.ensures, real_moved _ c.put_real-z.ensures, real_moved _ c.put_real-end.ensures)

pub shape_of-out : goal.shape_of-out
shape_of-out c = length-set c.put_real-end.new.out c.put_real-end.result 10 ∙ c.put_real-end.ensures.only.long ∙ c.put_real-z.ensures.only.long ∙ c.put_real-y.ensures.only.long ∙ length-set c.args.out.now c.args.at 112

pub returns : goal.returns
returns c = point_put (point_at c.args.points.now c.args.i) (omega (arith, c.requires.room)) c.put_real-y.ensures c.put_real-z.ensures c.put_real-end.ensures (omega (arith, length-set c.args.out.now c.args.at 112, c.requires.room, real_moved _ c.put_real-y.ensures, real_moved _ c.put_real-z.ensures, real_moved _ c.put_real-end.ensures))
