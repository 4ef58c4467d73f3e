-- `text_out::put_refusal` meets its contract. Assumes nothing.
use mathlib.Core.Path.{◌∙◌}
use native.Mathlib.Omega.{arith}
use lib.ListN.{length-set}
use Rattle.text_out.proofs.Lines.{whole_moved, refusal_done}
use Rattle.text_out.proofs.put_refusal.Goals as goal

pub put_whole-end-requires : goal.put_whole-end-requires
put_whole-end-requires c = omega (arith, length-set c.args.out.now 0 120, c.requires)

pub bounds-out-end : goal.bounds-out-end
bounds-out-end c = omega (arith, length-set c.args.out.now 0 120, c.requires, whole_moved _ c.put_whole-end.ensures)

pub overflow_add-result : goal.overflow_add-result
overflow_add-result c = omega (arith, length-set c.args.out.now 0 120, c.requires, whole_moved _ c.put_whole-end.ensures)

pub shape_of-out : goal.shape_of-out
shape_of-out c = length-set c.put_whole-end.new.out c.put_whole-end.result 10 ∙ c.put_whole-end.ensures.only.long ∙ length-set c.args.out.now 0 120

pub returns : goal.returns
returns c = refusal_done _ (omega (arith, c.requires)) c.put_whole-end.ensures (omega (arith, length-set c.args.out.now 0 120, c.requires, whole_moved _ c.put_whole-end.ensures))
