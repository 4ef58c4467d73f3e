-- `passes::pass2` meets its contract: the pass is on and marked faces leave, or it is off. Assumes nothing.
use Rattle.leaving.proofs.ByFlags.{left_by, left_fewer}
use Rattle.passes.proofs.Steps.{bit_set, bit_clear}
use Rattle.passes.proofs.Passes.{reads2, leaves2, on2, off2}
use Rattle.passes.proofs.pass2.Goals as goal

pub mark-marked-requires : goal.mark-marked-requires
mark-marked-requires c = reads2 c.requires

pub leave-left-requires : goal.leave-left-requires
leave-left-requires c = leaves2 c.requires c.mark-marked.ensures.mark_gives

pub overflow_sub-result : goal.overflow_sub-result
overflow_sub-result c = left_fewer (left_by c.mark-marked.ensures.mark_gives c.leave-left.ensures)

pub returns-then-options-eq1 : goal.returns-then-options-eq1
returns-then-options-eq1 c = rw (bit_set 1 c.args.options c.if-options-eq1.true)
    (on2 c.requires c.mark-marked.ensures.mark_gives (left_by c.mark-marked.ensures.mark_gives c.leave-left.ensures))

pub returns : goal.returns
returns c = rw (c.all_kept.ensures, bit_clear 1 c.args.options c.if-options-eq1.false) (off2 c.requires)
