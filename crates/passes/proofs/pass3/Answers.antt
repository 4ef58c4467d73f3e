-- `passes::pass3` meets its contract: the pass is on and marked faces leave, or it is off. Assumes nothing.
use mathlib.Core.Path.{sym}
use Rattle.leaving.proofs.ByFlags.{left_by, left_fewer}
use Rattle.passes.proofs.Steps.{bit_set, bit_clear, as_long}
use Rattle.passes.proofs.Passes.{reads3, leaves3, on3, off3}
use Rattle.passes.proofs.pass3.Goals as goal

pub slice_bounds-mark-end-then-options-eq1 : goal.slice_bounds-mark-end-then-options-eq1
slice_bounds-mark-end-then-options-eq1 c = sym (as_long c.requires)

pub mark-marked-requires : goal.mark-marked-requires
mark-marked-requires c = reads3 c.requires

pub leave-left-requires : goal.leave-left-requires
leave-left-requires c = leaves3 c.requires c.mark-marked.ensures.fact

pub overflow_sub-result : goal.overflow_sub-result
overflow_sub-result c = left_fewer (left_by c.mark-marked.ensures.fact c.leave-left.ensures)

pub returns-then-options-eq1 : goal.returns-then-options-eq1
returns-then-options-eq1 c = rw (bit_set 2 c.args.options c.if-options-eq1.true)
    (on3 c.requires c.mark-marked.ensures.fact (left_by c.mark-marked.ensures.fact c.leave-left.ensures) c.mark-marked.ensures.found_value)

pub returns : goal.returns
returns c = rw (c.all_kept.ensures, bit_clear 2 c.args.options c.if-options-eq1.false) (off3 c.requires)
