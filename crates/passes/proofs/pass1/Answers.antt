-- `passes::pass1` meets its contract: the pass is on and marked faces leave, or it is off. Assumes nothing.
use mathlib.Core.Path.{sym, ◌∙◌}
use Rattle.leaving.proofs.ByFlags.{left_by, left_fewer}
use Rattle.passes.proofs.Steps.{bit_set, bit_clear, lowest, as_long}
use Rattle.passes.proofs.Passes.{reads1, leaves1, fewer_repeated, on1, off1}
use Rattle.passes.proofs.pass1.Goals as goal

pub slice_bounds-mark-end-then-options-eq1 : goal.slice_bounds-mark-end-then-options-eq1
slice_bounds-mark-end-then-options-eq1 c = sym (as_long c.requires)

pub mark-marked-requires : goal.mark-marked-requires
mark-marked-requires c = reads1 c.requires

pub leave-left-requires : goal.leave-left-requires
leave-left-requires c = leaves1 c.requires c.mark-marked.ensures.mark_gives

pub overflow_sub-result : goal.overflow_sub-result
overflow_sub-result c = left_fewer (left_by c.mark-marked.ensures.mark_gives c.leave-left.ensures)

pub overflow_sub-result-then-options-eq1 : goal.overflow_sub-result-then-options-eq1
overflow_sub-result-then-options-eq1 c = fewer_repeated c.requires c.args.s (left_by c.mark-marked.ensures.mark_gives c.leave-left.ensures) c.mark-marked.ensures.found_value

pub returns-then-options-eq1 : goal.returns-then-options-eq1
returns-then-options-eq1 c = rw (bit_set 0 c.args.options (lowest c.args.options ∙ c.if-options-eq1.true))
    (on1 c.requires c.args.s c.mark-marked.ensures.mark_gives (left_by c.mark-marked.ensures.mark_gives c.leave-left.ensures) c.mark-marked.ensures.found_value)

pub returns : goal.returns
returns c = rw (c.all_kept.ensures, bit_clear 0 c.args.options (λ e. c.if-options-eq1.false (sym (lowest c.args.options) ∙ e))) (off1 c.requires c.args.s)
