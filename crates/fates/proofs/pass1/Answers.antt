-- `fates::pass1` meets its contract: the pass is on and marked faces are told and leave, or it is off. Assumes nothing.
use mathlib.Core.Path.{sym, ◌∙◌}
use native.Mathlib.Omega.{arith}
use Rattle.fates.proofs.Standing.{asks}
use Rattle.fates.proofs.Dropping.{flag_asks, leave_asks, left_marked, off1, on1}
use Rattle.fates.proofs.Options.{bit_set, bit_clear, lowest, takes1}
use Rattle.fates.proofs.pass1.Goals as goal

pub mark-marked-requires : goal.mark-marked-requires
mark-marked-requires c = asks c.requires _ (takes1 c.requires)

pub record_degenerate-requires : goal.record_degenerate-requires
record_degenerate-requires c = record { flag_asks = flag_asks c.requires (takes1 c.requires) c.mark-marked.ensures.mark_gives (omega arith); n_in_bounds = c.requires.fit }

pub leave-requires : goal.leave-requires
leave-requires c = leave_asks c.requires (takes1 c.requires) c.mark-marked.ensures.mark_gives c.record_degenerate.ensures

pub returns-then-options-eq1 : goal.returns-then-options-eq1
returns-then-options-eq1 c = rw (bit_set 0 c.args.options (lowest c.args.options ∙ c.if-options-eq1.true)) (on1 c.requires c.args.s c.mark-marked.ensures.mark_gives c.record_degenerate.ensures (left_marked c.requires (takes1 c.requires) c.mark-marked.ensures.mark_gives c.record_degenerate.ensures c.leave.ensures))

pub returns : goal.returns
returns c = rw (bit_clear 0 c.args.options (λ e. c.if-options-eq1.false (sym (lowest c.args.options) ∙ e))) (off1 c.requires c.args.s)
