-- `fates::pass2` meets its contract: the pass is on and marked faces are told and leave, or it is off. Assumes nothing.
use native.Mathlib.Omega.{arith}
use Rattle.fates.proofs.Standing.{reads}
use Rattle.fates.proofs.Dropping.{flag_asks, leave_asks, left_marked, off2, on2}
use Rattle.fates.proofs.Options.{bit_set, bit_clear, takes2}
use Rattle.fates.proofs.pass2.Goals as goal

pub mark-marked-requires : goal.mark-marked-requires
mark-marked-requires c = reads c.requires _ (takes2 c.requires)

pub record-requires : goal.record-requires
record-requires c = record { flag_asks = flag_asks c.requires (takes2 c.requires) c.mark-marked.ensures.mark_gives (omega arith); code_bound = omega arith }

pub leave-requires : goal.leave-requires
leave-requires c = leave_asks c.requires (takes2 c.requires) c.mark-marked.ensures.mark_gives c.record.ensures

pub returns-then-options-eq1 : goal.returns-then-options-eq1
returns-then-options-eq1 c = rw (bit_set 1 c.args.options c.if-options-eq1.true) (on2 c.requires (takes2 c.requires) c.mark-marked.ensures.mark_gives c.record.ensures (left_marked c.requires (takes2 c.requires) c.mark-marked.ensures.mark_gives c.record.ensures c.leave.ensures))

pub returns : goal.returns
returns c = rw (bit_clear 1 c.args.options c.if-options-eq1.false) (off2 c.requires)
