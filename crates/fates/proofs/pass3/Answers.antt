-- `fates::pass3` meets its contract: the pass is on and marked faces are told and leave, or it is off. Assumes nothing.
use native.Mathlib.Omega.{arith}
use Rattle.fates.proofs.Standing.{asks}
use Rattle.fates.proofs.Dropping.{flag_asks, leave_asks, left_marked, off3, on3}
use Rattle.fates.proofs.Options.{bit_set, bit_clear, takes3}
use Rattle.fates.proofs.pass3.Goals as goal

pub mark-marked-requires : goal.mark-marked-requires
mark-marked-requires c = asks c.requires _ (takes3 c.requires)

pub record-requires : goal.record-requires
record-requires c = record { flag_asks = flag_asks c.requires (takes3 c.requires) c.mark-marked.ensures.fact (omega arith); code_bound = omega arith }

pub leave-requires : goal.leave-requires
leave-requires c = leave_asks c.requires (takes3 c.requires) c.mark-marked.ensures.fact c.record.ensures

pub returns-then-options-eq1 : goal.returns-then-options-eq1
returns-then-options-eq1 c = rw (bit_set 2 c.args.options c.if-options-eq1.true) (on3 c.requires (takes3 c.requires) c.mark-marked.ensures.fact c.record.ensures (left_marked c.requires (takes3 c.requires) c.mark-marked.ensures.fact c.record.ensures c.leave.ensures))

pub returns : goal.returns
returns c = rw (bit_clear 2 c.args.options c.if-options-eq1.false) (off3 c.requires)
