-- `fates::pass4` meets its contract: the pass is on, exchanges and then marked faces are told, and these leave; or it is off. Assumes nothing.
use mathlib.Core.Path.{◌∙◌}
use native.Mathlib.Omega.{arith}
use Rattle.fates.proofs.Standing.{add_asks, reads}
use Rattle.fates.proofs.Exchanging.{turned_stands, second_reads, second_asks, second_leave, second_left, on4, off4}
use Rattle.fates.proofs.Options.{bit_set, bit_clear, takes4}
use Rattle.fates.proofs.pass4.Goals as goal

pub settle-requires : goal.settle-requires
settle-requires c = reads c.requires.stands _ (takes4 c.requires.stands)

pub record_turned-requires : goal.record_turned-requires
record_turned-requires c = record {
  add_asks = add_asks (turned_stands c.requires.stands c.settle.ensures.orient_gives) (omega arith);
  n_in_bounds = (turned_stands c.requires.stands c.settle.ensures.orient_gives).fit;
  input_len = c.requires.input_len;
}

pub mark-marked-requires : goal.mark-marked-requires
mark-marked-requires c = second_reads c.requires.stands c.settle.ensures.orient_gives c.args.input.now c.record_turned.ensures

pub record-requires : goal.record-requires
record-requires c = record { flag_asks = second_asks c.requires.stands c.settle.ensures.orient_gives c.args.input.now c.record_turned.ensures c.mark-marked.ensures.fact; code_bound = omega arith }

pub leave-requires : goal.leave-requires
leave-requires c = second_leave c.requires.stands c.settle.ensures.orient_gives c.args.input.now c.record_turned.ensures c.mark-marked.ensures.fact c.record.ensures

pub shape_of-faces-then-options-eq1 : goal.shape_of-faces-then-options-eq1
shape_of-faces-then-options-eq1 c = (second_left c.requires.stands c.settle.ensures.orient_gives c.args.input.now c.record_turned.ensures c.mark-marked.ensures.fact c.record.ensures c.leave.ensures).only_faces.long ∙ c.settle.ensures.orient_gives.only_faces.long

pub returns-then-options-eq1 : goal.returns-then-options-eq1
returns-then-options-eq1 c = on4 c.requires.stands c.settle.ensures.orient_gives c.args.input.now c.record_turned.ensures c.mark-marked.ensures.fact c.record.ensures c.args.options (bit_set 4 c.args.options c.if-options-eq1.true) (second_left c.requires.stands c.settle.ensures.orient_gives c.args.input.now c.record_turned.ensures c.mark-marked.ensures.fact c.record.ensures c.leave.ensures)

pub returns : goal.returns
returns c = off4 c.requires.stands c.args.options c.args.input.now (bit_clear 4 c.args.options c.if-options-eq1.false)
