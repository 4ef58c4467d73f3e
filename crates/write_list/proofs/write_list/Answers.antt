-- `write_list::write_list` meets its contract: the input is refused, the parts are ready, or one of the rooms is too short. Assumes nothing.
use Rattle.std.proofs.lemmas.Result.{err_from_is_err_and}
use Rattle.write_list.proofs.Ending.{limits, is_refused, fine, there_asks, is_there, is_long, is_short}
use Rattle.write_list.proofs.write_list.Goals as goal

pub returns-in_err-input_refusal : goal.returns-in_err-input_refusal
returns-in_err-input_refusal c = let p = err_from_is_err_and c.from_residual.result c.from_residual.ensures.1 in
    rw (p.1, p.2) (is_refused c.args.points.now c.args.faces.now c.args.s c.args.options c.args.text.now c.args.corners.now c.args.origins.now c.args.rest.now _ c.in_err-input_refusal.ensures)

pub is_ready-requires : goal.is_ready-requires
is_ready-requires c = limits (fine c.args.points.now c.args.faces.now c.args.s c.args.options c.args.text.now c.args.corners.now c.args.origins.now c.args.rest.now c.in_ok-input_refusal.ensures)

pub write_there-requires : goal.write_there-requires
write_there-requires c = there_asks c.args.points.now c.args.faces.now c.args.s c.args.options c.args.text.now c.args.corners.now c.args.origins.now c.args.rest.now c.in_ok-input_refusal.ensures c.is_ready.ensures c.if-is_ready.true

pub returns-then-is_ready : goal.returns-then-is_ready
returns-then-is_ready c = is_there c.args.points.now c.args.faces.now c.args.s c.args.options c.args.text.now c.args.corners.now c.args.origins.now c.args.rest.now c.in_ok-input_refusal.ensures c.is_ready.ensures c.if-is_ready.true c.write_there.ensures

pub is_longer-requires : goal.is_longer-requires
is_longer-requires c = fine c.args.points.now c.args.faces.now c.args.s c.args.options c.args.text.now c.args.corners.now c.args.origins.now c.args.rest.now c.in_ok-input_refusal.ensures

pub returns-then-is_longer : goal.returns-then-is_longer
returns-then-is_longer c = is_long c.args.points.now c.args.faces.now c.args.s c.args.options c.args.text.now c.args.corners.now c.args.origins.now c.args.rest.now c.in_ok-input_refusal.ensures c.is_ready.ensures c.is_longer.ensures c.if-is_longer.true

pub returns : goal.returns
returns c = is_short c.args.points.now c.args.faces.now c.args.s c.args.options c.args.text.now c.args.corners.now c.args.origins.now c.args.rest.now c.in_ok-input_refusal.ensures c.is_ready.ensures c.is_longer.ensures c.if-is_ready.false c.if-is_longer.false
