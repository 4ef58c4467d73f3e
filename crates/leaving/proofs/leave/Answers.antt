-- `leaving::leave` meets its contract: the kept rows are the faces that are not marked, and the kept entries their origins. Assumes nothing.
use Rattle.leaving.proofs.ByFlags.{leave_by_flags}
use Rattle.leaving.proofs.leave.Goals as goal

pub returns : goal.returns
returns c = let at_rows = c.before.before in
    let at_ones = at_rows.before.before.before.before in
    leave_by_flags at_ones.requires at_ones.retain_ones.ensures at_rows.retain.ensures
