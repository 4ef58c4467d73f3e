-- `halves::start` meets its contract. Assumes nothing.
use Rattle.halves.proofs.Ranges.{started}
use Rattle.halves.proofs.start.Goals as goal

pub returns : goal.returns
returns c = started
