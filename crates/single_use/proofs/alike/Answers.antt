-- `single_use::alike` meets its contract: both entries are read, and where they begin. Assumes nothing.
use Rattle.single_use.proofs.Scanning.{both}
use Rattle.single_use.proofs.alike.Goals as goal

pub returns : goal.returns
returns c = both c.requires c.begin-x.ensures c.begin-y.ensures
