-- `shell_c::shell_read_ply` meets its contract: its clauses are those of the call. Assumes nothing.
use Rattle.shell_c.proofs.shell_read_ply.Goals as goal

pub returns : goal.returns
returns c = c.shell_read_ply.ensures
