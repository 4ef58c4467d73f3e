-- `shell_c::shell_write_ply` meets its contract: its clauses are those of the call. Assumes nothing.
use Rattle.shell_c.proofs.shell_write_ply.Goals as goal

pub returns : goal.returns
returns c = c.shell_write_ply.ensures
