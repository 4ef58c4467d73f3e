-- `shell_c::shell_read_stl` meets its contract: its clauses are those of the call. Assumes nothing.
use Rattle.shell_c.proofs.shell_read_stl.Goals as goal

pub returns : goal.returns
returns c = c.shell_read_stl.ensures
