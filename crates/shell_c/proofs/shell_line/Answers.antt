-- `shell_c::shell_line` meets its contract: its clauses are those of the call. Assumes nothing.
use Rattle.shell_c.proofs.shell_line.Goals as goal

pub returns : goal.returns
returns c = c.shell_line.ensures
