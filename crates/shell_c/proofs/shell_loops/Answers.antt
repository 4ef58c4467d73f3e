-- `shell_c::shell_loops` meets its contract: its clauses are those of the call. Assumes nothing.
use Rattle.shell_c.proofs.shell_loops.Goals as goal

pub returns : goal.returns
returns c = c.shell_loops.ensures
