-- `shell_c::shell_edges` meets its contract: its clauses are those of the call. Assumes nothing.
use Rattle.shell_c.proofs.shell_edges.Goals as goal

pub returns : goal.returns
returns c = c.shell_edges.ensures
