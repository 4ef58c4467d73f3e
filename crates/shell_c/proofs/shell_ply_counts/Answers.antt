-- `shell_c::shell_ply_counts` meets its contract: its clauses are those of the call. Assumes nothing.
use Rattle.shell_c.proofs.shell_ply_counts.Goals as goal

pub returns : goal.returns
returns c = c.shell_ply_counts.ensures
