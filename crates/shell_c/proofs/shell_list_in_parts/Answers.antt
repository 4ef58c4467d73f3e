-- `shell_c::shell_list_in_parts` meets its contract: its clauses are those of the call. Assumes nothing.
use Rattle.shell_c.proofs.shell_list_in_parts.Goals as goal

pub returns : goal.returns
returns c = c.shell_list_in_parts.ensures
