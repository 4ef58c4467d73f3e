-- `drop_isolated_vertices::mark` meets its contract: all flags are set, and those of used points cleared. Assumes nothing.
use Rattle.drop_isolated_vertices.proofs.Using.{use_gives}
use Rattle.drop_isolated_vertices.proofs.mark.Goals as goal

pub returns : goal.returns
returns c = use_gives c.fill.ensures.only c.fill.ensures.filled c.clear_used.ensures
