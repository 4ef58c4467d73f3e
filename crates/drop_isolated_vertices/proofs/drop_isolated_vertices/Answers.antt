-- `drop_isolated_vertices::drop_isolated_vertices` meets its contract: flags, numbers, corners and points, one after the other. Assumes nothing.
use Rattle.drop_isolated_vertices.proofs.Ending.{unused_gives}
use Rattle.drop_isolated_vertices.proofs.drop_isolated_vertices.Goals as goal

pub returns : goal.returns
returns c = unused_gives c.requires c.mark.ensures c.number_kept.ensures c.renumber.ensures c.retain.ensures
