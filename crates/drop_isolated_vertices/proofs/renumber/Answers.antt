-- `drop_isolated_vertices::renumber` meets its contract: the corners passed have their numbers. Assumes nothing.
use Rattle.drop_isolated_vertices.proofs.Renumbering.{begin, again, done}
use Rattle.drop_isolated_vertices.proofs.renumber.Goals as goal

pub loop-k-init : goal.loop-k-init
loop-k-init c = begin c.requires

pub loop-k-preserved : goal.loop-k-preserved
loop-k-preserved c = rw c.store.ensures (again c.requires c.loop-k.invariant c.loop-k-test.true)

pub returns : goal.returns
returns c = done c.requires c.loop-k.invariant c.loop-k-test.false
