-- `listing::put_lengths` meets its contract: the first r lengths stand at the front. Assumes nothing.
use Rattle.listing.proofs.Lengths.{begin, inside, again, done}
use Rattle.listing.proofs.put_lengths.Goals as goal

pub loop-r-init : goal.loop-r-init
loop-r-init c = begin c.requires

pub distance-requires : goal.distance-requires
distance-requires c = inside c.requires c.loop-r.invariant c.loop-r-test.true

pub loop-r-preserved : goal.loop-r-preserved
loop-r-preserved c = again c.requires c.loop-r.invariant c.loop-r-test.true _ c.distance.ensures

pub shape_of-lengths : goal.shape_of-lengths
shape_of-lengths c = c.loop-r.invariant.only.long

pub returns : goal.returns
returns c = done c.requires c.loop-r.invariant c.loop-r-test.false
