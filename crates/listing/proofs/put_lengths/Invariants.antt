-- `listing::put_lengths` meets its contract: the first r lengths stand at the front. Assumes nothing.
use Rattle.listing.proofs.Lengths.{Measured}
use Rattle.listing.proofs.put_lengths.Given as goal

abbrev pub invariant-loop-r : goal.invariant-loop-r
invariant-loop-r l = Measured l.points l.edges l.m l.initial.lengths l.lengths l.r
