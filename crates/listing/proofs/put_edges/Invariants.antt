-- `listing::put_edges` meets its contract: the ends of the first r edges stand at the front. Assumes nothing.
use lib.ListN.{length}
use Rattle.listing.proofs.Ends.{Ends}
use Rattle.listing.proofs.put_edges.Given as goal

abbrev pub invariant-loop-r : goal.invariant-loop-r
invariant-loop-r l = Ends l.work (length l.faces) l.at l.m l.initial.edges l.edges l.r
