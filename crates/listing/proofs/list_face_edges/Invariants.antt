-- `listing::list_face_edges` meets its contract: the edges of the first i faces stand at the front. Assumes nothing.
use Rattle.listing.proofs.Sides.{Sides}
use Rattle.listing.proofs.list_face_edges.Given as goal

abbrev pub invariant-loop-i : goal.invariant-loop-i
invariant-loop-i l = Sides l.work l.faces l.at l.initial.face_edges l.face_edges l.i
