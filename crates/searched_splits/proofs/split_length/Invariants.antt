-- `searched_splits::split_length` meets its contract: face after face. The measure is the number of faces to come. Assumes nothing.
use Rattle.searched_splits.proofs.Faces.{Gone}
use Rattle.searched_splits.proofs.split_length.Given as goal

abbrev pub invariant-loop-f : goal.invariant-loop-f
invariant-loop-f l = Gone l.faces l.initial.words l.points l.words l.told.splits l.told.bytes l.f
