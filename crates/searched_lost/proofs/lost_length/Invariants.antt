-- `searched_lost::lost_length` meets its contract: face after face. The measure is the number of faces to come. Assumes nothing.
use Rattle.searched_lost.specs.Lost.{LostAsks}
use Rattle.searched_lost.proofs.Adding.{Gone}
use Rattle.searched_lost.proofs.lost_length.Given as goal

abbrev pub invariant-loop-f : goal.invariant-loop-f
invariant-loop-f l = (q : LostAsks l.faces l.words l.points) → Gone q l.bytes l.f
