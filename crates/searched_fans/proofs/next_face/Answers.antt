-- `searched_fans::next_face` meets its contract: the index tells the next one. Assumes nothing.
use Rattle.face_index.specs.Index.{joins}
use Rattle.searched_fans.proofs.next_face.Goals as goal

pub next_indexed-requires : goal.next_indexed-requires
next_indexed-requires c = record {
  indexed = c.requires.indexed;
  candidate_asks = record { whole = c.requires.next_asks.whole; most = c.requires.next_asks.most };
}

pub returns : goal.returns
unfolding joins
returns c = let q = c.next_indexed.ensures in record { least = q.least; most = q.most; none = q.none }
