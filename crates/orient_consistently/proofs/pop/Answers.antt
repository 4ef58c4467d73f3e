-- `orient_consistently::pop` meets its contract. Assumes nothing.
use Rattle.orient_consistently.proofs.Popping.{face_asks, pop_gives}
use Rattle.orient_consistently.proofs.pop.Goals as goal

pub cross_face-requires : goal.cross_face-requires
cross_face-requires c = face_asks c.requires

pub returns : goal.returns
returns c = pop_gives c.requires c.cross_face.ensures
