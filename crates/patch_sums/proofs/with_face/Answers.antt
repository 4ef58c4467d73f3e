-- `patch_sums::with_face` meets its contract: the area is added, then the corners are taken in. Assumes nothing.
use Rattle.patch_sums.proofs.Faces.{with_face_is}
use Rattle.patch_sums.proofs.with_face.Goals as goal

pub returns : goal.returns
returns c = let start = c.args in
    with_face_is _ _ start.a start.b start.c c.area.ensures c.at.ensures c.at-2.ensures c.at-3.ensures c.widened-one.ensures c.widened-two.ensures c.widened.ensures
