-- `patch_sums::add_face` meets its contract: the record is read, a face is added, and it is written back. Assumes nothing.
use Rattle.patch_sums.proofs.Faces.{corners_in, added}
use Rattle.patch_sums.proofs.add_face.Goals as goal

pub with_face-s-requires : goal.with_face-s-requires
with_face-s-requires c = corners_in c.requires

pub returns : goal.returns
returns c = added c.requires c.read-r.ensures c.with_face-s.ensures c.write.ensures.only_of c.write.ensures.k_after
