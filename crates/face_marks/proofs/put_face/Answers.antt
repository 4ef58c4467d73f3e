-- `face_marks::put_face` meets its contract: one corner after the other. Assumes nothing.
use Rattle.face_marks.proofs.Putting.{put_first, put_second, put_third, put_gives}
use Rattle.face_marks.proofs.put_face.Goals as goal

pub put_corner-requires : goal.put_corner-requires
put_corner-requires c = put_first c.requires

pub put_corner-requires-2 : goal.put_corner-requires-2
put_corner-requires-2 c = put_second c.requires c.put_corner.ensures

pub put_corner-requires-3 : goal.put_corner-requires-3
put_corner-requires-3 c = put_third c.requires c.put_corner.ensures c.put_corner-2.ensures

pub returns : goal.returns
returns c = put_gives c.requires c.put_corner.ensures c.put_corner-2.ensures c.put_corner-3.ensures
