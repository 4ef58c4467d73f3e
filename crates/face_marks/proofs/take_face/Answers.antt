-- `face_marks::take_face` meets its contract: one corner after the other. Assumes nothing.
use Rattle.face_marks.proofs.Taking.{room_first, room_second, room_third, take_gives}
use Rattle.face_marks.proofs.take_face.Goals as goal

pub taken-first-requires : goal.taken-first-requires
taken-first-requires c = room_first _ _ _ c.args.v c.requires

pub taken-second-requires : goal.taken-second-requires
taken-second-requires c = rw c.taken-first.ensures (room_second _ _ _ c.args.v c.requires)

pub taken-requires : goal.taken-requires
taken-requires c = rw (c.taken-second.ensures, c.taken-first.ensures) (room_third _ _ _ c.args.v c.requires)

pub returns : goal.returns
returns c = rw (c.taken.ensures, c.taken-second.ensures, c.taken-first.ensures) (take_gives _ _ _ c.args.v c.requires)
