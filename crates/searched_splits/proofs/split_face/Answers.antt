-- `searched_splits::split_face` meets its contract: three corners, one after the other. Assumes nothing.
use Rattle.searched_splits.proofs.Faces.{corner_zero, corner_one, corner_two, face_done}
use Rattle.searched_splits.proofs.split_face.Goals as goal

-- src/lib.rt:195:9
pub split_corner-first-requires : goal.split_corner-first-requires
split_corner-first-requires c = record { corner_asks = corner_zero c.requires.face_asks; indexed = c.requires.indexed }

-- src/lib.rt:196:9
pub split_corner-second-requires : goal.split_corner-second-requires
split_corner-second-requires c = let z = corner_zero c.requires.face_asks in
    let one_is = c.split_corner-first.ensures z in
    record { corner_asks = corner_one c.requires.face_asks one_is; indexed = c.requires.indexed }

-- src/lib.rt:197:5
pub split_corner-requires : goal.split_corner-requires
split_corner-requires c = let z = corner_zero c.requires.face_asks in
    let one_is = c.split_corner-first.ensures z in
    let o = corner_one c.requires.face_asks one_is in
    let two_is = c.split_corner-second.ensures o in
    record { corner_asks = corner_two c.requires.face_asks one_is two_is; indexed = c.requires.indexed }

-- src/lib.rt:184:1
pub returns : goal.returns
returns c = λ q.
    let z = corner_zero q in
    let one_is = c.split_corner-first.ensures z in
    let o = corner_one q one_is in
    let two_is = c.split_corner-second.ensures o in
    face_done q one_is two_is (c.split_corner.ensures (corner_two q one_is two_is))
