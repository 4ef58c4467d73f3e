-- `list_room::wipe_parts` meets its contract: each part is made 0. Assumes nothing.
use Rattle.list_room.proofs.Uniforms.{parts_filled}
use Rattle.list_room.proofs.wipe_parts.Goals as goal

pub returns : goal.returns
returns c = let a = c.wipe.ensures in
    let b = c.wipe-2.ensures in
    let d = c.wipe-3.ensures in
    parts_filled a.only a.filled b.only b.filled d.only d.filled
