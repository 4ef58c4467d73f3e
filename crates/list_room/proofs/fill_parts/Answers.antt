-- `list_room::fill_parts` meets its contract: each part is filled with c. Assumes nothing.
use Rattle.list_room.proofs.Uniforms.{parts_filled}
use Rattle.list_room.proofs.fill_parts.Goals as goal

pub returns : goal.returns
returns c = let a = c.fill.ensures in
    let b = c.fill-2.ensures in
    let d = c.fill-3.ensures in
    parts_filled a.only a.filled b.only b.filled d.only d.filled
