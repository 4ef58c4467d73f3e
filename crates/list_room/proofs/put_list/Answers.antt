-- `list_room::put_list` meets its contract: the rows are prepared, and the text is put if it fits. Assumes nothing.
use native.Mathlib.Omega.{arith}
use Rattle.list_room.proofs.Putting.{limits, rest_fits, too_long, text_put}
use Rattle.list_room.proofs.put_list.Goals as goal

pub returns-then-text-bytes : goal.returns-then-text-bytes
returns-then-text-bytes c = too_long c.requires c.prepare-rows.ensures c.list_length-bytes.ensures (omega arith)

pub stated_rest-n-requires : goal.stated_rest-n-requires
stated_rest-n-requires c = limits c.requires

pub wipe_parts-requires : goal.wipe_parts-requires
wipe_parts-requires c = rest_fits c.requires c.prepare-rows.ensures c.stated_rest-n.ensures

pub returns : goal.returns
returns c = text_put c.requires c.prepare-rows.ensures c.list_length-bytes.ensures (omega arith) c.list_text.ensures c.stated_rest-n.ensures c.wipe_parts.ensures
