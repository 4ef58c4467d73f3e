-- `write_list::write_there` meets its contract: a text found too long, one that is written, or one that turns out too long in parts that are then filled again.
-- Assumes nothing.
use native.Mathlib.Omega.{arith}
use Rattle.write_list.proofs.Ending.{limits, prepare_asks, rest_fits, there_long, there_done, there_refilled}
use Rattle.write_list.proofs.write_there.Goals as goal

pub stated_rest-n-requires : goal.stated_rest-n-requires
stated_rest-n-requires c = limits c.requires.asks

pub returns-then-is_too_long : goal.returns-then-is_too_long
returns-then-is_too_long c = there_long c.requires c.is_too_long.ensures c.if-is_too_long.true

pub put_list-bytes-requires : goal.put_list-bytes-requires
put_list-bytes-requires c = prepare_asks c.requires

pub returns-then-bytes-text : goal.returns-then-bytes-text
returns-then-bytes-text c = there_done c.requires c.is_too_long.ensures c.put_list-bytes.ensures (omega arith)

pub fill_parts-requires : goal.fill_parts-requires
fill_parts-requires c = omega (arith, rest_fits c.requires c.stated_rest-n.ensures, c.put_list-bytes.ensures.changed.only_rest.long)

pub returns : goal.returns
returns c = there_refilled c.requires c.is_too_long.ensures c.put_list-bytes.ensures c.if-is_too_long.false c.stated_rest-n.ensures (omega arith) c.fill_parts.ensures
