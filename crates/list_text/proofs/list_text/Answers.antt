-- `list_text::list_text` meets its contract: the sections are put one behind the other. Assumes nothing.
use native.Mathlib.Omega.{arith}
use Rattle.list_text.proofs.Listed.{room_1, room_2, room_3, room_4, room_5, room_6, room_7, list_done}
use Rattle.list_text.proofs.list_text.Goals as goal

pub put_row-second-requires : goal.put_row-second-requires
put_row-second-requires c = record { row_asks = c.requires.list_asks.fates; last_in_bounds = room_1 c.args.work.now c.args.origins.now c.args.rows c.args.text.now c.requires.rows_in_bounds }

pub put_row-third-requires : goal.put_row-third-requires
put_row-third-requires c = record { row_asks = c.requires.list_asks.fates; last_in_bounds = room_2 c.args.work.now c.args.origins.now c.args.rows c.args.text.now c.requires.rows_in_bounds c.put_row-second.ensures }

pub put_row-exchanges-requires : goal.put_row-exchanges-requires
put_row-exchanges-requires c = record { row_asks = c.requires.list_asks.fates; last_in_bounds = room_3 c.args.work.now c.args.origins.now c.args.rows c.args.text.now c.requires.rows_in_bounds c.put_row-second.ensures c.put_row-third.ensures }

pub put_row-fourth-requires : goal.put_row-fourth-requires
put_row-fourth-requires c = record { row_asks = c.requires.list_asks.fates; last_in_bounds = room_4 c.args.work.now c.args.origins.now c.args.rows c.args.text.now c.requires.rows_in_bounds c.put_row-second.ensures c.put_row-third.ensures c.put_row-exchanges.ensures }

pub put_row-splits-requires : goal.put_row-splits-requires
put_row-splits-requires c = record { row_asks = c.requires.list_asks.fates; last_in_bounds = room_5 c.args.work.now c.args.origins.now c.args.rows c.args.text.now c.requires.rows_in_bounds c.put_row-second.ensures c.put_row-third.ensures c.put_row-exchanges.ensures c.put_row-fourth.ensures }

pub put_splits-unused-requires : goal.put_splits-unused-requires
put_splits-unused-requires c = record { splits_ask = c.requires.list_asks.splits; rows_in_bounds = room_6 c.args.work.now c.args.origins.now c.args.rows c.args.text.now c.requires.rows_in_bounds c.put_row-second.ensures c.put_row-third.ensures c.put_row-exchanges.ensures c.put_row-fourth.ensures c.put_row-splits.ensures }

pub overflow_add-rows : goal.overflow_add-rows
overflow_add-rows c = omega (arith, c.requires.list_asks.splits.few_points)

pub put_row-requires : goal.put_row-requires
put_row-requires c = record { row_asks = c.requires.list_asks.unused; last_in_bounds = room_7 c.args.work.now c.args.origins.now c.args.rows c.args.text.now c.requires.rows_in_bounds c.put_row-second.ensures c.put_row-third.ensures c.put_row-exchanges.ensures c.put_row-fourth.ensures c.put_row-splits.ensures c.put_splits-unused.ensures }

pub shape_of-text : goal.shape_of-text
shape_of-text c = (list_done c.args.work.now c.args.origins.now c.args.rows c.args.text.now c.requires.rows_in_bounds c.put_row-second.ensures c.put_row-third.ensures c.put_row-exchanges.ensures c.put_row-fourth.ensures c.put_row-splits.ensures c.put_splits-unused.ensures c.put_row.ensures).only.long

pub returns : goal.returns
returns c = list_done c.args.work.now c.args.origins.now c.args.rows c.args.text.now c.requires.rows_in_bounds c.put_row-second.ensures c.put_row-third.ensures c.put_row-exchanges.ensures c.put_row-fourth.ensures c.put_row-splits.ensures c.put_splits-unused.ensures c.put_row.ensures
