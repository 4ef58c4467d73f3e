-- `list_text::put_split` meets its contract: letter, two numbers, the faces and the newline. Assumes nothing.
use native.Mathlib.Omega.{arith}
use Rattle.list_text.proofs.OneSplit.{old_room, new_room, run_room, end_room, split_done}
use Rattle.list_text.proofs.put_split.Goals as goal

pub put_field-new_at-requires : goal.put_field-new_at-requires
put_field-new_at-requires c = old_room c.args.work.now c.args.origins.now c.args.rows c.args.j c.args.from c.args.to c.args.text.now c.args.at c.requires.to_in_bounds

pub put_field-takers_at-requires : goal.put_field-takers_at-requires
put_field-takers_at-requires c = new_room c.args.work.now c.args.origins.now c.args.rows c.args.j c.args.from c.args.to c.args.text.now c.args.at c.requires.to_in_bounds c.put_field-new_at.ensures

pub put_takers-end-requires : goal.put_takers-end-requires
put_takers-end-requires c = record { run_asks = c.requires.split_asks.run; to_in_bounds = run_room c.args.work.now c.args.origins.now c.args.rows c.args.j c.args.from c.args.to c.args.text.now c.args.at c.requires.to_in_bounds c.put_field-new_at.ensures c.put_field-takers_at.ensures }

pub bounds-text-end : goal.bounds-text-end
bounds-text-end c = end_room c.args.work.now c.args.origins.now c.args.rows c.args.j c.args.from c.args.to c.args.text.now c.args.at c.requires.to_in_bounds c.put_field-new_at.ensures c.put_field-takers_at.ensures c.put_takers-end.ensures

pub overflow_add-result : goal.overflow_add-result
overflow_add-result c = omega (arith, (split_done c.args.work.now c.args.origins.now c.args.rows c.args.j c.args.from c.args.to c.args.text.now c.args.at c.requires.to_in_bounds c.put_field-new_at.ensures c.put_field-takers_at.ensures c.put_takers-end.ensures).ends, c.requires.to_in_bounds)

pub shape_of-text : goal.shape_of-text
shape_of-text c = (split_done c.args.work.now c.args.origins.now c.args.rows c.args.j c.args.from c.args.to c.args.text.now c.args.at c.requires.to_in_bounds c.put_field-new_at.ensures c.put_field-takers_at.ensures c.put_takers-end.ensures).only.long

pub returns : goal.returns
returns c = split_done c.args.work.now c.args.origins.now c.args.rows c.args.j c.args.from c.args.to c.args.text.now c.args.at c.requires.to_in_bounds c.put_field-new_at.ensures c.put_field-takers_at.ensures c.put_takers-end.ensures
