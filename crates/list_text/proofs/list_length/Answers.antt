-- `list_text::list_length` meets its contract: the sections' lengths are summed. Assumes nothing.
use native.Mathlib.Omega.{arith}
use Rattle.list_text.proofs.Listed.{sections_long}
use Rattle.list_text.proofs.list_length.Goals as goal

pub overflow_add-result-5 : goal.overflow_add-result-5
overflow_add-result-5 c = omega (arith, c.requires.fates.few, c.requires.splits.few_points, c.requires.splits.sorted.few, c.row_length-first.ensures.upper_bound, c.row_length-second.ensures.upper_bound, c.row_length-third.ensures.upper_bound, c.row_length-exchanges.ensures.upper_bound, c.row_length-fourth.ensures.upper_bound, c.splits_length-splits.ensures.upper_bound, c.row_length-unused.ensures.upper_bound)

pub overflow_add-result-6 : goal.overflow_add-result-6
overflow_add-result-6 c = omega (arith, c.requires.fates.few, c.requires.splits.few_points, c.requires.splits.sorted.few, c.row_length-first.ensures.upper_bound, c.row_length-second.ensures.upper_bound, c.row_length-third.ensures.upper_bound, c.row_length-exchanges.ensures.upper_bound, c.row_length-fourth.ensures.upper_bound, c.splits_length-splits.ensures.upper_bound, c.row_length-unused.ensures.upper_bound)

pub returns : goal.returns
returns c = omega (arith, c.row_length-first.ensures.value, c.row_length-second.ensures.value, c.row_length-third.ensures.value, c.row_length-exchanges.ensures.value, c.row_length-fourth.ensures.value, c.splits_length-splits.ensures.value, c.row_length-unused.ensures.value, sections_long c.args.work.now c.args.origins.now c.args.rows)
