-- `apply_lines::apply_line` meets its contract: an arm for each kind of line. Assumes nothing.
use native.Mathlib.Omega.{arith}
use Rattle.apply_lines.proofs.Stepping.{drop_fits, dropped, exchange_fits, exchange, split_fits, move_asks, take_asks, split, isolated_fits, isolated}
use Rattle.apply_lines.proofs.apply_line.Goals as goal

pub bounds-work-face : goal.bounds-work-face
bounds-work-face c = omega (arith, drop_fits c.requires c.in-Dropped.is)

pub overflow_add-result : goal.overflow_add-result
overflow_add-result c = omega (arith, drop_fits c.requires c.in-Dropped.is)

pub exchange_face-requires : goal.exchange_face-requires
exchange_face-requires c = omega (arith, exchange_fits c.requires c.in-Exchange.is)

pub overflow_add-result-in-Exchange : goal.overflow_add-result-in-Exchange
overflow_add-result-in-Exchange c = omega (arith, exchange_fits c.requires c.in-Exchange.is)

pub move_row-requires : goal.move_row-requires
move_row-requires c = move_asks c.requires c.in-Split.is

pub take_over-requires : goal.take_over-requires
take_over-requires c = take_asks c.requires c.in-Split.is

pub overflow_add-result-in-Split : goal.overflow_add-result-in-Split
overflow_add-result-in-Split c = omega (arith, split_fits c.requires c.in-Split.is)

pub bounds-work-n : goal.bounds-work-n
bounds-work-n c = omega (arith, isolated_fits c.requires c.in-Isolated.is)

pub overflow_add-result-in-Isolated : goal.overflow_add-result-in-Isolated
overflow_add-result-in-Isolated c = omega (arith, isolated_fits c.requires c.in-Isolated.is)

pub returns-in-Dropped : goal.returns-in-Dropped
returns-in-Dropped c = λ q. dropped q c.in-Dropped.is

pub returns-in-Exchange : goal.returns-in-Exchange
returns-in-Exchange c = λ q. exchange q c.in-Exchange.is c.exchange_face.ensures

pub returns-in-Split : goal.returns-in-Split
returns-in-Split c = λ q. split q c.in-Split.is c.move_row.ensures c.take_over.ensures

pub returns-in-Isolated : goal.returns-in-Isolated
returns-in-Isolated c = λ q. isolated q c.in-Isolated.is
