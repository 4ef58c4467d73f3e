-- `apply_lines::apply_lines` meets its contract: copies, the lines, and the end. Assumes nothing.
use native.Mathlib.Omega.{arith}
use Rattle.apply_lines.proofs.Applying.{sizes, run_asks, may-finish, done}
use Rattle.apply_lines.proofs.apply_lines.Goals as goal

pub clear-requires : goal.clear-requires
clear-requires c = omega (arith, sizes c.requires)

pub run_lines-count-requires : goal.run_lines-count-requires
run_lines-count-requires c = run_asks c.requires c.copy_row.ensures c.copy_row-2.ensures c.clear.ensures.only c.clear.ensures.filled

pub finish-requires : goal.finish-requires
finish-requires c = may-finish c.requires c.copy_row.ensures c.copy_row-2.ensures c.clear.ensures.only c.clear.ensures.filled (c.run_lines-count.ensures (run_asks c.requires c.copy_row.ensures c.copy_row-2.ensures c.clear.ensures.only c.clear.ensures.filled))

pub returns : goal.returns
returns c = done c.requires c.copy_row.ensures c.copy_row-2.ensures c.clear.ensures.only c.clear.ensures.filled (c.run_lines-count.ensures (run_asks c.requires c.copy_row.ensures c.copy_row-2.ensures c.clear.ensures.only c.clear.ensures.filled)) c.finish.ensures
