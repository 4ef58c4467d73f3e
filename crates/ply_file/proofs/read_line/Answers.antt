-- `ply_file::read_line` meets its contract: the line's end is found, and its field read. Assumes nothing.
use Rattle.ply_file.proofs.Standing.{line_is, line_none}
use Rattle.ply_file.proofs.read_line.Goals as goal

pub returns-in_err-count : goal.returns-in_err-count
returns-in_err-count c = rw c.from_residual.ensures (line_none c.find-end.ensures c.in_err-count.ensures)

pub returns : goal.returns
returns c = line_is c.find-end.ensures c.in_ok-count.ensures
