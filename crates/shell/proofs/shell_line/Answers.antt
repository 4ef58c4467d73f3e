-- `shell::shell_line` meets its contract: the outcome of the report line, told in numbers. Assumes nothing.
use native.Mathlib.Omega.{arith}
use Rattle.place_laws.proofs.Outcomes.{line_place}
use Rattle.shell.proofs.shell_line.Goals as goal

pub overflow_cast-result : goal.overflow_cast-result
overflow_cast-result c = omega (arith, c.place.ensures, line_place _ _ c.in-Err.ensures)
