-- `shell::shell_check` meets its contract: the outcome of the edge check, told in numbers. Assumes nothing.
use native.Mathlib.Omega.{arith}
use Rattle.place_laws.proofs.Outcomes.{check_place}
use Rattle.shell.proofs.shell_check.Goals as goal

pub overflow_cast-result : goal.overflow_cast-result
overflow_cast-result c = omega (arith, c.place.ensures, check_place _ _ _ c.in-Err.ensures)
